use Rattle.std.proofs.Common.{subst}
use Rattle.std.specs.Str.{IsUtf8}
use Rattle.ghg_office.proofs.Lines.{behind_words}
use Rattle.ghg_office.proofs.reply.append_refused.Goals as goal

pub returns-clause-text : goal.returns-clause-text
returns-clause-text c =
    behind_words _ _ _ (subst IsUtf8 c.as_bytes.ensures.value c.as_bytes.ensures.utf8) c.append_rule.ensures.text
