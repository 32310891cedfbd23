use Rattle.ghg_units.proofs.Utf8.{appended_utf8}
use Rattle.ghg_units.proofs.refusal.append_rule.Goals as goal

pub returns-then-is_err-clause-text : goal.returns-then-is_err-clause-text
returns-then-is_err-clause-text c = appended_utf8 _ _ c.append_text-appended.ensures.spells

pub returns-else-is_err-clause-text : goal.returns-else-is_err-clause-text
returns-else-is_err-clause-text c = appended_utf8 _ _ c.append_text-appended.ensures.spells
