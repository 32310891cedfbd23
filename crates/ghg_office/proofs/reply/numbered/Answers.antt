use Rattle.std.proofs.Common.{◌≡◌, ◌++◌, decimal, rules, subst, sym}
use Rattle.std.specs.Str.{IsUtf8}
use Rattle.std.proofs.lemmas.Str.{IsUtf8-append}
use Rattle.ghg_office.proofs.reply.numbered.Goals as goal

pub returns-clause-utf8 : goal.returns-clause-utf8
returns-clause-utf8 c =
    let line : c.try_extend_from_slice.new.self.items ≡ c.args.words.now ++ decimal c.args.number = search rules in
    subst IsUtf8 (sym line) (IsUtf8-append c.args.words.now _ c.utf8.words (subst IsUtf8 c.format.ensures.text c.format.utf8))
