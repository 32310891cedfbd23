use Rattle.std.proofs.Common.{◌≡◌, ◌∙◌, arith, length, sym}
use Rattle.std.proofs.lemmas.List.{nil_from_length}
use Rattle.ghg_search.proofs.Pruned.{kept_without}
use Rattle.ghg_search.proofs.index.Index.drop_unused.Goals as goal

pub returns-then-is_empty : goal.returns-then-is_empty
returns-then-is_empty c =
    let empty = sym c.is_empty.ensures ∙ c.if-is_empty.true in
    let none : length c.users.result.now ≡ 0 = grind (arith, empty) in
    kept_without c.args.source.now c.args.self.now (record { users = c.remove.new.self }) c.remove.ensures.updates.0
    (sym c.users.ensures ∙ nil_from_length _ none)
