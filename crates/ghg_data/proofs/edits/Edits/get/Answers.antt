use Rattle.std.proofs.Common.{sym, ◌∙◌, ap}
use Rattle.std.specs.FinMap.{find}
use Rattle.ghg_definitions.specs.Data.{key_cmp}
use Rattle.ghg_definitions.proofs.Entries.{found}
use Rattle.ghg_definitions.proofs.Keys.{equal_by, key_eq, key_ties, keys_same, keys_total}
use Rattle.ghg_data.proofs.edits.Edits.get.Goals as goal

pub returns-in-Some : goal.returns-in-Some
returns-in-Some c =
    let entries = c.self.inside.changes.entries in
    let last = c.in-Some.last.now in
    let same = keys_same last c.args.key.now (equal_by _ (sym (key_ties last c.args.key.now) ∙ sym c.eq.ensures ∙ c.if-eq.true)) in
    sym c.in-Some.ensures.value ∙ found keys_total key_eq key_ties last entries ∙ ap (λ k. find key_cmp k entries) same ∙ ap (find key_cmp c.args.key.now) c.self.view_is

pub returns-in_default : goal.returns-in_default
returns-in_default c = c.get.ensures.value ∙ found keys_total key_eq key_ties c.args.key.now c.self.inside.changes.entries ∙ ap (find key_cmp c.args.key.now) c.self.view_is
