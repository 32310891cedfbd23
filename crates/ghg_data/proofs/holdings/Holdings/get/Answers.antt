use Rattle.std.proofs.Common.{◌≡◌, Bool, List, [], ◌∷◌, None, length, arith, refl, sym, ◌∙◌, ap}
use Rattle.std.specs.FinMap as finite
use Rattle.std.specs.Map.{lookup}
use Rattle.ghg_definitions.proofs.Entries.{looked_up}
use Rattle.ghg_definitions.proofs.Keys.{equal_by, key_eq, key_ties, keys_same, keys_total}
use Rattle.ghg_data.proofs.holdings.Holdings.get.Goals as goal

nothing : {K X : Type 0} (test : K → Bool) (es : List (K × X)) → length es ≡ 0 → None ≡ lookup test es
nothing test [] e = refl
nothing test (x ∷ es) e = absurd (omega arith)

pub returns-then-is_empty : goal.returns-then-is_empty
returns-then-is_empty c =
    let records = c.self.inside.records.entries in
    let key = c.args.key.now in
    nothing (key_eq key) records (c.if-is_empty.ensures.0 refl) ∙ looked_up keys_total key_eq key_ties key records ∙ ap (λ s. finite.get s.content key) c.self.view_is

pub returns-in-Some : goal.returns-in-Some
returns-in-Some c =
    let entries = c.self.inside.records.entries in
    let key = c.args.key.now in
    let there = c.in-Some.there.now in
    let same = keys_same there key (equal_by _ (sym (key_ties there key) ∙ sym c.eq.ensures ∙ c.if-eq.true)) in
    sym c.in-Some.ensures.value ∙ ap (λ k. lookup (key_eq k) entries) same ∙ looked_up keys_total key_eq key_ties key entries ∙ ap (λ s. finite.get s.content key) c.self.view_is

pub returns-in_default : goal.returns-in_default
returns-in_default c = c.get.ensures.value ∙ looked_up keys_total key_eq key_ties c.args.key.now c.self.inside.records.entries ∙ ap (λ s. finite.get s.content c.args.key.now) c.self.view_is
