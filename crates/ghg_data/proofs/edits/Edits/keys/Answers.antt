use Rattle.std.proofs.Common.{◌≡◌, ◌∙◌, sym, subst}
use Rattle.std.specs.List.{IsDistinct}
use Rattle.std.specs.Ordering.{eq_by_cmp}
use Rattle.ghg_definitions.specs.Data.{key_cmp}
use Rattle.ghg_definitions.proofs.Keys.{key_eq, key_ties}
use Rattle.ghg_data.proofs.edits.Edits.keys.Goals as goal

same_test : key_eq ≡ eq_by_cmp key_cmp
same_test = λ i q k. key_ties q k i

pub returns-clause-differ : goal.returns-clause-differ
returns-clause-differ c =
    subst (λ same. IsDistinct same c.as_slice.result.now) same_test (subst (IsDistinct key_eq) (sym (c.as_slice.ensures ∙ c.keys.ensures.rest)) c.keys.ensures.unique)
