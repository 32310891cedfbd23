-- What a set has is one of its keys.
use Rattle.std.proofs.Common.{◌≡◌, true, List, Ordering, is_eq, sym, ap, subst}
use Rattle.std.proofs.lemmas.Cmp.{tied_itself}
use Rattle.std.proofs.lemmas.Map.Lookups.{CmpEqualImpliesEq}
use Rattle.std.proofs.lemmas.Map.Views.{tells_apart}
use Rattle.std.specs.Cmp.{IsTotalOrder}
use Rattle.std.specs.List.{list_any}
use Rattle.ghg_definitions.specs.Listed.{IsListed}
use Rattle.ghg_definitions.proofs.Listed.{from_any, listed_any}

module _ {K : Type 0} {R : K → K → Ordering} where
  pub key_listed : CmpEqualImpliesEq R → (k : K) (ks : List K) → list_any (λ x. is_eq (R k x)) ks ≡ true
      → IsListed k ks
  key_listed exact k ks on =
      let found = from_any (λ x. is_eq (R k x)) ks on in
      subst (λ x. IsListed x ks) (sym (tells_apart exact k found.0 found.2)) found.1

  pub listed_key : IsTotalOrder R → (k : K) (ks : List K) → IsListed k ks → list_any (λ x. is_eq (R k x)) ks ≡ true
  listed_key order k ks i = listed_any (λ x. is_eq (R k x)) k ks i (ap is_eq (tied_itself order k))
