-- Looking at one more place.
use Rattle.std.proofs.Common.{◌≡◌, Bool, true, false, Option, Some, None, refl, if◌then◌else◌, Ordering, Less, Equal, Greater}
use Rattle.std.specs.Option.{option_map_or}
use Rattle.std.specs.Ordering.{is_gt, min_by_ordering}
use Rattle.ghg_definitions.specs.declared.place.Place.{Place}
use Rattle.ghg_definitions.specs.Rules.{lesser_place, place_cmp}

-- where the least fault so far comes before the place, it stays, whether the place is one or not
pub stays_least : (p : Place) (least : Option Place) → option_map_or (λ other. is_gt (place_cmp p other)) least false ≡ true → (b : Bool) → least ≡ (if b then Some (lesser_place p least) else least)
stays_least p None e b = absurd (cc)
stays_least p (Some q) e false = refl
stays_least p (Some q) e true = by (place_cmp p q) e
  where
    by : (o : Ordering) → is_gt o ≡ true → Some q ≡ Some (min_by_ordering o p q)
    by Less e = absurd (cc)
    by Equal e = absurd (cc)
    by Greater e = refl

-- where it does not, the place is the lesser
pub is_least : (p : Place) (least : Option Place) → option_map_or (λ other. is_gt (place_cmp p other)) least false ≡ false → p ≡ lesser_place p least
is_least p None e = refl
is_least p (Some q) e = by (place_cmp p q) e
  where
    by : (o : Ordering) → is_gt o ≡ false → p ≡ min_by_ordering o p q
    by Less e = refl
    by Equal e = refl
    by Greater e = absurd (cc)
