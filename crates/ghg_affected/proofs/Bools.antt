-- Truth values.
use Rattle.std.proofs.Common.{◌≡◌, ◌⊎◌, inl, inr, Bool, true, false, ◌||◌, refl}

pub true_not_false : ◌≡◌ {A = Bool} true false → ⊥
true_not_false e = cc

-- what is not true is false
pub never_so : (b : Bool) → (b ≡ true → ⊥) → b ≡ false
never_so true h = absurd (h refl)
never_so false h = refl

pub either : (a b : Bool) → a || b ≡ true → (a ≡ true) ⊎ (b ≡ true)
either true b e = inl refl
either false b e = inr e

pub or_first : (a b : Bool) → a ≡ true → a || b ≡ true
or_first true b e = refl
or_first false b e = absurd (cc)

pub or_second : (a b : Bool) → b ≡ true → a || b ≡ true
or_second true b e = refl
or_second false b e = e
