-- The years from one on, one year more at a time.
use Rattle.std.proofs.Common.{◌≡◌, ℕ, zero, suc, ◌+◌, ◌-◌, ◌≤◌, [], ◌∷◌, ◌++◌, arith, refl, ap}
use Rattle.ghg_definitions.specs.Compilation.{years_from}

pub no_year : (first : ℕ) → years_from first (first - first) ≡ []
no_year first = let none : first - first ≡ 0 = omega arith in rw none refl

last_year : (first count : ℕ) → years_from first (suc count) ≡ years_from first count ++ (first + count) ∷ []
last_year first zero = let here : first + 0 ≡ first = omega arith in rw here refl
last_year first (suc count) = let here : first + suc count ≡ first + 1 + count = omega arith in rw here (ap (λ years. first ∷ years) (last_year (first + 1) count))

pub year_added : (first year : ℕ) → first ≤ year → years_from first (year + 1 - first) ≡ years_from first (year - first) ++ year ∷ []
year_added first year later =
    let more : year + 1 - first ≡ suc (year - first) = omega arith in
    let here : first + (year - first) ≡ year = omega arith in
    rw (more, last_year first (year - first), here) refl
