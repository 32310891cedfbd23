use Rattle.std.proofs.Common.{◌≡◌, ℕ, ◌<◌, ◌≤◌, true}
use Rattle.ghg_units.specs.Year.{is_year}
use Rattle.ghg_data.specs.YearSet.{has_year}
use Rattle.ghg_search.proofs.years.years_between.Given as goal

abbrev pub invariant-loop-year : goal.invariant-loop-year
invariant-loop-year l = record {
  only : (y : ℕ) → has_year l.years y ≡ true → (is_year y ≡ true) × (l.fn.first ≤ y) × (y < l.fn.end);
  all : (y : ℕ) → is_year y ≡ true → l.fn.first ≤ y → y < l.year → has_year l.years y ≡ true;
}
