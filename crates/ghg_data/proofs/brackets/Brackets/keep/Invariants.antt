use Rattle.std.proofs.Common.{◌≡◌, ℕ, drop, ◌||◌}
use Rattle.std.specs.List.{AllByRecursion}
use Rattle.ghg_units.specs.WellFormed.{IsWellFormed}
use Rattle.ghg_data.specs.Brackets.{half_lives}
use Rattle.ghg_data.specs.HalfLives.{HasStill, half_lives_of, has}
use Rattle.ghg_data.proofs.brackets.Brackets.keep.Given as goal

abbrev pub invariant-loop-row : goal.invariant-loop-row
invariant-loop-row l = record {
  well_formed : AllByRecursion IsWellFormed (drop l.row-index l.rows);
  named : (h : ℕ) → has (half_lives l.self) h || has (half_lives_of (drop l.row-index l.rows)) h
      ≡ has (half_lives l.fn.self) h || has (half_lives_of l.rows) h;
  kept : HasStill (half_lives l.fn.self) (half_lives l.self);
}
