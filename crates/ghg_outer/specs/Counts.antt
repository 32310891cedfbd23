-- The count of the faults of an object of the outside. It is 64 bits wide, and stands still at its last
-- value.
use Rattle.std.specs.Prelude.{◌≡◌, ℕ, ◌+◌, ◌-◌, ◌^◌, ◌≤◌, ◌⊎◌, min}

-- one more, or the last value again
abbrev pub raised : ℕ → ℕ
raised count = min (count + 1) (2 ^ 64 - 1)

-- The count rose where the call failed, and is as it was with any other answer.
pub record IsCounted (before now : ℕ) (failed : Type 0) : Type 0 where
  pub later : before ≤ now
  pub rose : failed → raised before ≤ now
  pub stays : failed ⊎ (now ≡ before)
