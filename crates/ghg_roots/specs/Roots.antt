-- Square roots between two whole numbers.
use Rattle.std.specs.Prelude.{ℕ, ◌≡◌, ◌+◌, ◌*◌, ◌≤◌, ◌↔◌}

abbrev pub IsSquare : ℕ → Type 0
IsSquare n = (root : ℕ) × (root * root ≡ n)

-- the square root of n is from low to high, which are next to each other, or equal just where n is a square
pub record IsRootBracket (n low high : ℕ) : Type 0 where
  pub below : low * low ≤ n
  pub above : n ≤ high * high
  pub close : high ≤ low + 1
  pub meets : (low ≡ high) ↔ IsSquare n
