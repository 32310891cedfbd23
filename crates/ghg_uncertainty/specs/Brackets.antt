-- The brackets of error propagation as functions.
use Rattle.std.specs.Prelude.{ℕ, zero, suc, ◌≡◌, ◌+◌, ◌≤◌, ◌==◌, nat_le, if◌then◌else◌, List, length}
use Rattle.std.specs.List.{All}
use Rattle.ghg_cell.specs.declared.totals.TheConstants.{MOST_PARTS}
use Rattle.ghg_roots.specs.Roots.{IsRootBracket}
use Rattle.ghg_uncertainty.specs.declared.Share.{Share}
use Rattle.ghg_uncertainty.specs.declared.TotalUncertainty.{TotalUncertainty}
use Rattle.ghg_uncertainty.specs.declared.TotalUncertainty.TheVariants.{Bracket, Undefined}
use Rattle.ghg_uncertainty.specs.Totals.{HoldsTotal, IsShare, IsTotal, square}

-- the greatest number up to a limit whose square is no more than n
unfoldable pub root_up_to : (n most : ℕ) → ℕ
root_up_to n zero = 0
root_up_to n (suc k) = if nat_le (square (suc k)) n then suc k else root_up_to n k

-- the square root of n, rounded down
unfoldable pub low_root : ℕ → ℕ
low_root n = root_up_to n n

-- the square root of n, rounded up
unfoldable pub high_root : ℕ → ℕ
high_root n = if square (low_root n) == n then low_root n else low_root n + 1

-- The bracket of a root is the root rounded down and rounded up.
abbrev pub BracketsAreRoots : Type 0
BracketsAreRoots = (n low high : ℕ) → IsRootBracket n low high → (low ≡ low_root n) × (high ≡ high_root n)

-- the greatest bound of a total's uncertainty
abbrev pub largest_bound : ℕ
largest_bound = 10_000_000_000_000_000_002

abbrev pub IsSmall : TotalUncertainty → Type 0
IsSmall (Bracket low high) = (low ≤ largest_bound) × (high ≤ largest_bound)
IsSmall Undefined = Unit {0}

-- The bounds of the uncertainty of a total are within a limit.
abbrev pub TotalsAreSmall : Type 0
TotalsAreSmall = (rows : List Share) (total : TotalUncertainty) →
    length rows ≤ MOST_PARTS → All IsShare rows → IsTotal rows total → IsSmall total

-- The uncertainty of a total holds its root: the spread is between the squares of both bounds times the
-- magnitude of the sum.
abbrev pub TotalsHoldRoots : Type 0
TotalsHoldRoots = (rows : List Share) (total : TotalUncertainty) → IsTotal rows total → HoldsTotal rows total
