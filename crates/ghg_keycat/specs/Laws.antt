-- What is said of pairs alone.
use Rattle.std.specs.Prelude.{ℕ, ◌≡◌, ◌*◌, ◌≤◌, List, map, unsigned_abs}
use Rattle.std.specs.List.{sum_by}
use Rattle.std.specs.List.Sorted.{IsStrictlySortedBy}
use Rattle.ghg_keycat.specs.declared.Pair.{Pair}
use Rattle.ghg_keycat.specs.declared.KeyRow.{KeyRow}
use Rattle.ghg_keycat.specs.Ranking.{AreDistinct, IsRanking, category_and_gas, in_order, key_order}
use Rattle.ghg_keycat.specs.Sizes.{base_size, base_sum, gross, gross_limit, level_size, now_sum, trend_size}

-- pairs whose categories and gases ascend, as the keys of an ordered map do, are distinct
abbrev pub AscendingPairsAreDistinct : Type 0
AscendingPairsAreDistinct =
    (rows : List Pair) → IsStrictlySortedBy key_order (map category_and_gas rows) → AreDistinct rows

-- A ranking of distinct pairs is the list of them in order.
abbrev pub RankingsAreInOrder : Type 0
RankingsAreInOrder = (size : Pair → ℕ) (rows : List Pair) (keys : List KeyRow) →
    AreDistinct rows → IsRanking size rows keys → map (λ r. r.pair) keys ≡ in_order size rows

-- how large the numbers of an assessment are at most
pub record AreSmall (rows : List Pair) : Type 0 where
  pub levels : sum_by level_size rows ≤ gross_limit
  pub trends : sum_by (trend_size (base_sum rows) (now_sum rows)) rows ≤ 3 * gross_limit * gross_limit
  pub base_net : unsigned_abs (base_sum rows) ≤ base_size rows
  pub base_total : base_size rows ≤ gross_limit

-- Where the magnitudes of pairs are within the limit, so are the numbers of their assessments.
abbrev pub AssessmentsAreSmall : Type 0
AssessmentsAreSmall = (rows : List Pair) → sum_by gross rows ≤ gross_limit → AreSmall rows
