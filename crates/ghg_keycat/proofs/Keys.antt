-- Pairs with ascending keys.
use Rattle.std.proofs.Common.{◌≡◌, ◌<◌, ℕ, false, List, length, map, get_or}
use Rattle.std.specs.Ordering.{eq_by_cmp}
use Rattle.std.specs.List.Sorted.{IsStrictlySortedBy}
use Rattle.std.proofs.Math.ListN.{get_or-map}
use Rattle.std.proofs.lemmas.List.{length-map}
use Rattle.std.proofs.lemmas.Map.Keys.{IsDistinct-from_sorted, IsDistinct-from_apart, apart_from_distinct}
use Rattle.ghg_keycat.specs.declared.Pair.{Pair}
use Rattle.ghg_keycat.specs.Laws.{AscendingPairsAreDistinct}
use Rattle.ghg_keycat.specs.Ranking.{by_name, category_and_gas, key_order}

apart : (rows : List Pair) (i j : ℕ) (d : Pair) → IsStrictlySortedBy key_order (map category_and_gas rows) → i < j → j < length rows → eq_by_cmp by_name (get_or rows i d) (get_or rows j d) ≡ false
apart rows i j d h l k =
    let within : j < length (map category_and_gas rows) = rw (length-map rows category_and_gas) k in
    rw (get_or-map category_and_gas rows i d, get_or-map category_and_gas rows j d) at
    (apart_from_distinct (eq_by_cmp key_order) (map category_and_gas rows) i j (category_and_gas d) (IsDistinct-from_sorted key_order (map category_and_gas rows) h) l within)

pub distinct_from_ascending : AscendingPairsAreDistinct
distinct_from_ascending rows h = IsDistinct-from_apart (eq_by_cmp by_name) rows (λ i j d l k. apart rows i j d h l k)
