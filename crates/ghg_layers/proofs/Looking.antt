-- Ranks as they are looked up.
use Rattle.std.proofs.Common.{◌≡◌, ℕ, ◌-◌, ◌<◌, ◌≤◌, List, [], filter, length, map, get_or, sym, ap, ◌∙◌, subst, arith}
use Rattle.std.proofs.lemmas.List.{get_or_past, length-map}
use Rattle.ghg_categories.specs.declared.category.Category.{Category}
use Rattle.ghg_categories.specs.Places.{place_of}
use Rattle.ghg_categories.specs.Tree.{tree}
use Rattle.ghg_definitions.specs.Data.{Name}
use Rattle.ghg_definitions.specs.Listed.{IsListed}
use Rattle.ghg_graph.specs.Numbers.{name_at}
use Rattle.ghg_graph.specs.Slots.{is_within}
use Rattle.ghg_layers.specs.declared.grid.Grid.{Grid}
use Rattle.ghg_layers.specs.declared.ranks.Ranks.{Ranks}
use Rattle.ghg_graph.specs.declared.slots.Scope.{Scope}
use Rattle.ghg_layers.specs.Grids.{cell, height}
use Rattle.ghg_layers.specs.Ranks.{IsRanking, greatest, line_rank, number_in, own_rank, sum_rank}
use Rattle.ghg_layers.proofs.Greatest.{last_within}
use Rattle.ghg_layers.proofs.Placing.{number_of_name, number_out}

cell_past : (g : Grid) (row year : ℕ) → height g ≤ row → cell g row year ≡ 0
cell_past g row year h = ap (λ xs. get_or xs year 0) (get_or_past (map (λ r. r.items) g.rows.items) row [] (subst (λ n. n ≤ row) (sym (length-map g.rows.items (λ r. r.items))) h))

module _ (r : Ranks) (is : IsRanking r) (name : Name) (year : ℕ) where
  pub line_out : (IsListed name r.names.items → ⊥) → 0 ≡ line_rank r name year
  line_out off =
      let out = number_out r.names.items name off in
      let high = is.lines in
      sym (cell_past r.lines (number_in r.names.items name) (year - r.first) (omega (arith, out, high)))

  pub line_found : (i : ℕ) → (i < length r.names.items) × (name_at r.names.items i ≡ name) → (rank : ℕ) → rank ≡ cell r.lines i (year - r.first) → rank ≡ line_rank r name year
  line_found i at rank e = e ∙ ap (λ j. cell r.lines j (year - r.first)) (sym (number_of_name r.names.items is.order i name at.0 at.1))

pub sum_is : (r : Ranks) (s : Scope) (year : ℕ) (cs : List Category) → cs ≡ tree → (rank : ℕ) → rank ≡ greatest (map (λ c. own_rank r c year) (filter (is_within s) cs)) → rank ≡ sum_rank r s year
unfolding sum_rank
sum_is r s year cs e rank is = is ∙ ap (λ ds. greatest (map (λ c. own_rank r c year) (filter (is_within s) ds))) e

pub sum_small : (r : Ranks) → IsRanking r → (s : Scope) (year bound : ℕ) → ((c : Category) (z : ℕ) → cell r.own (place_of c) z ≤ bound) → sum_rank r s year ≤ bound
unfolding sum_rank
sum_small r is s year bound small = last_within (λ c. own_rank r c year) (filter (is_within s) tree) bound (λ c i. small c (year - r.first))
