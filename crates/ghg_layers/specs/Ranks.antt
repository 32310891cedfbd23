-- Ranks of nodes: that of a given node is by one above the greatest rank of its given inputs.
use Rattle.std.specs.Prelude.{◌≡◌, ◌<◌, ◌≤◌, ◌+◌, ◌-◌, ◌^◌, ◌⊎◌, ℕ, zero, suc, List, [], ◌∷◌, filter, if◌then◌else◌, length, map, max, Option, Some}
use Rattle.std.specs.List.Sorted.{IsStrictlySortedBy}
use Rattle.std.specs.Str.{bytes_eq}
use Rattle.ghg_categories.specs.declared.category.Category.{Category}
use Rattle.ghg_categories.specs.Places.{place_of}
use Rattle.ghg_categories.specs.Tree.{tree}
use Rattle.ghg_units.specs.declared.node.Node.{Node}
use Rattle.ghg_units.specs.declared.node.Node.TheVariants as node
use Rattle.ghg_definitions.specs.Compilation.{sheet_of}
use Rattle.ghg_definitions.specs.Data.{Data, Name, category, name_cmp}
use Rattle.ghg_definitions.specs.Listed.{IsListed}
use Rattle.ghg_definitions.specs.Trials.{IsInput}
use Rattle.ghg_graph.specs.Links.{targets_of}
use Rattle.ghg_graph.specs.Slots.{is_within}
use Rattle.ghg_graph.specs.declared.slots.Scope.{Scope}
use Rattle.ghg_graph.specs.declared.slots.Scope.TheVariants as scope
use Rattle.ghg_layers.specs.declared.grid.Grid.{Grid}
use Rattle.ghg_layers.specs.declared.lines.Lines.{Lines}
use Rattle.ghg_layers.specs.declared.ranks.Ranks.{Ranks}
use Rattle.ghg_layers.specs.declared.turns.Turn.{Turn}
use Rattle.ghg_layers.specs.Grids.{cell, height}

-- each given node has a rank above those of its given inputs: the first, or just above one of these
pub record AreRanks (m : Data) (given : List Node) (rank : Node → ℕ) : Type 0 where
  pub above : (n k : Node) → IsListed n given → IsListed k given → IsInput (sheet_of m) k n → rank k < rank n
  pub next : (n : Node) → IsListed n given → (rank n ≡ 1)
      ⊎ ((k : Node) × IsListed k given × IsInput (sheet_of m) k n × (rank n ≡ rank k + 1))

-- ---- lines

abbrev pub greatest : List ℕ → ℕ
greatest [] = 0
greatest (x ∷ xs) = max x (greatest xs)

-- the greatest rank of lines in a year
abbrev pub last_of : Grid → List ℕ → ℕ → ℕ
last_of g numbers year = greatest (map (λ number. cell g number year) numbers)

-- the greatest rank of those that a line takes in the year before
abbrev pub last_before : Lines → Grid → ℕ → ℕ → ℕ
last_before l g number zero = 0
last_before l g number (suc year) = last_of g (targets_of l.previous number) year

-- the greatest rank of those that a line takes in a year
abbrev pub last : Lines → Grid → ℕ → ℕ → ℕ
last l g number year = max (last_of g (targets_of l.links number) year) (last_before l g number year)

-- the lines have ranks where they have turns, each by one above the greatest of those that it takes
pub record AreLineRanks (l : Lines) (turns : List Turn) (g : Grid) : Type 0 where
  pub height : height g ≡ length l.names.items
  pub all : (t : Turn) → IsListed t turns → 0 < cell g t.number t.year
  pub only : (number year : ℕ) → 0 < cell g number year →
      (t : Turn) × IsListed t turns × (t.number ≡ number) × (t.year ≡ year)
  pub ranked : (number year : ℕ) → 0 < cell g number year → cell g number year ≡ last l g number year + 1
  pub small : (number year : ℕ) → cell g number year ≤ length turns

-- ---- nodes

-- the place of a name; behind all where it is not among them
abbrev pub number_in : List Name → Name → ℕ
number_in [] name = 0
number_in (x ∷ names) name = if bytes_eq x name then 0 else suc (number_in names name)

-- the rank of a line in a year; 0 where it is not given
abbrev pub line_rank : Ranks → Name → ℕ → ℕ
line_rank r name year = cell r.lines (number_in r.names.items name) (year - r.first)

-- the greatest rank of a given equivalent of the lines at the category itself
abbrev pub own_rank : Ranks → Category → ℕ → ℕ
own_rank r c year = cell r.own (place_of c) (year - r.first)

-- the greatest rank of a given equivalent that the total adds
unfoldable pub sum_rank : Ranks → Scope → ℕ → ℕ
sum_rank r scope year = greatest (map (λ c. own_rank r c year) (filter (is_within scope) tree))

abbrev pub rank_in : Ranks → Node → ℕ
rank_in r (node.Line name year) = line_rank r name year
rank_in r (node.Equiv name year) = line_rank r name year + 1
rank_in r (node.Total top year) = sum_rank r (scope.Under top) year + 1
rank_in r (node.Gross year) = sum_rank r scope.Gross year + 1

-- what a ranking is: its rows, and ranks small enough to be added to
pub record IsRanking (r : Ranks) : Type 0 where
  pub order : IsStrictlySortedBy name_cmp r.names.items
  pub lines : height r.lines ≡ length r.names.items
  pub own : height r.own ≡ 79
  pub small : (number year : ℕ) → cell r.lines number year < 2 ^ 63
  pub own_small : (c : Category) (year : ℕ) → cell r.own (place_of c) year ≤ 2 ^ 63

-- the ranks of lines stay
pub record KeepsLines (old new : Ranks) : Type 0 where
  pub first : new.first ≡ old.first
  pub names : new.names ≡ old.names
  pub lines : new.lines ≡ old.lines

-- the rank is taken into those of the category, if there is one
pub record IsRaised (c : Option Category) (year rank : ℕ) (old new : Grid) : Type 0 where
  pub least : (d : Category) → c ≡ Some d → rank ≤ cell new (place_of d) year
  pub kept : (row z : ℕ) → cell old row z ≤ cell new row z
  pub met : (d : Category) (z : ℕ) → (cell new (place_of d) z ≡ cell old (place_of d) z)
      ⊎ ((c ≡ Some d) × (z ≡ year) × (cell new (place_of d) z ≡ rank))

-- the greatest ranks of the given equivalents at each category are known
pub record AreOwn (m : Data) (given : List Node) (r : Ranks) : Type 0 where
  pub least : (name : Name) (year : ℕ) (c : Category) → IsListed (node.Equiv name year) given →
      category m name ≡ Some c → line_rank r name year + 1 ≤ own_rank r c year
  pub met : (c : Category) (year v : ℕ) → r.first ≤ year → own_rank r c year ≡ suc v →
      (name : Name) × IsListed (node.Equiv name year) given × (category m name ≡ Some c)
      × (line_rank r name year ≡ v)
