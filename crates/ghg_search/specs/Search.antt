-- From which lines and years the search begins, and from node to node.
use Rattle.std.specs.Prelude.{◌≡◌, ◌≢◌, ◌⊎◌, ℕ, ◌≤◌, true, List}
use Rattle.ghg_categories.specs.declared.category.Category.{Category}
use Rattle.ghg_categories.specs.Tree.{stands_within}
use Rattle.ghg_units.specs.Year.{is_year}
use Rattle.ghg_units.specs.declared.node.Node.{Node}
use Rattle.ghg_units.specs.declared.node.Node.TheVariants as node
use Rattle.ghg_affected.specs.Affected.{IsAffected, is_changed}
use Rattle.ghg_definitions.specs.declared.record.RecordKey.{RecordKey}
use Rattle.ghg_definitions.specs.declared.record.RecordKey.TheVariants as key
use Rattle.ghg_definitions.specs.Compilation.{first_year, is_in_tree, is_node, is_year_of, line_gas, sheet_of}
use Rattle.ghg_definitions.specs.Data.{Data, Name, span}
use Rattle.ghg_definitions.specs.Listed.{IsListed}
use Rattle.ghg_definitions.specs.Nodes.{year_in}
use Rattle.ghg_definitions.specs.Trials.{IsInput}
use Rattle.ghg_data.specs.declared.year_set.YearSet.{YearSet}
use Rattle.ghg_data.specs.YearSet.{has_year}
use Rattle.ghg_search.specs.Index.{HasUser, is_potential, names_bound}
use Rattle.ghg_search.specs.Found.{AreAdded, IsEquivalentTried, IsIn, IsLineTried, IsQueued}
use Rattle.ghg_search.specs.Series.{IsOf}
use Rattle.ghg_search.specs.declared.found.Found.{Found}
use Rattle.ghg_columns.specs.declared.series.Series.{Series}
use Rattle.ghg_search.specs.declared.index.Index.{Index}
use Rattle.ghg_search.specs.declared.index.Source.{Source}
use Rattle.ghg_search.specs.declared.index.Source.TheVariants as source

-- ---- changed nodes

-- where the record of the key differs, the line may be changed in a year that is no new one
abbrev pub MayChange : Data → Data → Index → RecordKey → Name → ℕ → Type 0
MayChange old new index key.Span name year = first_year (span old) ≢ first_year (span new)
MayChange old new index (key.Activity other when) name year =
    HasUser index (source.Activity other) name × (when ≡ year)
MayChange old new index (key.Factor other start) name year =
    HasUser index (source.Factor other) name × (names_bound new (source.Factor other) name ≡ true)
    × (start ≤ year)
MayChange old new index (key.Line other) name year = name ≡ other
MayChange old new index (key.Bind other parameter) name year = name ≡ other
MayChange old new index (key.Uncert other) name year = ⊥

-- where it does, its equivalent may be
abbrev pub MayWeigh : Data → Index → RecordKey → Name → ℕ → Type 0
MayWeigh new index (key.Factor other start) name year =
    HasUser index (source.Factor other) name × (is_potential (source.Factor other) (line_gas new name) ≡ true)
    × (start ≤ year)
MayWeigh new index (key.Line other) name year = name ≡ other
MayWeigh new index k name year = ⊥

-- the lines that may be changed where the key's record differs are found, if they are changed in one of the
-- years
abbrev pub AreLinesTried : Data → Data → Index → YearSet → RecordKey → Found → Type 0
AreLinesTried old new index years k f = (name : Name) (year : ℕ) → has_year years year ≡ true
    → MayChange old new index k name year → IsLineTried old new f name year

abbrev pub AreEquivalentsTried : Data → Data → Index → YearSet → RecordKey → Found → Type 0
AreEquivalentsTried old new index years k f = (name : Name) (year : ℕ) → has_year years year ≡ true
    → MayWeigh new index k name year → IsEquivalentTried old new f name year

-- the line and its equivalent are, where they take the source
pub record AreTriedBy (old new : Data) (s : Source) (years : YearSet) (name : Name) (f : Found) : Type 0 where
  pub line : names_bound new s name ≡ true → (year : ℕ) → has_year years year ≡ true
      → IsLineTried old new f name year
  pub equivalent : is_potential s (line_gas new name) ≡ true → (year : ℕ) → has_year years year ≡ true
      → IsEquivalentTried old new f name year

-- the years are those of the data
abbrev pub AreYearsOf : Data → YearSet → Type 0
AreYearsOf m years = (year : ℕ) → has_year years year ≡ true → is_year_of (span m) year ≡ true

-- they are those of the data before and after
abbrev pub AreKept : Data → Data → YearSet → Type 0
AreKept old new years = (year : ℕ) → has_year years year ≡ true
    → (is_year year ≡ true) × (is_year_of (span old) year ≡ true) × (is_year_of (span new) year ≡ true)

-- a node of the data in one of the years
abbrev pub IsNodeIn : Data → YearSet → Node → Type 0
IsNodeIn m years n = (is_node m n ≡ true) × (has_year years (year_in n) ≡ true)

-- the total of one of the categories in the year
abbrev pub IsTotalOf : List Category → ℕ → Node → Type 0
IsTotalOf tops year n = (top : Category) × IsListed top tops × (n ≡ node.Total top year)

abbrev pub IsChange : Data → Data → Node → Type 0
IsChange old new n = is_changed old new n ≡ true

-- more nodes are found, all of them changed
abbrev pub AddsChanges : Data → Data → Found → Found → Type 0
AddsChanges old new = AreAdded (IsChange old new)

-- ---- from a node to those that take it

-- a line in the year that names the source
abbrev pub IsLineNaming : Data → Source → ℕ → Node → Type 0
IsLineNaming m s year n = (taker : Name) × (n ≡ node.Line taker year) × (names_bound m s taker ≡ true)

-- the total of a category of the tree, which is the first or stands above it by so many levels at most
abbrev pub IsTotalAbove : ℕ → Category → ℕ → Node → Type 0
IsTotalAbove levels category year n =
    (top : Category) × (n ≡ node.Total top year) × (is_in_tree top ≡ true)
    × (stands_within levels category top ≡ true)

abbrev pub IsTaker : Data → Node → Node → Type 0
IsTaker m k n = IsInput (sheet_of m) k n

-- one of the series, in one of the years, is an input of the node
abbrev pub IsTakerOf : Data → Series → YearSet → Node → Type 0
IsTakerOf m s years n = (k : Node) × IsOf s years k × IsTaker m k n

-- each of them is a node of the data
abbrev pub AreNodesOf : Data → Series → YearSet → Type 0
AreNodesOf m s years = (k : Node) → IsOf s years k → is_node m k ≡ true

-- each queued node is one of the data
abbrev pub AreNodes : Data → Found → Type 0
AreNodes m f = (n : Node) → IsQueued f n → is_node m n ≡ true

-- with a node each one that takes it is found
abbrev pub IsClosed : Data → Found → Type 0
IsClosed m f = (k n : Node) → IsIn f k → IsTaker m k n → IsIn f n

-- the node is found, or is one that takes a found one
abbrev pub IsLed : Data → Found → Node → Type 0
IsLed m f n = IsIn f n ⊎ ((k : Node) × IsIn f k × IsTaker m k n)

-- what leads on from an affected node is affected
abbrev pub AreAffected : Data → Data → Found → Type 0
AreAffected old new f = (n : Node) → IsQueued f n → IsAffected old new n
