-- What the bytes of the tables cells, summary and series say of the nodes of the data: each row stands for
-- one or two, and the bounds in it hold their exact values. It says nothing of the analyses.
use Rattle.std.specs.Prelude.{◌≡◌, ℕ, ◌+◌, ◌-◌, ℤ, List, [], ◌∷◌, ◌++◌, map, codes, decimal, Option, Some, None, IfSome}
use Rattle.std.specs.List.{flat_map}
use Rattle.ghg_categories.specs.declared.category.Category.{Category}
use Rattle.ghg_categories.specs.declared.category.Category.TheVariants.{National}
use Rattle.ghg_categories.specs.Tree.{code_of, tree}
use Rattle.ghg_equations.specs.declared.eq_id.EqId.{EqId}
use Rattle.ghg_interval.specs.Fractions.{Fraction}
use Rattle.ghg_cell.specs.declared.input.Input.{Input}
use Rattle.ghg_cell.specs.declared.input.Input.TheVariants.{Known}
use Rattle.ghg_units.specs.declared.node.Node.{Node}
use Rattle.ghg_units.specs.declared.node.Node.TheVariants as node
use Rattle.ghg_definitions.specs.declared.record.RecordKey.{RecordKey}
use Rattle.ghg_definitions.specs.Choices.{IsChoice}
use Rattle.ghg_definitions.specs.Compilation.{compilation, first_year, years_from}
use Rattle.ghg_definitions.specs.Containment.{IsValuation}
use Rattle.ghg_definitions.specs.Data.{Data, Name, category, line, line_names, span}
use Rattle.ghg_definitions.specs.Trials.{value_of}
use Rattle.ghg_tables.specs.declared.table.Table.{Table}
use Rattle.ghg_tables.specs.declared.table.Table.TheVariants as table
use Rattle.ghg_tables.specs.Laws.{Holds, node_precision}
use Rattle.ghg_tables.specs.Rounding.{places_of}
use Rattle.ghg_tables.specs.Tables.{header}
use Rattle.ghg_tables.specs.Texts.{cell_words, field, three_decimals}

-- ---- the figures of a node

-- A value, of which this says nothing, and its bounds: at every choice within the supplied bounds the exact
-- value of the node is within those that are written.
pub record AreBoundsOf (m : Data) (n : Node) (figures : List ℕ) : Type 0 where
  pub value : ℤ
  pub low : ℤ
  pub high : ℤ
  pub written : figures ≡ three_decimals (node_precision m n) value low high
  pub hold : (choice : RecordKey → Fraction) → IsChoice m choice →
      (fractions : Node → Fraction) → IsValuation m choice fractions →
      Holds low high (places_of (node_precision m n)) (fractions n)

-- of a known node a value and its bounds, and of any other no numbers
abbrev pub AreFiguresOf : Data → Node → Option Input → List ℕ → Type 0
AreFiguresOf m n (Some (Known point range)) figures = AreBoundsOf m n figures
AreFiguresOf m n _ figures = figures ≡ codes "NE,NE,NE"

-- of each node in turn, with a comma between
abbrev pub AreFigures : Data → List Node → List ℕ → Type 0
AreFigures m [] figures = figures ≡ []
AreFigures m (n ∷ []) figures = AreFiguresOf m n (value_of (compilation m n)) figures
AreFigures m (n ∷ k ∷ ns) figures = (first rest : List ℕ) × (figures ≡ field first ++ rest) ×
    AreFiguresOf m n (value_of (compilation m n)) first × AreFigures m (k ∷ ns) rest

-- ---- rows

-- what a row is of: the words that it begins with, and the nodes whose figures follow
pub record Subject : Type 0 where
  pub words : List ℕ
  pub nodes : List Node

abbrev pub IsRowOf : Data → Subject → List ℕ → Type 0
IsRowOf m s row = (figures : List ℕ) × (row ≡ s.words ++ figures ++ 10 ∷ []) × AreFigures m s.nodes figures

-- a row of each in turn, and nothing else
abbrev pub AreRowsOf : Data → List Subject → List ℕ → Type 0
AreRowsOf m [] text = text ≡ []
AreRowsOf m (s ∷ ss) text = (row rest : List ℕ) × (text ≡ row ++ rest) ×
    IsRowOf m s row × AreRowsOf m ss rest

-- ---- tables

abbrev pub line_subject : ℕ → Name → Option Category → Option EqId → List Subject
line_subject year name (Some c) (Some e) =
    record { words = cell_words name c e; nodes = node.Line name year ∷ [] } ∷ []
line_subject year name _ _ = []

abbrev pub total_subject : ℕ → Category → Subject
total_subject year c = record { words = field (code_of c); nodes = node.Total c year ∷ [] }

abbrev pub gross_subject : ℕ → Subject
gross_subject year = record { words = field (codes "gross"); nodes = node.Gross year ∷ [] }

abbrev pub year_subject : ℕ → Subject
year_subject year =
    record { words = field (decimal year); nodes = node.Total National year ∷ node.Gross year ∷ [] }

-- what the rows of a table are of, if they have bounds of nodes: each line, each category and the gross
-- total, or each year from the first
abbrev pub subjects : Table → Data → ℕ → Option (List Subject)
subjects table.Cells m year =
    Some (flat_map (λ name. line_subject year name (category m name) (line m name)) (line_names m))
subjects table.Summary m year = Some (map (total_subject year) tree ++ gross_subject year ∷ [])
subjects table.Series m year =
    Some (map year_subject (years_from (first_year (span m)) (year + 1 - first_year (span m))))
subjects _ m year = None

-- The text of a table with bounds is the header and those rows, and the bounds in it hold the exact value of
-- each known node. Of the text of an analysis this says nothing.
unfoldable pub IsSoundText : Table → Data → ℕ → List ℕ → Type 0
IsSoundText t m year text = IfSome (subjects t m year)
    (λ of. (rows : List ℕ) × (text ≡ header t ++ rows) × AreRowsOf m of rows)
