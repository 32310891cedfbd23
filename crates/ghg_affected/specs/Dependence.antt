-- The records that the formula of a node reads, and that it depends on no others.
use Rattle.std.specs.Prelude.{◌≡◌, ◌⊎◌, ⊤, ◌≤◌, Some}
use Rattle.std.specs.FinMap.{get}
use Rattle.ghg_equations.specs.declared.quantity.Gas.{Gas}
use Rattle.ghg_units.specs.declared.node.Node.{Node}
use Rattle.ghg_units.specs.declared.node.Node.TheVariants as node
use Rattle.ghg_units.specs.declared.row.Binding.TheVariants as bound
use Rattle.ghg_units.specs.Name.{potential_name}
use Rattle.ghg_definitions.specs.declared.record.RecordKey.{RecordKey}
use Rattle.ghg_definitions.specs.declared.record.RecordKey.TheVariants as key
use Rattle.ghg_affected.specs.Affected.{IsChanged, formula_with_inputs}
use Rattle.ghg_definitions.specs.Compilation.{line_gas}
use Rattle.ghg_definitions.specs.Data.{Data, Name, binding}

-- a parameter of the line is bound to the activity
pub record TakesActivity (m : Data) (line name : Name) : Type 0 where
  pub parameter : Name
  pub bound : binding m line parameter ≡ Some (bound.Activity name)

-- or to the factor, or to the decay factor of a half-life
pub record TakesFactor (m : Data) (line name : Name) : Type 0 where
  pub parameter : Name
  pub bound : (binding m line parameter ≡ Some (bound.Factor name))
      ⊎ (binding m line parameter ≡ Some (bound.Decay name))

-- the factor is the potential of the gas that the line emits
pub record IsPotentialOf (m : Data) (line name : Name) : Type 0 where
  pub gas : Gas
  pub emitted : line_gas m line ≡ Some gas
  pub named : name ≡ potential_name gas

-- A line reads the span, its own record, its bindings, and what these take: activities of the year, and
-- factors that began by then. An equivalent reads the line's record and the potential of its gas. A total
-- reads the lines. No node reads an uncertainty.
abbrev pub Reads : Data → Node → RecordKey → Type 0
Reads m (node.Line name year) key.Span = ⊤
Reads m (node.Line name year) (key.Line other) = name ≡ other
Reads m (node.Line name year) (key.Bind other parameter) = name ≡ other
Reads m (node.Line name year) (key.Activity other when) = (when ≡ year) × TakesActivity m name other
Reads m (node.Line name year) (key.Factor other start) = (start ≤ year) × TakesFactor m name other
Reads m (node.Equiv name year) (key.Line other) = name ≡ other
Reads m (node.Equiv name year) (key.Factor other start) = (start ≤ year) × IsPotentialOf m name other
Reads m (node.Total category year) (key.Line other) = ⊤
Reads m (node.Gross year) (key.Line other) = ⊤
Reads m _ _ = ⊥

-- The formula of a node over inputs depends on the records that it reads in the new data.
abbrev pub FormulasDependOnReads : Type 0
FormulasDependOnReads = (old new : Data) (n : Node) →
    ((k : RecordKey) → Reads new n k → get old k ≡ get new k) →
    formula_with_inputs old n ≡ formula_with_inputs new n

-- ---- what is not changed

-- a node is there by the span, and by the record of its line
abbrev pub StandsBy : Node → RecordKey → Type 0
StandsBy (node.Line name year) key.Span = ⊤
StandsBy (node.Line name year) (key.Line other) = name ≡ other
StandsBy (node.Equiv name year) key.Span = ⊤
StandsBy (node.Equiv name year) (key.Line other) = name ≡ other
StandsBy (node.Total category year) key.Span = ⊤
StandsBy (node.Gross year) key.Span = ⊤
StandsBy _ _ = ⊥

-- Where the records by which a node is there and those that it reads are the old ones, it is not changed.
abbrev pub UntouchedAreUnchanged : Type 0
UntouchedAreUnchanged = (old new : Data) (n : Node) →
    ((k : RecordKey) → Reads new n k → get old k ≡ get new k) →
    ((k : RecordKey) → StandsBy n k → get old k ≡ get new k) →
    IsChanged old new n → ⊥
