-- What parameters of a workbook's lines take.
use Rattle.std.specs.Prelude.{IfSome}
use Rattle.std.proofs.Common.{◌≡◌, Bool, true, false, nat_le, ℕ, List, [], ◌∷◌, map, Option, Some, None, refl, subst, arith}
use Rattle.std.specs.FinMap.{get}
use Rattle.std.specs.List.{AllByRecursion}
use Rattle.std.proofs.lemmas.List.{length-map}
use Rattle.ghg_equations.specs.Table.{Quantity}
use Rattle.ghg_units.specs.declared.row.Binding.{Binding}
use Rattle.ghg_units.specs.declared.row.Binding.TheVariants as bound
use Rattle.ghg_units.specs.WellFormed.{IsBinding}
use Rattle.ghg_definitions.specs.declared.record.Record.{Record}
use Rattle.ghg_definitions.specs.declared.record.Record.TheVariants as entry
use Rattle.ghg_definitions.specs.declared.record.RecordKey.TheVariants as key
use Rattle.ghg_definitions.specs.Compilation.{first_year, previous}
use Rattle.ghg_definitions.specs.Data.{Data, Name, as_binding, binding, span}
use Rattle.ghg_definitions.specs.Formulas.{map_operand}
use Rattle.ghg_definitions.specs.Lookups.{given}
use Rattle.ghg_definitions.specs.Sound.{IsWorkbook}
use Rattle.ghg_evaluation.specs.Arguments.{IsShort, operand_by, operands_by}

-- what a parameter is bound to
binding_is : (m : Data) (line parameter : Name) (b : Binding) → IsWorkbook m → binding m line parameter ≡ Some b → IsBinding b
binding_is m line parameter b workbook e = by (get m (key.Bind line parameter)) refl e
  where
    by : (r : Option Record) → get m (key.Bind line parameter) ≡ r → as_binding r ≡ Some b → IsBinding b
    by None is e = absurd (cc)
    by (Some (entry.Bind c)) is e = let same : c ≡ b = cc in subst IsBinding same (workbook.records (key.Bind line parameter) (entry.Bind c) is).2
    by (Some _) is e = absurd (cc)

bound_is : (m : Data) (line parameter : Name) → IsWorkbook m → IfSome (binding m line parameter) IsBinding
bound_is m line parameter workbook = by (binding m line parameter) (λ b e. binding_is m line parameter b workbook e)
  where
    by : (o : Option Binding) → ((b : Binding) → o ≡ Some b → IsBinding b) → IfSome o IsBinding
    by None is = tt
    by (Some b) is = is b refl

short_by : (m : Data) (year : ℕ) (b : Option Binding) → IfSome b IsBinding → IsShort (operand_by m year b)
short_by m year None h = omega arith
short_by m year (Some (bound.Activity name)) h = omega arith
short_by m year (Some (bound.Factor name)) h = omega arith
short_by m year (Some (bound.Line name)) h = omega arith
short_by m year (Some (bound.Prev name)) h = by (nat_le year (first_year (span m)))
  where
    by : (b : Bool) → IsShort (map_operand (given m) (previous b name year))
    by true = omega arith
    by false = omega arith
short_by m year (Some (bound.Sum names)) h = rw length-map (omega (arith, h.1))
short_by m year (Some (bound.Decay name)) h = omega arith
short_by m year (Some (bound.Key notation)) h = omega arith

pub are_short : (m : Data) (name : Name) (year : ℕ) (qs : List Quantity) → IsWorkbook m → AllByRecursion IsShort (operands_by m year (map (λ q. binding m name q.name) qs))
are_short m name year [] workbook = tt
are_short m name year (q ∷ qs) workbook = (short_by m year (binding m name q.name) (bound_is m name q.name workbook), are_short m name year qs workbook)
