-- The rule that a row breaks, before the row's number is known.
use Rattle.std.specs.Prelude.{◌≡◌, ℕ, ⊤, Result, Ok, Err}
use Rattle.ghg_units.specs.declared.rule.Rule.{Rule}
use Rattle.ghg_units.specs.declared.rule.Rule.TheVariants.{BadShape, UnknownWord, BadNumber, BoundsDisorder}
use Rattle.ghg_import.specs.declared.fault.Fault.{Fault}
use Rattle.ghg_import.specs.declared.fault.Fault.TheVariants.{Shape, Word, Number, Disorder}
use Rattle.ghg_import.specs.declared.fault.ReadError.{ReadError}
use Rattle.ghg_import.specs.declared.fault.ReadError.TheVariants as errors

abbrev pub rule_at : ℕ → Fault → Rule
rule_at row Shape = BadShape row
rule_at row (Word column) = UnknownWord row column
rule_at row (Number column) = BadNumber row column
rule_at row Disorder = BoundsDisorder row

-- the first fault of two steps
infixl 10 ◌>>=◌
abbrev pub ◌>>=◌ : {A B : Type 0} → Result A Fault → (A → Result B Fault) → Result B Fault
(Ok x) >>= f = f x
(Err e) >>= f = Err e

-- an error is the fault of what is read, unless memory is wanting
abbrev pub Fails : {X : Type 0} → ReadError → Result X Fault → Type 0
Fails (errors.Fault fault) read = read ≡ Err fault
Fails errors.Memory read = ⊤

-- a result is what is read, unless memory is wanting
abbrev pub Gives : {X : Type 0} → Result X ReadError → Result X Fault → Type 0
Gives (Ok x) read = read ≡ Ok x
Gives (Err error) read = Fails error read
