-- Rows that break no rule, one after the other.
use Rattle.std.proofs.Common.{◌≡◌, ℕ, zero, suc, ◌<◌, drop, get_or, length, MatchResult, arith, List, [], ◌∷◌, Option, Some, None, Result, Ok, Err, refl, sym, ap, ◌∙◌}
use Rattle.std.specs.Result.{IsErrAnd}
use Rattle.ghg_units.specs.declared.row.Row.{Row}
use Rattle.ghg_units.specs.declared.rule.Rule.{Rule}
use Rattle.ghg_definitions.specs.Data.{Data}
use Rattle.ghg_definitions.specs.Rows.{after, after_row}
use Rattle.ghg_definitions.specs.Rules.{or_broken, row_fault, rows_applied}
use Rattle.ghg_data.specs.declared.refusal.PlanRefusal.{PlanRefusal}
use Rattle.ghg_data.specs.declared.refusal.PlanRefusal.TheVariants as refusal
use Rattle.ghg_data.specs.Refusal.{IfRule}

same_ok : (r : Result Data Rule) (m n : Data) → r ≡ Ok m → r ≡ Ok n → m ≡ n
same_ok r m n e f = cc

unbroken : (o : Option Rule) (r : Result Data Rule) (n : Data) → or_broken o r ≡ Ok n → r ≡ Ok n
unbroken None r n e = e
unbroken (Some rule) r n e = absurd (cc)

-- what they make of the data is each row's change, in their order
pub applied_after : (m : Data) (rows : List Row) (n : Data) → rows_applied m rows ≡ Ok n → n ≡ after m rows
unfolding rows_applied
applied_after m [] n e = sym (same_ok (Ok m) m n refl e)
applied_after m (row ∷ rows) n e = applied_after (after_row m row) rows n (unbroken (row_fault m row) _ n e)

-- the first row that breaks a rule tells the answer
pub first_broken : (m n : Data) (rows : List Row) (row : Row) (more : List Row) (rule : Rule) → rows_applied m rows ≡ rows_applied n (row ∷ more) → row_fault n row ≡ Some rule → rows_applied m rows ≡ Err rule
unfolding rows_applied
first_broken m n rows row more rule so_far fault = so_far ∙ ap (λ o. or_broken o (rows_applied (after_row n row) more)) fault

pub rule_first : (m n : Data) (rows : List Row) (row : Row) (more : List Row) → rows_applied m rows ≡ rows_applied n (row ∷ more) → (x : PlanRefusal) → IfRule (λ rule. row_fault n row ≡ Some rule) x → IfRule (λ rule. rows_applied m rows ≡ Err rule) x
rule_first m n rows row more so_far (refusal.Rule rule) fault = first_broken m n rows row more rule so_far fault
rule_first m n rows row more so_far refusal.Memory fault = tt

-- one that breaks none leaves the rest to be applied
pub row_passed : (m n : Data) (rows : List Row) (row : Row) (more : List Row) (k : Data) → rows_applied m rows ≡ rows_applied n (row ∷ more) → row_fault n row ≡ None → k ≡ after_row n row → rows_applied m rows ≡ rows_applied k more
unfolding rows_applied
row_passed m n rows row more k so_far none is = so_far ∙ ap (λ o. or_broken o (rows_applied (after_row n row) more)) none ∙ ap (λ d. rows_applied d more) (sym is)

pub drop_row : (rows : List Row) (i : ℕ) (row : Row) → i < length rows → row ≡ get_or rows i row → drop i rows ≡ row ∷ drop (suc i) rows
drop_row [] i row l e = absurd (omega arith)
drop_row (x ∷ rows) zero row l e = ap (λ y. y ∷ rows) (sym e)
drop_row (x ∷ rows) (suc i) row l e = drop_row rows i row (omega arith) e

pub on_err : {T E : Type 0} (r : Result T E) (P : T → Type 0) (Q G : E → Type 0) → IsErrAnd r G → ((x : E) → G x → Q x) → MatchResult r P Q
on_err (Ok y) P Q G h on = absurd h
on_err (Err x) P Q G h on = on x h
