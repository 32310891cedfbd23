-- How many records there are after a row that keeps its rules.
use Rattle.std.proofs.Common.{◌≡◌, ℕ, ◌+◌, ◌-◌, Bool, true, false, cond, not, Option, Some, None, is_some, refl, sym, ap, ◌∙◌, if◌then◌else◌}
use Rattle.std.specs.FinMap.{get, len, len-insert, len-remove}
use Rattle.ghg_units.specs.declared.row.Act.{Act}
use Rattle.ghg_units.specs.declared.row.Act.TheVariants.{Enter, Correct, Withdraw}
use Rattle.ghg_units.specs.declared.row.Row.{Row}
use Rattle.ghg_units.specs.declared.row.RowForm.{RowForm}
use Rattle.ghg_units.specs.declared.row.RowForm.TheVariants as forms
use Rattle.ghg_units.specs.declared.rule.Rule.{Rule}
use Rattle.ghg_units.specs.WellFormed.{IsForm, IsWellFormed, withdraws}
use Rattle.ghg_definitions.specs.declared.record.Record.{Record}
use Rattle.ghg_definitions.specs.declared.record.RecordKey.{RecordKey}
use Rattle.ghg_definitions.specs.Data.{Data}
use Rattle.ghg_definitions.specs.Rows.{after_row, key_of, record_of, with_record}
use Rattle.ghg_definitions.specs.Rules.{breaks_unit, presence_fault, row_fault}
use Rattle.ghg_definitions.proofs.Keys.{keys_total}
use Rattle.ghg_data.specs.Counts.{count_after}

-- a form has a record exactly where its row does not withdraw
pub shape : (away : Bool) (form : RowForm) → IsForm away form → is_some (record_of form) ≡ not away
shape away (forms.Span None) h = ap not (sym h)
shape away (forms.Span (Some s)) h = ap not (sym h.0)
shape away (forms.Activity name year None) h = ap not (sym h.0)
shape away (forms.Activity name year (Some f)) h = ap not (sym h.0)
shape away (forms.Factor name year None) h = ap not (sym h.0)
shape away (forms.Factor name year (Some f)) h = ap not (sym h.0)
shape away (forms.Line name None) h = ap not (sym h.0)
shape away (forms.Line name (Some e)) h = ap not (sym h.0)
shape away (forms.Bind line parameter None) h = ap not (sym h.0)
shape away (forms.Bind line parameter (Some b)) h = ap not (sym h.0)
shape away (forms.Uncert line None) h = ap not (sym h.0)
shape away (forms.Uncert line (Some u)) h = ap not (sym h.0)

counted : (m : Data) (k : RecordKey) (c : Option Record) (n : ℕ) (act : Act) (b : Bool) → is_some (get m k) ≡ b → presence_fault n act b ≡ None → is_some c ≡ not (withdraws act) → len (with_record m k c) ≡ count_after act (len m)
counted m k (Some r) n Enter false at e f = len-insert keys_total m k r ∙ ap (λ b. cond b (len m) (len m + 1)) at
counted m k (Some r) n Correct true at e f = len-insert keys_total m k r ∙ ap (λ b. cond b (len m) (len m + 1)) at
counted m k None n Withdraw true at e f = len-remove keys_total m k ∙ ap (λ b. cond b (len m - 1) (len m)) at
counted m k None n Enter b at e f = absurd (cc)
counted m k None n Correct b at e f = absurd (cc)
counted m k (Some r) n Enter true at e f = absurd (cc)
counted m k (Some r) n Correct false at e f = absurd (cc)
counted m k (Some r) n Withdraw b at e f = absurd (cc)
counted m k None n Withdraw false at e f = absurd (cc)

no_unit : (b : Bool) (w : Rule) (rest : Option Rule) → (if b then Some w else rest) ≡ None → rest ≡ None
no_unit true w rest e = absurd (cc)
no_unit false w rest e = e

pub keeps_presence : (m : Data) (row : Row) → row_fault m row ≡ None → presence_fault row.number row.act (is_some (get m (key_of row.form))) ≡ None
unfolding row_fault
keeps_presence m row e = no_unit (breaks_unit m row.form) _ _ e

pub row_counted : (m : Data) (row : Row) → IsWellFormed row → row_fault m row ≡ None → len (after_row m row) ≡ count_after row.act (len m)
row_counted m row well e =
    counted m (key_of row.form) (record_of row.form) row.number row.act (is_some (get m (key_of row.form))) refl (keeps_presence m row e) (shape (withdraws row.act) row.form well)
