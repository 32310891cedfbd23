-- Totals that are given by their shifts.
use Rattle.std.proofs.Common.{◌≡◌, ℕ, true, false, not, ◌&&◌, cond, List, map, Option, Some, Err, sym, ap, ap₂, ◌∙◌, subst}
use Rattle.ghg_categories.specs.declared.category.Category.{Category}
use Rattle.ghg_cell.specs.declared.input.Input.{Input}
use Rattle.ghg_cell.specs.Totals.{reported}
use Rattle.ghg_cell.specs.Values.{known}
use Rattle.ghg_definitions.specs.Compilation.{compilation, is_node}
use Rattle.ghg_definitions.specs.Data.{Data}
use Rattle.ghg_definitions.specs.Formulas.{Outcome}
use Rattle.ghg_definitions.specs.Trials.{is_over}
use Rattle.ghg_definitions.proofs.Listed.{contained, map_agree}
use Rattle.ghg_shifts.specs.declared.evaluated.Evaluated.{Evaluated}
use Rattle.ghg_shifts.specs.declared.shift.Shift.{Shift}
use Rattle.ghg_shifts.specs.declared.shifts.Counted.{Counted}
use Rattle.ghg_shifts.specs.declared.shifts.Shifts.{Shifts}
use Rattle.ghg_shifts.specs.Extents.{figures_of}
use Rattle.ghg_shifts.specs.Laws.{IsExchanged, any_over, shifted}
use Rattle.ghg_shifts.specs.Noted.{AreShifts, IsChange, IsCounted, IsOutcomeOf, shift_at, shifts_in}
use Rattle.ghg_shifts.specs.Shifts.{counted, input_at, shift_of, total_at}
use Rattle.ghg_shifts.specs.Sums.{AreInOrder, exchanged, most_joined, or_zero}
use Rattle.ghg_shifts.proofs.Exchange.{is_exchanged, shifted_is}
use Rattle.ghg_shifts.proofs.Ordered.{given_in_order}
use Rattle.ghg_shifts.proofs.Outcomes.{lines_of}

module _ (old new : Data) (change : IsChange old new) (year : ℕ) (shifts : Shifts) (top : Option Category) (are : AreShifts old new year top shifts)
    (there : is_node new (total_at top year) ≡ true) (kept : Input) (was : kept ≡ input_at (compilation old) (total_at top year)) where
  abbrev by_definition : List Shift
  by_definition = map (shift_of old new are.moved are.moved year) (counted top)

  same_shifts : shifts_in shifts year top ≡ by_definition
  same_shifts = map_agree (shift_at shifts year) (shift_of old new are.moved are.moved year) (counted top) (λ leaf i. are.each leaf (contained (counted top) leaf i))

  exchange : IsExchanged old new (total_at top year) by_definition
  exchange = is_exchanged old new change.before change.fits change.workbook change.after year are.moved are.all top there

  module _ (c : Counted) (is : IsCounted most_joined (shifts_in shifts year top) c) where
    over_is : c.over ≡ any_over by_definition
    over_is = is.over ∙ ap any_over same_shifts

    pub figures_are : exchanged (or_zero (known kept)) (figures_of c.went) (figures_of c.came) ≡ shifted (input_at (compilation old) (total_at top year)) by_definition
    figures_are = ap₂ (λ gone come. exchanged (or_zero (known kept)) gone come) is.went is.came
        ∙ ap₂ (λ (i : Input) (ss : List Shift). shifted i ss) was same_shifts

    -- they are in order
    pub in_order : AreInOrder (exchanged (or_zero (known kept)) (figures_of c.went) (figures_of c.came))
    in_order = subst AreInOrder
        (sym (figures_are ∙ shifted_is old new change.before change.fits change.workbook change.after year are.moved are.all top there))
        (given_in_order new change.workbook change.after year (lines_of top new))

    -- something over came
    pub total_passed_on : c.over ≡ true → (e : Evaluated) → e.outcome ≡ Err (record {}) → e.breaks ≡ false → IsOutcomeOf new (total_at top year) e
    total_passed_on over e outcome breaks =
        let on = sym over_is ∙ over in
        record {
          outcome = exchange.outcome
              ∙ ap (λ b. Some (cond b (Err (record {})) (reported (shifted (input_at (compilation old) (total_at top year)) by_definition)))) on
              ∙ ap Some (sym outcome);
          breaks = breaks
              ∙ sym (exchange.breaks ∙ ap (λ b. not b && is_over (Some (reported (shifted (input_at (compilation old) (total_at top year)) by_definition)))) on);
        }

    -- nothing over came
    pub total_shifted : c.over ≡ false → (e : Evaluated) (outcome : Outcome) → outcome ≡ reported (exchanged (or_zero (known kept)) (figures_of c.went) (figures_of c.came))
        → e.outcome ≡ outcome → e.breaks ≡ is_over (Some outcome) → IsOutcomeOf new (total_at top year) e
    total_shifted fits e outcome is_reported same breaks =
        let off = sym over_is ∙ fits in
        let value = is_reported ∙ ap reported figures_are in
        record {
          outcome = exchange.outcome
              ∙ ap (λ b. Some (cond b (Err (record {})) (reported (shifted (input_at (compilation old) (total_at top year)) by_definition)))) off
              ∙ ap Some (sym (same ∙ value));
          breaks = breaks ∙ ap (λ o. is_over (Some o)) value
              ∙ sym (exchange.breaks ∙ ap (λ b. not b && is_over (Some (reported (shifted (input_at (compilation old) (total_at top year)) by_definition)))) off);
        }
