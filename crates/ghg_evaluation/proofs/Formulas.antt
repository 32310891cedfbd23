-- What the formulas of lines and equivalents give.
use Rattle.std.proofs.Common.{◌≡◌, ℕ, Bool, true, false, not, ◌&&◌, List, [], ◌∷◌, length, map, Some, Err, is_err, refl, sym, ap, ◌∙◌}
use Rattle.std.proofs.lemmas.List.{length-map}
use Rattle.std.specs.List.{list_any}
use Rattle.std.proofs.Math.Bool.{and-true}
use Rattle.ghg_cell.specs.Totals.{equation_outcome}
use Rattle.ghg_cell.specs.Values.{then}
use Rattle.ghg_columns.specs.Cells.{outcome_in}
use Rattle.ghg_equations.specs.declared.eq_id.EqId.{EqId}
use Rattle.ghg_equations.specs.Table.{Quantity, parameters}
use Rattle.ghg_units.specs.declared.node.Node.TheVariants as node
use Rattle.ghg_definitions.specs.Compilation.{bound_to, first_year, line_formula, sheet_of}
use Rattle.ghg_definitions.specs.Data.{Data, Name, binding, line, span}
use Rattle.ghg_definitions.specs.Formulas.{Computed, Operand, Outcome, gather, inputs, map_formula, map_operand, outcome_of}
use Rattle.ghg_definitions.specs.Lookups.{Source, given}
use Rattle.ghg_definitions.specs.Trials.{Outcomes, is_over}
use Rattle.ghg_shifts.specs.declared.evaluated.Evaluated.{Evaluated}
use Rattle.ghg_evaluation.specs.declared.arguments.Arguments.{Arguments}
use Rattle.ghg_evaluation.specs.Arguments.{IsHeld, operand_outcomes, operands_by}
use Rattle.ghg_evaluation.specs.Evaluation.{IsEvaluatedAt}
use Rattle.ghg_evaluation.specs.Kept.{bindings_of}
use Rattle.ghg_evaluation.proofs.Gathered.{operands_over}

module _ (m : Data) (cells : Outcomes) (name : Name) (year : ℕ) where
  abbrev source : Quantity → Operand Source
  source q = bound_to m (first_year (span m)) year (binding m name q.name)

  given_are : (qs : List Quantity) → map (map_operand (given m)) (map source qs) ≡ operands_by m year (map (λ q. binding m name q.name) qs)
  given_are [] = refl
  given_are (q ∷ qs) = ap (λ os. map_operand (given m) (source q) ∷ os) (given_are qs)

  -- what the parameters of the line take
  abbrev pub taken : EqId → List Outcome
  taken id = operand_outcomes cells (operands_by m year (bindings_of m name id))

  pub taken_count : (id : EqId) → length (taken id) ≡ length (parameters id)
  taken_count id = simp length-map

  module _ (id : EqId) (is : line m name ≡ Some id) (e : Evaluated) where
    formula_is : (sheet_of m).formula (node.Line name year) ≡ Computed id (map source (parameters id))
    formula_is = ap (line_formula m (first_year (span m)) name year) is

    evaluated : e.outcome ≡ then (gather (taken id)) (equation_outcome id) → e.breaks ≡ (is_over (Some e.outcome) && not (is_err (gather (taken id))))
        → IsEvaluatedAt (sheet_of m) cells (node.Line name year) e
    evaluated outcome breaks = record {
      outcome = outcome ∙ ap (λ os. then (gather (operand_outcomes cells os)) (equation_outcome id)) (sym (given_are (parameters id)))
          ∙ ap (λ φ. outcome_of (outcome_in cells) (map_formula (given m) φ)) (sym formula_is);
      breaks = breaks ∙ ap (λ b. is_over (Some e.outcome) && not b)
          (ap (λ os. is_err (gather (operand_outcomes cells os))) (sym (given_are (parameters id))) ∙ operands_over cells (given m) (map source (parameters id)) ∙ ap (λ φ. list_any (λ k. is_over (cells k)) (inputs φ)) (sym formula_is));
    }

    -- none of what is taken is over
    pub line_evaluated : (held : Arguments) → IsHeld (taken id) held → (x : Outcome)
        → ((outcomes : List Outcome) → IsHeld outcomes held → x ≡ then (gather outcomes) (equation_outcome id))
        → e.outcome ≡ x → e.breaks ≡ is_over (Some x) → IsEvaluatedAt (sheet_of m) cells (node.Line name year) e
    line_evaluated held are x value outcome breaks =
        evaluated (outcome ∙ value (taken id) are)
        (breaks ∙ ap (λ y. is_over (Some y)) (sym outcome)
        ∙ sym (ap (λ r. is_over (Some e.outcome) && not (is_err r)) are.gathered ∙ and-true (is_over (Some e.outcome))))

    -- one is, and so is the line, which does not break
    pub line_passed_on : gather (taken id) ≡ Err (record {}) → e.outcome ≡ Err (record {}) → e.breaks ≡ false → IsEvaluatedAt (sheet_of m) cells (node.Line name year) e
    line_passed_on gathered outcome breaks =
        evaluated (outcome ∙ sym (ap (λ r. then r (equation_outcome id)) gathered))
        (breaks ∙ sym (ap (λ r. is_over (Some e.outcome) && not (is_err r)) gathered ∙ and_false (is_over (Some e.outcome))))
      where
        and_false : (b : Bool) → (b && false) ≡ false
        and_false true = refl
        and_false false = refl
