-- What is evaluated over the outcomes of the compilation is what it has.
use Rattle.std.proofs.Common.{◌≡◌, inl, inr, Bool, not, ◌&&◌, ◌||◌, List, [], ◌∷◌, Contains, Some, refl, sym, ap, ap₂, ◌∙◌}
use Rattle.std.specs.List.{list_any}
use Rattle.ghg_units.specs.declared.node.Node.{Node}
use Rattle.ghg_definitions.specs.Compilation.{compilation, sheet_of}
use Rattle.ghg_definitions.specs.Data.{Data}
use Rattle.ghg_definitions.specs.Formulas.{inputs}
use Rattle.ghg_definitions.specs.Listed.{IsListed}
use Rattle.ghg_definitions.specs.Trials.{Outcomes, is_over, or_blank}
use Rattle.ghg_definitions.proofs.Agreement.{formula_agrees}
use Rattle.ghg_definitions.proofs.Listed.{contained}
use Rattle.ghg_definitions.proofs.OneTrial.{compilation_trial}
use Rattle.ghg_affected.specs.Patches.{outcome_over}
use Rattle.ghg_shifts.specs.declared.evaluated.Evaluated.{Evaluated}
use Rattle.ghg_shifts.specs.declared.shifts.Shifts.{Shifts}
use Rattle.ghg_shifts.specs.Noted.{IsOutcomeOf}
use Rattle.ghg_evaluation.specs.Evaluation.{IsEvaluatedAt, IsReady}

any_agree : (f g : Node → Bool) (ks : List Node) → ((k : Node) → IsListed k ks → f k ≡ g k) → list_any f ks ≡ list_any g ks
any_agree f g [] h = refl
any_agree f g (k ∷ ks) h = ap₂ (λ (a b : Bool). a || b) (h k (inl refl)) (any_agree f g ks (λ j i. h j (inr i)))

module _ (old m : Data) (outcomes : Outcomes) (shifts : Shifts) (n : Node) (ready : IsReady old m outcomes shifts n) where
  input : (k : Node) → Contains (inputs ((sheet_of m).formula n)) k → outcomes k ≡ compilation m k
  input k c = ready.inputs_are k (record { node = ready.node; among = c })

  same_outcome : compilation m n ≡ Some (outcome_over (sheet_of m) outcomes n)
  same_outcome = (compilation_trial m ready.change.after).by_formula n ready.node
      ∙ ap Some (sym (formula_agrees (sheet_of m).given (λ k. or_blank (outcomes k)) (λ k. or_blank (compilation m k))
      ((sheet_of m).formula n) (λ k c. ap or_blank (input k c))))

  pub of_formula : (e : Evaluated) → IsEvaluatedAt (sheet_of m) outcomes n e → IsOutcomeOf m n e
  of_formula e at = record {
    outcome = is;
    breaks = at.breaks ∙ ap₂ (λ (a b : Bool). a && not b) (ap is_over (sym is))
        (any_agree (λ k. is_over (outcomes k)) (λ k. is_over (compilation m k)) (inputs ((sheet_of m).formula n))
        (λ k i. ap is_over (input k (contained _ k i))));
  }
    where
      is : compilation m n ≡ Some e.outcome
      is = same_outcome ∙ ap Some (sym at.outcome)
