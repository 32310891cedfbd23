-- What is not affected keeps its outcome, and so what breaks is affected.
use mathlib.Core.WellFounded.{Acc}
use Rattle.std.proofs.Common.{◌≡◌, inl, inr, Bool, true, filter, Option, Some, None, Ok, Err, refl, sym, ap, ◌∙◌}
use Rattle.ghg_units.specs.declared.node.Node.{Node}
use Rattle.ghg_affected.specs.Affected.{IsAffected}
use Rattle.ghg_definitions.specs.Compilation.{compilation, first_year, formula, is_node, overflow, sheet_of}
use Rattle.ghg_definitions.specs.Data.{Data, span}
use Rattle.ghg_definitions.specs.Formulas.{Outcome, outcome_of}
use Rattle.ghg_definitions.specs.Lookups.{given}
use Rattle.ghg_definitions.specs.Nodes.{least_node}
use Rattle.ghg_affected.specs.Patches.{BreaksAreAffected, Keeps, OverflowsAreInPatches, UnaffectedKeep}
use Rattle.ghg_definitions.specs.Rings.{IsAcyclic}
use Rattle.ghg_definitions.specs.Sound.{IsWorkbook}
use Rattle.ghg_definitions.specs.Trials.{IsInput, breaks, is_over, or_blank}
use Rattle.ghg_affected.proofs.Affected.{affected_or_not, itself, through, unchanged}
use Rattle.ghg_definitions.proofs.Agreement.{formula_agrees}
use Rattle.ghg_definitions.proofs.Alike.{first_so}
use Rattle.ghg_affected.proofs.Bools.{true_not_false}
use Rattle.ghg_affected.proofs.Closed.{inputs_are_nodes}
use Rattle.ghg_definitions.proofs.Depth.{or_else}
use Rattle.ghg_definitions.proofs.Grounded.{acyclic_grounded}
use Rattle.ghg_definitions.proofs.Least.{least_found, none_found}
use Rattle.ghg_definitions.proofs.NodeOrder.{nodes_same, nodes_total}
use Rattle.ghg_definitions.proofs.OneTrial.{compilation_trial, none_breaks, overflow_breaks, overflows_break}

over_is : (o : Option Outcome) → is_over o ≡ true → ((e : _) → o ≡ Some (Err e) → ⊥) → ⊥
over_is None t fits = cc
over_is (Some (Ok x)) t fits = cc
over_is (Some (Err e)) t fits = fits e refl

over_somewhere : (o : Option Outcome) → o ≡ None → is_over o ≡ true → ⊥
over_somewhere o none e = true_not_false (sym e ∙ ap is_over none)

module _ (old new : Data) (is : IsWorkbook new) (before : IsAcyclic old) (after : IsAcyclic new) where
  keeps_from : (n : Node) → Acc (IsInput (sheet_of new)) n → is_node new n ≡ true → (IsAffected old new n → ⊥)
      → (is_node old n ≡ true) × (compilation old n ≡ compilation new n)
  keeps_from n (Acc.intro _ below) node free =
      let same = unchanged old new n node (λ c. free (itself old new n c)) in (
        same.0,
        (compilation_trial old before).by_formula n same.0
            ∙ ap (λ φ. Some (outcome_of (λ k. or_blank (compilation old k)) φ)) same.1
            ∙ ap Some (formula_agrees (given new) (λ k. or_blank (compilation old k))
            (λ k. or_blank (compilation new k)) (formula new (first_year (span new)) n)
            (λ k i. let input : IsInput (sheet_of new) k n = record { node = node; among = i } in
            ap or_blank (keeps_from k (below k input) (inputs_are_nodes new is k n input)
            (λ a. free (through old new k n a input))).1))
            ∙ sym ((compilation_trial new after).by_formula n node),
      )

  pub keeps : (n : Node) → is_node new n ≡ true → (IsAffected old new n → ⊥) → Keeps old new n
  keeps n node free = let kept = keeps_from n (acyclic_grounded new after n) node free in
      record { node = kept.0; outcome = kept.1 }

  -- what is over is a node
  over_node : (n : Node) → is_over (compilation new n) ≡ true → is_node new n ≡ true
  over_node n e = elim (or_else (is_node new n)) [
    | inl node ↦ node
    | inr none ↦ absurd (over_somewhere (compilation new n)
        ((compilation_trial new after).nowhere_else n none) e)
  ]

  -- what is over is affected, where nothing was over
  pub over_is_affected : overflow old ≡ None → (n : Node) → is_over (compilation new n) ≡ true
      → IsAffected old new n
  over_is_affected none n e = elim (affected_or_not old new n) [
    | inl a ↦ a
    | inr free ↦ absurd (over_is (compilation old n) (ap is_over (keeps n (over_node n e) free).outcome ∙ e)
        ((overflows_break old before none).fits n))
  ]

  pub break_is_affected : overflow old ≡ None → (n : Node) → breaks (sheet_of new) (compilation new) n ≡ true
      → IsAffected old new n
  break_is_affected none n b = over_is_affected none n (first_so (is_over (compilation new n)) _ b)

pub unaffected_keep : UnaffectedKeep
unaffected_keep old new is before after n node free = keeps old new is before after n node free

pub breaks_are_affected : BreaksAreAffected
breaks_are_affected old new is before after none n b = break_is_affected old new is before after none n b

pub overflows_are_in_patches : OverflowsAreInPatches
overflows_are_in_patches old new is before after none ns complete = by (overflow new) refl
  where
    passes : Node → Bool
    passes = breaks (sheet_of new) (compilation new)

    by : (o : Option Node) → overflow new ≡ o → o ≡ least_node (filter passes ns)
    by None e = sym (none_found nodes_total passes ns (λ n c b. none_breaks new e n b))
    by (Some n) e =
        let first = overflow_breaks new n e in
        sym (least_found nodes_total passes ns nodes_same n
        (complete n (break_is_affected old new is before after none n first.first)) first.first
        (λ k c b. first.least k b))
