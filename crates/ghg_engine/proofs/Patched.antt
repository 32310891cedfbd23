-- Cells of affected nodes in front of those that the data had.
use Rattle.std.proofs.Common.{◌≡◌, ◌≤◌, inl, inr, true, false, List, length, Contains, Option, Some, None, Ok, Err, refl, sym, ap, ◌∙◌, arith}
use Rattle.std.specs.List.Sorted.{IsPermutation}
use Rattle.std.specs.Option.{option_or}
use Rattle.std.proofs.lemmas.List.Sorted.{Contains-permutation, IsPermutation-sym}
use Rattle.ghg_interval.specs.declared.Over.{Over}
use Rattle.ghg_units.specs.declared.node.Node.{Node}
use Rattle.ghg_affected.specs.Affected.{IsAffected, affected_nodes}
use Rattle.ghg_affected.specs.Patches.{least_break}
use Rattle.ghg_affected.proofs.Affected.{affected_nodes_are_listed, affected_or_not}
use Rattle.ghg_affected.proofs.Kept.{overflows_are_in_patches, unaffected_keep}
use Rattle.ghg_affected.proofs.Once.{affected_nodes_stand_once}
use Rattle.ghg_columns.specs.Cells.{found_in}
use Rattle.ghg_columns.specs.Fresh.{NoneOver}
use Rattle.ghg_definitions.specs.Compilation.{compilation, is_node, overflow, sheet_of}
use Rattle.ghg_definitions.specs.Data.{Data}
use Rattle.ghg_definitions.specs.Formulas.{Outcome}
use Rattle.ghg_definitions.specs.Rings.{IsAcyclic}
use Rattle.ghg_definitions.specs.Sound.{IsWorkbook}
use Rattle.ghg_definitions.specs.Trials.{IsCompilation, Outcomes, is_over}
use Rattle.ghg_definitions.proofs.Depth.{or_else}
use Rattle.ghg_definitions.proofs.Listed.{contained, listed}
use Rattle.ghg_definitions.proofs.OneTrial.{compilation_trial}
use Rattle.ghg_search.specs.Found.{ListsAffected}
use Rattle.ghg_engine.specs.Compiled.{IsCompiled}
use Rattle.ghg_engine.specs.Evaluation.{AreEvaluated, AreKept}
use Rattle.ghg_engine.proofs.Compiled.{is_compiled}
use Rattle.ghg_engine.proofs.Counted.{no_more}
use Rattle.ghg_engine.proofs.Distinct.{once_sorted}

module _ (old new : Data) where
  -- as many nodes are listed as are affected
  pub all_affected : (ns : List Node) → ListsAffected old new ns → length ns ≡ length (affected_nodes old new)
  all_affected ns lists =
      let few : length ns ≤ length (affected_nodes old new) = no_more ns (affected_nodes old new) (once_sorted ns lists.order)
      (λ n i. listed _ n ((affected_nodes_are_listed old new n).1 (lists.sound n (contained ns n i)))) in
      let many : length (affected_nodes old new) ≤ length ns = no_more (affected_nodes old new) ns (affected_nodes_stand_once old new)
      (λ n i. listed ns n (lists.complete n ((affected_nodes_are_listed old new n).0 (contained _ n i)))) in
      omega (arith, few, many)

  -- the nodes of the list in any order
  module _ (given ns : List Node) (lists : ListsAffected old new given) (same : IsPermutation given ns) where
    pub are_affected : (n : Node) → Contains ns n → IsAffected old new n
    are_affected n c = lists.sound n (Contains-permutation ns given n (IsPermutation-sym given ns same) c)

    pub affected_are : (n : Node) → IsAffected old new n → Contains ns n
    affected_are n a = Contains-permutation given ns n same (lists.complete n a)

    -- what is evaluated is not over
    pub fresh_fits : IsCompilation (sheet_of new) (compilation new) → (fresh : Outcomes) → AreEvaluated new ns fresh → NoneOver fresh
    fresh_fits whole fresh evaluated n = by (fresh n) refl
      where
        clash : (over : Over) → ◌≡◌ {A = Option Outcome} (Some (Err over)) None → ⊥
        clash over e = cc

        by : (o : Option Outcome) → fresh n ≡ o → is_over o ≡ false
        by None e = refl
        by (Some (Ok x)) e = refl
        by (Some (Err over)) e = elim (affected_or_not old new n) [
          | inl a ↦ absurd (whole.fits n over (sym (evaluated.outcomes_are n (affected_are n a)) ∙ e))
          | inr free ↦ absurd (clash over (sym e ∙ evaluated.no_others n (λ i. free (are_affected n i))))
        ]

    module _ (workbook : IsWorkbook new) (after : IsAcyclic new) (outcomes : Outcomes) (is : IsCompiled old outcomes) where
      breaks_among : overflow new ≡ least_break new ns
      breaks_among = overflows_are_in_patches old new workbook is.acyclic after is.none_over ns affected_are

      -- what is not affected keeps its outcome
      pub unaffected_kept : AreKept new ns outcomes
      unaffected_kept n node off =
          let keeps = unaffected_keep old new workbook is.acyclic after n node (λ a. off (affected_are n a)) in
          is.outcomes_are n keeps.node ∙ keeps.outcome

      pub fresh_compiled : (fresh : Outcomes) → AreEvaluated new ns fresh → IsCompiled new (found_in fresh (compilation old))
      fresh_compiled fresh evaluated = is_compiled new workbook after (breaks_among ∙ evaluated.none) (found_in fresh (compilation old)) (λ n node. elim (affected_or_not old new n) [
        | inl a ↦
            let there = (compilation_trial new after).by_formula n node in
            ap (λ o. option_or o (compilation old n)) (evaluated.outcomes_are n (affected_are n a) ∙ there) ∙ sym there
        | inr free ↦ ap (λ o. option_or o (compilation old n)) (evaluated.no_others n (λ c. free (are_affected n c)))
            ∙ (unaffected_keep old new workbook is.acyclic after n node free).outcome
      ])

      pub fresh_over : (n : Node) → least_break new ns ≡ Some n → overflow new ≡ Some n
      fresh_over n e = breaks_among ∙ e

  -- ---- in front of cells that are the compilation of the old data at its nodes

  module _ (kept fresh : Outcomes) (is : IsCompiled old kept) (over : IsCompiled new (found_in fresh (compilation old))) where
    in_front : (n : Node) → is_node new n ≡ true → found_in fresh kept n ≡ compilation new n
    in_front n node = by (fresh n) refl
      where
        behind : compilation old n ≡ compilation new n → kept n ≡ compilation new n
        behind same = elim (or_else (is_node old n)) [
          | inl there ↦ is.outcomes_are n there ∙ same
          | inr none ↦ absurd (clash _ (sym ((compilation_trial old is.acyclic).nowhere_else n none) ∙ same ∙ (compilation_trial new over.acyclic).by_formula n node))
        ]
          where
            clash : (x : Outcome) → ◌≡◌ {A = Option Outcome} None (Some x) → ⊥
            clash x e = cc

        by : (o : Option Outcome) → fresh n ≡ o → option_or o (kept n) ≡ compilation new n
        by None e = behind (sym (ap (λ o. option_or o (compilation old n)) e) ∙ over.outcomes_are n node)
        by (Some x) e = sym (ap (λ o. option_or o (compilation old n)) e) ∙ over.outcomes_are n node

    pub front_compiled : IsCompiled new (found_in fresh kept)
    front_compiled = record {
      workbook = over.workbook;
      acyclic = over.acyclic;
      outcomes_are = in_front;
      fits = over.fits;
      none_over = over.none_over;
      contained = over.contained;
    }
