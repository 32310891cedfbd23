-- What is at hand before the nodes of a layer are evaluated, and what their outcomes are.
use Rattle.std.proofs.Common.{◌≡◌, ℕ, ◌+◌, ◌-◌, ◌<◌, ◌≤◌, inl, inr, true, List, Contains, length, get_or, take, drop, Option, Some, refl, sym, ap, ◌∙◌, subst, add-one, arith}
use Rattle.std.specs.Prelude.{IfOk, Result, Ok, Err, slice_get}
use Rattle.std.proofs.lemmas.List.{get_or-drop, get_or-take, length-drop, length-take, take-append-drop}
use Rattle.std.proofs.lemmas.Option.{get_or_from_slice_get, slice_get-get_or, slice_get_read, slice_get_within}
use Rattle.ghg_units.specs.declared.node.Node.{Node}
use Rattle.ghg_affected.proofs.Closed.{inputs_are_nodes}
use Rattle.ghg_definitions.specs.declared.record.RecordKey.{RecordKey}
use Rattle.ghg_definitions.specs.Compilation.{compilation, is_node, sheet_of}
use Rattle.ghg_definitions.specs.Data.{Data}
use Rattle.ghg_definitions.specs.Formulas.{Outcome}
use Rattle.ghg_definitions.specs.Trials.{IsInput, Outcomes, or_blank}
use Rattle.ghg_definitions.proofs.Listed.{contained, in_either, listed}
use Rattle.ghg_layers.specs.declared.buckets.Layers.{Layers}
use Rattle.ghg_layers.specs.Layers.{AreLayers}
use Rattle.ghg_shifts.specs.declared.evaluated.Evaluated.{Evaluated}
use Rattle.ghg_shifts.specs.declared.shifts.Shifts.{Shifts}
use Rattle.ghg_shifts.specs.Noted.{IsOutcomeOf}
use Rattle.ghg_shifts.specs.Progress.{AreNotedBefore, IsEdit}
use Rattle.ghg_shifts.proofs.Progress.{shifts_are}
use Rattle.ghg_columns.specs.Fresh.{fresh_at}
use Rattle.ghg_columns.specs.Overlays.{outcomes_of}
use Rattle.ghg_engine.specs.declared.progress.Progress.{Progress}
use Rattle.ghg_engine.specs.Evaluation.{IsSoFar}
use Rattle.ghg_engine.specs.Layers.{AreReady, IsOutcomeAt}
use Rattle.ghg_engine.specs.Progress.{HasCome}
use Rattle.ghg_engine.proofs.Spans.{not_earlier, not_later, spans, start_of, starts_next}

-- what stands in a part of a list stands in the list, at a place of the part
stands_at : {A : Type 0} (xs : List A) (start end : ℕ) (x : A) → start ≤ end → Contains (take (end - start) (drop start xs)) x
    → (p : ℕ) × (start ≤ p) × (p < end) × (slice_get xs p ≡ Some x)
stands_at xs start end x h c =
    let i = c.0 in
    let within : i < end - start = omega (arith, c.1, length-take (end - start) (drop start xs)) in
    let inside : start + i < length xs = omega (arith, c.1, length-take (end - start) (drop start xs), length-drop start xs) in
    let at : get_or xs (start + i) x ≡ x = sym (get_or-take (end - start) (drop start xs) i x within ∙ get_or-drop start xs i x) ∙ c.2 in (
      start + i,
      omega arith,
      omega (arith, within, h),
      slice_get-get_or xs (start + i) x inside ∙ ap Some at,
    )

module _ (m : Data) (given : List Node) (l : Layers) (are : AreLayers m given l) (layer d : ℕ) (within : layer < length l.ends.items) where
  abbrev start : ℕ
  start = start_of 0 l.ends.items layer

  abbrev end : ℕ
  end = get_or l.ends.items layer d

  -- no input of a node of a layer stands in that layer or behind it
  none_behind : (p : ℕ) (n k : Node) → start ≤ p → p < end → slice_get l.nodes.items p ≡ Some n → IsInput (sheet_of m) k n → Contains (drop start l.nodes.items) k → ⊥
  none_behind p n k on before at input c =
      let inside : start + c.0 < length l.nodes.items = omega (arith, c.1, length-drop start l.nodes.items) in
      let there : slice_get l.nodes.items (start + c.0) ≡ Some k = slice_get-get_or l.nodes.items (start + c.0) k inside ∙ ap Some (sym (get_or-drop start l.nodes.items c.0 k) ∙ c.2) in
      let less = are.behind n k _ _ (record { place = p; there = at; within = refl }) (record { place = start + c.0; there = there; within = refl }) input in
      let low = not_later 0 l.ends.items (length l.nodes.items) layer p d are.ends within before in
      let high = not_earlier 0 l.ends.items (length l.nodes.items) layer (start + c.0) are.ends (omega arith) (omega arith) in absurd (omega (arith, less, low, high))

  -- so all that the nodes of a layer take is at hand once the layers before it are done
  pub layer_ready : (old : Data) (keys : List RecordKey) → IsEdit old m keys l.nodes.items → (found fresh : Outcomes) (least : Option Node) → IsSoFar m (take start l.nodes.items) (drop start l.nodes.items) found fresh least
      → (shifts : Shifts) → AreNotedBefore old m keys l.nodes.items (take start l.nodes.items) shifts → AreReady old m found shifts (take (end - start) (drop start l.nodes.items))
  layer_ready old keys edit found fresh least so_far shifts noted n c =
      let span = spans 0 l.ends.items (length l.nodes.items) layer d are.ends within in
      let at = stands_at l.nodes.items start end n (omega (arith, span.0)) c in
      let behind : (k : Node) → IsInput (sheet_of m) k n → Contains (drop start l.nodes.items) k → ⊥ = λ k input there. none_behind at.0 n k at.1 at.2 at.3 input there in
      let node : is_node m n ≡ true = edit.nodes n (in_all at.0 n at.3) in
      record {
        change = edit.change;
        node = node;
        inputs_are = λ k input. so_far.agree k (inputs_are_nodes m edit.change.workbook k n input) (behind k input);
        shifts_are = λ top year is. shifts_are old m keys l.nodes.items edit (take start l.nodes.items) shifts noted top year (subst (λ k. is_node m k ≡ true) is node)
            (λ k input there. before k there (behind k (subst (IsInput (sheet_of m) k) (sym is) input)));
      }
    where
      in_all : (p : ℕ) (n : Node) → slice_get l.nodes.items p ≡ Some n → Contains l.nodes.items n
      in_all p n at = (p, slice_get_within l.nodes.items p n at, get_or_from_slice_get l.nodes.items p n n at)

      before : (k : Node) → Contains l.nodes.items k → (Contains (drop start l.nodes.items) k → ⊥) → Contains (take start l.nodes.items) k
      before k there none = elim (in_either k (take start l.nodes.items) (drop start l.nodes.items) (listed _ k (subst (λ ks. Contains ks k) (sym (take-append-drop start l.nodes.items)) there))) [
        | inl i ↦ contained (take start l.nodes.items) k i
        | inr i ↦ absurd (none (contained (drop start l.nodes.items) k i))
      ]

-- the same over lists that are those of the layers
module _ (old new : Data) (keys : List RecordKey) (given : List Node) (l : Layers) (are : AreLayers new given l)
    (all : List Node) (ends : List ℕ) (same : all ≡ l.nodes.items) (same_ends : ends ≡ l.ends.items)
    (layer start : ℕ) (within : layer < length ends) (at : start ≡ start_of 0 l.ends.items layer) where
  inside : layer < length l.ends.items
  inside = subst (λ es. layer < length es) same_ends within

  end_is : get_or ends layer 0 ≡ get_or l.ends.items layer 0
  end_is = ap (λ es. get_or es layer 0) same_ends

  pub layer_span : (start < get_or ends layer 0) × (get_or ends layer 0 ≤ length all)
  layer_span =
      let span = spans 0 l.ends.items (length l.nodes.items) layer 0 are.ends inside in
      let long = ap length same in (omega (arith, span.0, at, end_is), omega (arith, span.1, long, end_is))

  pub next_start : get_or ends layer 0 ≡ start_of 0 l.ends.items (layer + 1)
  next_start = end_is ∙ sym (ap (start_of 0 l.ends.items) (add-one layer) ∙ starts_next 0 l.ends.items layer 0 inside)

  pub ready_layer : IsEdit old new keys l.nodes.items → (p : Progress) → HasCome old new keys l.nodes.items start p
      → AreReady old new (outcomes_of p.cells) p.notes.shifts (take (get_or ends layer 0 - start) (drop start all))
  ready_layer edit p come =
      let there = subst (λ s. HasCome old new keys l.nodes.items s p) at come in
      let ready = layer_ready new given l are layer 0 inside old keys edit (outcomes_of p.cells) (fresh_at p.cells.fresh) p.least there.cells p.notes.shifts there.notes.noted in
      subst (λ ns. AreReady old new (outcomes_of p.cells) p.notes.shifts (take (get_or ends layer 0 - start) (drop start ns))) (sym same)
      (subst (λ e. AreReady old new (outcomes_of p.cells) p.notes.shifts (take (e - start) (drop start l.nodes.items))) (sym end_is)
      (subst (λ s. AreReady old new (outcomes_of p.cells) p.notes.shifts (take (get_or l.ends.items layer 0 - s) (drop s l.nodes.items))) (sym at) ready))

module _ (nodes : List Node) (i : ℕ) (n : Node) (within : i < length nodes) (at : n ≡ get_or nodes i n) where
  -- the node at a place is found there
  pub stands_there : slice_get nodes i ≡ Some n
  stands_there = slice_get_read nodes (length nodes) i n refl within at

  is_node_at : (k : Node) → slice_get nodes i ≡ Some k → n ≡ k
  is_node_at k there = some_same n k (sym stands_there ∙ there)
    where
      some_same : (a b : Node) → ◌≡◌ {A = Option Node} (Some a) (Some b) → a ≡ b
      some_same a b e = cc

  -- the outcome that is put at the node is found there
  pub outcome_there : (m : Data) (x : Outcome) → compilation m n ≡ Some x → (k : Node) → slice_get nodes i ≡ Some k → x ≡ or_blank (compilation m k)
  outcome_there m x is k there =
      ap or_blank (sym is) ∙ ap (λ j. or_blank (compilation m j)) (is_node_at k there)

  -- what the evaluation of the node gives is what its place gives
  pub outcomes_at : {E : Type 0} (m : Data) (r : Result Evaluated E) → IfOk r (IsOutcomeOf m n) → IfOk r (IsOutcomeAt m nodes i)
  outcomes_at m (Ok e) is = λ k there. subst (λ j. IsOutcomeOf m j e) (is_node_at k there) is
  outcomes_at m (Err x) is = tt
