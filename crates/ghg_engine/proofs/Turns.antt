-- How far the evaluation of nodes in turn has come.
use Rattle.std.proofs.Common.{◌≡◌, ℕ, ◌+◌, ◌<◌, ◌≤◌, Bool, true, false, cond, inl, inr, if◌then◌else◌, List, [], ◌∷◌, ◌++◌, Contains, length, filter, get_or, take, drop, Option, Some, None, refl, sym, ap, ap₂, ◌∙◌, subst, add-one, drop-cons}
use Rattle.std.proofs.lemmas.List.{take_all}
use Rattle.ghg_units.specs.declared.node.Node.{Node}
use Rattle.ghg_affected.specs.Counts.{StandOnce}
use Rattle.ghg_affected.specs.Equalities.{same_node}
use Rattle.ghg_affected.specs.Patches.{least_break}
use Rattle.ghg_affected.proofs.Bools.{true_not_false}
use Rattle.ghg_columns.specs.Cells.{found_in, no_outcomes, with_outcome}
use Rattle.ghg_columns.proofs.Places.{node_itself, node_same}
use Rattle.ghg_definitions.specs.Compilation.{compilation, sheet_of}
use Rattle.ghg_definitions.specs.Data.{Data}
use Rattle.ghg_definitions.specs.Formulas.{Outcome}
use Rattle.ghg_definitions.specs.Nodes.{least_node, lesser_node}
use Rattle.ghg_definitions.specs.Trials.{Outcomes, breaks}
use Rattle.ghg_definitions.proofs.Least.{least_found, least_passes, none_found, none_passes}
use Rattle.ghg_definitions.proofs.Listed.{contained, in_either, listed, listed_left, listed_right}
use Rattle.ghg_definitions.proofs.NodeOrder.{nodes_same, nodes_total}
use Rattle.ghg_shifts.specs.declared.evaluated.Evaluated.{Evaluated}
use Rattle.ghg_shifts.specs.Noted.{IsOutcomeOf}
use Rattle.ghg_engine.specs.Evaluation.{AreEvaluated, AreInTurn, AreKept, IsSoFar, least_with}

-- without fresh cells what is kept is found
pub nothing_fresh : (outcomes : Outcomes) → found_in no_outcomes outcomes ≡ outcomes
nothing_fresh outcomes = refl

-- ---- the least that breaks

-- two lists with the same nodes have the same least one
pub same_least : (p : Node → Bool) (xs ys : List Node) → ((n : Node) → Contains xs n → Contains ys n) → ((n : Node) → Contains ys n → Contains xs n) → least_node (filter p xs) ≡ least_node (filter p ys)
same_least p xs ys forth back = by (least_node (filter p xs)) refl
  where
    by : (o : Option Node) → least_node (filter p xs) ≡ o → o ≡ least_node (filter p ys)
    by None e = sym (none_found nodes_total p ys (λ n c t. none_passes nodes_total p xs e n (back n c) t))
    by (Some n) e =
        let found = least_passes nodes_total p xs n e in
        sym (least_found nodes_total p ys nodes_same n (forth n found.0) found.1 (λ k c t. found.2 k (back k c) t))

to_front : (ns : List Node) (n k : Node) → Contains (ns ++ n ∷ []) k → Contains (n ∷ ns) k
to_front ns n k c = contained (n ∷ ns) k (elim (in_either k ns (n ∷ []) (listed (ns ++ n ∷ []) k c)) [
  | inl i ↦ inr i
  | inr i ↦ elim i [ inl e ↦ inl e | inr none ↦ absurd none ]
])

to_back : (ns : List Node) (n k : Node) → Contains (n ∷ ns) k → Contains (ns ++ n ∷ []) k
to_back ns n k c = contained (ns ++ n ∷ []) k (elim (listed (n ∷ ns) k c) [
  | inl e ↦ listed_right k ns (n ∷ []) (inl e)
  | inr i ↦ listed_left k ns (n ∷ []) i
])

least_more : (m : Data) (done : List Node) (n : Node) → least_with (least_break m done) (breaks (sheet_of m) (compilation m) n) n ≡ least_break m (done ++ n ∷ [])
least_more m done n =
    by (passes n) (filter passes done)
    ∙ same_least passes (n ∷ done) (done ++ n ∷ []) (to_back done n) (to_front done n)
  where
    passes : Node → Bool
    passes = breaks (sheet_of m) (compilation m)

    by : (b : Bool) (ks : List Node) → (if b then Some (lesser_node n (least_node ks)) else least_node ks) ≡ least_node (cond b (n ∷ ks) ks)
    by true ks = refl
    by false ks = refl

-- none of them stands before itself
pub not_before : (done : List Node) (n : Node) (rest : List Node) → StandOnce (done ++ n ∷ rest) → Contains done n → ⊥
not_before [] n rest once c = listed [] n c
not_before (d ∷ done) n rest once c = elim (listed (d ∷ done) n c) [
  | inl e ↦ once.0 (contained (done ++ n ∷ rest) d (listed_right d done (n ∷ rest) (inl (sym e))))
  | inr i ↦ not_before done n rest once.1 (contained done n i)
]

-- the nodes from a place on begin with the one there
drop_next : (ns : List Node) (i : ℕ) (n : Node) → n ≡ get_or ns i n → i < length ns → drop i ns ≡ n ∷ drop (i + 1) ns
drop_next ns i n is within = begins ∙ ap (λ k. k ∷ drop (i + 1) ns) (sym is)
  where
    begins : drop i ns ≡ get_or ns i n ∷ drop (i + 1) ns
    begins = rw (add-one, drop-cons ns i n) refl

-- ---- some are evaluated, and the rest is not

module _ (m : Data) where
  pub nothing_so_far : (ns : List Node) → AreInTurn m ns → (found fresh : Outcomes) → AreKept m ns found → fresh ≡ no_outcomes → IsSoFar m [] ns found fresh None
  nothing_so_far ns order found fresh agree none = record {
    agree = agree;
    fresh_are = λ n c. absurd (listed [] n c);
    no_others = λ n off. ap (λ (f : Outcomes). f n) none;
    turn = order.turn;
    least_is = refl;
  }

  module _ (done : List Node) (n : Node) (x : Outcome) (is : compilation m n ≡ Some x) where
    one_kept : (rest : List Node) (found : Outcomes) → AreKept m (n ∷ rest) found → AreKept m rest (with_outcome found n x)
    one_kept rest found agree k node off = by (same_node k n) refl
      where
        by : (b : Bool) → same_node k n ≡ b → cond b (Some x) (found k) ≡ compilation m k
        by true same = sym (ap (compilation m) (node_same k n same) ∙ is)
        by false apart = agree k node (λ c. elim (listed (n ∷ rest) k c) [
          | inl e ↦ true_not_false (sym (ap (λ j. same_node j n) e ∙ node_itself n) ∙ apart)
          | inr i ↦ off (contained rest k i)
        ])

    one_fresh : (fresh : Outcomes) → ((k : Node) → Contains done k → fresh k ≡ compilation m k) → (k : Node) → Contains (done ++ n ∷ []) k → with_outcome fresh n x k ≡ compilation m k
    one_fresh fresh are k c = by (same_node k n) refl
      where
        by : (b : Bool) → same_node k n ≡ b → cond b (Some x) (fresh k) ≡ compilation m k
        by true same = sym (ap (compilation m) (node_same k n same) ∙ is)
        by false apart = are k (elim (listed (n ∷ done) k (to_front done n k c)) [
          | inl e ↦ absurd (true_not_false (sym (ap (λ j. same_node j n) e ∙ node_itself n) ∙ apart))
          | inr i ↦ contained done k i
        ])

    no_more_fresh : (fresh : Outcomes) → ((k : Node) → (Contains done k → ⊥) → fresh k ≡ None) → (k : Node) → (Contains (done ++ n ∷ []) k → ⊥) → with_outcome fresh n x k ≡ None
    no_more_fresh fresh none k off = by (same_node k n) refl
      where
        by : (b : Bool) → same_node k n ≡ b → cond b (Some x) (fresh k) ≡ None
        by true same = absurd (off (to_back done n k (contained (n ∷ done) k (inl (node_same k n same)))))
        by false apart = none k (λ c. off (to_back done n k (contained (n ∷ done) k (inr (listed done k c)))))

  pub one_so_far : (done : List Node) (n : Node) (rest : List Node) (found fresh new_found new_fresh : Outcomes) (least : Option Node) (e : Evaluated) →
      IsSoFar m done (n ∷ rest) found fresh least → IsOutcomeOf m n e → new_found ≡ with_outcome found n e.outcome → new_fresh ≡ with_outcome fresh n e.outcome →
      IsSoFar m (done ++ n ∷ []) rest new_found new_fresh (least_with least e.breaks n)
  one_so_far done n rest found fresh new_found new_fresh least e so_far at is fresh_is = record {
    agree = subst (AreKept m rest) (sym is) (one_kept done n e.outcome at.outcome rest found so_far.agree);
    fresh_are = subst (λ (f : Outcomes). (k : Node) → Contains (done ++ n ∷ []) k → f k ≡ compilation m k) (sym fresh_is) (one_fresh done n e.outcome at.outcome fresh so_far.fresh_are);
    no_others = subst (λ (f : Outcomes). (k : Node) → (Contains (done ++ n ∷ []) k → ⊥) → f k ≡ None) (sym fresh_is) (no_more_fresh done n e.outcome at.outcome fresh so_far.no_others);
    turn = so_far.turn.2;
    least_is = ap₂ (λ (o : Option Node) (b : Bool). least_with o b n) so_far.least_is at.breaks ∙ least_more m done n;
  }

  -- a node that stands behind those that are done has no fresh cell yet
  pub none_yet : (done : List Node) (n : Node) (rest : List Node) (found fresh : Outcomes) (least : Option Node) → StandOnce (done ++ n ∷ rest) → IsSoFar m done (n ∷ rest) found fresh least → fresh n ≡ None
  none_yet done n rest found fresh least once so_far = so_far.no_others n (not_before done n rest once)

  -- the next of the nodes
  pub at_next : (ns : List Node) (i : ℕ) (n : Node) → i < length ns → n ≡ get_or ns i n → (found fresh : Outcomes) (least : Option Node) → IsSoFar m (take i ns) (drop i ns) found fresh least → IsSoFar m (take i ns) (n ∷ drop (i + 1) ns) found fresh least
  at_next ns i n within is found fresh least so_far = subst (λ rest. IsSoFar m (take i ns) rest found fresh least) (drop_next ns i n is within) so_far

  module _ (ns : List Node) (i : ℕ) (over : length ns ≤ i) (found fresh : Outcomes) (least : Option Node) (so_far : IsSoFar m (take i ns) (drop i ns) found fresh least) where
    all_so_far : IsSoFar m ns (drop i ns) found fresh least
    all_so_far = subst (λ done. IsSoFar m done (drop i ns) found fresh least) (take_all i ns over) so_far

    pub ends_evaluated : (cells : Outcomes) → cells ≡ fresh → least ≡ None → AreEvaluated m ns cells
    ends_evaluated cells is none = subst (AreEvaluated m ns) (sym is) (record {
      outcomes_are = all_so_far.fresh_are;
      no_others = all_so_far.no_others;
      none = sym all_so_far.least_is ∙ none;
    })

    pub ends_over : (n : Node) → least ≡ Some n → least_break m ns ≡ Some n
    ends_over n e = sym all_so_far.least_is ∙ e
