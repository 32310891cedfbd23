-- The next of the nodes is taken in.
use Rattle.std.proofs.Common.{rules, ◌≡◌, ℕ, ◌+◌, ◌-◌, ◌<◌, ◌≤◌, List, [], ◌∷◌, ◌++◌, length, get_or, take, drop, Option, Some, None, Result, Ok, Err, IsSomeAnd, Vec, Global, sym, ap, ◌∙◌, subst, arith}
use Rattle.std.specs.Prelude.{IsSome, OnOk, slice_get, slice_index_or}
use Rattle.std.proofs.lemmas.List.{get_or-drop, get_or-take, length-drop, length-take}
use Rattle.std.proofs.lemmas.Option.{get_or_from_slice_get, slice_get-get_or, slice_get_within}
use Rattle.ghg_units.specs.declared.node.Node.{Node}
use Rattle.ghg_affected.specs.Counts.{StandOnce}
use Rattle.ghg_columns.specs.Cells.{with_outcome}
use Rattle.ghg_columns.specs.Fresh.{fresh_at}
use Rattle.ghg_columns.specs.Overlays.{outcomes_of}
use Rattle.ghg_definitions.specs.declared.record.RecordKey.{RecordKey}
use Rattle.ghg_definitions.specs.Data.{Data}
use Rattle.ghg_shifts.specs.declared.evaluated.Evaluated.{Evaluated}
use Rattle.ghg_workers.specs.Slots.{AreFilled}
use Rattle.ghg_engine.specs.declared.progress.Progress.{Progress}
use Rattle.ghg_engine.specs.Evaluation.{IsSoFar, least_with}
use Rattle.ghg_engine.specs.Layers.{AreOutcomesFrom, IsOutcomeAt}
use Rattle.ghg_engine.specs.Notes.{AreNotes}
use Rattle.ghg_engine.specs.Progress.{HasCome}
use Rattle.ghg_engine.proofs.Noting.{around, next_taken}
use Rattle.ghg_engine.proofs.Ready.{stands_there}
use Rattle.ghg_engine.proofs.Turns.{at_next, none_yet, one_so_far}

pub on_ok : {A E : Type 0} {P Q R : Type 0} (r : Result A E) → OnOk r P → OnOk r Q → (P → Q → R) → OnOk r R
on_ok (Ok x) p q h = h p q
on_ok (Err e) p q h = tt

-- what is taken from a slot that is as it was given
module _ {O : Type 0} (P : O → Type 0) where
  pub slot_is_some : (slot given : Option O) → slot ≡ given → IsSomeAnd given P → IsSome slot
  slot_is_some slot None same h = absurd h
  slot_is_some slot (Some x) same h = subst IsSome (sym same) (search rules)

  pub slot_gives : (slot given : Option O) (x : O) → slot ≡ given → Some x ≡ slot → IsSomeAnd given P → P x
  slot_gives slot None x same taken h = absurd h
  slot_gives slot (Some y) x same taken h = subst P (sym (some_same x y (taken ∙ same))) h
    where
      some_same : (a b : O) → ◌≡◌ {A = Option O} (Some a) (Some b) → a ≡ b
      some_same a b e = cc

module _ (old new : Data) (keys : List RecordKey) (nodes : List Node) (i : ℕ) (n : Node) (within : i < length nodes) (at : n ≡ get_or nodes i n) where
  pub none_at : StandOnce nodes → (p : Progress) → HasCome old new keys nodes i p → fresh_at p.cells.fresh n ≡ None
  none_at once p come =
      none_yet new (take i nodes) n (drop (i + 1) nodes) (outcomes_of p.cells) (fresh_at p.cells.fresh) p.least
      (subst StandOnce (around nodes i n within at) once)
      (at_next new nodes i n within at (outcomes_of p.cells) (fresh_at p.cells.fresh) p.least come.cells)

  pub one_come : (p q : Progress) (e : Evaluated) → HasCome old new keys nodes i p → IsOutcomeAt new nodes i e
      → outcomes_of q.cells ≡ with_outcome (outcomes_of p.cells) n e.outcome → fresh_at q.cells.fresh ≡ with_outcome (fresh_at p.cells.fresh) n e.outcome
      → q.least ≡ least_with p.least e.breaks n → AreNotes old new keys nodes (take (i + 1) nodes) q.notes → HasCome old new keys nodes (i + 1) q
  one_come p q e come outcome cells fresh least notes = record {
    cells = subst (λ ns. IsSoFar new ns (drop (i + 1) nodes) (outcomes_of q.cells) (fresh_at q.cells.fresh) q.least) (sym (next_taken nodes i n within at))
        (subst (IsSoFar new (take i nodes ++ n ∷ []) (drop (i + 1) nodes) (outcomes_of q.cells) (fresh_at q.cells.fresh)) (sym least)
        (one_so_far new (take i nodes) n (drop (i + 1) nodes) (outcomes_of p.cells) (fresh_at p.cells.fresh) (outcomes_of q.cells) (fresh_at q.cells.fresh) p.least e
        (at_next new nodes i n within at (outcomes_of p.cells) (fresh_at p.cells.fresh) p.least come.cells) (outcome n (stands_there nodes i n within at)) cells fresh));
    notes = notes;
  }

-- the slots of a layer have what its nodes give
pub filled_from : (m : Data) (nodes : List Node) (start end count : ℕ) → count ≤ end - start → (slots : Vec (Option Evaluated) Global)
    → AreFilled (IsOutcomeAt m (take (end - start) (drop start nodes))) count slots → AreOutcomesFrom m nodes start slots.items
filled_from m nodes start end count few slots filled k within = some (slice_index_or slots.items k None) (filled.each k (omega (arith, within, filled.long)))
  where
    low : k < end - start
    low = omega (arith, within, filled.long, few)

    there : (n : Node) → slice_get nodes (start + k) ≡ Some n → slice_get (take (end - start) (drop start nodes)) k ≡ Some n
    there n at =
        let inside = slice_get_within nodes (start + k) n at in
        let short : k < length (take (end - start) (drop start nodes)) = omega (arith, low, inside, length-take (end - start) (drop start nodes), length-drop start nodes) in
        slice_get-get_or (take (end - start) (drop start nodes)) k n short
        ∙ ap Some (get_or-take (end - start) (drop start nodes) k n low ∙ get_or-drop start nodes k n ∙ get_or_from_slice_get nodes (start + k) n n at)

    some : (slot : Option Evaluated) → IsSomeAnd slot (IsOutcomeAt m (take (end - start) (drop start nodes)) k) → IsSomeAnd slot (IsOutcomeAt m nodes (start + k))
    some None h = absurd h
    some (Some e) h = λ n at. h n (there n at)
