-- What is known of edits while their nodes are evaluated.
use Rattle.std.proofs.Common.{◌≡◌, ℕ, false, not, ◌&&◌, ◌||◌, List, [], Contains, Result, Ok, Err, map, sym, ap, ◌∙◌, subst}
use Rattle.std.specs.Prelude.{MatchResult}
use Rattle.std.proofs.Math.Path.{fun_ext}
use Rattle.std.specs.FinMap.{get}
use Rattle.std.specs.List.Sorted.{IsPermutation}
use Rattle.std.proofs.lemmas.List.Sorted.{Contains-permutation, IsPermutation-sym}
use Rattle.ghg_units.specs.declared.node.Node.{Node}
use Rattle.ghg_units.specs.declared.node.Node.TheVariants as node
use Rattle.ghg_affected.specs.Affected.{IsAffected}
use Rattle.ghg_affected.proofs.Affected.{affected_is_node}
use Rattle.ghg_columns.specs.declared.fresh.FreshCells.{FreshCells}
use Rattle.ghg_columns.specs.Fresh.{fresh_at}
use Rattle.ghg_definitions.specs.declared.record.RecordKey.{RecordKey}
use Rattle.ghg_definitions.specs.Data.{Data, Name}
use Rattle.ghg_definitions.specs.Rings.{IsAcyclic}
use Rattle.ghg_definitions.specs.Sound.{IsWorkbook}
use Rattle.ghg_definitions.specs.Trials.{Outcomes}
use Rattle.ghg_definitions.proofs.Listed.{listed}
use Rattle.ghg_data.specs.Changes.{Change, applied}
use Rattle.ghg_graph.proofs.Corrected.{kept_record}
use Rattle.ghg_layers.specs.declared.buckets.Layers.{Layers}
use Rattle.ghg_layers.specs.Layers.{AreDistinctNodes, AreLayers}
use Rattle.ghg_layers.proofs.InTurn.{layers_are_in_turn}
use Rattle.ghg_search.specs.Found.{ListsAffected}
use Rattle.ghg_shifts.specs.Noted.{AreNoted}
use Rattle.ghg_shifts.specs.Progress.{IsEdit, has_equivalent, is_edited, is_gone}
use Rattle.ghg_shifts.proofs.Leaves.{same_truth}
use Rattle.ghg_shifts.proofs.Progress.{equivalent_listed, listed_equivalent}
use Rattle.ghg_engine.specs.declared.notes.Notes.{Notes}
use Rattle.ghg_engine.specs.declared.refusal.EngineRefusal.{EngineRefusal}
use Rattle.ghg_engine.specs.declared.refusal.EngineRefusal.TheVariants as refusal
use Rattle.ghg_engine.specs.Compiled.{IsCompiled}
use Rattle.ghg_engine.specs.Evaluation.{AreEvaluated, AreInTurn, AreKept, NamesLeastBreak}
use Rattle.ghg_engine.specs.Notes.{AreNotes}
use Rattle.ghg_engine.specs.Proposals.{IsArranged, IsFresh, NamesOverflow}
use Rattle.ghg_engine.specs.Views.{EngineView}
use Rattle.ghg_engine.proofs.Distinct.{once_moved, once_sorted}
use Rattle.ghg_engine.proofs.Patched.{affected_are, are_affected, fresh_compiled, fresh_fits, fresh_over, unaffected_kept}

-- The cells are the compilation of the old data. The new ones are a workbook without a ring, whose records
-- differ at the keys alone, and the nodes are those that are affected.
pub record AreUnderWay (old new : Data) (keys : List RecordKey) (given : List Node) (kept : Outcomes) : Type 0 where
  pub compiled : IsCompiled old kept
  pub workbook : IsWorkbook new
  pub after : IsAcyclic new
  pub others : (k : RecordKey) → (Contains keys k → ⊥) → get old k ≡ get new k
  pub lists : ListsAffected old new given

-- so it is with edits that were arranged on an engine
pub under_way : (engine : EngineView) (inside records : Data) (edits : List Change) (keys : List RecordKey) (given : List Node) (kept : Outcomes) → inside ≡ engine.content → records ≡ applied inside edits
    → keys ≡ map (λ c. c.0) edits → IsCompiled inside kept → IsArranged engine edits → ListsAffected engine.content (applied engine.content edits) given → AreUnderWay engine.content records keys given kept
under_way engine inside records edits keys given kept is made all compiled arranged lists =
    subst (λ n. AreUnderWay engine.content n keys given kept) (sym (made ∙ ap (λ m. applied m edits) is)) (record {
      compiled = subst (λ m. IsCompiled m kept) is compiled;
      workbook = arranged.planned.workbook;
      after = arranged.acyclic;
      others = kept_record engine.content edits keys all;
      lists = lists;
    })

module _ (old new : Data) (keys : List RecordKey) (given : List Node) (kept : Outcomes) (are : AreUnderWay old new keys given kept) where
  is_edit : (ns : List Node) → ((n : Node) → IsAffected old new n → Contains ns n) → ((n : Node) → Contains ns n → IsAffected old new n) → IsEdit old new keys ns
  is_edit ns complete sound = record {
    was = are.compiled.workbook;
    change = record { before = are.compiled.acyclic; fits = are.compiled.none_over; workbook = are.workbook; after = are.after };
    others = are.others;
    affected = complete;
    nodes = λ n c. affected_is_node old new n (sound n c);
  }

  pub edit_given : IsEdit old new keys given
  edit_given = is_edit given are.lists.complete are.lists.sound

  pub distinct_nodes : AreDistinctNodes new given
  distinct_nodes = record { once = once_sorted given are.lists.order; nodes = λ n c. affected_is_node old new n (are.lists.sound n c) }

  -- the same nodes in another order
  module _ (ns : List Node) (same : IsPermutation given ns) where
    pub edit_moved : IsEdit old new keys ns
    edit_moved = is_edit ns (affected_are old new given ns are.lists same) (are_affected old new given ns are.lists same)

    pub kept_moved : AreKept new ns kept
    kept_moved = unaffected_kept old new given ns are.lists same are.workbook are.after kept are.compiled

    pub notes_moved : (notes : Notes) → AreNotes old new keys given [] notes → AreNotes old new keys ns [] notes
    notes_moved notes noted = record {
      noted = record {
        noted = subst (λ come. AreNoted old new (is_gone keys []) come notes.shifts) (fun_ext (λ year. fun_ext (λ name. ap (λ b. (is_edited keys name && not b) || false) (alike year name)))) noted.noted.noted;
        among = λ n c. absurd (listed [] n c);
      };
      edited = noted.edited;
    }
      where
        alike : (year : ℕ) (name : Name) → has_equivalent given year name ≡ has_equivalent ns year name
        alike year name = same_truth _ _
            (λ e. equivalent_listed ns year name (Contains-permutation given ns (node.Equiv name year) same (listed_equivalent given year name e)))
            (λ e. equivalent_listed given year name (Contains-permutation ns given (node.Equiv name year) (IsPermutation-sym given ns same) (listed_equivalent ns year name e)))

    -- what is evaluated is the compilation of the new data over that of the old
    is_fresh : (fresh : FreshCells) → AreEvaluated new ns (fresh_at fresh) → IsFresh old new fresh
    is_fresh fresh evaluated =
        let compiled = fresh_compiled old new given ns are.lists same are.workbook are.after kept are.compiled (fresh_at fresh) evaluated in
        record { compiled = compiled; none_over = fresh_fits old new given ns are.lists same compiled.fits (fresh_at fresh) evaluated }

    is_over : (r : EngineRefusal) → NamesLeastBreak new ns r → NamesOverflow new r
    is_over (refusal.Overflow n) e = fresh_over old new given ns are.lists same are.workbook are.after kept are.compiled n e
    is_over refusal.Memory e = tt

    pub is_answered : (r : Result FreshCells EngineRefusal) → MatchResult r (λ fresh. AreEvaluated new ns (fresh_at fresh)) (NamesLeastBreak new ns) → MatchResult r (IsFresh old new) (NamesOverflow new)
    is_answered (Ok fresh) h = is_fresh fresh h
    is_answered (Err r) h = is_over r h

  -- the nodes of layers are in turn
  pub in_turn : (l : Layers) → AreLayers new given l → AreInTurn new l.nodes.items
  in_turn l layered = record {
    once = once_moved given l.nodes.items are.lists.order layered.same;
    turn = layers_are_in_turn new given l (λ n c. affected_is_node old new n (are.lists.sound n c)) layered;
  }
