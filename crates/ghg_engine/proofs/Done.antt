-- What is noted of the nodes that are evaluated, one by one.
use Rattle.std.proofs.Common.{◌≡◌, ℕ, ◌+◌, ◌<◌, true, false, List, [], ◌∷◌, ◌++◌, Contains, length, get_or, take, drop, refl, sym, ap, ◌∙◌, subst}
use Rattle.std.specs.BTreeSet.{contains}
use Rattle.ghg_categories.specs.declared.category.Category.{Category}
use Rattle.ghg_units.specs.declared.node.Node.{Node}
use Rattle.ghg_units.specs.declared.node.Node.TheVariants as node
use Rattle.ghg_affected.specs.Counts.{StandOnce}
use Rattle.ghg_definitions.specs.declared.record.RecordKey.{RecordKey}
use Rattle.ghg_definitions.specs.Compilation.{emits, is_year_of}
use Rattle.ghg_definitions.specs.Data.{Data, Name, name_cmp, span}
use Rattle.ghg_definitions.proofs.Alike.{second_so}
use Rattle.ghg_shifts.specs.declared.shifts.Shifts.{Shifts}
use Rattle.ghg_shifts.specs.Noted.{AreNoted, HasRoom, shift_at, with_line_in}
use Rattle.ghg_shifts.specs.Progress.{AreNotedBefore, IsEdit, has_come, is_edited, is_gone}
use Rattle.ghg_shifts.proofs.Progress.{edited_done, equivalent_done, equivalent_not_come, equivalent_not_gone, notes_have_room, other_node}
use Rattle.ghg_engine.specs.declared.notes.Notes.{Notes}
use Rattle.ghg_engine.specs.Notes.{AreNotes}
use Rattle.ghg_engine.proofs.Noting.{around, next_taken}
use Rattle.ghg_engine.proofs.Turns.{not_before}

module _ (old new : Data) (keys : List RecordKey) (nodes : List Node) (edit : IsEdit old new keys nodes) (i : ℕ) (n : Node) (within : i < length nodes) (at : n ≡ get_or nodes i n)
    (notes : Notes) (are : AreNotes old new keys nodes (take i nodes) notes) where
  abbrev done : List Node
  done = take i nodes

  here : Contains nodes n
  here = (i, within, sym at)

  -- as it is noted, all up to the node are done
  one_more : (edited : Notes) (ns : List Node) → done ++ n ∷ [] ≡ ns → AreNotedBefore old new keys nodes ns edited.shifts → edited.edited ≡ notes.edited → AreNotes old new keys nodes (take (i + 1) nodes) edited
  one_more after ns e noted same = record {
    noted = subst (λ ks. AreNotedBefore old new keys nodes ks after.shifts) (sym (next_taken nodes i n within at ∙ e)) noted;
    edited = λ name. ap (λ names. contains name_cmp names name) same ∙ are.edited name;
  }

  -- a node that is no equivalent
  pub other_done : ((name : Name) (year : ℕ) → n ≡ node.Equiv name year → ⊥) → AreNotes old new keys nodes (take (i + 1) nodes) notes
  other_done never = one_more notes (done ++ n ∷ []) refl (other_node old new keys nodes edit done notes.shifts are.noted n here never) refl

  module _ (name : Name) (year : ℕ) (is : n ≡ node.Equiv name year) where
    there : Contains nodes (node.Equiv name year)
    there = subst (Contains nodes) is here

    on : is_year_of (span new) year ≡ true
    on = second_so (emits new name) _ (edit.nodes (node.Equiv name year) there)

    pub has_room : (leaf : Category) → HasRoom (shift_at notes.shifts year leaf)
    has_room = notes_have_room old new keys nodes edit (is_gone keys done) (has_come keys nodes done) notes.shifts are.noted.noted year on

    pub has_room_gone : (after : Shifts) → AreNoted old new (with_line_in year name (is_gone keys done)) (has_come keys nodes done) after → (leaf : Category) → HasRoom (shift_at after year leaf)
    has_room_gone after noted = notes_have_room old new keys nodes edit (with_line_in year name (is_gone keys done)) (has_come keys nodes done) after noted year on

    module _ (once : StandOnce nodes) where
      first : Contains done (node.Equiv name year) → ⊥
      first c = not_before done n (drop (i + 1) nodes) (subst StandOnce (around nodes i n within at) once) (subst (Contains done) (sym is) c)

      pub not_come : has_come keys nodes done year name ≡ false
      not_come = equivalent_not_come old new keys nodes edit done notes.shifts are.noted name year there first

      pub not_gone : is_edited keys name ≡ false → is_gone keys done year name ≡ false
      not_gone = equivalent_not_gone old new keys nodes edit done notes.shifts are.noted name year there first

    -- of an edited line it comes
    pub come_done : is_edited keys name ≡ true → (after : Notes) → AreNoted old new (is_gone keys done) (with_line_in year name (has_come keys nodes done)) after.shifts → after.edited ≡ notes.edited
        → AreNotes old new keys nodes (take (i + 1) nodes) after
    come_done edited after noted = one_more after (done ++ node.Equiv name year ∷ []) (ap (λ k. done ++ k ∷ []) is) (edited_done old new keys nodes edit done notes.shifts are.noted name year there edited after.shifts noted)

    -- of another it goes and comes
    pub both_done : (after : Notes) → AreNoted old new (with_line_in year name (is_gone keys done)) (with_line_in year name (has_come keys nodes done)) after.shifts → after.edited ≡ notes.edited
        → AreNotes old new keys nodes (take (i + 1) nodes) after
    both_done after noted = one_more after (done ++ node.Equiv name year ∷ []) (ap (λ k. done ++ k ∷ []) is) (equivalent_done old new keys nodes edit done notes.shifts are.noted name year there after.shifts noted)
