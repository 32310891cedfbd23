-- Where the lines of edited records come and go, other lines emit a gas, and nowhere else.
use Rattle.std.proofs.Common.{◌≡◌, inl, inr, Bool, true, false, not, if◌then◌else◌, is_eq, List, [], ◌∷◌, filter, is_some, option_and_then, Some, None, refl, sym, ap, ap₂, ◌∙◌, subst}
use Rattle.std.proofs.lemmas.Cmp.{tied_itself}
use Rattle.std.proofs.lemmas.List.Kept.{IsStrictlySortedBy-filter}
use Rattle.std.proofs.lemmas.Slice.Eq.{slice_eq-Decides}
use Rattle.std.specs.Bool.{Decides, beq}
use Rattle.std.specs.Cmp.Lexicographic.{nat_list_cmp_total, pointwise}
use Rattle.std.specs.FinMap.{get}
use Rattle.std.specs.List.{Contains, filter_map, list_any}
use Rattle.std.specs.List.Sorted.{IsStrictlySortedBy}
use Rattle.std.specs.Option.{option_map_or}
use Rattle.std.specs.Ordering.{eq_by_cmp}
use Rattle.ghg_categories.specs.declared.category.Category.{Category}
use Rattle.ghg_categories.specs.Tree.{stands_under, tree}
use Rattle.ghg_equations.specs.Quantity.{gas_of}
use Rattle.ghg_equations.specs.Table.{output}
use Rattle.ghg_definitions.specs.declared.record.RecordKey.{RecordKey}
use Rattle.ghg_definitions.specs.declared.record.RecordKey.TheVariants as key
use Rattle.ghg_definitions.specs.Compilation.{counts_in_gross, emits, gas_lines, gas_lines_at}
use Rattle.ghg_definitions.specs.Data.{Data, Name, as_category, as_line, category, line_names, name_cmp}
use Rattle.ghg_definitions.specs.Listed.{IsListed}
use Rattle.ghg_definitions.proofs.Depth.{or_else}
use Rattle.ghg_definitions.proofs.Keys.{equal_by, names_same}
use Rattle.ghg_definitions.proofs.Lines.{lines_sorted}
use Rattle.ghg_definitions.proofs.Listed.{contained, from_any, from_filter, from_filter_map, listed, listed_any, listed_filter, listed_filter_map}
use Rattle.ghg_definitions.proofs.NodeLists.{gas_lines_are}
use Rattle.ghg_affected.proofs.Bools.{never_so, true_not_false}
use Rattle.ghg_affected.proofs.Dependence.{same_lists}
use Rattle.ghg_graph.specs.Moves.{AreMoved, are_moved, crosses, emits_at, move_of}
use Rattle.ghg_graph.specs.declared.moves.Move.{Move}
use Rattle.ghg_graph.specs.declared.moves.Moved.{Moved}
use Rattle.ghg_graph.proofs.Reaching.{same_truth}

name_decides : (x y : Name) → Decides (eq_by_cmp name_cmp x y) (x ≡ y)
name_decides x y = (
  λ e. names_same x y (equal_by _ e),
  λ e. ap (eq_by_cmp name_cmp x) (sym e) ∙ ap is_eq (tied_itself nat_list_cmp_total x),
)

lists_decide : (xs ys : List Name) → Decides (pointwise (eq_by_cmp name_cmp) xs ys) (xs ≡ ys)
lists_decide xs ys = slice_eq-Decides name_decides xs ys (pointwise (eq_by_cmp name_cmp) xs ys) refl

unlike : (a b : Bool) → a ≡ b → not (beq a b) ≡ false
unlike true b e = ap (λ c. not (beq true c)) (sym e)
unlike false b e = ap (λ c. not (beq false c)) (sym e)

-- ---- the lines that emit a gas at categories that pass

module _ (test : Category → Bool) (m : Data) where
  abbrev both : List Name → List Name
  both ks = filter (λ k. option_map_or test (emits_at m k) false) ks

  abbrev in_turn : List Name → List Name
  in_turn ks = filter (λ k. option_map_or test (category m k) false) ks

  emitting : (names : List Name) → both names ≡ in_turn (filter (emits m) names)
  emitting [] = refl
  emitting (name ∷ names) = by (emits m name) refl (emitting names)
    where
      at_once : (b : Bool) → emits m name ≡ b → both (name ∷ names)
          ≡ (if option_map_or test (if b then category m name else None) false then name ∷ both names else both names)
      at_once b e = ap (λ a. if option_map_or test (if a then category m name else None) false then name ∷ both names else both names) e

      after : (b : Bool) → emits m name ≡ b
          → in_turn (if b then name ∷ filter (emits m) names else filter (emits m) names) ≡ in_turn (filter (emits m) (name ∷ names))
      after b e = sym (ap (λ a. in_turn (if a then name ∷ filter (emits m) names else filter (emits m) names)) e)

      by : (b : Bool) → emits m name ≡ b → both names ≡ in_turn (filter (emits m) names)
          → both (name ∷ names) ≡ in_turn (filter (emits m) (name ∷ names))
      by true e rest = at_once true e
          ∙ ap (λ ks. if option_map_or test (category m name) false then name ∷ ks else ks) rest ∙ after true e
      by false e rest = at_once false e ∙ rest ∙ after false e

  -- those at whose category they emit one
  pub emitting_lines : (names : List Name) → names ≡ line_names m → both names ≡ gas_lines_at test m
  emitting_lines names e = ap both e ∙ emitting (line_names m)

module _ (test : Category → Bool) where
  abbrev at : Data → Name → Bool
  at m name = option_map_or test (emits_at m name) false

  listed_at : (m : Data) (name : Name) → at m name ≡ true → IsListed name (gas_lines_at test m)
  listed_at m name e = by (emits m name) refl e
    where
      by : (b : Bool) → emits m name ≡ b → option_map_or test (if b then category m name else None) false ≡ true
          → IsListed name (gas_lines_at test m)
      by true is e = listed_filter (λ k. option_map_or test (category m k) false) name (gas_lines m)
          (listed (gas_lines m) name ((gas_lines_are m name).0 is)) e
      by false is e = absurd (cc)

  at_of : (m : Data) (name : Name) → IsListed name (gas_lines_at test m) → at m name ≡ true
  at_of m name i =
      let from = from_filter (λ k. option_map_or test (category m k) false) name (gas_lines m) i in
      ap (λ b. option_map_or test (if b then category m name else None) false)
      ((gas_lines_are m name).1 (contained (gas_lines m) name from.0)) ∙ from.1

  sorted_at : (m : Data) → IsStrictlySortedBy name_cmp (gas_lines_at test m)
  sorted_at m = IsStrictlySortedBy-filter name_cmp (λ k. option_map_or test (category m k) false) (gas_lines m)
      (IsStrictlySortedBy-filter name_cmp (emits m) (line_names m) (lines_sorted m))

  -- they are the same where each name is among both or none
  same_at : (old new : Data) → ((name : Name) → at old name ≡ at new name)
      → gas_lines_at test old ≡ gas_lines_at test new
  same_at old new h = same_lists (gas_lines_at test old) (gas_lines_at test new) (sorted_at old) (sorted_at new)
      (λ z i. listed_at new z (sym (h z) ∙ at_of old z i))
      (λ z i. listed_at old z (h z ∙ at_of new z i))

  each_at : (old new : Data) → gas_lines_at test old ≡ gas_lines_at test new → (name : Name)
      → at old name ≡ at new name
  each_at old new e name = same_truth _ _
      (λ on. at_of new name (subst (IsListed name) e (listed_at old name on)))
      (λ on. at_of old name (subst (IsListed name) (sym e) (listed_at new name on)))

module _ (old new : Data) (keys : List RecordKey)
    (kept : (k : RecordKey) → (Contains keys k → ⊥) → get old k ≡ get new k) where
  abbrev moves : List Move
  moves = filter_map (move_of old new) keys

  -- where no line crosses, each name stays
  stays_at : (test : Category → Bool) → list_any (crosses test) moves ≡ false → (name : Name)
      → at test old name ≡ at test new name
  stays_at test none name = by (at test old name) (at test new name) refl refl
    where
      unedited : not (beq (at test old name) (at test new name)) ≡ true → at test old name ≡ at test new name
      unedited on = ap (λ o. option_map_or test (if is_some (option_and_then (λ e. gas_of (output e)) (as_line o)) then as_category o else None) false)
          (kept (key.Line name) (λ c. true_not_false (sym (listed_any (crosses test)
          (record { before = emits_at old name; after = emits_at new name }) moves
          (listed_filter_map (move_of old new) (key.Line name) _ keys (listed keys (key.Line name) c) refl) on) ∙ none)))

      by : (a b : Bool) → at test old name ≡ a → at test new name ≡ b → at test old name ≡ at test new name
      by true true e f = e ∙ sym f
      by true false e f = unedited (ap₂ (λ (a b : Bool). not (beq a b)) e f)
      by false true e f = unedited (ap₂ (λ (a b : Bool). not (beq a b)) e f)
      by false false e f = e ∙ sym f

  crossing : (test : Category → Bool) (k : RecordKey) (m : Move) → move_of old new k ≡ Some m
      → crosses test m ≡ true → are_moved old new test ≡ true
  crossing test (key.Line name) m e on = ap not (never_so (pointwise (eq_by_cmp name_cmp) (gas_lines_at test old) (gas_lines_at test new))
      (λ same. true_not_false (sym on ∙ ap (λ o. option_map_or (crosses test) o true) (sym e)
      ∙ unlike _ _ (each_at test old new ((lists_decide _ _).0 same) name))))
  crossing test key.Span m e on = absurd (cc)
  crossing test (key.Activity name year) m e on = absurd (cc)
  crossing test (key.Factor name start) m e on = absurd (cc)
  crossing test (key.Bind name parameter) m e on = absurd (cc)
  crossing test (key.Uncert name) m e on = absurd (cc)

  moved_is : (test : Category → Bool) → list_any (crosses test) moves ≡ are_moved old new test
  moved_is test = same_truth _ _
      (λ e. let found = from_any (crosses test) moves e in
      let from = from_filter_map (move_of old new) found.0 keys found.1 in
      crossing test from.0 found.0 from.2 found.2)
      (λ e. elim (or_else (list_any (crosses test) moves)) [
        | inl on ↦ on
        | inr off ↦ absurd (true_not_false (sym e ∙ ap not ((lists_decide _ _).1 (same_at test old new (stays_at test off)))))
      ])

  pub are_moved_by : (lines : List Move) → lines ≡ moves → (m : Moved)
      → m.tops.items ≡ filter (λ top. list_any (crosses (λ c. stands_under c top)) lines) tree
      → m.gross ≡ list_any (crosses counts_in_gross) lines → AreMoved old new m
  are_moved_by lines e m tops gross = record {
    tops = tops ∙ ap (λ ls. filter (λ top. list_any (crosses (λ c. stands_under c top)) ls) tree) e
        ∙ ap (λ (p : Category → Bool). filter p tree) (λ i top. moved_is (λ c. stands_under c top) i);
    gross = gross ∙ ap (list_any (crosses counts_in_gross)) e ∙ moved_is counts_in_gross;
  }
