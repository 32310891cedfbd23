-- A total of new data is what it was, less what went and more what came.
use Rattle.std.proofs.Common.{◌≡◌, inl, inr, ℕ, Bool, true, false, not, is_some, ◌&&◌, ◌||◌, cond, List, [], ◌∷◌, map, filter, Option, Some, None, Err, option_and_then, refl, sym, ap, ap₂, ◌∙◌}
use Rattle.std.specs.List.{list_any}
use Rattle.std.specs.List.Sorted.{IsStrictlySortedBy}
use Rattle.std.specs.Option.{option_map_or}
use Rattle.std.proofs.lemmas.List.Kept.{IsStrictlySortedBy-filter}
use Rattle.ghg_categories.specs.declared.category.Category.{Category}
use Rattle.ghg_cell.specs.declared.figures.Figures.{Figures}
use Rattle.ghg_cell.specs.declared.input.Input.{Input}
use Rattle.ghg_cell.specs.Totals.{reported, sum_all}
use Rattle.ghg_equations.specs.Quantity.{gas_of}
use Rattle.ghg_equations.specs.Table.{output}
use Rattle.ghg_units.specs.declared.node.Node.TheVariants as node
use Rattle.ghg_definitions.specs.Compilation.{compilation, emits, gas_lines, gas_lines_at, is_in_tree, is_node, is_year_of, overflow, sheet_of}
use Rattle.ghg_definitions.specs.Data.{Data, Name, as_category, as_line, category, line_names, name_cmp, span}
use Rattle.ghg_definitions.specs.Listed.{IsListed}
use Rattle.ghg_definitions.specs.Rings.{IsAcyclic}
use Rattle.ghg_definitions.specs.Sound.{IsWorkbook}
use Rattle.ghg_definitions.specs.Trials.{IsCompilation, is_over}
use Rattle.ghg_definitions.proofs.Alike.{both, first_so, second_so}
use Rattle.ghg_definitions.proofs.Depth.{or_else}
use Rattle.ghg_definitions.proofs.Grounded.{line_listed}
use Rattle.ghg_definitions.proofs.Lines.{lines_sorted}
use Rattle.ghg_definitions.proofs.Listed.{from_any, from_filter, listed_any, listed_filter, map_agree}
use Rattle.ghg_definitions.proofs.NodeLists.{emitting}
use Rattle.ghg_definitions.proofs.OneTrial.{overflows_break}
use Rattle.ghg_affected.proofs.Bools.{true_not_false}
use Rattle.ghg_affected.proofs.Dependence.{same_lists}
use Rattle.ghg_affected.proofs.Kept.{unaffected_keep}
use Rattle.ghg_shifts.specs.declared.shift.Shift.{Shift}
use Rattle.ghg_shifts.specs.Laws.{IsExchanged, TotalsAreExchanged, any_over, shifted}
use Rattle.ghg_shifts.specs.Shifts.{AreMoved, any_is_over, counted, counts_in, given_by, input_at, shift_of, total_at}
use Rattle.ghg_shifts.specs.Sums.{exchanged, plus, sum_known}
use Rattle.ghg_shifts.proofs.Sums.{exchanged_is, parts_added}
use Rattle.ghg_shifts.proofs.Leaves.{counted_in_tree, leaves_added, leaves_over, same_truth}
use Rattle.ghg_shifts.proofs.Outcomes.{lines_of, never_over, total_breaks, total_over, total_passes_on, total_sum, total_was}

-- ---- lines that emit a gas at categories that pass

module _ (test : Category → Bool) (m : Data) where
  abbrev pub passes : Name → Bool
  passes name = option_map_or test (category m name) false

  pub sorted_at : IsStrictlySortedBy name_cmp (gas_lines_at test m)
  sorted_at = IsStrictlySortedBy-filter name_cmp passes (gas_lines m) (IsStrictlySortedBy-filter name_cmp (emits m) (line_names m) (lines_sorted m))

  pub stands_at : (name : Name) → IsListed name (gas_lines_at test m) → (emits m name ≡ true) × (passes name ≡ true)
  stands_at name i =
      let at = from_filter passes name (gas_lines m) i in
      ((from_filter (emits m) name (line_names m) at.0).1, at.1)

  pub listed_at : (name : Name) → emits m name ≡ true → passes name ≡ true → IsListed name (gas_lines_at test m)
  listed_at name e f = listed_filter passes name (gas_lines m) (listed_filter (emits m) name (line_names m) (line_listed m name (emitting m name e)) e) f

not_true : (b : Bool) → not b ≡ true → b ≡ false
not_true true e = absurd (true_not_false (sym e))
not_true false e = refl

-- ---- the lines that are not moved

module _ (old new : Data) (year : ℕ) (moved : Name → Bool) (are : AreMoved old new year moved) where
  abbrev stays : Name → Bool
  stays name = not (moved name)

  -- the record tells whether it emits a gas, and where it stands
  emits_still : (name : Name) → stays name ≡ true → emits old name ≡ emits new name
  emits_still name off = ap (λ r. is_some (option_and_then (λ e. gas_of (output e)) (as_line r))) (are.others name (not_true _ off))

  stands_still : (test : Category → Bool) (name : Name) → stays name ≡ true → passes test old name ≡ passes test new name
  stands_still test name off = ap (λ r. option_map_or test (as_category r) false) (are.others name (not_true _ off))

  staying : (test : Category → Bool) → filter stays (gas_lines_at test old) ≡ filter stays (gas_lines_at test new)
  staying test = same_lists (filter stays (gas_lines_at test old)) (filter stays (gas_lines_at test new))
      (IsStrictlySortedBy-filter name_cmp stays (gas_lines_at test old) (sorted_at test old))
      (IsStrictlySortedBy-filter name_cmp stays (gas_lines_at test new) (sorted_at test new))
      (λ k i.
      let is = from_filter stays k (gas_lines_at test old) i in
      let at = stands_at test old k is.0 in
      listed_filter stays k (gas_lines_at test new) (listed_at test new k (sym (emits_still k is.1) ∙ at.0) (sym (stands_still test k is.1) ∙ at.1)) is.1)
      (λ k i.
      let is = from_filter stays k (gas_lines_at test new) i in
      let at = stands_at test new k is.0 in
      listed_filter stays k (gas_lines_at test old) (listed_at test old k (emits_still k is.1 ∙ at.0) (stands_still test k is.1 ∙ at.1)) is.1)

  module _ (before : IsAcyclic old) (workbook : IsWorkbook new) (after : IsAcyclic new) (there : is_year_of (span new) year ≡ true) where
    keeps : (test : Category → Bool) (name : Name) → IsListed name (filter stays (gas_lines_at test new)) → compilation old (node.Equiv name year) ≡ compilation new (node.Equiv name year)
    keeps test name i =
        let is = from_filter stays name (gas_lines_at test new) i in
        (unaffected_keep old new workbook before after (node.Equiv name year) (both (emits new name) _ (stands_at test new name is.0).0 there) (are.unaffected name (not_true _ is.1))).outcome

    -- they give what they gave
    rest_given : (test : Category → Bool) → given_by old year (filter stays (gas_lines_at test old)) ≡ given_by new year (filter stays (gas_lines_at test new))
    rest_given test = ap (λ names. given_by old year names) (staying test)
        ∙ ap sum_known (map_agree (λ name. input_at (compilation old) (node.Equiv name year)) (λ name. input_at (compilation new) (node.Equiv name year))
        (filter stays (gas_lines_at test new)) (λ name i. ap (λ o. input_at (λ k. o) (node.Equiv name year)) (keeps test name i)))

    -- so what the moved ones gave and give is exchanged
    pub exchange : (test : Category → Bool) → exchanged (given_by old year (gas_lines_at test old)) (given_by old year (filter moved (gas_lines_at test old))) (given_by new year (filter moved (gas_lines_at test new)))
        ≡ given_by new year (gas_lines_at test new)
    exchange test =
        ap (λ x. exchanged x gone come) (sym (parts_added (λ name. input_at (compilation old) (node.Equiv name year)) moved (gas_lines_at test old)))
        ∙ exchanged_is gone come (given_by old year (filter stays (gas_lines_at test old)))
        ∙ ap (plus come) (rest_given test)
        ∙ parts_added (λ name. input_at (compilation new) (node.Equiv name year)) moved (gas_lines_at test new)
      where
        gone : Figures
        gone = given_by old year (filter moved (gas_lines_at test old))

        come : Figures
        come = given_by new year (filter moved (gas_lines_at test new))

    -- where one is over, a moved one is
    pub over_moved : IsCompilation (sheet_of old) (compilation old) → (test : Category → Bool) → any_is_over new year (filter moved (gas_lines_at test new)) ≡ any_is_over new year (gas_lines_at test new)
    over_moved whole test = same_truth _ _
        (λ e. let found = from_any over (filter moved (gas_lines_at test new)) e in
        listed_any over found.0 (gas_lines_at test new) (from_filter moved found.0 (gas_lines_at test new) found.1).0 found.2)
        (λ e. let found = from_any over (gas_lines_at test new) e in elim (or_else (moved found.0)) [
          | inl on ↦ listed_any over found.0 (filter moved (gas_lines_at test new)) (listed_filter moved found.0 (gas_lines_at test new) found.1 on) found.2
          | inr off ↦ absurd (true_not_false (sym found.2
              ∙ ap is_over (sym (keeps test found.0 (listed_filter stays found.0 (gas_lines_at test new) found.1 (ap not off))))
              ∙ never_over old before whole (node.Equiv found.0 year)))
        ])
      where
        over : Name → Bool
        over name = is_over (compilation new (node.Equiv name year))

-- ---- the law

pub year_of_total : (m : Data) (top : Option Category) (year : ℕ) → is_node m (total_at top year) ≡ true → is_year_of (span m) year ≡ true
year_of_total m (Some c) year e = second_so _ (is_year_of (span m) year) e
year_of_total m None year e = e

-- a total that is one of new data is one of old data which have its year
was_total : (old new : Data) (top : Option Category) (year : ℕ) → is_node new (total_at top year) ≡ true → is_year_of (span old) year ≡ true → is_node old (total_at top year) ≡ true
was_total old new (Some c) year e on = both _ (is_year_of (span old) year) (first_so _ (is_year_of (span new) year) e) on
was_total old new None year e on = on

map_of_map : {A B C : Type 0} (f : B → C) (g : A → B) (xs : List A) → map f (map g xs) ≡ map (λ x. f (g x)) xs
map_of_map f g [] = refl
map_of_map f g (x ∷ xs) = ap (λ ys. f (g x) ∷ ys) (map_of_map f g xs)

any_of_map : {A B : Type 0} (p : B → Bool) (g : A → B) (xs : List A) → list_any p (map g xs) ≡ list_any (λ x. p (g x)) xs
any_of_map p g [] = refl
any_of_map p g (x ∷ xs) = ap (λ b. p (g x) || b) (any_of_map p g xs)

module _ (old new : Data) (before : IsAcyclic old) (none : overflow old ≡ None) (workbook : IsWorkbook new) (after : IsAcyclic new)
    (year : ℕ) (moved : Name → Bool) (are : AreMoved old new year moved) (top : Option Category) (there : is_node new (total_at top year) ≡ true) where
  whole : IsCompilation (sheet_of old) (compilation old)
  whole = overflows_break old before none

  abbrev shifts : List Shift
  shifts = map (shift_of old new moved moved year) (counted top)

  abbrev kept : Input
  kept = input_at (compilation old) (total_at top year)

  in_year : is_year_of (span new) year ≡ true
  in_year = year_of_total new top year there

  within : (c : Category) → counts_in top c ≡ true → is_in_tree c ≡ true
  within = counted_in_tree new top year there

  -- what is left is what the lines give
  pub shifted_is : shifted kept shifts ≡ given_by new year (lines_of top new)
  shifted_is =
      ap (λ x. exchanged x (sum_all (map (λ (s : Shift). s.went) shifts)) (sum_all (map (λ (s : Shift). s.came) shifts))) (total_was old before whole top year (was_total old new top year there))
      ∙ ap₂ (λ gone come. exchanged (given_by old year (lines_of top old)) gone come)
      (ap sum_all (map_of_map (λ (s : Shift). s.went) (shift_of old new moved moved year) (counted top)) ∙ leaves_added (counts_in top) within old moved year)
      (ap sum_all (map_of_map (λ (s : Shift). s.came) (shift_of old new moved moved year) (counted top)) ∙ leaves_added (counts_in top) within new moved year)
      ∙ exchange old new year moved are before workbook after in_year (counts_in top)

  -- something over came just where one of the lines is over
  pub over_is : any_over shifts ≡ any_is_over new year (lines_of top new)
  over_is = any_of_map (λ (s : Shift). s.over) (shift_of old new moved moved year) (counted top)
      ∙ leaves_over (counts_in top) within new moved year
      ∙ over_moved old new year moved are before workbook after in_year whole (counts_in top)

  pub is_exchanged : IsExchanged old new (total_at top year) shifts
  is_exchanged = elim (or_else (any_is_over new year (lines_of top new))) [
    | inl over ↦ record {
      outcome = total_over new after top year there over
          ∙ sym (ap (λ b. Some (cond b (Err (record {})) (reported (shifted kept shifts)))) (over_is ∙ over));
      breaks = total_passes_on new after top year there over
          ∙ sym (ap (λ b. not b && is_over (Some (reported (shifted kept shifts)))) (over_is ∙ over));
    }
    | inr fits ↦ record {
      outcome = total_sum new after top year there fits
          ∙ ap (λ x. Some (reported x)) (sym shifted_is)
          ∙ sym (ap (λ b. Some (cond b (Err (record {})) (reported (shifted kept shifts)))) (over_is ∙ fits));
      breaks = total_breaks new after top year there fits
          ∙ ap (λ x. is_over (Some (reported x))) (sym shifted_is)
          ∙ sym (ap (λ b. not b && is_over (Some (reported (shifted kept shifts)))) (over_is ∙ fits));
    }
  ]

pub totals_are_exchanged : TotalsAreExchanged
totals_are_exchanged = is_exchanged
