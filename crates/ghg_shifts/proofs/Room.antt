-- The shifts of workbooks have room.
use Rattle.std.proofs.Common.{◌≡◌, ◌≤◌, ◌+◌, unsigned_abs, ℕ, Bool, true, false, nat_le, nat_lt, cond, if◌then◌else◌, List, [], ◌∷◌, map, filter, length, Option, Some, None, Result, Ok, Err, refl, sym, ap, ◌∙◌, subst, arith, leb-true, ltb-false, inl, inr}
use Rattle.std.proofs.lemmas.Int.{ints}
use Rattle.std.specs.Option.{option_map_or}
use Rattle.ghg_categories.specs.declared.category.Category.{Category}
use Rattle.ghg_categories.specs.Tree.{is_same}
use Rattle.ghg_cell.specs.declared.figures.Figures.{Figures}
use Rattle.ghg_cell.specs.declared.input.Input.{Input}
use Rattle.ghg_cell.specs.declared.input.Input.TheVariants.{Blank, Known}
use Rattle.ghg_cell.specs.declared.totals.TheConstants.{MOST_PARTS}
use Rattle.ghg_cell.specs.Laws.{IsNested}
use Rattle.ghg_cell.specs.Totals.{are_bounded_by, equivalent, on_both, reported, reported_limit, weighted}
use Rattle.ghg_cell.specs.Values.{input_of, known, then, zero}
use Rattle.ghg_cell.proofs.Sums.{reported_is}
use Rattle.ghg_interval.specs.declared.Over.{Over}
use Rattle.ghg_interval.specs.Bounds.{bound_limit, product}
use Rattle.ghg_interval.specs.Operations.{is_bounded_by}
use Rattle.ghg_units.specs.declared.node.Node.TheVariants as node
use Rattle.ghg_units.specs.declared.rule.Limit.{Limit}
use Rattle.ghg_units.specs.declared.rule.Limit.TheVariants.{Lines}
use Rattle.ghg_definitions.specs.Compilation.{compilation, emits, gas_lines, gas_lines_at, is_node, line_gas, potential, sheet_of}
use Rattle.ghg_definitions.specs.Data.{Data, Name, category, line_names}
use Rattle.ghg_definitions.specs.Formulas.{Outcome}
use Rattle.ghg_definitions.specs.Lookups.{given}
use Rattle.ghg_definitions.specs.Rings.{IsAcyclic}
use Rattle.ghg_definitions.specs.Rules.{most_lines, passed_limit}
use Rattle.ghg_definitions.specs.Sound.{IsWorkbook}
use Rattle.ghg_definitions.specs.Trials.{or_blank, value_of}
use Rattle.ghg_definitions.proofs.Alike.{first_so, second_so}
use Rattle.ghg_definitions.proofs.Chosen.{sources_nested}
use Rattle.ghg_definitions.proofs.Consequences.{points_within}
use Rattle.ghg_definitions.proofs.Depth.{or_else}
use Rattle.ghg_definitions.proofs.Grounded.{acyclic_grounded}
use Rattle.ghg_definitions.proofs.OneTrial.{compilation_trial}
use Rattle.ghg_shifts.specs.Shifts.{given_by, input_at, lines_at_leaf, or_nothing}
use Rattle.ghg_shifts.specs.Progress.{ShiftsHaveRoom}
use Rattle.ghg_shifts.specs.Sums.{AreInOrder, IsSumOf, or_zero}
use Rattle.ghg_shifts.proofs.Limits.{sum_both, sum_within}
use Rattle.ghg_shifts.proofs.Ordered.{outcome_in_order}
use Rattle.ghg_shifts.proofs.Sums.{first_known}

-- ---- how many lines there are

few_lines : (m : Data) → passed_limit m ≡ None → length (line_names m) ≤ most_lines
unfolding passed_limit
few_lines m e = by _ (nat_lt most_lines (length (line_names m))) refl e
  where
    by : (rest : Option Limit) (b : Bool) → nat_lt most_lines (length (line_names m)) ≡ b → (if b then Some Lines else rest) ≡ None → length (line_names m) ≤ most_lines
    by rest true t f = absurd (cc)
    by rest false t f = ltb-false most_lines (length (line_names m)) t

fewer : {A : Type 0} (p : A → Bool) (xs : List A) → length (filter p xs) ≤ length xs
fewer p [] = omega arith
fewer p (x ∷ xs) = by (p x) (fewer p xs)
  where
    by : (b : Bool) → length (filter p xs) ≤ length xs → length (if b then x ∷ filter p xs else filter p xs) ≤ length (x ∷ xs)
    by true h = omega arith
    by false h = omega arith

few_at : (m : Data) → IsWorkbook m → (test : Name → Bool) (leaf : Category) → length (lines_at_leaf test leaf m) ≤ MOST_PARTS
few_at m workbook test leaf =
    let all = few_lines m workbook.limits in
    let some = fewer (emits m) (line_names m) in
    let at = fewer (λ name. option_map_or (λ c. is_same c leaf) (category m name) false) (gas_lines m) in
    let passing = fewer test (gas_lines_at (λ c. is_same c leaf) m) in
    omega (arith, all, some, at, passing)

-- ---- how large an equivalent is

-- what is reported is within its limit
fitting : (x : Figures) (b : Bool) → are_bounded_by reported_limit x ≡ b → (y : Figures) → cond {A = Result Input Over} b (Ok (input_of x)) (Err (record {})) ≡ Ok (input_of y) → are_bounded_by reported_limit x ≡ true
fitting x true fits y e = fits
fitting x false beyond y e = absurd (cc)

reported_within : (x y : Figures) → reported x ≡ Ok (input_of y) → are_bounded_by reported_limit y ≡ true
reported_within x y e = ap (are_bounded_by reported_limit) (sym (reported_is x y e)) ∙ fitting x (are_bounded_by reported_limit x) refl y e

weighted_within : (a b : Option Figures) (y : Figures) → weighted a b ≡ Ok (input_of y) → are_bounded_by reported_limit y ≡ true
weighted_within None b y e = absurd (cc)
weighted_within (Some x) None y e = absurd (cc)
weighted_within (Some x) (Some z) y e = reported_within (on_both product x z) y e

equivalent_within : (r : Outcome) (p : Input) (y : Figures) → (then) r (λ x. equivalent x p) ≡ Ok (input_of y) → are_bounded_by reported_limit y ≡ true
unfolding equivalent
equivalent_within (Ok x) p y e = weighted_within (known x) (known p) y e
equivalent_within (Err o) p y e = absurd (cc)

some_is : (r s : Outcome) → ◌≡◌ {A = Option Outcome} (Some r) (Some s) → r ≡ s
some_is r s e = cc

no_outcome : {P : Type 0} (o : Option Outcome) (r : Outcome) → o ≡ None → o ≡ Some r → P
no_outcome o r none some = absurd (let c : ◌≡◌ {A = Option Outcome} None (Some r) = sym none ∙ some in cc)

bound_of : (z : ℕ) → nat_le z reported_limit ≡ true → z ≤ bound_limit
bound_of z e = let le : z ≤ reported_limit = leb-true _ _ e in omega arith

within_limit : (x : Figures) → AreInOrder x → are_bounded_by reported_limit x ≡ true → IsSumOf 1 x
within_limit x order e =
    let p = first_so (is_bounded_by reported_limit x.point) _ e in
    let r = second_so (is_bounded_by reported_limit x.point) _ e in
    let pl = bound_of (unsigned_abs x.point.lo) (first_so (nat_le (unsigned_abs x.point.lo) reported_limit) _ p) in
    let ph = bound_of (unsigned_abs x.point.hi) (second_so (nat_le (unsigned_abs x.point.lo) reported_limit) _ p) in
    let rl = bound_of (unsigned_abs x.range.lo) (first_so (nat_le (unsigned_abs x.range.lo) reported_limit) _ r) in
    let rh = bound_of (unsigned_abs x.range.hi) (second_so (nat_le (unsigned_abs x.range.lo) reported_limit) _ r) in
    record {
      point = record { ordered = order.points; lo_within = omega (arith, pl); hi_within = omega (arith, ph) };
      range = record { ordered = order.ranges; lo_within = omega (arith, rl); hi_within = omega (arith, rh) };
    }

zero_within : IsSumOf 1 zero
zero_within = record {
  point = record { ordered = omega (arith, ints); lo_within = omega arith; hi_within = omega arith };
  range = record { ordered = omega (arith, ints); lo_within = omega arith; hi_within = omega arith };
}

module _ (m : Data) (workbook : IsWorkbook m) (acyclic : IsAcyclic m) (year : ℕ) where
  equivalent_is : (name : Name) (x : Figures) → compilation m (node.Equiv name year) ≡ Some (Ok (input_of x)) → are_bounded_by reported_limit x ≡ true
  equivalent_is name x is = elim (or_else (is_node m (node.Equiv name year))) [
    | inl on ↦ equivalent_within (or_blank (compilation m (node.Line name year))) (given m (potential m year (line_gas m name))) x
        (some_is _ (Ok (input_of x)) (sym ((compilation_trial m acyclic).by_formula (node.Equiv name year) on) ∙ is))
    | inr off ↦ no_outcome (compilation m (node.Equiv name year)) (Ok (input_of x)) ((compilation_trial m acyclic).nowhere_else (node.Equiv name year) off) is
  ]

  one_given : (name : Name) → IsSumOf 1 (or_zero (known (input_at (compilation m) (node.Equiv name year))))
  one_given name = by (compilation m (node.Equiv name year)) refl
    where
      nested : (x : Figures) → compilation m (node.Equiv name year) ≡ Some (Ok (input_of x)) → IsNested x
      nested = points_within (sheet_of m) (acyclic_grounded m acyclic) (compilation m) (compilation_trial m acyclic) (sources_nested m workbook) (node.Equiv name year)

      by : (o : Option Outcome) → compilation m (node.Equiv name year) ≡ o → IsSumOf 1 (or_zero (known (or_nothing (value_of o))))
      by None is = zero_within
      by (Some (Err e)) is = zero_within
      by (Some (Ok Blank)) is = zero_within
      by (Some (Ok (Known point range))) is =
          let x : Figures = record { point = point; range = range } in
          within_limit x (outcome_in_order (Some (Ok (Known point range))) (λ y e. nested y (is ∙ e))) (equivalent_is name x is)

  given_within : (names : List Name) → IsSumOf (length names) (given_by m year names)
  given_within [] = record {
    point = record { ordered = omega (arith, ints); lo_within = omega arith; hi_within = omega arith };
    range = record { ordered = omega (arith, ints); lo_within = omega arith; hi_within = omega arith };
  }
  given_within (name ∷ names) =
      let at = λ (k : Name). input_at (compilation m) (node.Equiv k year) in
      sum_within _ _ _ (omega arith)
      (subst (IsSumOf (1 + length names)) (sym (first_known (at name) (map at names)))
      (sum_both 1 (length names) (or_zero (known (at name))) (given_by m year names) (one_given name) (given_within names)))

  pub leaf_within : (test : Name → Bool) (leaf : Category) → IsSumOf MOST_PARTS (given_by m year (lines_at_leaf test leaf m))
  leaf_within test leaf = sum_within (length (lines_at_leaf test leaf m)) MOST_PARTS _ (few_at m workbook test leaf) (given_within (lines_at_leaf test leaf m))

pub shifts_have_room : ShiftsHaveRoom
shifts_have_room old new was before workbook after gone come year leaf = record {
  went = leaf_within old was before year gone leaf;
  came = leaf_within new workbook after year come leaf;
}
