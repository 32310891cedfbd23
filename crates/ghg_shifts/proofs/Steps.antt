-- Shifts as one line more is noted.
use Rattle.std.proofs.Common.{◌≡◌, inl, inr, ℕ, Bool, true, false, cond, ◌&&◌, ◌||◌, eq-eqb, is_some, List, [], ◌∷◌, map, filter, Option, Some, None, Ok, Err, option_and_then, refl, sym, ap, ap₂, ◌∙◌, subst}
use Rattle.std.specs.Cmp.Lexicographic.{bytes_decides}
use Rattle.std.specs.List.{list_any}
use Rattle.std.specs.Option.{option_map_or}
use Rattle.std.specs.Str.{bytes_eq}
use Rattle.ghg_categories.specs.declared.category.Category.{Category}
use Rattle.ghg_categories.specs.Tree.{is_same, tree}
use Rattle.ghg_cell.specs.declared.figures.Figures.{Figures}
use Rattle.ghg_cell.specs.declared.input.Input.{Input}
use Rattle.ghg_cell.specs.Values.{known, zero}
use Rattle.ghg_equations.specs.declared.quantity.Gas.{Gas}
use Rattle.ghg_units.specs.declared.node.Node.TheVariants as node
use Rattle.ghg_definitions.specs.Compilation.{compilation, emits, gas_lines_at, is_node, is_year_of, line_gas}
use Rattle.ghg_definitions.specs.Data.{Data, Name, category, span}
use Rattle.ghg_definitions.specs.Formulas.{Outcome}
use Rattle.ghg_definitions.specs.Listed.{IsListed}
use Rattle.ghg_definitions.specs.Trials.{is_over, or_blank}
use Rattle.ghg_definitions.proofs.Listed.{from_any, from_filter, listed, listed_any}
use Rattle.ghg_definitions.proofs.NodeLists.{category_same}
use Rattle.ghg_affected.proofs.Bools.{never_so, true_not_false}
use Rattle.ghg_affected.proofs.Once.{Once, once_names}
use Rattle.ghg_shifts.specs.declared.shift.Shift.{Shift}
use Rattle.ghg_shifts.specs.Noted.{emitted_at, is_there, less, more, no_line, nothing, with_line}
use Rattle.ghg_shifts.specs.Shifts.{any_is_over, counted, counts_in, given_by, input_at, lines_at_leaf, shift_of}
use Rattle.ghg_shifts.specs.Progress.{TotalIsNoted}
use Rattle.ghg_shifts.specs.Sums.{or_zero, plus, sum_known}
use Rattle.ghg_shifts.proofs.Exchange.{listed_at, passes, sorted_at, stands_at}
use Rattle.ghg_shifts.proofs.Leaves.{same_truth}
use Rattle.ghg_shifts.proofs.Outcomes.{no_year, none_over_then}
use Rattle.ghg_definitions.specs.Rings.{IsAcyclic}
use Rattle.ghg_definitions.proofs.Depth.{or_else}
use Rattle.ghg_shifts.proofs.Sums.{first_filtered, plus_before, plus_turned, where_so, zero_plus}

same_name : (name other : Name) → bytes_eq name other ≡ true → name ≡ other
same_name name other = (bytes_decides name other).0

-- ---- sums and tests with one line more

first_any : {A : Type 0} (q p : A → Bool) (x : A) (xs : List A) → list_any q (filter p (x ∷ xs)) ≡ ((p x && q x) || list_any q (filter p xs))
first_any {A = A} q p x xs = by (p x)
  where
    by : (b : Bool) → list_any q (cond b (x ∷ filter p xs) (filter p xs)) ≡ ((b && q x) || list_any q (filter p xs))
    by true = refl
    by false = refl

module _ (name : Name) (test : Name → Bool) (off : test name ≡ false) where
  abbrev is_it : Name → Bool
  is_it other = bytes_eq name other

  not_among : (x : Name) (xs : List Name) → is_it x ≡ true → (IsListed x xs → ⊥) → list_any is_it xs ≡ false
  not_among x xs is never = never_so (list_any is_it xs) (λ e.
      let found = from_any is_it xs e in
      never (subst (λ k. IsListed k xs) (sym (same_name name found.0 found.2) ∙ same_name name x is) found.1))

  passes_off : (x : Name) → is_it x ≡ true → test x ≡ false
  passes_off x is = ap test (sym (same_name name x is)) ∙ off

  module _ (h : Name → Input) where
    v : Figures
    v = or_zero (known (h name))

    pub one_more_given : (xs : List Name) → Once xs
        → sum_known (map h (filter (with_line name test) xs)) ≡ plus (where_so (list_any (λ k. bytes_eq name k) xs) (or_zero (known (h name)))) (sum_known (map h (filter test xs)))
    one_more_given [] once = sym (zero_plus zero)
    one_more_given (x ∷ xs) once = first_filtered h (with_line name test) x xs ∙ by (is_it x) refl (one_more_given xs once.1) ∙ ap (plus (where_so (list_any is_it (x ∷ xs)) (or_zero (known (h name))))) (sym (first_filtered h test x xs))
      where
        rest : Figures
        rest = sum_known (map h (filter test xs))

        by : (b : Bool) → is_it x ≡ b
            → sum_known (map h (filter (with_line name test) xs)) ≡ plus (where_so (list_any is_it xs) (or_zero (known (h name)))) (sum_known (map h (filter test xs)))
            → plus (where_so (is_it x || test x) (or_zero (known (h x)))) (sum_known (map h (filter (with_line name test) xs)))
            ≡ plus (where_so (is_it x || list_any is_it xs) (or_zero (known (h name)))) (plus (where_so (test x) (or_zero (known (h x)))) (sum_known (map h (filter test xs))))
        by true is more_is =
            ap₂ (λ b y. plus (where_so (b || test x) (or_zero (known (h x)))) y) is
            (more_is ∙ ap (λ b. plus (where_so b (or_zero (known (h name)))) rest) (not_among x xs is once.0) ∙ zero_plus rest)
            ∙ ap (λ k. plus (or_zero (known (h k))) rest) (sym (same_name name x is))
            ∙ sym (ap₂ (λ b y. plus (where_so (b || list_any is_it xs) (or_zero (known (h name)))) y) is
            (ap (λ b. plus (where_so b (or_zero (known (h x)))) rest) (passes_off x is) ∙ zero_plus rest))
        by false is more_is =
            ap₂ (λ b y. plus (where_so (b || test x) (or_zero (known (h x)))) y) is more_is
            ∙ plus_before (where_so (list_any is_it xs) (or_zero (known (h name)))) (where_so (test x) (or_zero (known (h x)))) rest
            ∙ sym (ap (λ b. plus (where_so (b || list_any is_it xs) (or_zero (known (h name)))) (plus (where_so (test x) (or_zero (known (h x)))) rest)) is)

  pub one_more_any : (q : Name → Bool) (xs : List Name) → list_any q (filter (with_line name test) xs) ≡ ((list_any (λ k. bytes_eq name k) xs && q name) || list_any q (filter test xs))
  one_more_any q [] = refl
  one_more_any q (x ∷ xs) = first_any q (with_line name test) x xs ∙ by (is_it x) refl (one_more_any q xs) ∙ ap (λ b. ((list_any is_it (x ∷ xs)) && q name) || b) (sym (first_any q test x xs))
    where
      swapped : (a b c : Bool) → (a || (b || c)) ≡ (b || (a || c))
      swapped true true c = refl
      swapped true false c = refl
      swapped false b c = refl

      absorbed : (a b c : Bool) → (a || ((b && a) || c)) ≡ (a || c)
      absorbed true b c = refl
      absorbed false true c = refl
      absorbed false false c = refl

      by : (b : Bool) → is_it x ≡ b → list_any q (filter (with_line name test) xs) ≡ ((list_any is_it xs && q name) || list_any q (filter test xs))
          → (((is_it x || test x) && q x) || list_any q (filter (with_line name test) xs)) ≡ (((is_it x || list_any is_it xs) && q name) || ((test x && q x) || list_any q (filter test xs)))
      by true is more_is =
          ap₂ (λ b y. ((b || test x) && q x) || y) is more_is
          ∙ ap (λ k. q k || ((list_any is_it xs && q name) || list_any q (filter test xs))) (sym (same_name name x is))
          ∙ absorbed (q name) (list_any is_it xs) (list_any q (filter test xs))
          ∙ sym (ap₂ (λ b c. ((b || list_any is_it xs) && q name) || ((c && q x) || list_any q (filter test xs))) is (passes_off x is))
      by false is more_is =
          ap₂ (λ b y. ((b || test x) && q x) || y) is more_is
          ∙ swapped (test x && q x) (list_any is_it xs && q name) (list_any q (filter test xs))
          ∙ sym (ap (λ b. ((b || list_any is_it xs) && q name) || ((test x && q x) || list_any q (filter test xs))) is)

-- ---- where a line stands

both_of : (test : Category → Bool) (gas : Option Gas) (at : Option Category) → option_map_or test (option_and_then (λ g. at) gas) false ≡ (is_some gas && option_map_or test at false)
both_of test None at = refl
both_of test (Some g) at = refl

both_so : (a b : Bool) → a ≡ true → b ≡ true → (a && b) ≡ true
both_so true b e f = f
both_so false b e f = e

and_parts : (a b : Bool) → (a && b) ≡ true → (a ≡ true) × (b ≡ true)
and_parts true b e = (refl, e)
and_parts false b e = absurd (true_not_false (sym e))

-- the line is among those of a leaf where it stands there
pub among : (m : Data) (test : Category → Bool) (name : Name) → list_any (λ k. bytes_eq name k) (gas_lines_at test m) ≡ option_map_or test (emitted_at m name) false
among m test name = same_truth _ _
    (λ e.
    let found = from_any (λ k. bytes_eq name k) (gas_lines_at test m) e in
    let at = stands_at test m found.0 found.1 in
    subst (λ k. option_map_or test (emitted_at m k) false ≡ true) (sym (same_name name found.0 found.2))
    (both_of test (line_gas m found.0) (category m found.0) ∙ both_so (emits m found.0) _ at.0 at.1))
    (λ e.
    let parts = and_parts (emits m name) _ (sym (both_of test (line_gas m name) (category m name)) ∙ e) in
    listed_any (λ k. bytes_eq name k) name (gas_lines_at test m) (listed_at test m name parts.0 parts.1) ((bytes_decides name name).1 refl))

there : (m : Data) (year : ℕ) (name : Name) (leaf : Category) → list_any (λ k. bytes_eq name k) (gas_lines_at (λ c. is_same c leaf) m) ≡ is_there year (emitted_at m name) year leaf
there m year name leaf = among m (λ c. is_same c leaf) name ∙ sym (ap (λ b. b && option_map_or (λ c. is_same c leaf) (emitted_at m name) false) (eq-eqb year year refl))

lines_once : (m : Data) (leaf : Category) → Once (gas_lines_at (λ c. is_same c leaf) m)
lines_once m leaf = once_names (gas_lines_at (λ c. is_same c leaf) m) (sorted_at (λ c. is_same c leaf) m)

-- ---- the laws

abbrev with_came : Shift → Figures → Bool → Shift
with_came s w o = record { went = s.went; came = w; over = o }

module _ (old new : Data) (gone come : Name → Bool) (year : ℕ) (name : Name) (leaf : Category) where
  abbrev before : Shift
  before = shift_of old new gone come year leaf

  gone_more : gone name ≡ false → shift_of old new (with_line name gone) come year leaf ≡ cond (is_there year (emitted_at old name) year leaf) (less (input_at (compilation old) (node.Equiv name year)) before) before
  gone_more off =
      ap (λ w. let s : Shift = record { went = w; came = before.came; over = before.over } in s)
      (one_more_given name gone off (λ k. input_at (compilation old) (node.Equiv k year)) (gas_lines_at (λ c. is_same c leaf) old) (lines_once old leaf)
      ∙ ap (λ b. plus (where_so b gave) before.went) (there old year name leaf))
      ∙ by (is_there year (emitted_at old name) year leaf)
    where
      gave : Figures
      gave = or_zero (known (input_at (compilation old) (node.Equiv name year)))

      by : (b : Bool) → record { went = plus (where_so b gave) before.went; came = before.came; over = before.over } ≡ cond b (less (input_at (compilation old) (node.Equiv name year)) before) before
      by true = ap (λ w. let s : Shift = record { went = w; came = before.came; over = before.over } in s) (plus_turned gave before.went)
      by false = ap (λ w. let s : Shift = record { went = w; came = before.came; over = before.over } in s) (zero_plus before.went)

  come_more : come name ≡ false → shift_of old new gone (with_line name come) year leaf ≡ cond (is_there year (emitted_at new name) year leaf) (more (or_blank (compilation new (node.Equiv name year))) before) before
  come_more off =
      ap₂ (λ w o. let s : Shift = record { went = before.went; came = w; over = o } in s)
      (one_more_given name come off (λ k. input_at (compilation new) (node.Equiv k year)) (gas_lines_at (λ c. is_same c leaf) new) (lines_once new leaf)
      ∙ ap (λ b. plus (where_so b gives) before.came) (there new year name leaf))
      (one_more_any name come off (λ k. is_over (compilation new (node.Equiv k year))) (gas_lines_at (λ c. is_same c leaf) new)
      ∙ ap (λ b. (b && is_over (compilation new (node.Equiv name year))) || before.over) (there new year name leaf))
      ∙ by (is_there year (emitted_at new name) year leaf) (compilation new (node.Equiv name year))
    where
      gives : Figures
      gives = or_zero (known (input_at (compilation new) (node.Equiv name year)))

      by : (b : Bool) (o : Option Outcome) → with_came before (plus (where_so b (or_zero (known (input_at (λ k. o) (node.Equiv name year))))) before.came) ((b && is_over o) || before.over) ≡ cond b (more (or_blank o) before) before
      by true None = ap (λ w. with_came before w before.over) (plus_turned zero before.came)
      by true (Some (Ok x)) = ap (λ w. with_came before w before.over) (plus_turned (or_zero (known x)) before.came)
      by true (Some (Err e)) = ap (λ w. with_came before w true) (zero_plus before.came)
      by false None = ap (λ w. with_came before w before.over) (zero_plus before.came)
      by false (Some (Ok x)) = ap (λ w. with_came before w before.over) (zero_plus before.came)
      by false (Some (Err e)) = ap (λ w. with_came before w before.over) (zero_plus before.came)

-- once a line more is gone, what it gave went from where it stood
pub one_more_is_gone : (old new : Data) (gone come : Name → Bool) (year : ℕ) (name : Name) → gone name ≡ false → (leaf : Category)
    → shift_of old new (with_line name gone) come year leaf
    ≡ cond (is_there year (emitted_at old name) year leaf) (less (input_at (compilation old) (node.Equiv name year)) (shift_of old new gone come year leaf)) (shift_of old new gone come year leaf)
one_more_is_gone old new gone come year name off leaf = gone_more old new gone come year name leaf off

-- once a line more has come, what it gives came to where it stands
pub one_more_has_come : (old new : Data) (gone come : Name → Bool) (year : ℕ) (name : Name) → come name ≡ false → (leaf : Category)
    → shift_of old new gone (with_line name come) year leaf
    ≡ cond (is_there year (emitted_at new name) year leaf) (more (or_blank (compilation new (node.Equiv name year))) (shift_of old new gone come year leaf)) (shift_of old new gone come year leaf)
one_more_has_come old new gone come year name off leaf = come_more old new gone come year name leaf off

-- ---- no line, and lines that emit a gas

none_left : {A : Type 0} (xs : List A) → filter (λ x. false) xs ≡ []
none_left [] = refl
none_left (x ∷ xs) = none_left xs

pub nothing_is_noted : (old new : Data) (year : ℕ) (leaf : Category) → shift_of old new no_line no_line year leaf ≡ nothing
nothing_is_noted old new year leaf =
    ap₂ (λ gone come. let s : Shift = record { went = given_by old year gone; came = given_by new year come; over = any_is_over new year come } in s)
    (none_left (gas_lines_at (λ c. is_same c leaf) old)) (none_left (gas_lines_at (λ c. is_same c leaf) new))

same_filters : {A : Type 0} (p q : A → Bool) (xs : List A) → ((x : A) → IsListed x xs → p x ≡ q x) → filter p xs ≡ filter q xs
same_filters p q [] same = refl
same_filters p q (x ∷ xs) same = ap₂ (λ b ys. cond b (x ∷ ys) ys) (same x (inl refl)) (same_filters p q xs (λ y i. same y (inr i)))

-- tests that agree on the lines at a leaf that have an equivalent in the year
module _ (m : Data) (acyclic : IsAcyclic m) (p q : Name → Bool) (year : ℕ) (leaf : Category)
    (same : (name : Name) → is_node m (node.Equiv name year) ≡ true → passes (λ c. is_same c leaf) m name ≡ true → p name ≡ q name) where
  in_year : is_year_of (span m) year ≡ true → lines_at_leaf p leaf m ≡ lines_at_leaf q leaf m
  in_year on = same_filters p q (gas_lines_at (λ c. is_same c leaf) m) (λ k i.
      let at = stands_at (λ c. is_same c leaf) m k i in
      same k (both_so (emits m k) _ at.0 on) at.1)

  same_given : given_by m year (lines_at_leaf p leaf m) ≡ given_by m year (lines_at_leaf q leaf m)
  same_given = elim (or_else (is_year_of (span m) year)) [
    | inl on ↦ ap (given_by m year) (in_year on)
    | inr off ↦ no_year m acyclic year off (lines_at_leaf p leaf m) ∙ sym (no_year m acyclic year off (lines_at_leaf q leaf m))
  ]

  same_over : any_is_over m year (lines_at_leaf p leaf m) ≡ any_is_over m year (lines_at_leaf q leaf m)
  same_over = elim (or_else (is_year_of (span m) year)) [
    | inl on ↦ ap (any_is_over m year) (in_year on)
    | inr off ↦ none_over_then m acyclic year off (lines_at_leaf p leaf m) ∙ sym (none_over_then m acyclic year off (lines_at_leaf q leaf m))
  ]

pub nodes_are_noted : (old new : Data) → IsAcyclic old → IsAcyclic new → (gone come others more : Name → Bool) (year : ℕ) (leaf : Category)
    → ((name : Name) → is_node old (node.Equiv name year) ≡ true → passes (λ c. is_same c leaf) old name ≡ true → gone name ≡ others name)
    → ((name : Name) → is_node new (node.Equiv name year) ≡ true → passes (λ c. is_same c leaf) new name ≡ true → come name ≡ more name)
    → shift_of old new gone come year leaf ≡ shift_of old new others more year leaf
nodes_are_noted old new before after gone come others more year leaf gone_same come_same =
    ap (λ w. let s : Shift = record { went = w; came = given_by new year (lines_at_leaf come leaf new); over = any_is_over new year (lines_at_leaf come leaf new) } in s)
    (same_given old before gone others year leaf gone_same)
    ∙ ap₂ (λ w o. let s : Shift = record { went = given_by old year (lines_at_leaf others leaf old); came = w; over = o } in s)
    (same_given new after come more year leaf come_same) (same_over new after come more year leaf come_same)

-- a line at a leaf that a total counts is counted
at_counted : (top : Option Category) (leaf : Category) → counts_in top leaf ≡ true → (m : Data) (name : Name) → passes (λ c. is_same c leaf) m name ≡ true → passes (counts_in top) m name ≡ true
at_counted top leaf on m name at = by (category m name) at
  where
    by : (o : Option Category) → option_map_or (λ c. is_same c leaf) o false ≡ true → option_map_or (counts_in top) o false ≡ true
    by None e = e
    by (Some c) e = ap (counts_in top) ((category_same c leaf).0 e) ∙ on

pub total_is_noted : TotalIsNoted
total_is_noted old new before after gone come shifts noted year moved are top on gone_are come_are = record {
  moved = moved;
  all = are;
  each = λ leaf i.
      let counts = (from_filter (counts_in top) leaf tree (listed (counted top) leaf i)).1 in
      noted.each year on leaf ∙ nodes_are_noted old new before after (gone year) (come year) moved moved year leaf
      (λ name n at. gone_are name n (at_counted top leaf counts old name at))
      (λ name n at. come_are name n (at_counted top leaf counts new name at));
}
