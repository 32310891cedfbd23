-- Sums of points, and how large they are.
use Rattle.std.proofs.Common.{unwrap_or, ◌≡◌, ℕ, zero, suc, ◌+◌, ◌*◌, ◌≤◌, Bool, true, false, nat_le, cond, List, [], ◌∷◌, length, map, Option, Some, None, Result, Ok, Err, refl, sym, ap, subst, ◌∙◌, arith, ℤ, pos, negsuc, ◌+ℤ◌, unsigned_abs}
use Rattle.std.proofs.lemmas.Bool.{leb-true}
use Rattle.std.proofs.lemmas.Int.{ints}
use Rattle.std.specs.List.{fold}
use Rattle.std.proofs.lemmas.Option.{same_Some}
use Rattle.ghg_cell.proofs.Sums.{same_input}
use Rattle.ghg_interval.specs.Bounds.{Bounds, exactly, sum}
use Rattle.ghg_interval.specs.Operations.{is_bounded_by}
use Rattle.ghg_interval.specs.declared.Over.{Over}
use Rattle.ghg_cell.specs.declared.figures.Figures.{Figures}
use Rattle.ghg_cell.specs.declared.input.Input.{Input}
use Rattle.ghg_cell.specs.declared.input.Input.TheVariants.{Blank}
use Rattle.ghg_cell.specs.Totals.{are_bounded_by, equivalent, on_both, reported_limit, weighted}
use Rattle.ghg_cell.specs.Values.{input_of, known, then}
use Rattle.ghg_interval.specs.Bounds.{product}
use Rattle.ghg_units.specs.declared.node.Node.{Node}
use Rattle.ghg_units.specs.declared.node.Node.TheVariants as node
use Rattle.ghg_definitions.specs.Compilation.{compilation, is_node, line_gas, potential, sheet_of}
use Rattle.ghg_definitions.specs.Data.{Data, Name}
use Rattle.ghg_definitions.specs.Formulas.{Outcome}
use Rattle.ghg_definitions.specs.Lookups.{given}
use Rattle.ghg_definitions.specs.Trials.{IsCompilation, Outcomes, or_blank, value_of}
use Rattle.ghg_definitions.proofs.Alike.{first_so, second_so}
use Rattle.ghg_uncertainty.specs.Totals.{amount_limit}
use Rattle.ghg_tables.specs.declared.precision.Precision.TheVariants.{Thousandths}
use Rattle.ghg_tables.specs.Gathering.{doubled, doubled_sum}
use Rattle.ghg_tables.specs.Rounding.{nearest, nearest_magnitude, reported, with_sign}
use Rattle.ghg_tables.specs.Sums.{point_of, shown, tonnes_of}

-- ---- the middle of a sum is the sum of the middles

sums_from : (outcomes : Outcomes) (total : Bounds) (start : ℤ) (ns : List Node) → total.lo +ℤ total.hi ≡ start →
    (fold (λ total x. sum total (point_of x)) total (map (shown outcomes) ns)).lo +ℤ (fold (λ total x. sum total (point_of x)) total (map (shown outcomes) ns)).hi ≡ fold (λ total n. total +ℤ doubled (shown outcomes n)) start ns
sums_from outcomes total start [] e = e
sums_from outcomes total start (n ∷ ns) e =
    let point : Bounds = point_of (shown outcomes n) in
    sums_from outcomes (sum total point) (start +ℤ doubled (shown outcomes n)) ns (omega (arith, ints, e))

pub tonnes_are : (outcomes : Outcomes) (ns : List Node) → tonnes_of outcomes ns ≡ nearest 2000000000 (doubled_sum outcomes ns)
unfolding reported
tonnes_are outcomes ns = ap (nearest 2000000000) (sums_from outcomes (exactly (pos 0)) (pos 0) ns refl)

-- the same from name to name
pub mapped_sum : (outcomes : Outcomes) (to : Name → Node) (start : ℤ) (names : List Name) → fold (λ total n. total +ℤ doubled (shown outcomes n)) start (map to names) ≡ fold (λ total name. total +ℤ doubled (shown outcomes (to name))) start names
mapped_sum outcomes to start [] = refl
mapped_sum outcomes to start (x ∷ names) = mapped_sum outcomes to (start +ℤ doubled (shown outcomes (to x))) names

-- the sum of the middles of the nodes that names lead to
abbrev pub middles : Outcomes → (Name → Node) → List Name → ℤ
middles outcomes to names = fold (λ total name. total +ℤ doubled (shown outcomes (to name))) (pos 0) names

pub tonnes_of_names : (outcomes : Outcomes) (to : Name → Node) (names : List Name) → nearest 2000000000 (middles outcomes to names) ≡ tonnes_of outcomes (map to names)
tonnes_of_names outcomes to names = ap (nearest 2000000000) (sym (mapped_sum outcomes to (pos 0) names)) ∙ sym (tonnes_are outcomes (map to names))

-- ---- how large a rounded number is

magnitude_within : (a q : ℕ) → a ≤ q * 2000000000 → nearest_magnitude 2000000000 a ≤ q
magnitude_within a q h = omega (arith, h)

abs_of_sign : (z : ℤ) (m : ℕ) → unsigned_abs (with_sign z m) ≡ m
abs_of_sign (pos n) m = refl
abs_of_sign (negsuc n) zero = refl
abs_of_sign (negsuc n) (suc m) = refl

pub nearest_within : (z : ℤ) (q : ℕ) → unsigned_abs z ≤ q * 2000000000 → unsigned_abs (nearest 2000000000 z) ≤ q
nearest_within z q h = omega (arith, abs_of_sign z (nearest_magnitude 2000000000 (unsigned_abs z)), magnitude_within (unsigned_abs z) q h)

-- ---- how large equivalents are

-- the middle of a value within the limit of equivalents
abbrev pub IsSmall : Input → Type 0
IsSmall x = unsigned_abs (doubled x) ≤ 2 * reported_limit

within : (b : Bounds) → is_bounded_by reported_limit b ≡ true → unsigned_abs (b.lo +ℤ b.hi) ≤ 2 * reported_limit
within b e =
    let low : unsigned_abs b.lo ≤ reported_limit = leb-true (unsigned_abs b.lo) reported_limit (first_so (nat_le (unsigned_abs b.lo) reported_limit) (nat_le (unsigned_abs b.hi) reported_limit) e) in
    let high : unsigned_abs b.hi ≤ reported_limit = leb-true (unsigned_abs b.hi) reported_limit (second_so (nat_le (unsigned_abs b.lo) reported_limit) (nat_le (unsigned_abs b.hi) reported_limit) e) in
    omega (arith, ints, low, high)

blank_small : (i : Input) → Blank ≡ i → IsSmall i
blank_small i e = let none : unsigned_abs (doubled Blank) ≤ 2 * reported_limit = omega arith in subst IsSmall e none

small_limited : (x : Figures) (b : Bool) (over : Over) (i : Input) → are_bounded_by reported_limit x ≡ b → cond {A = Result Input Over} b (Ok (input_of x)) (Err over) ≡ Ok i → IsSmall i
small_limited x true over i bounded e =
    let point : unsigned_abs (x.point.lo +ℤ x.point.hi) ≤ 2 * reported_limit = within x.point (first_so (is_bounded_by reported_limit x.point) (is_bounded_by reported_limit x.range) bounded) in
    subst IsSmall (same_input (input_of x) i e) point
small_limited x false over i bounded e = absurd (cc)

small_weighted : (x y : Option Figures) (i : Input) → weighted x y ≡ Ok i → IsSmall i
small_weighted None y i e = blank_small i (same_input Blank i e)
small_weighted (Some x) None i e = blank_small i (same_input Blank i e)
small_weighted (Some x) (Some y) i e = small_limited (on_both product x y) (are_bounded_by reported_limit (on_both product x y)) (record {}) i refl e

small_equivalent : (line : Outcome) (weight i : Input) → (then) line (λ x. equivalent x weight) ≡ Ok i → IsSmall i
unfolding equivalent
small_equivalent (Ok x) weight i e = small_weighted (known x) (known weight) i e
small_equivalent (Err over) weight i e = absurd (cc)

module _ (m : Data) (compiled : IsCompilation (sheet_of m) (compilation m)) where
  small_node : (name : Name) (year : ℕ) (b : Bool) (o : Option Outcome) → is_node m (node.Equiv name year) ≡ b → compilation m (node.Equiv name year) ≡ o → IsSmall (unwrap_or (value_of o) Blank)
  small_node name year b None is e = omega arith
  small_node name year b (Some (Err over)) is e = omega arith
  small_node name year true (Some (Ok i)) is e =
      let n : Node = node.Equiv name year in
      let line : Outcome = or_blank (compilation m (node.Line name year)) in
      let weight : Input = given m (potential m year (line_gas m name)) in
      let formula : compilation m n ≡ Some ((then) line (λ x. equivalent x weight)) = compiled.trial.by_formula n is in
      small_equivalent line weight i (same_Some ((then) line (λ x. equivalent x weight)) (Ok i) (sym formula ∙ e))
  small_node name year false (Some (Ok i)) is e =
      let none : compilation m (node.Equiv name year) ≡ None = compiled.trial.nowhere_else (node.Equiv name year) is in
      absurd (cc (e, none))

  pub equivalent_small : (name : Name) (year : ℕ) → IsSmall (shown (compilation m) (node.Equiv name year))
  equivalent_small name year = small_node name year (is_node m (node.Equiv name year)) (compilation m (node.Equiv name year)) refl refl

  sum_small : (year : ℕ) (start : ℤ) (names : List Name) → unsigned_abs (fold (λ total n. total +ℤ doubled (shown (compilation m) n)) start (map (λ name. node.Equiv name year) names)) ≤ unsigned_abs start + length names * (2 * reported_limit)
  sum_small year start [] = omega arith
  sum_small year start (x ∷ names) =
      let first = equivalent_small x year in
      let rest = sum_small year (start +ℤ doubled (shown (compilation m) (node.Equiv x year))) names in
      let step : unsigned_abs (start +ℤ doubled (shown (compilation m) (node.Equiv x year))) ≤ unsigned_abs start + unsigned_abs (doubled (shown (compilation m) (node.Equiv x year))) = omega (arith, ints) in
      omega (arith, first, rest, step)

  -- what lines emit is within the limit for each
  pub tonnes_small : (year : ℕ) (names : List Name) → unsigned_abs (tonnes_of (compilation m) (map (λ name. node.Equiv name year) names)) ≤ length names * amount_limit
  tonnes_small year names =
      let ns : List Node = map (λ name. node.Equiv name year) names in
      let sum = sum_small year (pos 0) names in
      let rounded = nearest_within (doubled_sum (compilation m) ns) (length names * amount_limit) (omega (arith, sum)) in
      rw (tonnes_are (compilation m) ns) rounded

  pub line_small : (year : ℕ) (name : Name) → unsigned_abs (reported Thousandths (point_of (shown (compilation m) (node.Equiv name year)))) ≤ amount_limit
  unfolding reported
  line_small year name = nearest_within (doubled (shown (compilation m) (node.Equiv name year))) amount_limit (omega (arith, equivalent_small name year))
