-- A workbook's nodes are few.
use Rattle.std.proofs.Common.{◌≡◌, ℕ, zero, suc, ◌+◌, ◌*◌, ◌-◌, ◌≤◌, Bool, true, false, if◌then◌else◌, nat_lt, List, [], ◌∷◌, ◌++◌, map, length, Option, Some, None, refl, arith, ltb-false, length-append}
use Rattle.std.specs.FinMap.{len}
use Rattle.std.proofs.lemmas.List.{length-map}
use Rattle.std.proofs.lemmas.List.Sums.{count_by-le-length, length-filter}
use Rattle.ghg_categories.specs.Tree.{tree}
use Rattle.ghg_units.specs.declared.node.Node.{Node}
use Rattle.ghg_units.specs.declared.node.Node.TheVariants as node
use Rattle.ghg_units.specs.declared.row.Span.{Span}
use Rattle.ghg_units.specs.declared.rule.Limit.{Limit}
use Rattle.ghg_units.specs.declared.rule.Limit.TheVariants.{Lines, Records}
use Rattle.ghg_units.specs.declared.rule.Limit.TheVariants as limits
use Rattle.ghg_affected.specs.Affected.{affected_nodes, affected_within}
use Rattle.ghg_definitions.specs.Compilation.{emits, gas_lines, in_years, nodes, years_from, years_of}
use Rattle.ghg_definitions.specs.Data.{Data, line_names, span}
use Rattle.ghg_definitions.specs.Rules.{is_long, longest_span, most_lines, most_records, passed_limit}
use Rattle.ghg_definitions.specs.Sound.{IsWorkbook}

many_years : (first count : ℕ) → length (years_from first count) ≡ count
many_years first zero = refl
many_years first (suc count) = omega (arith, many_years (first + 1) count)

first_passed : (a b c : Bool) (x y z : Limit) → ◌≡◌ {A = Option Limit} (if a then Some x else if b then Some y else if c then Some z else None) None → a ≡ false
first_passed true b c x y z e = absurd (cc)
first_passed false b c x y z e = refl

third_passed : (a b c : Bool) (x y z : Limit) → ◌≡◌ {A = Option Limit} (if a then Some x else if b then Some y else if c then Some z else None) None → c ≡ false
third_passed true b c x y z e = absurd (cc)
third_passed false true c x y z e = absurd (cc)
third_passed false false true x y z e = absurd (cc)
third_passed false false false x y z e = refl

few_years : (s : Option Span) → is_long s ≡ false → length (years_of s) ≤ 151
few_years None e = omega arith
few_years (Some s) e =
    let few = ltb-false longest_span (s.last - s.first) e in
    omega (arith, few, many_years s.first (s.last + 1 - s.first))

few_in : {A : Type 0} (to : A → ℕ → Node) (years : List ℕ) → length years ≤ 151 → (xs : List A) → length (in_years to years xs) ≤ 151 * length xs
few_in to years few [] = omega arith
few_in to years few (x ∷ xs) =
    omega (arith, few, length-append (map (to x) years) (in_years to years xs), length-map years (to x), few_in to years few xs)

few_lines : (m : Data) → IsWorkbook m → length (line_names m) ≤ 5000
unfolding passed_limit
few_lines m w =
    ltb-false most_lines (length (line_names m))
    (first_passed (nat_lt most_lines (length (line_names m))) (nat_lt most_records (len m)) (is_long (span m)) Lines Records limits.Span w.limits)

few_years_of : (m : Data) → IsWorkbook m → length (years_of (span m)) ≤ 151
unfolding passed_limit
few_years_of m w =
    few_years (span m)
    (third_passed (nat_lt most_lines (length (line_names m))) (nat_lt most_records (len m)) (is_long (span m)) Lines Records limits.Span w.limits)

four_parts : (a b c d : List Node) → length (a ++ b ++ c ++ d) ≡ length a + length b + length c + length d
four_parts a b c d =
    omega (arith, length-append (a ++ b ++ c) d, length-append (a ++ b) c, length-append a b)

few_nodes : (m : Data) → IsWorkbook m → length (nodes m) ≤ 1000000000
few_nodes m w =
    let years = years_of (span m) in
    let few = few_years_of m w in
    let lines = few_lines m w in
    let of_lines = few_in node.Line years few (line_names m) in
    let gas : length (gas_lines m) ≤ 5000 = omega (arith, lines, length-filter (emits m) (line_names m), count_by-le-length (emits m) (line_names m)) in
    let of_gas = few_in node.Equiv years few (gas_lines m) in
    let of_totals = few_in node.Total years few tree in
    let in_tree : length tree ≡ 76 = refl in
    let gross = length-map years node.Gross in
    let all : length (nodes m) ≡ length (in_years node.Line years (line_names m)) + length (in_years node.Equiv years (gas_lines m))
    + length (in_years node.Total years tree) + length (map node.Gross years) =
    four_parts (in_years node.Line years (line_names m)) (in_years node.Equiv years (gas_lines m)) (in_years node.Total years tree) (map node.Gross years) in
    omega (arith, few, lines, of_lines, gas, of_gas, of_totals, in_tree, gross, all)

-- so are those that a change affects
pub few_affected : (old new : Data) → IsWorkbook new → length (affected_nodes old new) ≤ 1000000000
unfolding affected_nodes
few_affected old new w =
    let test = affected_within old new (length (nodes new)) in
    omega (arith, few_nodes new w, length-filter test (nodes new), count_by-le-length test (nodes new))
