-- What all lines of a workbook emit in a year of its span is within a limit, since their total is.
use Rattle.std.proofs.Common.{unwrap_or, ◌≡◌, ℕ, suc, ◌*◌, ◌≤◌, Bool, true, false, ◌&&◌, if◌then◌else◌, is_some, List, [], ◌∷◌, length, map, filter, Option, Some, None, Result, Ok, Err, option_and_then, refl, sym, ap, subst, ◌∙◌, arith, lit<, ℤ, pos, ◌+ℤ◌, ◌-ℤ◌, ◌*ℤ◌, unsigned_abs}
use Rattle.std.proofs.lemmas.Bool.{leb-true}
use Rattle.std.proofs.lemmas.Bool.Decides.{nat_tests}
use Rattle.std.proofs.lemmas.Int.{ints}
use Rattle.std.specs.List.{filter_map, fold}
use Rattle.std.specs.Option.{option_map, option_map_or}
use Rattle.ghg_categories.specs.declared.category.Category.{Category}
use Rattle.ghg_categories.specs.declared.category.Category.TheVariants.{National}
use Rattle.ghg_categories.specs.Tree.{stands_under}
use Rattle.ghg_equations.specs.declared.quantity.Gas.{Gas}
use Rattle.ghg_interval.specs.declared.Over.{Over}
use Rattle.ghg_interval.specs.Operations.{is_bounded_by}
use Rattle.ghg_cell.specs.declared.figures.Figures.{Figures}
use Rattle.ghg_cell.specs.declared.input.Input.{Input}
use Rattle.ghg_cell.specs.declared.input.Input.TheVariants.{Blank, Known}
use Rattle.ghg_cell.specs.Totals.{are_bounded_by, reported_limit, sum_all, summed}
use Rattle.ghg_cell.specs.Values.{input_of, known, then}
use Rattle.ghg_cell.proofs.Sums.{same_input}
use Rattle.ghg_units.specs.declared.row.Span.{Span}
use Rattle.ghg_units.specs.declared.node.Node.{Node}
use Rattle.ghg_units.specs.declared.node.Node.TheVariants as node
use Rattle.ghg_definitions.specs.Compilation.{compilation, emits, gas_lines_at, is_year_of, line_gas, sheet_of}
use Rattle.ghg_definitions.specs.Data.{Data, Name, category, line_names, span}
use Rattle.ghg_definitions.specs.Formulas.{Outcome, gather}
use Rattle.ghg_definitions.specs.Trials.{IsCompilation, or_blank, value_of}
use Rattle.ghg_definitions.proofs.Alike.{first_so, second_so}
use Rattle.ghg_definitions.specs.Sound.{IsWorkbook}
use Rattle.ghg_graph.proofs.YearNodes.{span_is}
use Rattle.ghg_tables.specs.Gathering.{doubled}
use Rattle.ghg_tables.specs.Rounding.{reported}
use Rattle.ghg_tables.specs.Sums.{shown}
use Rattle.ghg_tables.specs.Tables.{base_year, emitters, line_tonnes}
use Rattle.ghg_tables.proofs.Nearest.{nearest_is}
use Rattle.ghg_trendunc.specs.Lines.{sum_limit}
use Rattle.ghg_trendunc.specs.Table.{HasSums, sum_of, trend_of}

-- ---- the lines in the tree that emit a gas are those of the national total

twice_more : (q : Name → Bool) (x : Name) (kept rest : List Name) → kept ≡ filter q rest → (b : Bool) → (if b && q x then x ∷ kept else kept) ≡ filter q (if b then x ∷ rest else rest)
twice_more q x kept rest e true = ap (λ names. if q x then x ∷ names else names) e
twice_more q x kept rest e false = e

twice : (p q r : Name → Bool) → ((x : Name) → p x ≡ r x && q x) → (xs : List Name) → filter p xs ≡ filter q (filter r xs)
twice p q r each [] = refl
twice p q r each (x ∷ xs) = rw (each x) (twice_more q x (filter p xs) (filter r xs) (twice p q r each xs) (r x))

in_total : (c : Option Category) (g : Option Gas) → option_map_or (λ (k : Category × Gas). stands_under k.0 National) (option_and_then (λ c. option_map (λ g. (c, g)) g) c) false ≡ is_some g && option_map_or (λ c. stands_under c National) c false
in_total None None = refl
in_total None (Some g) = refl
in_total (Some c) None = refl
in_total (Some c) (Some g) = refl

abbrev total_lines : Data → List Name
total_lines m = gas_lines_at (λ c. stands_under c National) m

emitters_are : (m : Data) → emitters m ≡ total_lines m
emitters_are m = twice _ _ (emits m) (λ x. in_total (category m x) (line_gas m x)) (line_names m)

-- ---- sums of points

middle : Figures → ℤ
middle x = x.point.lo +ℤ x.point.hi

abbrev sum_middle : List Input → ℤ
sum_middle inputs = middle (sum_all (filter_map known inputs))

middle_more : (x : Input) (rest : List Input) → sum_middle (x ∷ rest) ≡ doubled x +ℤ sum_middle rest
unfolding middle
middle_more Blank rest = omega (arith, ints)
middle_more (Known point range) rest = omega (arith, ints)

small_middle : (x : Figures) → are_bounded_by reported_limit x ≡ true → unsigned_abs (middle x) ≤ 2 * reported_limit
unfolding middle
small_middle x e =
    let b = first_so (is_bounded_by reported_limit x.point) (is_bounded_by reported_limit x.range) e in
    let low : unsigned_abs x.point.lo ≤ reported_limit = leb-true _ reported_limit (first_so _ _ b) in
    let high : unsigned_abs x.point.hi ≤ reported_limit = leb-true _ reported_limit (second_so _ _ b) in
    omega (arith, ints, low, high)

shown_of : (o : Option Outcome) (i : Input) → or_blank o ≡ Ok i → unwrap_or (value_of o) Blank ≡ i
shown_of None i e = same_input Blank i e
shown_of (Some (Ok x)) i e = same_input x i e
shown_of (Some (Err over)) i e = absurd (cc)

module _ (m : Data) (compiled : IsCompilation (sheet_of m) (compilation m)) (year : ℕ) where
  abbrev equiv : Name → Node
  equiv name = node.Equiv name year

  abbrev outcome : Node → Outcome
  outcome n = or_blank (compilation m n)

  abbrev tonnes : Name → ℤ
  tonnes name = line_tonnes (compilation m) year name

  -- ---- rounding moves a line by at most half a tonne

  line_near : (name : Name) → 2 * unsigned_abs (pos 2000000000 *ℤ tonnes name -ℤ doubled (shown (compilation m) (equiv name))) ≤ 2000000000
  unfolding line_tonnes reported
  line_near name = (nearest_is 2000000000 (doubled (shown (compilation m) (equiv name))) (lit< tt)).close

  sums_near : (names : List Name) (start : ℤ) (inputs : List Input) → gather (map outcome (map equiv names)) ≡ Ok inputs → unsigned_abs (pos 2000000000 *ℤ (fold (λ total name. total +ℤ tonnes name) start names -ℤ start) -ℤ sum_middle inputs) ≤ length names * 1000000000
  unfolding middle
  sums_near [] start [] e = omega (arith, ints)
  sums_near [] start (i ∷ inputs) e = absurd (cc)
  sums_near (x ∷ names) start inputs e = by (outcome (equiv x)) (gather (map outcome (map equiv names))) (sums_near names (start +ℤ tonnes x)) refl refl e
    where
      by : (o : Outcome) (g : Result (List Input) Over) →
          ((rest : List Input) → gather (map outcome (map equiv names)) ≡ Ok rest → unsigned_abs (pos 2000000000 *ℤ (fold (λ total name. total +ℤ tonnes name) (start +ℤ tonnes x) names -ℤ (start +ℤ tonnes x)) -ℤ sum_middle rest) ≤ length names * 1000000000) →
          outcome (equiv x) ≡ o → gather (map outcome (map equiv names)) ≡ g → (then) o (λ i. (then) g (λ rest. Ok (i ∷ rest))) ≡ Ok inputs →
          unsigned_abs (pos 2000000000 *ℤ (fold (λ total name. total +ℤ tonnes name) (start +ℤ tonnes x) names -ℤ start) -ℤ sum_middle inputs) ≤ suc (length names) * 1000000000
      by (Ok i) (Ok rest) near_rest o g e =
          let same : i ∷ rest ≡ inputs = cc in
          let near = line_near x in
          let is : doubled (shown (compilation m) (equiv x)) ≡ doubled i = ap doubled (shown_of (compilation m (equiv x)) i o) in
          let all : sum_middle inputs ≡ doubled i +ℤ sum_middle rest = sym (ap sum_middle same) ∙ middle_more i rest in
          let later = near_rest rest g in
          omega (arith, ints, near, is, all, later)
      by (Ok i) (Err over) near_rest o g e = absurd (cc)
      by (Err over) g near_rest o h e = absurd (cc)

  -- ---- the total is within its limit

  record IsTotalled : Type 0 where
    inputs : List Input
    gathered : gather (map outcome (map equiv (total_lines m))) ≡ Ok inputs
    small : unsigned_abs (sum_middle inputs) ≤ 2 * reported_limit

  totalled : is_year_of (span m) year ≡ true → IsTotalled
  unfolding summed
  totalled e = by (gather (map outcome (map equiv (total_lines m)))) refl (compiled.trial.by_formula (node.Total National year) e)
    where
      fits : (inputs : List Input) (b : Bool) → are_bounded_by reported_limit (sum_all (filter_map known inputs)) ≡ b → compilation m (node.Total National year) ≡ Some (if b then Ok (input_of (sum_all (filter_map known inputs))) else Err (record {})) → b ≡ true
      fits inputs true bounded is = refl
      fits inputs false bounded is = absurd (compiled.fits (node.Total National year) (record {}) is)

      by : (g : Result (List Input) Over) → gather (map outcome (map equiv (total_lines m))) ≡ g → compilation m (node.Total National year) ≡ Some ((then) g summed) → IsTotalled
      by (Ok inputs) g is = record {
        inputs = inputs;
        gathered = g;
        small = small_middle (sum_all (filter_map known inputs)) (fits inputs _ refl is);
      }
      by (Err over) g is = absurd (compiled.fits (node.Total National year) over is)

  pub sum_small : length (emitters m) ≤ 5_000 → is_year_of (span m) year ≡ true → unsigned_abs (sum_of (compilation m) year (emitters m)) ≤ sum_limit
  sum_small few e =
      let t = totalled e in
      let fewer : length (total_lines m) ≤ 5_000 = subst (λ (names : List Name). length names ≤ 5_000) (emitters_are m) few in
      let near = sums_near (total_lines m) (pos 0) t.inputs t.gathered in
      rw (emitters_are m) (omega (arith, ints, near, t.small, fewer))

-- ---- both years

base_in : (m : Data) (year : ℕ) → IsWorkbook m → is_year_of (span m) year ≡ true → is_year_of (span m) (base_year (span m)) ≡ true
base_in m year workbook e = by (span m) refl e
  where
    by : (o : Option Span) → span m ≡ o → is_year_of o year ≡ true → is_year_of o (base_year o) ≡ true
    by None is e = absurd (cc)
    by (Some s) is e = let span = span_is m s workbook is in grind (arith, nat_tests, span)

pub sums_small : (m : Data) (year : ℕ) → IsWorkbook m → IsCompilation (sheet_of m) (compilation m) → length (emitters m) ≤ 5_000 → is_year_of (span m) year ≡ true → HasSums (trend_of m (compilation m) year)
unfolding trend_of
sums_small m year workbook compiled few e = record {
  base_small = sum_small m compiled (base_year (span m)) few (base_in m year workbook e);
  now_small = sum_small m compiled year few e;
}
