-- The bounds that the table prints of its total hold the root of the exact sum.
use Rattle.std.proofs.Common.{◌≡◌, ◌∙◌, ℕ, ◌*◌, ◌/◌, Bool, false, ◌||◌, ◌==◌, List, [], ◌∷◌, ◌++◌, map, filter_map, codes, Option, Some, None, refl, sym, ap, arith, ℤ, pos, unsigned_abs}
use Rattle.std.specs.Int.{div_ceil}
use Rattle.std.specs.List.{cons_option, flat_map, list_any, sum_by}
use Rattle.std.specs.Prelude.{option_and_then, option_map}
use Rattle.std.proofs.lemmas.Int.{ints}
use Rattle.std.proofs.lemmas.List.{append_assoc}
use Rattle.ghg_interval.specs.Bounds.{Inside, between}
use Rattle.ghg_interval.proofs.Containment.{within_holds}
use Rattle.ghg_definitions.specs.Data.{Data, Name, uncertainty}
use Rattle.ghg_definitions.specs.Trials.{Outcomes}
use Rattle.ghg_uncertainty.specs.Brackets.{high_root, low_root}
use Rattle.ghg_uncertainty.specs.Totals.{square}
use Rattle.ghg_uncertainty.proofs.RootBounds.{root_brackets}
use Rattle.ghg_uncertainty.proofs.Rounded.{ceil_natural, high_holds, low_holds}
use Rattle.ghg_tables.specs.Analyses.{bounds_text}
use Rattle.ghg_tables.specs.Tables.{emitters}
use Rattle.ghg_trendunc.specs.declared.lines.TrendShare.{TrendShare}
use Rattle.ghg_trendunc.specs.declared.printing.Trend.{Trend}
use Rattle.ghg_trendunc.specs.declared.totals.Sides.{Sides}
use Rattle.ghg_trendunc.specs.Ends.{high_square, low_square}
use Rattle.ghg_trendunc.specs.Lines.{sides_of}
use Rattle.ghg_trendunc.specs.Sound.{HoldRoot, TrendsAreSound, share_with_sides}
use Rattle.ghg_trendunc.specs.Table.{ends_text, lacks_sides, line_row, line_sides, root_text, share_of, sums_text, total_ends, total_row, trend_of, trendunc_text}
use Rattle.ghg_trendunc.specs.Totals.{HaveSides, sum_of_m}
use Rattle.ghg_trendunc.proofs.Held.{trends_hold}

-- ---- the sides are those of the lines

module _ (m : Data) (outcomes : Outcomes) (t : Trend) where
  abbrev sides_at : TrendShare → Option Sides
  sides_at = sides_of t.base_sum t.now_sum

  one_more : (s : TrendShare) (o : Option Sides) (shares : List TrendShare) (rows : List Sides) → sides_at s ≡ o
      → map sides_at shares ≡ map Some rows
      → map sides_at (cons_option (option_map (λ _. s) o) shares) ≡ map Some (cons_option o rows)
  one_more s None shares rows is rest = rest
  one_more s (Some x) shares rows is rest = cc (is, rest)

  with_record : (name : Name) (record_of : Option (ℕ × ℕ)) (shares : List TrendShare) (rows : List Sides)
      → map sides_at shares ≡ map Some rows
      → map sides_at (cons_option (option_and_then (λ p. option_map (λ _. share_of outcomes t name p) (sides_at (share_of outcomes t name p))) record_of) shares)
      ≡ map Some (cons_option (option_and_then (λ p. sides_at (share_of outcomes t name p)) record_of) rows)
  with_record name None shares rows rest = rest
  with_record name (Some p) shares rows rest = one_more (share_of outcomes t name p) (sides_at (share_of outcomes t name p)) shares rows refl rest

  have_sides : (names : List Name) → HaveSides t.base_sum t.now_sum (filter_map (share_with_sides m outcomes t) names) (filter_map (line_sides m outcomes t) names)
  unfolding share_with_sides line_sides
  have_sides [] = refl
  have_sides (name ∷ names) = with_record name (uncertainty m name) (filter_map (share_with_sides m outcomes t) names) (filter_map (line_sides m outcomes t) names) (have_sides names)

-- ---- what is printed of a root

ends_are : (low high : ℕ) → ends_text low high ≡ bounds_text (pos (low / 10_000)) (pos (div_ceil high 10_000))
unfolding ends_text
ends_are low high = ap (bounds_text (pos (low / 10_000))) (sym (ceil_natural 10_000 high (omega arith)))

root_is : (rows : List Sides) → root_text rows ≡ bounds_text (pos (low_root (sum_by low_square rows) / 10_000)) (pos (div_ceil (high_root (sum_by high_square rows)) 10_000))
unfolding root_text
root_is rows = ends_are (low_root (sum_by low_square rows)) (high_root (sum_by high_square rows))

root_holds : (base_sum now_sum : ℤ) (shares : List TrendShare) (rows : List Sides) → HaveSides base_sum now_sum shares rows
    → HoldRoot (low_root (sum_by low_square rows) / 10_000) (div_ceil (high_root (sum_by high_square rows)) 10_000) (sum_of_m base_sum now_sum shares)
root_holds base_sum now_sum shares rows are =
    let low : ℕ = low_root (sum_by low_square rows) in
    let high : ℕ = high_root (sum_by high_square rows) in
    let lows = root_brackets (sum_by low_square rows) in
    let highs = root_brackets (sum_by high_square rows) in
    let held : Inside (between (pos (square low)) (pos (square high))) (sum_of_m base_sum now_sum shares) =
    trends_hold rows low high (record { above_low = _; below_high = _; low_root = lows; high_root = highs }) base_sum now_sum shares are in
    within_holds (between (pos (square low)) (pos (square high))) (between (pos (square (low / 10_000 * 10_000))) (pos (square (div_ceil high 10_000 * 10_000)))) (record {
      lo = omega (arith, ints, low_holds 10_000 low (square low) (omega arith));
      hi = omega (arith, ints, high_holds 10_000 high (square high) (omega arith) (omega arith));
    }) (sum_of_m base_sum now_sum shares) held

-- ---- the table

total_is : (lacks : Bool) (t : Trend) (rows : List Sides) → (lacks || (unsigned_abs t.base_sum == 0)) ≡ false → total_row lacks t rows ≡ sums_text t.base_sum t.now_sum ++ root_text rows ++ 10 ∷ []
unfolding total_row total_ends
total_is lacks t rows known = rw known refl

last_apart : (before sums ends line : List ℕ) → before ++ (sums ++ ends ++ line) ≡ before ++ sums ++ ends ++ line
last_apart before sums ends line = sym (ap (λ text. text ++ line) (append_assoc before sums ends) ∙ append_assoc before (sums ++ ends) line)

pub trends_sound : TrendsAreSound
unfolding trendunc_text
trends_sound m outcomes year known =
    let t : Trend = trend_of m outcomes year in
    let rows : List Sides = filter_map (line_sides m outcomes t) (emitters m) in
    let low : ℕ = low_root (sum_by low_square rows) in
    let high : ℕ = high_root (sum_by high_square rows) in
    let head : List ℕ = codes "code,category,gas,base,value,k_low,k_high,l_low,l_high\n" ++ flat_map (line_row m outcomes t) (emitters m) in
    let sums : List ℕ = sums_text t.base_sum t.now_sum in
    let total : total_row (list_any (lacks_sides m outcomes t) (emitters m)) t rows ≡ sums ++ root_text rows ++ 10 ∷ [] = total_is _ t rows known in
    record {
      lines = head;
      low = low / 10_000;
      high = div_ceil high 10_000;
      ends = ap (λ text. head ++ text) total ∙ last_apart head sums (root_text rows) (10 ∷ []) ∙ ap (λ text. head ++ sums ++ text ++ 10 ∷ []) (root_is rows);
      holds = root_holds t.base_sum t.now_sum _ rows (have_sides m outcomes t (emitters m));
    }
