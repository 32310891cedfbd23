-- How large the numbers of an assessment are.
use Rattle.std.proofs.Common.{◌+◌, ◌*◌, ◌≤◌, List, [], ◌∷◌, arith, mul-le-mul_left, ℤ, pos, ◌+ℤ◌, unsigned_abs}
use Rattle.std.specs.List.{fold, sum_by}
use Rattle.std.proofs.lemmas.Int.{ints}
use Rattle.std.proofs.lemmas.List.Sums.{sum_by-cons}
use Rattle.ghg_keycat.specs.declared.Pair.{Pair}
use Rattle.ghg_keycat.specs.Laws.{AssessmentsAreSmall}
use Rattle.ghg_keycat.specs.Sizes.{base_size, base_sum, gross, gross_limit, level_size, now_sum, trend_size}
use Rattle.ghg_keycat.proofs.Distances.{levels_within, size_within}
use Rattle.ghg_keycat.proofs.Sums.{sum_within}

-- a sum is no larger than the sum of magnitudes
sum_from : (part : Pair → ℤ) (start : ℤ) (rows : List Pair) → unsigned_abs (fold (λ sum p. sum +ℤ part p) start rows) ≤ unsigned_abs start + sum_by (λ p. unsigned_abs (part p)) rows
sum_from part start [] = omega arith
sum_from part start (p ∷ ps) =
    let rest = sum_from part (start +ℤ part p) ps in
    let step : unsigned_abs (start +ℤ part p) ≤ unsigned_abs start + unsigned_abs (part p) = omega (arith, ints) in
    omega (arith, rest, step, sum_by-cons (λ (q : Pair). unsigned_abs (part q)) p ps)

net_within : (part : Pair → ℤ) (rows : List Pair) → unsigned_abs (fold (λ sum p. sum +ℤ part p) (pos 0) rows) ≤ sum_by (λ p. unsigned_abs (part p)) rows
net_within part rows = omega (arith, sum_from part (pos 0) rows)

pub small : AssessmentsAreSmall
small rows within =
    let nows : sum_by level_size rows ≤ sum_by gross rows = levels_within rows in
    let bases : sum_by (λ (p : Pair). unsigned_abs p.base) rows ≤ 1 * sum_by gross rows = sum_within (λ (p : Pair). unsigned_abs p.base) gross 1 rows (λ p. omega arith) in
    let base : unsigned_abs (base_sum rows) ≤ base_size rows = net_within (λ p. p.base) rows in
    let now : unsigned_abs (now_sum rows) ≤ sum_by level_size rows = net_within (λ p. p.now) rows in
    let trend : sum_by (trend_size (base_sum rows) (now_sum rows)) rows ≤ 3 * gross_limit * sum_by gross rows =
    sum_within (trend_size (base_sum rows) (now_sum rows)) gross (3 * gross_limit) rows (λ p. size_within (base_sum rows) (now_sum rows) p (omega (arith, base, bases, within)) (omega (arith, now, nows, within))) in
    record {
      levels = omega (arith, nows, within);
      trends = omega (arith, trend, mul-le-mul_left (3 * gross_limit) within);
      base_net = base;
      base_total = omega (arith, bases, within);
    }
