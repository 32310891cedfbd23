use Rattle.std.proofs.Common.{rules, ◌≡◌, ℕ, ◌*◌, ◌<◌, ◌==◌, ◌||◌, false, arith, mul-pos, unsigned_abs, to_z-of_z, FitsSigned}
use Rattle.std.specs.Int.{w128}
use Rattle.std.proofs.lemmas.Bool.Decides.{nat_tests}
use Rattle.ghg_trendunc.specs.Lines.{raised}
use Rattle.ghg_trendunc.proofs.lines.bounds.Goals as goal

some_product : (a b : ℕ) → (a == 0) || (b == 0) ≡ false → 0 < a * b
some_product a b e = mul-pos (grind (arith, nat_tests)) (grind (arith, nat_tests))

pub ends-k_low-requires-clause-positive : goal.ends-k_low-requires-clause-positive
ends-k_low-requires-clause-positive c =
    let sum : FitsSigned w128 c.args.base_sum = c.ranges.base_sum in
    let base : FitsSigned w128 c.args.row.base = search rules in
    let now : FitsSigned w128 c.args.row.now = search rules in
    let size = simp to_z-of_z at c.size-size.ensures.value in
    let whole = simp to_z-of_z at c.raised.ensures.value in
    rw (size, whole) (some_product (unsigned_abs c.args.base_sum) (raised c.args.base_sum c.args.row) c.requires.defined)
