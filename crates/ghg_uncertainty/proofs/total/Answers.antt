use Rattle.std.proofs.Common.{rules, ◌≡◌, ◌<◌, arith, unsigned_abs, ap, ◌∙◌, to_z-of_z, FitsSigned}
use Rattle.std.specs.Int.{w128}
use Rattle.ghg_uncertainty.specs.Totals.{net}
use Rattle.ghg_uncertainty.proofs.Rounded.{floor_natural, ceil_natural, low_holds, high_holds}
use Rattle.ghg_uncertainty.proofs.total.Goals as goal

pub returns-else-size-eq0-clause-total : goal.returns-else-size-eq0-clause-total
returns-else-size-eq0-clause-total c =
    let fits : FitsSigned w128 c.net-net.result = search rules in
    let magnitude : c.unsigned_abs-size.result ≡ unsigned_abs c.net-net.result = simp to_z-of_z at c.unsigned_abs-size.ensures.value in
    let size : c.unsigned_abs-size.result ≡ unsigned_abs (net c.args.rows.now) = magnitude ∙ ap unsigned_abs c.net-net.ensures in
    let positive : 0 < c.unsigned_abs-size.result = omega (arith, c.if-size-eq0.false) in (
      λ zero. c.if-size-eq0.false (size ∙ ap unsigned_abs zero),
      rw (← size, ← c.spread.ensures) (record {
        root_low = c.sqrt_bracket-low.result.0;
        root_high = c.sqrt_bracket-low.result.1;
        root = c.sqrt_bracket-low.ensures;
        low_is = floor_natural c.unsigned_abs-size.result c.sqrt_bracket-low.result.0;
        high_is = rw c.div_ceil.ensures (ceil_natural c.unsigned_abs-size.result c.sqrt_bracket-low.result.1 positive);
      }),
    )

pub returns-else-size-eq0-clause-holds : goal.returns-else-size-eq0-clause-holds
returns-else-size-eq0-clause-holds c =
    let fits : FitsSigned w128 c.net-net.result = search rules in
    let magnitude : c.unsigned_abs-size.result ≡ unsigned_abs c.net-net.result = simp to_z-of_z at c.unsigned_abs-size.ensures.value in
    let size : c.unsigned_abs-size.result ≡ unsigned_abs (net c.args.rows.now) = magnitude ∙ ap unsigned_abs c.net-net.ensures in
    let positive : 0 < c.unsigned_abs-size.result = omega (arith, c.if-size-eq0.false) in
    rw (← size, ← c.spread.ensures, c.div_ceil.ensures)
    (low_holds _ _ _ c.sqrt_bracket-low.ensures.below, high_holds _ _ _ positive c.sqrt_bracket-low.ensures.above)
