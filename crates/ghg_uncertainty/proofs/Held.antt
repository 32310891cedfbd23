-- The uncertainty of a total holds its root.
use Rattle.std.proofs.Common.{◌≡◌, ◌<◌, ◌/◌, ℕ, unsigned_abs, sym, ◌∙◌, arith}
use Rattle.std.specs.Int.{div_ceil}
use Rattle.std.proofs.lemmas.Int.{ints}
use Rattle.ghg_uncertainty.specs.declared.TotalUncertainty.TheVariants.{Bracket, Undefined}
use Rattle.ghg_uncertainty.specs.Brackets.{TotalsHoldRoots}
use Rattle.ghg_uncertainty.specs.Totals.{net}
use Rattle.ghg_uncertainty.proofs.Rounded.{floor_natural, ceil_natural, low_holds, high_holds, some_magnitude}

pub totals_hold : TotalsHoldRoots
totals_hold rows (Bracket low high) h =
    let size : ℕ = unsigned_abs (net rows) in
    let positive : 0 < unsigned_abs (net rows) = some_magnitude (net rows) h.0 in
    let r = h.1 in
    let lower : low ≡ r.root_low / unsigned_abs (net rows) = omega (arith, ints, r.low_is ∙ sym (floor_natural (unsigned_abs (net rows)) r.root_low)) in
    let upper : high ≡ div_ceil r.root_high (unsigned_abs (net rows)) = omega (arith, ints, r.high_is ∙ sym (ceil_natural (unsigned_abs (net rows)) r.root_high positive)) in
    rw (lower, upper)
    (low_holds _ _ _ r.root.below, high_holds _ _ _ positive r.root.above)
totals_hold rows Undefined h = record {}
