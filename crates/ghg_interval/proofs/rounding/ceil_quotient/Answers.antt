use Rattle.std.proofs.Common.{rules, to_z-of_z, FitsSigned, ap, pos, ◌-ℤ◌, ◌*ℤ◌, ◌≤ℤ◌, ◌∙◌, le_refl}
use Rattle.std.specs.Int.{w128}
use Rattle.ghg_interval.specs.Bounds.{unit_scale}
use Rattle.ghg_interval.proofs.Upward.{part_product, product_fits}
use Rattle.ghg_interval.proofs.Division.{ceil_down}
use Rattle.ghg_interval.proofs.rounding.ceil_quotient.Goals as goal

pub returns-else-y-gt0 : goal.returns-else-y-gt0
returns-else-y-gt0 c =
    let x : FitsSigned w128 c.args.x = search rules in
    let y : FitsSigned w128 c.args.y = search rules in
    let q : FitsSigned w128 c.div_euclid-else-y-gt0.result = search rules in
    let parts : FitsSigned w128 (c.args.x *ℤ pos unit_scale) = product_fits _ (part_product c.args.x unit_scale c.requires.x_bounded (le_refl unit_scale)) in
    let divisor : FitsSigned w128 (pos 0 -ℤ c.args.y) = search rules in
    let rounded : FitsSigned w128 (pos 0 -ℤ c.div_euclid-else-y-gt0.result) = search rules in
    let below : c.args.y ≤ℤ pos 0 = search rules in
    let made = simp to_z-of_z at c.div_euclid-else-y-gt0.ensures in
    simp to_z-of_z (ap (λ t. pos 0 -ℤ t) made ∙ ceil_down c.args.y _ below c.requires.y_not_zero)
