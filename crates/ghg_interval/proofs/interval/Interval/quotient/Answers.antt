use Rattle.std.proofs.Common.{rules, arith, to_z-of_z, ◌≡◌, ◌≤ℤ◌, FitsSigned}
use Rattle.std.specs.Int.{w128}
use Rattle.ghg_interval.specs.Bounds.{quotient}
use Rattle.ghg_interval.proofs.Division.{low_not_zero, high_not_zero, quotient_ordered}
use Rattle.ghg_interval.proofs.interval.Interval.quotient.Goals as goal

pub ceil_quotient-requires-clause-y_not_zero : goal.ceil_quotient-requires-clause-y_not_zero
ceil_quotient-requires-clause-y_not_zero c = grind (arith, to_z-of_z, low_not_zero)

pub ceil_quotient-requires-2-clause-y_not_zero : goal.ceil_quotient-requires-2-clause-y_not_zero
ceil_quotient-requires-2-clause-y_not_zero c = grind (arith, to_z-of_z, high_not_zero)

pub ceil_quotient-requires-3-clause-y_not_zero : goal.ceil_quotient-requires-3-clause-y_not_zero
ceil_quotient-requires-3-clause-y_not_zero c = grind (arith, to_z-of_z, low_not_zero)

pub ceil_quotient-requires-4-clause-y_not_zero : goal.ceil_quotient-requires-4-clause-y_not_zero
ceil_quotient-requires-4-clause-y_not_zero c = grind (arith, to_z-of_z, high_not_zero)

pub limited-requires : goal.limited-requires
limited-requires c =
    let fl : FitsSigned w128 c.least-lo.result = search rules in
    let fh : FitsSigned w128 c.greatest-hi.result = search rules in
    let a = c.args.self.now in
    let b = c.args.other.now in
    let lo : c.least-lo.result ≡ (quotient a b).lo = search rules in
    let hi : c.greatest-hi.result ≡ (quotient a b).hi = search rules in
    let order : b.lo ≤ℤ b.hi = search rules in
    let ordered : c.least-lo.result ≤ℤ c.greatest-hi.result = rw (lo, hi) (quotient_ordered a b c.requires order) in
    simp to_z-of_z ordered

pub returns : goal.returns
returns c = search rules
