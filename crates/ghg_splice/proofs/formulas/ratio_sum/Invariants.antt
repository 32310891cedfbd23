use Rattle.std.proofs.Common.{◌≡◌, drop, fold}
use Rattle.ghg_splice.specs.Formulas.{ratio_sum, with_ratio}
use Rattle.ghg_splice.specs.Quantities.{quantities}
use Rattle.ghg_splice.proofs.formulas.ratio_sum.Given as goal

abbrev pub invariant-loop-base : goal.invariant-loop-base
invariant-loop-base l = fold (with_ratio quantities) l.sum (drop l.base-index l.rest) ≡ ratio_sum quantities l.bases
