use Rattle.std.proofs.Common.{◌≡◌, ◌≤◌, ◌∙◌, List, [], ◌∷◌, Option, Some, None, length, sym, arith}
use Rattle.ghg_splice.specs.declared.formulas.Base.{Base}
use Rattle.ghg_splice.specs.declared.quantity.Quantity.{Quantity}
use Rattle.ghg_splice.specs.Formulas.{ratio_sum}
use Rattle.ghg_splice.specs.Quantities.{quantities}
use Rattle.ghg_splice.proofs.formulas.overlap.Goals as goal

-- no sum of ratios is without one
some_bases : (bases : List (Base Quantity)) (sum : Quantity) → ratio_sum quantities bases ≡ Some sum → 1 ≤ length bases
unfolding ratio_sum
some_bases [] sum e = let none : ◌≡◌ {A = Option Quantity} None (Some sum) = e in absurd (cc)
some_bases (base ∷ bases) sum e = omega arith

pub over-requires : goal.over-requires
over-requires c = some_bases c.args.bases.now c.in_ok-ratio_sum.field-0 (sym c.ratio_sum.ensures ∙ c.in_ok-ratio_sum.was)
