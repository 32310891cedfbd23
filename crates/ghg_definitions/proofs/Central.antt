-- Each workbook has a choice that is central, and so within its supplied bounds.
use Rattle.std.proofs.Common.{◌≡◌, ◌≤ℤ◌, pos, Option, Some, None, refl, arith}
use Rattle.std.proofs.lemmas.Int.{ints}
use Rattle.ghg_interval.specs.Bounds.{Bounds, Inside, unit_scale}
use Rattle.ghg_interval.specs.Containment.{in_units}
use Rattle.ghg_interval.specs.Fractions.{Fraction, IsAtMost, whole}
use Rattle.ghg_interval.proofs.Order.{times_natural}
use Rattle.ghg_roots.specs.Decay.{decay_bounds}
use Rattle.ghg_roots.proofs.Found.{decay_ordered}
use Rattle.ghg_units.specs.declared.decimal.Decimal.{Decimal}
use Rattle.ghg_units.specs.declared.row.Amount.{Amount}
use Rattle.ghg_units.specs.declared.row.Amount.TheVariants as amounts
use Rattle.ghg_units.specs.declared.row.Figure.{Figure}
use Rattle.ghg_units.specs.declared.unit.Unit.{Unit as UnitWord}
use Rattle.ghg_units.specs.Units.{ratio_of}
use Rattle.ghg_units.specs.WellFormed.{IsAmountOf, IsFigure}
use Rattle.ghg_definitions.specs.Choices.{IsCentralOf, IsCentralOfAmount, IsChoiceOf, IsChoiceOfAmount, exact_of}
use Rattle.ghg_definitions.specs.Data.{figure}
use Rattle.ghg_definitions.specs.Laws.{ChoicesExist}
use Rattle.ghg_definitions.proofs.Chosen.{figure_formed}

-- the central value, the low bound of a decay, and zero where there is neither
central_amount : UnitWord → Amount → Fraction
central_amount u (amounts.Key notation) = whole (pos 0)
central_amount u (amounts.Known value low high) = exact_of u value
central_amount u (amounts.HalfLife tenths) = in_units (decay_bounds tenths).lo

central_figure : Option Figure → Fraction
central_figure None = whole (pos 0)
central_figure (Some g) = central_amount g.unit g.amount

-- conversion keeps the order of decimals
exact_ordered : (u : UnitWord) (a b : Decimal) → a.scaled ≤ℤ b.scaled → IsAtMost (exact_of u a) (exact_of u b)
exact_ordered u a b h =
    let r = ratio_of u in
    record { ordered = times_natural (exact_of u b).denominator _ _ (times_natural r.over a.scaled b.scaled h) }

low_inside : (b : Bounds) → b.lo ≤ℤ b.hi → Inside b (in_units b.lo)
low_inside b h = record { above = omega (arith, ints); below = times_natural unit_scale _ _ h }

amount_chosen : (u : UnitWord) (a : Amount) → IsAmountOf u a → IsChoiceOfAmount u a (central_amount u a)
unfolding central_amount
amount_chosen u (amounts.Key notation) formed = tt
amount_chosen u (amounts.Known value low high) formed = (exact_ordered u low value formed.0, exact_ordered u value high formed.1)
amount_chosen u (amounts.HalfLife tenths) formed = low_inside (decay_bounds tenths) (decay_ordered tenths formed.0)

figure_chosen : (o : Option Figure) → ((g : Figure) → o ≡ Some g → IsFigure g) → IsChoiceOf o (central_figure o)
unfolding central_figure
figure_chosen None formed = tt
figure_chosen (Some g) formed = amount_chosen g.unit g.amount (formed g refl)

amount_central : (u : UnitWord) (a : Amount) → IsCentralOfAmount u a (central_amount u a)
unfolding central_amount
amount_central u (amounts.Key notation) = tt
amount_central u (amounts.Known value low high) = record { same = refl }
amount_central u (amounts.HalfLife tenths) = tt

figure_central : (o : Option Figure) → IsCentralOf o (central_figure o)
unfolding central_figure
figure_central None = tt
figure_central (Some g) = amount_central g.unit g.amount

pub choices_exist : ChoicesExist
choices_exist m workbook = record {
  choice = λ k. central_figure (figure m k);
  supplied = λ k. figure_chosen (figure m k) (figure_formed m workbook k);
  central = λ k. figure_central (figure m k);
}
