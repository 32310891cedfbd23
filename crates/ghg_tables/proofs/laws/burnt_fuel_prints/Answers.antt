use Rattle.std.proofs.Common.{refl}
use Rattle.std.specs.Fmt.{digits}
use Rattle.ghg_interval.specs.Operations.{product_in, scaled_in}
use Rattle.ghg_units.specs.Fixed.{fixed_text, fraction_text, last_digits}
use Rattle.ghg_cell.specs.Figures.{product_of, scaled_of}
use Rattle.ghg_tables.specs.Rounding.{reported, low_of, high_of}
use Rattle.ghg_tables.specs.Texts.{cell_text, identity_text, field, figures_text, known_text, number_text}
use Rattle.ghg_tables.proofs.laws.burnt_fuel_prints.Goals as goal

pub returns : goal.returns
unfolding digits cell_text identity_text field figures_text known_text number_text reported low_of high_of fixed_text fraction_text last_digits product_of scaled_of product_in scaled_in
returns c = (refl, refl)
