use denote.Enum.Bare.{same_true}
use Rattle.std.proofs.Common.{not, ◌∙◌, sym, ap}
use Rattle.std.proofs.lemmas.Bool.{not-false}
use Rattle.ghg_units.specs.Units.{dim_of}
use Rattle.ghg_units.specs.contracts.unit.Unit.{the_type}
use Rattle.ghg_definitions.proofs.Dims.{same_dim-itself}
use Rattle.ghg_data.proofs.rows.differ.Goals as goal

pub returns-else-ne : goal.returns-else-ne
returns-else-ne c =
    let same = same_true the_type tt c.args.unit c.args.other (not-false _ (sym c.ne.ensures ∙ c.if-ne.false)) in
    c.if-ne.false ∙ sym (ap not (same_dim-itself _ _ (ap dim_of same)))
