use Rattle.std.proofs.Common.{◌∙◌, sym}
use Rattle.ghg_units.specs.Units.{dim_of}
use Rattle.ghg_data.proofs.OtherYears.{meets_none, meets_some}
use Rattle.ghg_data.proofs.rows.meets_other_dimension.Goals as goal

pub returns-in-Some : goal.returns-in-Some
returns-in-Some c =
    let found = c.in-Some.ensures.found in
    c.differ.ensures
    ∙ sym (meets_some c.other_year.ensures.consistent c.args.key.now found.0 c.in-Some.other (dim_of c.args.unit) found.1 found.2)

pub returns-in-None : goal.returns-in-None
returns-in-None c = sym (meets_none c.args.draft.now c.args.key.now (dim_of c.args.unit) c.in-None.ensures.none)
