use Rattle.std.proofs.Common.{not, sym, ap, ◌∙◌}
use Rattle.ghg_definitions.specs.Rules.{are_of}
use Rattle.ghg_data.specs.Settling.{figures_of}
use Rattle.ghg_data.proofs.Figures.{loses_none, loses_some}
use Rattle.ghg_data.proofs.unsettled.loses_dimension.Goals as goal

pub returns-in-Some : goal.returns-in-Some
returns-in-Some c =
    let found = c.in-Some.ensures.found in
    let after = c.args.after.now in
    ap not (c.is_of.ensures ∙ ap (λ d. are_of d (figures_of after c.args.series.now)) c.dim.ensures)
    ∙ sym (loses_some c.some_figure.ensures.consistent after c.args.series.now found.0 c.in-Some.figure found.1 found.2)

pub returns-in-None : goal.returns-in-None
returns-in-None c = sym (loses_none c.some_figure.ensures.consistent c.args.after.now c.args.series.now c.in-None.ensures.none)
