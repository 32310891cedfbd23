use Rattle.std.proofs.Common.{◌∙◌, sym, ap}
use Rattle.ghg_equations.specs.Quantity.{same_dim}
use Rattle.ghg_data.proofs.Figures.{series_none, series_some}
use Rattle.ghg_data.proofs.measures.is_of.Goals as goal

pub returns-in-Some : goal.returns-in-Some
returns-in-Some c =
    let found = c.in-Some.ensures.found in
    c.eq.ensures ∙ ap (same_dim c.args.dim) c.dim.ensures ∙ sym (series_some c.some_figure.ensures.consistent c.args.series.now c.args.dim found.0 c.in-Some.figure found.1 found.2)

pub returns-in-None : goal.returns-in-None
returns-in-None c = sym (series_none c.some_figure.ensures.consistent c.args.series.now c.args.dim c.in-None.ensures.none)
