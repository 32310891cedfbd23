use Rattle.std.proofs.Common.{◌∙◌, sym, ap, subst}
use Rattle.ghg_definitions.specs.Compilation.{compilation, is_node}
use Rattle.ghg_shifts.specs.Noted.{IsOutcomeOf}
use Rattle.ghg_shifts.specs.Shifts.{input_at}
use Rattle.ghg_evaluation.proofs.reader.total.Goals as goal

pub returns : goal.returns
returns g c new change shifts is =
    let old = g.C.Cells.content c.args.before.now in
    subst (λ n. IsOutcomeOf new n c.total.result) (sym c.requires)
    (c.total.ensures old new change shifts (c.kept_input-kept.ensures ∙ ap (input_at (compilation old)) c.requires) (ap (is_node new) (sym c.requires) ∙ is))
