use Rattle.ghg_data.proofs.InTurn.{applied_after}
use Rattle.ghg_data.proofs.plan.planned_edits.Goals as goal

pub returns-clause-after : goal.returns-clause-after
returns-clause-after c = applied_after _ c.args.rows.now _ c.in_ok-progress.ensures.applied
