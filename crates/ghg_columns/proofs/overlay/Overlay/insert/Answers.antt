use Rattle.std.proofs.Common.{ap, ◌∙◌}
use Rattle.ghg_columns.specs.Cells.{cell_at, found_in}
use Rattle.ghg_columns.specs.Fresh.{fresh_at}
use Rattle.ghg_columns.proofs.Overs.{put_in_front}
use Rattle.ghg_columns.proofs.Rooms.{on_ok}
use Rattle.ghg_columns.proofs.overlay.Overlay.insert.Goals as goal

pub returns-clause-outcomes : goal.returns-clause-outcomes
returns-clause-outcomes c = on_ok c.insert.result (λ is. ap (λ f. found_in f (cell_at c.args.self.now.kept.now)) is ∙ put_in_front (fresh_at c.args.self.now.fresh) (cell_at c.args.self.now.kept.now) c.args.node.now c.args.outcome) c.insert.ensures
