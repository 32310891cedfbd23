use Rattle.ghg_tables.proofs.ByPair.{nothing_grouped}
use Rattle.ghg_tables.proofs.groups.Groups.of.Goals as goal

pub loop-name-init : goal.loop-name-init
loop-name-init g c = nothing_grouped (g.C.Cells.content c.args.cells.now) (record { by_pair = c.new.result }) c.new.ensures.empty
