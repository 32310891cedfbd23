use Rattle.std.proofs.Common.{◌≡◌, ◌≤◌, ◌+◌, length}
use Rattle.ghg_office.specs.Office.{start}
use Rattle.ghg_office.specs.Replays.{replay_evaluations}
use Rattle.ghg_office.proofs.Replayed.{HasReplayed}
use Rattle.ghg_office.proofs.office.Office.reopen.Given as goal

-- the rows that were read led to the office; how many there are; and how many evaluations they asked for
abbrev pub invariant-loop-done : goal.invariant-loop-done
invariant-loop-done g l = record {
  progress : HasReplayed (g.K.Keeper.shelf l.fn.keeper) (g.K.Keeper.shelf l.keeper) l.done l.office;
  count : (g.K.Keeper.shelf l.keeper).tells → l.count ≡ length (g.K.Keeper.shelf l.fn.keeper).rows;
  spent : l.steps ≤ l.fn.steps + replay_evaluations start l.office.accepted;
}
