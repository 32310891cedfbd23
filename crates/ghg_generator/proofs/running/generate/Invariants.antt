use Rattle.std.proofs.Common.{◌≡◌, ◌≤◌, ◌+◌, ◌-◌, ◌*◌, ◌^◌}
use Rattle.ghg_office.specs.Office.{start}
use Rattle.ghg_office.specs.Replays.{replay_evaluations}
use Rattle.ghg_generator.specs.Summary.{after_all, begun, line_submissions, submissions}
use Rattle.ghg_generator.proofs.running.generate.Given as goal

-- the lines that are left are still due
abbrev pub invariant-loop-done : goal.invariant-loop-done
invariant-loop-done g l = record {
  ran : after_all l.progress (line_submissions (l.lines - l.done) (l.done + 1) l.number)
      ≡ after_all begun (submissions l.seed l.lines);
  spent : l.steps + replay_evaluations l.progress.office (line_submissions (l.lines - l.done) (l.done + 1) l.number)
      ≤ l.fn.steps + replay_evaluations start (submissions l.seed l.lines);
  accepted : l.progress.accepted ≤ l.done + 1;
  cells : l.progress.cells ≤ (l.done + 1) * 2 ^ 64;
}
