use Rattle.std.proofs.Common.{[], take}
use Rattle.ghg_engine.specs.Notes.{AreNotes}
use Rattle.ghg_engine.proofs.notes.Notes.of.Given as goal

abbrev pub invariant-loop-place : goal.invariant-loop-place
invariant-loop-place g l = AreNotes (g.C.Cells.content l.change.before.now) (g.R.Records.content l.change.records.now) (take l.place l.change.keys.now) l.nodes [] l.notes
