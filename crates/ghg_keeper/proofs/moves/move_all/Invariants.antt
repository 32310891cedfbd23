use Rattle.std.proofs.Common.{Ok}
use Rattle.sqlite.specs.State.{HasCleanDisk, Survives}
use Rattle.sqlite.specs.Held.{state}
use Rattle.ghg_keeper.specs.Course.{CopiesRows}
use Rattle.ghg_keeper.specs.Moving.{CommitsNone, IsMoving, IsWithin}
use Rattle.ghg_keeper.proofs.moves.move_all.Given as goal

abbrev pub invariant-loop-copied : goal.invariant-loop-copied
invariant-loop-copied g l = (HasCleanDisk (state g.S.Store l.connection) → IsMoving l.copied (state g.S.Store l.connection)) × IsWithin (state g.S.Store l.initial.connection) (state g.S.Store l.connection)
    × Survives (state g.S.Store l.initial.connection) (state g.S.Store l.connection) CommitsNone
    × CopiesRows g.S.Store l.copied l.initial.connection l.connection (Ok tt)
