-- Links in memory, which are read and written.
use Rattle.std.specs.Prelude.{◌≡◌, ℕ, true, List, [], Some, IfSome}
use Rattle.ghg_outer.specs.Bytes.{SourceBytes}
use Rattle.ghg_outer.specs.Plans.{Plan}
use Rattle.ghg_outer.specs.Tape.{Tape}

-- the bytes that are read, and those that were written
pub record LinkBytes : Type 0 where
  pub input : SourceBytes
  pub written : List ℕ

-- the tape of a link that tells its bytes
abbrev pub link_tape : LinkBytes → ℕ → Tape
link_tape bytes faults = record {
  left = Some bytes.input.left;
  taken = Some bytes.input.taken;
  written = Some bytes.written;
  faults = faults;
  grows = true;
}

-- a link in memory whose calls fail by a list
pub record PlannedLink : Type 0 where
  pub bytes : LinkBytes
  pub plan : Plan

abbrev pub planned_link_tape : PlannedLink → Tape
planned_link_tape l = link_tape l.bytes l.plan.faults

-- no call failed, and of what is told nothing was taken and nothing was written
pub record IsFresh (tape : Tape) : Type 0 where
  pub faults : tape.faults ≡ 0
  pub taken : IfSome tape.taken (λ bytes. bytes ≡ [])
  pub written : IfSome tape.written (λ bytes. bytes ≡ [])
