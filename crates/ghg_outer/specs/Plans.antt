-- Which calls of a form in memory fail, and what contracts see of these forms.
use Rattle.std.specs.Prelude.{ℕ, Bool, if◌then◌else◌, List, ◌==◌}
use Rattle.std.specs.List.{list_any}
use Rattle.ghg_outer.specs.Bytes.{SourceBytes}
use Rattle.ghg_outer.specs.Counts.{raised}
use Rattle.ghg_outer.specs.Tape.{Tape, sink_tape, source_tape}

-- the numbers of the calls that are to fail, how many calls were made, and how many of them failed
pub record Plan : Type 0 where
  pub failing : List ℕ
  pub calls : ℕ
  pub faults : ℕ

-- before the first call
abbrev pub planned : List ℕ → Plan
planned failing = record { failing = failing; calls = 0; faults = 0 }

-- the number of the next call stands among those that are to fail
abbrev pub fails_next : Plan → Bool
fails_next plan = list_any (λ number. number == raised plan.calls) plan.failing

-- one call later
abbrev pub after_call : Plan → Plan
after_call plan = record plan {
  calls = raised plan.calls;
  faults = if fails_next plan then raised plan.faults else plan.faults;
}

-- one call later, which failed, listed or not
abbrev pub after_failure : Plan → Plan
after_failure plan = record (after_call plan) { faults = raised plan.faults }

-- a source in memory
pub record PlannedSource : Type 0 where
  pub bytes : SourceBytes
  pub plan : Plan

-- a sink in memory
pub record PlannedSink : Type 0 where
  pub written : List ℕ
  pub plan : Plan

-- what they tell
abbrev pub planned_source_tape : PlannedSource → Tape
planned_source_tape s = source_tape s.bytes.left s.bytes.taken s.plan.faults

abbrev pub planned_sink_tape : PlannedSink → Tape
planned_sink_tape s = sink_tape s.written s.plan.faults
