use Rattle.std.proofs.Common.{◌≡◌, ◌+◌, take}
use Rattle.std.specs.BTreeSet.{contains}
use Rattle.ghg_definitions.specs.Data.{Name, name_cmp}
use Rattle.ghg_shifts.specs.Progress.{AreNotedUntil, is_edited}
use Rattle.ghg_engine.proofs.notes.Notes.note_key.Given as goal

abbrev pub invariant-loop-year : goal.invariant-loop-year
invariant-loop-year g l =
    AreNotedUntil (g.C.Cells.content l.change.before.now) (g.R.Records.content l.change.records.now) (take l.place l.change.keys.now) l.nodes l.name l.year l.self.shifts
    × ((other : Name) → contains name_cmp l.self.edited other ≡ is_edited (take (l.place + 1) l.change.keys.now) other)
