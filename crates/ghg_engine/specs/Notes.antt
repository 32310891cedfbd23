-- What is noted for the totals while nodes are evaluated.
use Rattle.std.specs.Prelude.{◌≡◌, List}
use Rattle.std.specs.BTreeSet.{contains}
use Rattle.ghg_units.specs.declared.node.Node.{Node}
use Rattle.ghg_definitions.specs.declared.record.RecordKey.{RecordKey}
use Rattle.ghg_definitions.specs.Data.{Data, Name, name_cmp}
use Rattle.ghg_shifts.specs.Progress.{AreNotedBefore, is_edited}
use Rattle.ghg_engine.specs.declared.notes.Notes.{Notes}

-- the edited lines are known and noted, and those whose equivalents are among the given nodes that are done
pub record AreNotes (old new : Data) (keys : List RecordKey) (given done : List Node) (notes : Notes)
    : Type 0 where
  pub noted : AreNotedBefore old new keys given done notes.shifts
  pub edited : (name : Name) → contains name_cmp notes.edited name ≡ is_edited keys name
