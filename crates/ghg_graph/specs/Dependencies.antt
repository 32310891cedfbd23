-- The lines that keys are about, those that they take, those that these take, and so on.
use Rattle.std.specs.Prelude.{◌≡◌, ◌⊎◌, ◌↔◌, true, if◌then◌else◌, is_some, List, ◌++◌, length, map, Option, Some, None}
use Rattle.std.specs.BTreeSet.{BTreeSet, IsOrdered, btree_set_len, contains}
use Rattle.std.specs.List.{filter_map}
use Rattle.std.specs.List.Sorted.{IsStrictlySortedBy}
use Rattle.ghg_definitions.specs.declared.record.RecordKey.{RecordKey}
use Rattle.ghg_definitions.specs.declared.record.RecordKey.TheVariants as key
use Rattle.ghg_definitions.specs.Data.{Data, Name, line, name_cmp}
use Rattle.ghg_definitions.specs.Listed.{IsListed}
use Rattle.ghg_definitions.specs.Rings.{Takes}
use Rattle.ghg_data.specs.Changes.{Change, applied}
use Rattle.ghg_graph.specs.declared.dependencies.Gathered.{Gathered}

-- the line of the key, or of the binding, if it is present
abbrev pub present_line : Data → RecordKey → Option Name
present_line m (key.Line name) = if is_some (line m name) then Some name else None
present_line m (key.Bind name parameter) = if is_some (line m name) then Some name else None
present_line m _ = None

abbrev pub present_lines : Data → List RecordKey → List Name
present_lines m keys = filter_map (present_line m) keys

-- the line is one of the first, or one that a line takes to which these lead
pub data IsLedTo (m : Data) (first : List Name) : Name → Type 0 where
  begun : {name : Name} → IsListed name first → IsLedTo m first name
  taken : {name other : Name} → IsLedTo m first name → Takes m name other → IsLedTo m first other

-- the lines to which the first lead, in byte order
pub record AreLedTo (m : Data) (first names : List Name) : Type 0 where
  pub order : IsStrictlySortedBy name_cmp names
  pub led_to : (name : Name) → IsListed name names ↔ IsLedTo m first name

-- those of the data with the changes, from the lines on that the changes are about
abbrev pub AreLedToBy : Data → List Change → List Name → Type 0
AreLedToBy m cs names = AreLedTo (applied m cs) (present_lines (applied m cs) (map (λ c. c.0) cs)) names

-- ---- names that are gathered one after the other

-- the name is gathered
abbrev pub IsIn : BTreeSet Name → Name → Type 0
IsIn names name = contains name_cmp names name ≡ true

-- the gathered names are queued, each once
pub record IsQueued (g : Gathered) : Type 0 where
  pub ordered : IsOrdered name_cmp g.names
  pub count : length g.queue.items ≡ btree_set_len g.names
  pub sound : (name : Name) → IsListed name g.queue.items → IsIn g.names name
  pub full : (name : Name) → IsIn g.names name → IsListed name g.queue.items

-- the names are gathered too, and are queued behind the others
pub record IsGathered (names : List Name) (old new : Gathered) : Type 0 where
  pub queued : IsQueued new
  pub kept : (name : Name) → IsIn old.names name → IsIn new.names name
  pub added : (name : Name) → IsListed name names → IsIn new.names name
  pub only : (name : Name) → IsIn new.names name → IsIn old.names name ⊎ IsListed name names
  pub behind : (fresh : List Name) × (new.queue.items ≡ old.queue.items ++ fresh)
