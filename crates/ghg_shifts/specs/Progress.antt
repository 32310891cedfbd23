-- What is noted while the nodes that a change affects are evaluated.
use Rattle.std.specs.Prelude.{◌≡◌, ℕ, Bool, true, false, not, ◌&&◌, ◌||◌, nat_lt, List, Option}
use Rattle.std.specs.FinMap.{get}
use Rattle.std.specs.List.{Contains, list_any}
use Rattle.std.specs.Ordering.{eq_by_cmp}
use Rattle.std.specs.Option.{option_map_or}
use Rattle.std.specs.Str.{bytes_eq}
use Rattle.ghg_categories.specs.declared.category.Category.{Category}
use Rattle.ghg_units.specs.declared.node.Node.{Node}
use Rattle.ghg_units.specs.declared.node.Node.TheVariants as node
use Rattle.ghg_definitions.specs.declared.record.RecordKey.{RecordKey}
use Rattle.ghg_definitions.specs.declared.record.RecordKey.TheVariants as key
use Rattle.ghg_definitions.specs.Compilation.{is_node, is_year_of, sheet_of}
use Rattle.ghg_definitions.specs.Data.{Data, Name, category, key_cmp, span}
use Rattle.ghg_definitions.specs.Nodes.{node_cmp}
use Rattle.ghg_definitions.specs.Rings.{IsAcyclic}
use Rattle.ghg_definitions.specs.Sound.{IsWorkbook}
use Rattle.ghg_definitions.specs.Trials.{IsInput}
use Rattle.ghg_affected.specs.Affected.{IsAffected}
use Rattle.ghg_shifts.specs.declared.shifts.Shifts.{Shifts}
use Rattle.ghg_shifts.specs.Noted.{AreNoted, AreShifts, HasRoom, IsChange}
use Rattle.ghg_shifts.specs.Shifts.{AreMoved, counts_in, shift_of, total_at}

-- the line stands at a category that a total counts
abbrev pub is_counted : Option Category → Data → Name → Bool
is_counted top m name = option_map_or (counts_in top) (category m name) false

-- Of the lines that a total counts in the old data, the moved ones and no others are noted as gone; of those
-- that it counts in the new data, the moved ones and no others as come. Then it has the shifts that it needs.
abbrev pub TotalIsNoted : Type 0
TotalIsNoted = (old new : Data) → IsAcyclic old → IsAcyclic new →
    (gone come : ℕ → Name → Bool) (shifts : Shifts) → AreNoted old new gone come shifts →
    (year : ℕ) (moved : Name → Bool) → AreMoved old new year moved →
    (top : Option Category) → is_year_of (span new) year ≡ true →
    ((name : Name) → is_node old (node.Equiv name year) ≡ true → is_counted top old name ≡ true →
    gone year name ≡ moved name) →
    ((name : Name) → is_node new (node.Equiv name year) ≡ true → is_counted top new name ≡ true →
    come year name ≡ moved name) →
    AreShifts old new year top shifts

-- Of workbooks no more is noted than there is room for.
abbrev pub ShiftsHaveRoom : Type 0
ShiftsHaveRoom = (old new : Data) → IsWorkbook old → IsAcyclic old → IsWorkbook new → IsAcyclic new →
    (gone come : Name → Bool) (year : ℕ) (leaf : Category) → HasRoom (shift_of old new gone come year leaf)

-- A change of workbooks, whose records differ at the edited keys alone. The given nodes are nodes of the new
-- data, among them all that are affected.
pub record IsEdit (old new : Data) (keys : List RecordKey) (given : List Node) : Type 0 where
  pub was : IsWorkbook old
  pub change : IsChange old new
  pub others : (k : RecordKey) → (Contains keys k → ⊥) → get old k ≡ get new k
  pub affected : (n : Node) → IsAffected old new n → Contains given n
  pub nodes : (n : Node) → Contains given n → is_node new n ≡ true

-- the record of the line is edited
abbrev pub is_edited : List RecordKey → Name → Bool
is_edited keys name = list_any (eq_by_cmp key_cmp (key.Line name)) keys

-- the equivalent of the line in the year is one of the nodes
abbrev pub has_equivalent : List Node → ℕ → Name → Bool
has_equivalent ns year name = list_any (eq_by_cmp node_cmp (node.Equiv name year)) ns

-- the line is edited, or its equivalent of the year is done
abbrev pub is_gone : List RecordKey → List Node → ℕ → Name → Bool
is_gone keys done year name = is_edited keys name || has_equivalent done year name

-- the line is edited, and its equivalent of the year is not given, so it gives what it gave; or that is done
abbrev pub has_come : List RecordKey → List Node → List Node → ℕ → Name → Bool
has_come keys given done year name =
    (is_edited keys name && not (has_equivalent given year name)) || has_equivalent done year name

-- the edited lines are noted, and those whose equivalents are among the given nodes that are done
pub record AreNotedBefore (old new : Data) (keys : List RecordKey) (given done : List Node) (shifts : Shifts)
    : Type 0 where
  pub noted : AreNoted old new (is_gone keys done) (has_come keys given done) shifts
  pub among : (n : Node) → Contains done n → Contains given n

-- of edited lines these, and a further one in the years before the end
abbrev pub is_gone_until : List RecordKey → Name → ℕ → ℕ → Name → Bool
is_gone_until keys name end year other = is_edited keys other || (bytes_eq name other && nat_lt year end)

-- these are noted
pub record AreNotedUntil (old new : Data) (keys : List RecordKey) (given : List Node) (name : Name) (end : ℕ)
    (shifts : Shifts) : Type 0 where
  pub noted : AreNoted old new (is_gone_until keys name end)
      (λ year other. is_gone_until keys name end year other && not (has_equivalent given year other)) shifts

-- Once the given inputs of a total are done, it has the shifts that it needs.
abbrev pub TotalsHaveShifts : Type 0
TotalsHaveShifts = (old new : Data) (keys : List RecordKey) (given done : List Node) (shifts : Shifts) →
    IsEdit old new keys given → AreNotedBefore old new keys given done shifts →
    (top : Option Category) (year : ℕ) → is_node new (total_at top year) ≡ true →
    ((k : Node) → IsInput (sheet_of new) k (total_at top year) → Contains given k → Contains done k) →
    AreShifts old new year top shifts
