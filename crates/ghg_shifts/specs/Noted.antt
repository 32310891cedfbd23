-- What is noted of shifts, and totals of them.
use Rattle.std.specs.Prelude.{◌≡◌, ℕ, Bool, true, false, ◌&&◌, ◌||◌, ◌==◌, if◌then◌else◌, List, map, Option, Some, None, Ok, Err, option_and_then}
use Rattle.std.specs.BTreeMap.{get}
use Rattle.std.specs.Option.{option_map_or, unwrap_or}
use Rattle.std.specs.Ordering.{nat_cmp, ordering_then}
use Rattle.std.specs.Str.{bytes_eq}
use Rattle.std.specs.declared.cmp.Ordering.{Ordering}
use Rattle.ghg_categories.specs.declared.category.Category.{Category}
use Rattle.ghg_categories.specs.Tree.{is_same}
use Rattle.ghg_categories.specs.contracts.category.CategoryOrd.TheImpl as derived
use Rattle.ghg_cell.specs.declared.input.Input.{Input}
use Rattle.ghg_cell.specs.declared.totals.TheConstants.{MOST_PARTS}
use Rattle.ghg_cell.specs.Totals.{sum_all}
use Rattle.ghg_cell.specs.Values.{known, zero}
use Rattle.ghg_units.specs.declared.node.Node.{Node}
use Rattle.ghg_definitions.specs.Compilation.{compilation, is_year_of, line_gas, overflow, sheet_of}
use Rattle.ghg_definitions.specs.Data.{Data, Name, category, span}
use Rattle.ghg_definitions.specs.Formulas.{Outcome}
use Rattle.ghg_definitions.specs.Rings.{IsAcyclic}
use Rattle.ghg_definitions.specs.Sound.{IsWorkbook}
use Rattle.ghg_definitions.specs.Trials.{breaks}
use Rattle.ghg_shifts.specs.declared.evaluated.Evaluated.{Evaluated}
use Rattle.ghg_shifts.specs.declared.shift.Shift.{Shift}
use Rattle.ghg_shifts.specs.declared.shifts.Counted.{Counted}
use Rattle.ghg_shifts.specs.declared.shifts.Shifts.{Shifts}
use Rattle.ghg_shifts.specs.Extents.{figures_of}
use Rattle.ghg_shifts.specs.Laws.{any_over}
use Rattle.ghg_shifts.specs.Shifts.{AreMoved, counted, shift_of}
use Rattle.ghg_shifts.specs.Sums.{IsSumOf, most_terms, or_zero, plus}
use Rattle.std.specs.List.{Contains}

-- ---- what is kept

abbrev pub Place : Type 0
Place = ℕ × Category

-- by years, and then by codes
abbrev pub place_order : Place → Place → Ordering
place_order p q = ordering_then (nat_cmp p.0 q.0) ((derived.ghosts).cmp p.1 q.1)

-- nothing went and nothing came
abbrev pub nothing : Shift
nothing = record { went = zero; came = zero; over = false }

-- what went from a leaf in a year, and what came to it
abbrev pub shift_at : Shifts → ℕ → Category → Shift
shift_at shifts year leaf = unwrap_or (get place_order shifts.by_leaf (year, leaf)) nothing

-- one input more may be added on each side
pub record HasRoom (s : Shift) : Type 0 where
  pub went : IsSumOf MOST_PARTS s.went
  pub came : IsSumOf MOST_PARTS s.came

-- ---- what is noted

-- a line that stands at a leaf in a year, or at none, is at the place
abbrev pub is_there : ℕ → Option Category → ℕ → Category → Bool
is_there year at y leaf = (year == y) && option_map_or (λ c. is_same c leaf) at false

-- less what a line gave
abbrev pub less : Input → Shift → Shift
less gave s = record { went = plus s.went (or_zero (known gave)); came = s.came; over = s.over }

-- more what it gives, which may be over
abbrev pub more : Outcome → Shift → Shift
more (Ok gives) s = record { went = s.went; came = plus s.came (or_zero (known gives)); over = s.over }
more (Err over) s = record { went = s.went; came = s.came; over = true }

-- the category at which a line stands that emits a gas
abbrev pub emitted_at : Data → Name → Option Category
emitted_at m name = option_and_then (λ gas. category m name) (line_gas m name)

abbrev pub no_line : Name → Bool
no_line name = false

-- those that pass, and one line more
abbrev pub with_line : Name → (Name → Bool) → Name → Bool
with_line name test other = bytes_eq name other || test other

-- the same in one of the years
abbrev pub with_line_in : ℕ → Name → (ℕ → Name → Bool) → ℕ → Name → Bool
with_line_in year name tests y = if year == y then with_line name (tests y) else tests y

-- in each year of the new data the shifts are those of the lines that are gone, and of those that have come
pub record AreNoted (old new : Data) (gone come : ℕ → Name → Bool) (shifts : Shifts) : Type 0 where
  pub each : (year : ℕ) → is_year_of (span new) year ≡ true → (leaf : Category) →
      shift_at shifts year leaf ≡ shift_of old new (gone year) (come year) year leaf

-- ---- totals

-- the shifts of what a total counts
abbrev pub shifts_in : Shifts → ℕ → Option Category → List Shift
shifts_in shifts year top = map (shift_at shifts year) (counted top)

-- what went and what came, added up
pub record IsCounted (n : ℕ) (shifts : List Shift) (c : Counted) : Type 0 where
  pub went : figures_of c.went ≡ sum_all (map (λ s. s.went) shifts)
  pub came : figures_of c.came ≡ sum_all (map (λ s. s.came) shifts)
  pub over : c.over ≡ any_over shifts
  pub went_terms : IsSumOf n (figures_of c.went)
  pub came_terms : IsSumOf n (figures_of c.came)

-- the second is the first with one shift more
pub record IsAdded (c : Counted) (s : Shift) (d : Counted) : Type 0 where
  pub went : figures_of d.went ≡ plus (figures_of c.went) s.went
  pub came : figures_of d.came ≡ plus (figures_of c.came) s.came
  pub over : d.over ≡ (c.over || s.over)
  pub went_terms : IsSumOf most_terms s.went
  pub came_terms : IsSumOf most_terms s.came

-- ---- a change of data

-- the old data have a compilation, and nothing was over; the new ones are a workbook without a ring
pub record IsChange (old new : Data) : Type 0 where
  pub before : IsAcyclic old
  pub fits : overflow old ≡ None
  pub workbook : IsWorkbook new
  pub after : IsAcyclic new

-- at what a total counts, the shifts of a year are those of the change, of lines among which are all that are
-- edited or have an affected equivalent
pub record AreShifts (old new : Data) (year : ℕ) (top : Option Category) (shifts : Shifts) : Type 0 where
  pub moved : Name → Bool
  pub all : AreMoved old new year moved
  pub each : (leaf : Category) → Contains (counted top) leaf →
      shift_at shifts year leaf ≡ shift_of old new moved moved year leaf

-- the outcome that the compilation has at the node, and whether it breaks there
pub record IsOutcomeOf (m : Data) (n : Node) (e : Evaluated) : Type 0 where
  pub outcome : compilation m n ≡ Some e.outcome
  pub breaks : e.breaks ≡ breaks (sheet_of m) (compilation m) n
