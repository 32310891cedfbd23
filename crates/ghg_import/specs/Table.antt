-- The forms of rows as a table: what each column may hold, kind by kind, and for which one a row is refused.
use Rattle.std.specs.Prelude.{ℕ, Bool, true, false, not, List, [], ◌∷◌, length, ◌==◌, ◌||◌, ◌&&◌, Option, Some, None, is_some, if◌then◌else◌}
use Rattle.std.specs.List.{find}
use Rattle.std.specs.Option.{option_map, option_or}
use Rattle.ghg_equations.specs.Table.{named}
use Rattle.ghg_units.specs.declared.row.Act.{Act}
use Rattle.ghg_units.specs.declared.rule.Column.{Column}
use Rattle.ghg_units.specs.declared.rule.Column.TheVariants as columns
use Rattle.ghg_units.specs.declared.unit.Unit as measures
use Rattle.ghg_units.specs.HalfLife.{half_life_in}
use Rattle.ghg_units.specs.Name.{factor_name_in, plain_name_in}
use Rattle.ghg_units.specs.Parameter.{parameter_in}
use Rattle.ghg_units.specs.Uncertainty.{uncertainty_in}
use Rattle.ghg_units.specs.Units.{is_of_half_lives, unit_in}
use Rattle.ghg_units.specs.WellFormed.{withdraws}
use Rattle.ghg_units.specs.Words.{key_in}
use Rattle.ghg_units.specs.Year.{year_in}
use Rattle.ghg_import.specs.declared.fault.Fault.{Fault}
use Rattle.ghg_import.specs.declared.fault.Fault.TheVariants.{Word, Number}
use Rattle.ghg_import.specs.declared.kind.Chosen.{Chosen}
use Rattle.ghg_import.specs.declared.kind.Kind.{Kind}
use Rattle.ghg_import.specs.declared.kind.Kind.TheVariants as kinds
use Rattle.ghg_import.specs.declared.kind.Manner.{Manner}
use Rattle.ghg_import.specs.declared.kind.Manner.TheVariants.{Withdraws, InYears, Keyed, Valued}
use Rattle.ghg_import.specs.declared.table.Holding.{Holding}
use Rattle.ghg_import.specs.declared.table.Holding.TheVariants.{Empty, LeafCategory, PlainName, FactorName, Parameter, Equation, Form, Target, NotationKey, UnitWord, Year, Figure, Bound, HalfLife, NoBound, Percentage}
use Rattle.ghg_import.specs.declared.table.Holdings.{Holdings}
use Rattle.ghg_import.specs.Forms.{binding_in, leaf_in, quantity_in}
use Rattle.ghg_import.specs.Kinds.{binding_form_in}
use Rattle.ghg_import.specs.Shape.{Texts, text_of}

-- ---- the table

abbrev pub columns_of : Holding → Holding → Holding → Holding → Holding → Holding → Holding → Holdings
columns_of subject name year value low high unit =
    record { subject = subject; name = name; year = year; value = value; low = low; high = high; unit = unit }

-- For each kind the columns of its key, which alone a row that withdraws fills, and the columns of another
-- row. A notation key has no bounds, and no half-life has any.
abbrev pub holdings_of : Kind → Manner → Holdings
holdings_of kinds.Span Withdraws = columns_of Empty Empty Empty Empty Empty Empty Empty
holdings_of kinds.Span _ = columns_of Empty Empty Year Year Year Empty Empty
holdings_of kinds.Activity Withdraws = columns_of Empty PlainName Year Empty Empty Empty Empty
holdings_of kinds.Activity Keyed = columns_of Empty PlainName Year NotationKey Empty Empty UnitWord
holdings_of kinds.Activity _ = columns_of Empty PlainName Year Figure Bound Bound UnitWord
holdings_of kinds.Factor Withdraws = columns_of Empty FactorName Year Empty Empty Empty Empty
holdings_of kinds.Factor InYears = columns_of Empty FactorName Year HalfLife NoBound NoBound UnitWord
holdings_of kinds.Factor Keyed = columns_of Empty FactorName Year NotationKey Empty Empty UnitWord
holdings_of kinds.Factor Valued = columns_of Empty FactorName Year Figure Bound Bound UnitWord
holdings_of kinds.Line Withdraws = columns_of Empty PlainName Empty Empty Empty Empty Empty
holdings_of kinds.Line _ = columns_of LeafCategory PlainName Empty Equation Empty Empty Empty
holdings_of kinds.Bind Withdraws = columns_of PlainName Parameter Empty Empty Empty Empty Empty
holdings_of kinds.Bind _ = columns_of PlainName Parameter Empty Form Target Empty Empty
holdings_of kinds.Uncert Withdraws = columns_of Empty PlainName Empty Empty Empty Empty Empty
holdings_of kinds.Uncert _ = columns_of Empty PlainName Empty Percentage Percentage Empty Empty

abbrev pub holding_at : Holdings → Column → Holding
holding_at h columns.Subject = h.subject
holding_at h columns.Name = h.name
holding_at h columns.Year = h.year
holding_at h columns.Value = h.value
holding_at h columns.Low = h.low
holding_at h columns.High = h.high
holding_at h columns.Unit = h.unit
holding_at h _ = Empty

-- ---- what a body's format and a row's words choose for its other columns

-- whether a row of this kind and unit holds a half-life
abbrev pub is_in_years : Kind → Option measures.Unit → Bool
is_in_years kinds.Factor (Some u) = is_of_half_lives u
is_in_years _ _ = false

abbrev pub manner_of : Kind → Act → Texts → Manner
manner_of kind act row =
    if withdraws act then Withdraws
    else if is_in_years kind (unit_in (text_of row columns.Unit)) then InYears
    else if is_some (key_in (text_of row columns.Value)) then Keyed
    else Valued

abbrev pub chosen_in : ℕ → Kind → Act → Texts → Chosen
chosen_in format kind act row =
    record {
      format = format;
      manner = manner_of kind act row;
      unit = unit_in (text_of row columns.Unit);
      binds = is_some (binding_in row);
    }

-- ---- what a column may hold

abbrev pub is_number : Holding → Bool
is_number Year = true
is_number Figure = true
is_number Bound = true
is_number HalfLife = true
is_number NoBound = true
is_number Percentage = true
is_number _ = false

-- whether a text is a number that is within the limit, in the unit that the row names
abbrev pub is_quantity : Option measures.Unit → List ℕ → Bool
is_quantity None text = false
is_quantity (Some u) text = is_some (quantity_in u text)

abbrev pub is_unfilled : Texts → Column → Bool
is_unfilled row column = length (text_of row column) == 0

-- whether a text is what a column may hold in its row
abbrev pub is_held : Holding → Chosen → Texts → List ℕ → Bool
is_held Empty c row text = length text == 0
is_held LeafCategory c row text = is_some (leaf_in text)
is_held PlainName c row text = is_some (plain_name_in text)
is_held FactorName c row text = is_some (factor_name_in text)
is_held Parameter c row text = is_some (parameter_in text)
is_held Equation c row text = is_some (named text)
is_held Form c row text = is_some (binding_form_in text)
is_held Target c row text = c.binds
is_held NotationKey c row text = is_some (key_in text)
is_held UnitWord c row text = is_some c.unit
is_held Year c row text = is_some (year_in text)
is_held Figure c row text = is_quantity c.unit text
is_held Bound c row text =
    (is_unfilled row columns.Low && is_unfilled row columns.High) || is_quantity c.unit text
is_held HalfLife c row text = is_some (half_life_in c.format text)
is_held NoBound c row text = length text == 0
is_held Percentage c row text = is_some (uncertainty_in text)

-- ---- the column that a row is refused for

-- the columns that the kind decides, from left to right
abbrev pub decided : List Column
decided =
    columns.Subject ∷ columns.Name ∷ columns.Year ∷ columns.Value
    ∷ columns.Low ∷ columns.High ∷ columns.Unit ∷ []

-- the column should be empty or hold a word, and does not
abbrev pub is_wrong_word : Holdings → Chosen → Texts → Column → Bool
is_wrong_word h c row column =
    not (is_number (holding_at h column)) && not (is_held (holding_at h column) c row (text_of row column))

-- the column should hold a number, and does not
abbrev pub is_wrong_number : Holdings → Chosen → Texts → Column → Bool
is_wrong_number h c row column =
    is_number (holding_at h column) && not (is_held (holding_at h column) c row (text_of row column))

-- the leftmost wrong word, and else the leftmost wrong number
abbrev pub wrong_among : Holdings → Chosen → Texts → Option Fault
wrong_among h c row =
    option_or (option_map Word (find (is_wrong_word h c row) decided))
    (option_map Number (find (is_wrong_number h c row) decided))

unfoldable pub wrong_column : Kind → Chosen → Texts → Option Fault
wrong_column kind c row = wrong_among (holdings_of kind c.manner) c row

-- ---- what a row's content does not tell

-- a column is empty if it should be, and a bound does not stand alone
abbrev pub says_no_more_in : Holding → Texts → List ℕ → Bool
says_no_more_in Empty row text = length text == 0
says_no_more_in NoBound row text = length text == 0
says_no_more_in Bound row text =
    if is_unfilled row columns.Low then is_unfilled row columns.High else not (is_unfilled row columns.High)
says_no_more_in _ row text = true

-- the same of each column that the kind decides
abbrev pub say_no_more : Holdings → Texts → Bool
say_no_more h row =
    says_no_more_in h.subject row (text_of row columns.Subject)
    && says_no_more_in h.name row (text_of row columns.Name)
    && says_no_more_in h.year row (text_of row columns.Year)
    && says_no_more_in h.value row (text_of row columns.Value)
    && says_no_more_in h.low row (text_of row columns.Low)
    && says_no_more_in h.high row (text_of row columns.High)
    && says_no_more_in h.unit row (text_of row columns.Unit)

-- the same of a row of a kind
abbrev pub says_no_more : Kind → Manner → Texts → Bool
says_no_more kind manner row = say_no_more (holdings_of kind manner) row
