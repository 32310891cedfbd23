-- The desk: an office, the versions that were frozen of it, and what it answers.
use Rattle.std.specs.Prelude.{ℕ, ◌==◌, nat_le, if◌then◌else◌, List, [], ◌∷◌, ◌++◌, length, take, find, Option, Some, None, option_map, refl}
use Rattle.std.specs.Coded.{Coded, code_by, coded×, coded_list, coded_ℕ}
use Rattle.std.specs.Str.{bytes_eq}
use Rattle.ghg_definitions.specs.Compilation.{compilation, is_year_of}
use Rattle.ghg_definitions.specs.Data.{Data, span}
use Rattle.ghg_keeper.specs.declared.row.KeptRow.{KeptRow}
use Rattle.ghg_office.specs.Laws.{state_after_all}
use Rattle.ghg_office.specs.Office.{Answer, State, evaluations, requested, start, submitted}
use Rattle.ghg_tables.specs.declared.values.PairValue.{PairValue}
use Rattle.ghg_tables.specs.Values.{values}
use Rattle.ghg_trendunc.specs.Table.{trendunc_text}
use Rattle.ghg_units.specs.Name.{is_name}
use Rattle.ghg_versions.specs.declared.command.Command.{Command}
use Rattle.ghg_versions.specs.declared.command.Command.TheVariants.{Submit, Show, Freeze, Recalc, Trend}
use Rattle.ghg_versions.specs.declared.reply.DeskReply.{DeskReply}
use Rattle.ghg_versions.specs.declared.reply.DeskReply.TheVariants.{Office, Frozen, BadVersion, VersionExists, TooManyVersions, Table, NoTable}
use Rattle.ghg_versions.specs.Recalculation.{recalculation}

-- ---- the state

-- a name, and how many submissions were accepted when it was frozen
pub record Version : Type 0 where
  pub name : List ℕ
  pub seq : ℕ

-- the office's state, and the versions in the order in which they were frozen
pub record DeskState : Type 0 where
  pub office : State
  pub versions : List Version

abbrev pub version_code : Coded Version
version_code =
    code_by (List ℕ × ℕ) (coded× (coded_list coded_ℕ) coded_ℕ)
    (λ v. (v.name, v.seq)) (λ p. record { name = p.0; seq = p.1 }) (λ _. refl)

abbrev pub desk_code : Coded State → Coded DeskState
desk_code office =
    code_by (State × List Version) (coded× office (coded_list version_code))
    (λ s. (s.office, s.versions)) (λ p. record { office = p.0; versions = p.1 }) (λ _. refl)

-- an answer, and the state after it
pub record DeskAnswer : Type 0 where
  pub reply : DeskReply
  pub after : DeskState

-- an answer that changes nothing
abbrev pub unchanged : DeskState → DeskReply → DeskAnswer
unchanged s reply = record { reply = reply; after = s }

-- the office's answer, which leaves the versions
abbrev pub from_office : DeskState → Answer → DeskAnswer
from_office s answer = record {
  reply = Office answer.reply;
  after = record { office = answer.after; versions = s.versions };
}

-- the number of the version of a name
abbrev pub seq_of : List ℕ → List Version → Option ℕ
seq_of name versions = option_map (λ v. v.seq) (find (λ v. bytes_eq v.name name) versions)

-- ---- a name is frozen, by the first case that holds

abbrev pub most_versions : ℕ
most_versions = 100

-- the number of accepted submissions
abbrev pub present : DeskState → ℕ
present s = length s.office.accepted

-- a name that is not frozen
abbrev pub frozen_anew : DeskState → List ℕ → DeskAnswer
frozen_anew s name =
    if nat_le most_versions (length s.versions) then unchanged s TooManyVersions
    else record {
      reply = Frozen (present s);
      after = record {
        office = s.office;
        versions = s.versions ++ record { name = name; seq = present s } ∷ [];
      };
    }

-- a name that may be frozen
abbrev pub frozen_once : DeskState → List ℕ → Option ℕ → DeskAnswer
frozen_once s name None = frozen_anew s name
frozen_once s name (Some seq) = unchanged s (if seq == present s then Frozen seq else VersionExists seq)

unfoldable pub frozen : DeskState → List ℕ → DeskAnswer
frozen s name =
    if is_name name then frozen_once s name (seq_of name s.versions) else unchanged s BadVersion

-- ---- what was reported is set beside what holds now

-- the data that the first accepted submissions give, submitted one after the other from the empty state
abbrev pub data_of : List KeptRow → ℕ → Data
data_of accepted seq = (state_after_all start (take seq accepted)).content

-- the value of each pair in a year, by the compilation of the data; none where the year lies outside the span
unfoldable pub values_at : Data → ℕ → Option (List PairValue)
values_at m year = if is_year_of (span m) year then Some (values m (compilation m) year) else None

abbrev pub compared : Option (List PairValue) → Option (List PairValue) → DeskReply
compared (Some reported) (Some now) = Table (recalculation reported now)
compared _ _ = NoTable

-- a version of this number, if the name is frozen, beside the present data
abbrev pub compared_with : DeskState → ℕ → Option ℕ → DeskReply
compared_with s year None = NoTable
compared_with s year (Some seq) =
    compared (values_at (data_of s.office.accepted seq) year) (values_at s.office.content year)

unfoldable pub recalculated : DeskState → List ℕ → ℕ → DeskReply
recalculated s name year = compared_with s year (seq_of name s.versions)

-- ---- the uncertainty of the trend

-- that of the present data, from the base year to a year of the span
unfoldable pub trended : DeskState → ℕ → DeskReply
trended s year =
    if is_year_of (span s.office.content) year
    then Table (trendunc_text s.office.content (compilation s.office.content) year) else NoTable

-- ---- a command

unfoldable pub answered : DeskState → Command → DeskAnswer
answered s (Submit id body) = from_office s (submitted s.office id body)
answered s (Show table year) = unchanged s (Office (requested s.office table year))
answered s (Freeze name) = frozen s name
answered s (Recalc name year) = unchanged s (recalculated s name year)
answered s (Trend year) = unchanged s (trended s year)

-- how many evaluations it asks for: none but for a submission
abbrev pub evaluations_for : DeskState → Command → ℕ
evaluations_for s (Submit id body) = evaluations s.office id body
evaluations_for s _ = 0
