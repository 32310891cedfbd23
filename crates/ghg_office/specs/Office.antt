-- The office: the data in force, the submissions that it accepted, and what it answers.
use Rattle.std.specs.Prelude.{◌≡◌, ℕ, ◌≤◌, true, ◌+◌, nat_lt, if◌then◌else◌, List, [], ◌∷◌, ◌++◌, length, Option, Some, None, Result, Ok, Err, refl}
use Rattle.std.specs.Str.{bytes_eq}
use Rattle.std.specs.Coded.{Coded, code_by, coded×, coded_list}
use Rattle.std.specs.FinMap.{code, empty}
use Rattle.ghg_affected.specs.Affected.{affected_nodes}
use Rattle.ghg_definitions.specs.declared.record.Record.{Record}
use Rattle.ghg_definitions.specs.declared.record.RecordKey.{RecordKey}
use Rattle.ghg_definitions.specs.Compilation.{compilation, is_year_of}
use Rattle.ghg_definitions.specs.Data.{Data, span}
use Rattle.ghg_definitions.specs.Rules.{accepted, arranged}
use Rattle.ghg_import.specs.Body.{max_body}
use Rattle.ghg_import.specs.Reading.{Reading, reading_of}
use Rattle.ghg_keeper.specs.Id.{is_id}
use Rattle.ghg_keeper.specs.declared.row.KeptRow.{KeptRow}
use Rattle.ghg_office.specs.Accepted.{Kept, kept_bytes, kept_from, row_code}
use Rattle.ghg_office.specs.declared.reply.Reply.{Reply}
use Rattle.ghg_office.specs.declared.reply.Reply.TheVariants.{Accepted, Repeated, Refused, NoTable, Table as Shown}
use Rattle.ghg_tables.specs.declared.table.Table.{Table}
use Rattle.ghg_tables.specs.Names.{table_in}
use Rattle.ghg_tables.specs.Tables.{table_text}
use Rattle.ghg_units.specs.declared.rule.Rule.{Rule}
use Rattle.ghg_units.specs.declared.rule.Rule.TheVariants.{BadId, IdReused, BodyTooLong}

-- ---- the state

-- the data in force, and the accepted submissions in their order
pub record State : Type 0 where
  pub content : Data
  pub accepted : List KeptRow

abbrev pub state_code : Coded RecordKey → Coded Record → Coded State
state_code key entry =
    code_by (Data × List KeptRow) (coded× (code key entry) (coded_list row_code))
    (λ s. (s.content, s.accepted)) (λ p. record { content = p.0; accepted = p.1 }) (λ _. refl)

abbrev pub start : State
start = record { content = empty; accepted = [] }

-- ---- a submission, by the first case that holds

-- the data once the rows of a body are entered, or the first rule that the rows or these data break
unfoldable pub entered : Data → Reading → ℕ → Result Data Rule
entered m reading kept_bytes = accepted m reading.rows reading.rest kept_bytes

-- the same of a body that is submitted in a state
abbrev pub entered_by : State → List ℕ → Result Data Rule
entered_by s body = entered s.content (reading_of body) (kept_bytes s.accepted + length body)

-- an answer, and the state after it
pub record Answer : Type 0 where
  pub reply : Reply
  pub after : State

-- an answer that changes nothing
abbrev pub unchanged : State → Reply → Answer
unchanged s reply = record { reply = reply; after = s }

abbrev pub refused : State → Rule → Answer
refused s rule = unchanged s (Refused rule)

-- the submission is accepted under the next number, with the number of the nodes that its rows affect
abbrev pub decided : State → List ℕ → List ℕ → Result Data Rule → Answer
decided s id body (Err rule) = refused s rule
decided s id body (Ok m) = record {
  reply = Accepted (length s.accepted + 1) (length (affected_nodes s.content m));
  after = record { content = m; accepted = s.accepted ++ (record { id = id; body = body } ∷ []) };
}

-- a submission with an id that is not kept
abbrev pub judged : State → List ℕ → List ℕ → Answer
judged s id body =
    if nat_lt max_body (length body) then refused s BodyTooLong
    else decided s id body (entered_by s body)

-- the same id and body again
abbrev pub repeated : State → ℕ → Answer
repeated s seq = unchanged s (Repeated seq)

-- a submission whose id may be kept
abbrev pub once : State → List ℕ → List ℕ → Option Kept → Answer
once s id body None = judged s id body
once s id body (Some kept) =
    if bytes_eq kept.body body then repeated s kept.seq else refused s (IdReused kept.seq)

unfoldable pub submitted : State → List ℕ → List ℕ → Answer
submitted s id body = if is_id id then once s id body (kept_from 1 id s.accepted) else refused s BadId

-- ---- how many evaluations a submission asks for

-- where rows lead from old data to new ones: one of each affected node, where no rule but that on overflows
-- may be broken
abbrev pub evaluations_of_rows : Data → Result Data Rule → ℕ
evaluations_of_rows old (Err rule) = 0
evaluations_of_rows old (Ok new) = length (affected_nodes old new)

-- the data with the rows of a body that is submitted in a state, before they are compiled
abbrev pub arranged_by : State → List ℕ → Result Data Rule
arranged_by s body =
    arranged s.content (reading_of body).rows (reading_of body).rest (kept_bytes s.accepted + length body)

-- of a body that is submitted in a state
abbrev pub evaluations_by : State → List ℕ → ℕ
evaluations_by s body = evaluations_of_rows s.content (arranged_by s body)

-- of a submission with an id that is not kept
abbrev pub new_evaluations : State → List ℕ → ℕ
new_evaluations s body = if nat_lt max_body (length body) then 0 else evaluations_by s body

-- a repeat asks for none, and neither does an id that is reused
abbrev pub evaluations_once : State → List ℕ → Option Kept → ℕ
evaluations_once s body None = new_evaluations s body
evaluations_once s body (Some kept) = 0

unfoldable pub evaluations : State → List ℕ → List ℕ → ℕ
evaluations s id body = if is_id id then evaluations_once s body (kept_from 1 id s.accepted) else 0

-- the submission is a new one, and its body is read
pub record IsRead (s : State) (id body : List ℕ) : Type 0 where
  pub id_form : is_id id ≡ true
  pub new_id : kept_from 1 id s.accepted ≡ None
  pub length_of_body : length body ≤ max_body

-- ---- a request for a table

-- the text of a table of a year of the span, printed from the compilation of the data in force
abbrev pub asked : State → ℕ → Option Table → Reply
asked s year None = NoTable
asked s year (Some table) =
    if is_year_of (span s.content) year then Shown (table_text table s.content (compilation s.content) year)
    else NoTable

unfoldable pub requested : State → List ℕ → ℕ → Reply
requested s table year = asked s year (table_in table)
