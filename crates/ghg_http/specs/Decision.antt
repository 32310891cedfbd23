-- What the head of a request decides, without its body.
use Rattle.std.specs.Prelude.{ℕ, List, length, codes, bytes_eq, ◌==◌, if◌then◌else◌, nat_lt, Option, Some, None}
use Rattle.httparse.specs.Grammar.{RequestHead}
use Rattle.httparse.specs.Spans.{name_and_value}
use Rattle.ghg_import.specs.Body.{max_body}
use Rattle.ghg_units.specs.Decimal.{number_in}
use Rattle.ghg_http.specs.Fields.{framing}
use Rattle.ghg_http.specs.Route.{Target, submission, table, target_of, path_of}
use Rattle.ghg_http.specs.declared.decision.Decision as declared
use Rattle.ghg_http.specs.declared.decision.Decision.TheVariants as decided
use Rattle.ghg_http.specs.declared.decision.Refusal.{Refusal}
use Rattle.ghg_http.specs.declared.decision.Refusal.TheVariants as refusal
use Rattle.ghg_http.specs.declared.fields.Framing.{Framing}
use Rattle.ghg_http.specs.declared.fields.Length.{Length}
use Rattle.ghg_http.specs.declared.fields.Length.TheVariants.{Missing, Malformed, Given}

-- the status and the text of the reply to a refusal
abbrev pub refusal_row : Refusal → ℕ × List ℕ
refusal_row refusal.BadRequest = (400, codes "bad request")
refusal_row refusal.HeadTooLarge = (431, codes "head too large")
refusal_row refusal.NotFound = (404, codes "not found")
refusal_row refusal.WrongMethod = (405, codes "method")
refusal_row refusal.LengthRequired = (411, codes "length required")
refusal_row refusal.CodedBody = (415, codes "coded body")
refusal_row refusal.BodyTooLong = (413, codes "refused 3 BodyTooLong")
refusal_row refusal.NoYear = (404, codes "no table")

pub data Decision : Type 0 where
  refuse : Refusal → Decision
  -- a submission's id, and how many bytes of body follow the head
  submit : List ℕ → ℕ → Decision
  -- a table's name and year
  show : List ℕ → ℕ → Decision

-- what the reader decided
abbrev pub seen : declared.Decision → Decision
seen (decided.Refuse reason) = refuse reason
seen (decided.Submit id n) = submit id.now n
seen (decided.Show name year) = show name.now year

-- a submission whose body has so many bytes
abbrev pub sized : List ℕ → ℕ → Decision
sized id n = if nat_lt max_body n then refuse refusal.BodyTooLong else submit id n

-- a body may have no coding
abbrev pub uncoded : Framing → Decision → Decision
uncoded f made = if f.is_coded then refuse refusal.CodedBody else made

-- a submission: its body needs one length, no transfer coding and no other coding, and is not too long
abbrev pub submit_by_length : List ℕ → Framing → Length → Decision
submit_by_length id f Missing = refuse refusal.LengthRequired
submit_by_length id f Malformed = refuse refusal.BadRequest
submit_by_length id f (Given n) = uncoded f (sized id n)

abbrev pub submit_framed : List ℕ → Framing → Decision
submit_framed id f =
    if f.is_chunked then refuse refusal.LengthRequired else submit_by_length id f f.body_length

-- the year that four digits write
abbrev pub year_of : List ℕ → Option ℕ
year_of text = if length text == 4 then number_in 4 text else None

-- a request for a table: for what is no year there is none
abbrev pub show_dated : List ℕ → Option ℕ → Decision
show_dated name None = refuse refusal.NoYear
show_dated name (Some year) = show name year

-- its body is not read, but a length must be one
abbrev pub show_framed : List ℕ → List ℕ → Length → Decision
show_framed name year Malformed = refuse refusal.BadRequest
show_framed name year length_of_body = show_dated name (year_of year)

-- the first case that holds, by the method, what the path asks for and how the body is sent
abbrev pub decision : List ℕ → Option Target → Framing → Decision
decision method None f = refuse refusal.NotFound
decision method (Some (submission id)) f =
    if bytes_eq method (codes "POST") then submit_framed id f else refuse refusal.WrongMethod
decision method (Some (table name year)) f =
    if bytes_eq method (codes "GET") then show_framed name year f.body_length else refuse refusal.WrongMethod

-- what a head of the grammar decides
unfoldable pub decision_of : RequestHead → Decision
decision_of h = decision h.method (target_of (path_of h.target)) (framing name_and_value h.fields)
