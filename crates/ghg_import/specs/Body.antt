-- The records that a body is cut into.
use Rattle.std.specs.Prelude.{ℕ, List, [], Option, Some, None, IsSome, true, false, ◌≡◌, ◌+◌, length}
use Rattle.csv.specs.Machine.{ends_at_end}
use Rattle.csv.specs.Reading.{default_config, is_flexible, reader_config, reader_state, reader_trim, Ready, records, records_from, source_of, strip_bom}
use Rattle.csv.specs.declared.parser.State.{State}
use Rattle.csv.specs.declared.reader.Reader.{Reader}
use Rattle.csv.specs.declared.reader.Trim.TheVariants as trims
use Rattle.ghg_import.specs.declared.rows.TheConstants.{MAX_BODY}
use denote.Ref.{Bor}

-- the most bytes of a body, as the code has it
abbrev pub max_body : ℕ
max_body = MAX_BODY

-- the fields of each record of a body, the header's first
abbrev pub records_of : List ℕ → List (List (List ℕ))
records_of body = records default_config (strip_bom body)

-- the records of what is left of a body
abbrev pub records_left : State → List ℕ → List (List (List ℕ))
records_left state text = records_from default_config (length text + 1) state text

-- the same, where what is left is known
abbrev pub records_within : State → Option (List ℕ) → List (List (List ℕ))
records_within state None = []
records_within state (Some text) = records_left state text

-- the bytes that a reader has yet to read
abbrev pub text_ahead : Reader (Bor (List ℕ)) → Option (List ℕ)
text_ahead reader = source_of (λ (s : Bor (List ℕ)). Some s.now) reader

-- the records that it has yet to give
abbrev pub records_ahead : Reader (Bor (List ℕ)) → List (List (List ℕ))
records_ahead reader = records_within (reader_state reader) (text_ahead reader)

-- a reader that takes records of any length, and stands between two of them
pub record IsOpen (reader : Reader (Bor (List ℕ))) : Type 0 where
  pub config : reader_config reader ≡ default_config
  pub trim : reader_trim reader ≡ trims.None
  pub flexible : is_flexible reader ≡ true
  pub ready : Ready reader
  pub between : ends_at_end (reader_state reader) ≡ false
  pub known : IsSome (text_ahead reader)
