-- What a keeper tells of the answers and the errors of a database.
use Rattle.std.specs.Prelude.{◌≡◌, ◌≢◌, ◌⊎◌, Bool, false, IsTrue, ℕ, ◌-◌, ◌<◌, ◌^◌, pos, unsigned_abs, List, [], ◌∷◌, Result, Ok, Err, IfErr, IsUtf8}
use Rattle.sqlite.specs.declared.error.Error.{Error}
use Rattle.sqlite.specs.declared.error.Error.TheVariants.{SqliteFailure}
use Rattle.sqlite.specs.declared.error.ErrorCode.TheVariants.{OutOfMemory}
use Rattle.sqlite.specs.declared.types.Value.TheVariants.{Int, Text, Blob}
use Rattle.sqlite.specs.Order.{Row, column}
use Rattle.sqlite.specs.State.{State, HasCleanDisk, Executes, QueriesRow}
use Rattle.ghg_units.specs.Format.{format_in}
use Rattle.ghg_keeper.specs.Texts.{count_text, insert_text, row_text}
use Rattle.ghg_keeper.specs.declared.keeper.KeepError.{KeepError}
use Rattle.ghg_keeper.specs.declared.keeper.KeepError.TheVariants.{Failed, Memory}
use Rattle.ghg_keeper.specs.declared.row.KeptRow.{KeptRow}

-- ---- answers

-- the statement was acknowledged
abbrev pub Acknowledges : List ℕ → Row → State → State → Type 0
Acknowledges sql params old new = HasCleanDisk new → (count : ℕ) × Executes sql params old new (Ok count)

-- the query showed a row of which this holds
abbrev pub ShowsRow : List ℕ → Row → State → State → (Row → Type 0) → Type 0
ShowsRow sql params old new Holds =
    (row : Row) × (HasCleanDisk new → QueriesRow sql params old new (Ok row)) × Holds row

-- the rows were counted, and there are so many
abbrev pub CountsRows : State → State → ℕ → Type 0
CountsRows old new n = ShowsRow count_text [] old new (λ row. column row 0 ≡ Int (pos n))

-- the row with this number was read, and is this
abbrev pub ReadsRow : ℕ → State → State → KeptRow → Type 0
ReadsRow seq old new kept = ShowsRow row_text (Int (pos seq) ∷ []) old new
    (λ row. (column row 0 ≡ Text kept.id) × (column row 1 ≡ Blob kept.body))

-- a row was inserted, and the database gave it this number
abbrev pub InsertsRow : List ℕ → List ℕ → State → State → ℕ → Type 0
InsertsRow id body old new seq =
    Acknowledges insert_text (Text id ∷ Int (pos (format_in body)) ∷ Blob body ∷ []) old new
    × (seq ≡ unsigned_abs new.last_rowid)

-- ---- errors

-- want of memory is told as such, and each other error is a failure
abbrev pub keep_error : Error → KeepError
keep_error (SqliteFailure OutOfMemory) = Memory
keep_error _ = Failed

abbrev pub told_of : {A : Type 0} → Result A Error → Result A KeepError
told_of (Ok value) = Ok value
told_of (Err e) = Err (keep_error e)

-- Why a call has no answer: it failed with no statement run, or for one that was run; or the statement gave
-- this error.
abbrev pub HasCause : {A : Type 0} → Result A KeepError → Type 0 → (Error → Type 0) → Type 0
HasCause result Fails Refuses =
    IfErr result (λ why. ((why ≡ Failed) × Fails) ⊎ ((e : Error) × Refuses e × (why ≡ keep_error e)))

-- a keeper over this database is not attached, or a transaction is open
abbrev pub IsNotReady : Bool → State → Type 0
IsNotReady is_attached s = (is_attached ≡ false) ⊎ IsTrue s.in_transaction

-- the statement was refused with this error
abbrev pub Refuses : List ℕ → Row → State → State → Error → Type 0
Refuses sql params old new e = HasCleanDisk new → Executes sql params old new (Err e)

-- the query was refused with this error, or a row that it showed could not be read for it
abbrev pub RefusesRow : List ℕ → Row → State → State → (Row → Type 0) → Error → Type 0
RefusesRow sql params old new IsWanted e =
    (HasCleanDisk new → QueriesRow sql params old new (Err e))
    ⊎ ShowsRow sql params old new (λ row. e ≢ SqliteFailure OutOfMemory → ¬ IsWanted row)

-- a count that a keeper tells
abbrev pub IsCount : Row → Type 0
IsCount row = (n : ℕ) × (n < 2 ^ 63 - 1) × (row ≡ Int (pos n) ∷ [])

-- an id and a body
abbrev pub IsKept : Row → Type 0
IsKept row = (id : List ℕ) × (body : List ℕ) × (row ≡ Text id ∷ Blob body ∷ []) × IsUtf8 id
