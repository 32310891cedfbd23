-- What `attach` runs, call by call.
use Rattle.std.specs.Prelude.{◌≡◌, ◌≢◌, ◌⊎◌, Bool, true, false, IsTrue, ℕ, zero, suc, pos, List, [], ◌∷◌, Result, Ok, Err, IsUtf8}
use Rattle.sqlite_trees.specs.declared.store.Store.{Ghosts}
use Rattle.sqlite.specs.declared.error.Error.{Error}
use Rattle.sqlite.specs.declared.error.Error.TheVariants.{SqliteFailure, QueryReturnedNoRows}
use Rattle.sqlite.specs.declared.error.ErrorCode.TheVariants.{OutOfMemory}
use Rattle.sqlite.specs.declared.types.Value.TheVariants.{Int, Text, Blob}
use Rattle.sqlite.specs.Order.{Row, column}
use Rattle.sqlite.specs.State.{HasCleanDisk, Executes, FailsToQuery, Shown}
use Rattle.sqlite.specs.Held.{Held, state}
use Rattle.ghg_units.specs.Format.{format_in}
use Rattle.ghg_keeper.specs.declared.row.KeptRow.{KeptRow}
use Rattle.ghg_keeper.specs.Accepted.{has_kept_tables}
use Rattle.ghg_keeper.specs.Errors.{IsCount, IsKept, RefusesRow, ShowsRow}
use Rattle.ghg_keeper.specs.Texts.{create_text, second_text, insert_text, count_text, first_count_text, first_row_text, begin_text, clear_text, commit_text, roll_back_text}

-- one row alone, of which this holds
abbrev pub IsOne : (Row → Type 0) → List Row → Type 0
IsOne Holds rows = (row : Row) × (rows ≡ row ∷ []) × Holds row

module _ {S : Type 0} (g : Ghosts S) where
  -- ---- calls in turn

  -- what a call does to a connection, and what it answers
  abbrev pub Act : Type 0 → Type 1
  Act A = Held S → Held S → Result A Error → Type 0

  -- one call, and then another, where the first has an answer
  abbrev pub Then : {A B : Type 0} → Act A → (A → Act B) → Act B
  Then {A} First Next old new result =
      ((e : Error) × First old new (Err e) × (result ≡ Err e))
      ⊎ ((a : A) × (mid : Held S) × First old mid (Ok a) × Next a mid new result)

  -- nothing is done
  abbrev pub Ends : Act (Unit {0})
  Ends old new result = (new ≡ old) × (result ≡ Ok tt)

  -- nothing is done, and it is refused unless this holds
  abbrev pub Needs : (Held S → Type 0) → Act (Unit {0})
  Needs Holds old new (Ok x) = (new ≡ old) × Holds old
  Needs Holds old new (Err e) = (new ≡ old) × (e ≡ QueryReturnedNoRows) × ¬ Holds old

  -- ---- the calls

  -- a statement
  abbrev pub Runs : List ℕ → Row → Act ℕ
  Runs sql params old new result =
      HasCleanDisk (state g new) → Executes sql params (state g old) (state g new) result

  -- a query that counts rows
  abbrev pub Counts : List ℕ → Act ℕ
  Counts sql old new (Ok n) = ShowsRow sql [] (state g old) (state g new) (λ row. column row 0 ≡ Int (pos n))
  Counts sql old new (Err e) = RefusesRow sql [] (state g old) (state g new) IsCount e

  -- a query that showed rows of which this holds
  abbrev pub ShowsRows : List ℕ → Row → Held S → Held S → (List Row → Type 0) → Type 0
  ShowsRows sql params old new Holds =
      (rows : List Row) × (HasCleanDisk (state g new) → Shown sql params (state g old) (state g new) rows)
      × Holds rows

  -- the row of the first table with this number, where it is the only one and can be kept
  abbrev pub ReadsFirst : ℕ → Act KeptRow
  ReadsFirst seq old new (Ok kept) = ShowsRows first_row_text (Int (pos seq) ∷ []) old new
      (IsOne (λ row. (column row 0 ≡ Text kept.id) × (column row 1 ≡ Blob kept.body)))
  ReadsFirst seq old new (Err e) =
      (HasCleanDisk (state g new)
      → FailsToQuery first_row_text (Int (pos seq) ∷ []) (state g old) (state g new) e)
      ⊎ ShowsRows first_row_text (Int (pos seq) ∷ []) old new
      (λ rows. e ≢ SqliteFailure OutOfMemory → ¬ IsOne IsKept rows)

  -- ---- what is run

  abbrev pub MakesTables : Act (Unit {0})
  MakesTables =
      Then (Runs create_text []) (λ _. Then (Runs second_text [])
      (λ _. Needs (λ held. IsTrue (has_kept_tables (state g held).now.schema))))

  -- the row with this number is read from the first table, and inserted into the second
  abbrev pub CopiesRow : ℕ → Act (Unit {0})
  CopiesRow seq =
      Then (ReadsFirst seq) (λ row. Then (Needs (λ _. IsUtf8 row.id))
      (λ _. Then (Runs insert_text (Text row.id ∷ Int (pos (format_in row.body)) ∷ Blob row.body ∷ []))
      (λ _. Ends)))

  -- the rows with the numbers from 1 to this one, in turn
  abbrev pub CopiesRows : ℕ → Act (Unit {0})
  CopiesRows zero = Ends
  CopiesRows (suc n) = Then (CopiesRows n) (λ _. CopiesRow (suc n))

  -- the rows of the first table are deleted, and none is left
  abbrev pub ClearsFirst : Act (Unit {0})
  ClearsFirst = Then (Runs clear_text []) (λ _. Then (Counts first_count_text) (λ n. Needs (λ _. n ≡ 0)))

  -- rows are moved, so many
  abbrev pub MovesAll : ℕ → Act (Unit {0})
  MovesAll count =
      Then (CopiesRows count) (λ _. Then ClearsFirst (λ _. Then (Runs commit_text []) (λ _. Ends)))

  -- where it is refused, the transaction is rolled back, unless none is open any more
  abbrev pub OrRollsBack : Act (Unit {0}) → Act (Unit {0})
  OrRollsBack Does old new (Ok x) = Does old new (Ok x)
  OrRollsBack Does old new (Err e) = (mid : Held S) × Does old mid (Err e)
      × (((new ≡ mid) × ((state g mid).in_transaction ≡ false))
      ⊎ ((result : Result ℕ Error) × Runs roll_back_text [] mid new result))

  -- they are moved in one transaction
  abbrev pub MovesRows : ℕ → Act (Unit {0})
  MovesRows count = Then (Runs begin_text []) (λ _. OrRollsBack (MovesAll count))

  -- where the first table has rows, the second must have none
  abbrev pub MovesFirst : ℕ → Act (Unit {0})
  MovesFirst zero = Ends
  MovesFirst (suc n) =
      Then (Counts count_text) (λ others. Then (Needs (λ _. others ≡ 0)) (λ _. MovesRows (suc n)))

  abbrev pub EmptiesFirst : Act (Unit {0})
  EmptiesFirst = Then (Counts first_count_text) MovesFirst

  -- the tables are made, and the rows of the first are moved to the second
  abbrev pub Prepares : Act (Unit {0})
  Prepares = Then MakesTables (λ _. EmptiesFirst)

  -- One of the two tables is not there, or another of its name is, though nothing was refused. A keeper that
  -- is attached runs nothing.
  abbrev pub LacksTable : Bool → Held S → Held S → Type 0
  LacksTable true old new = (new ≡ old) × (has_kept_tables (state g new).now.schema ≡ false)
  LacksTable false old new = Prepares old new (Ok tt) × (has_kept_tables (state g new).now.schema ≡ false)
