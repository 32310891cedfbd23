-- Kept rows, submitted again in their order.
use Rattle.std.specs.Prelude.{◌≡◌, ⊤, ℕ, ◌+◌, if◌then◌else◌, List, [], ◌∷◌, Result, Ok, Err}
use Rattle.ghg_keeper.specs.declared.keeper.KeepError.{KeepError}
use Rattle.ghg_keeper.specs.declared.keeper.KeepError.TheVariants as keep_error
use Rattle.ghg_keeper.specs.declared.row.KeptRow.{KeptRow}
use Rattle.ghg_office.specs.declared.fault.OpenFault.{OpenFault}
use Rattle.ghg_office.specs.declared.fault.OpenFault.TheVariants.{Kept, KeeperFault, Memory}
use Rattle.ghg_office.specs.Office.{Answer, State, evaluations, start, submitted}
use Rattle.ghg_office.specs.Replies.{is_accepted}

-- the state after a row that is accepted, or the number of a row that is not, with its reply
abbrev pub taken : ℕ → Answer → Result State OpenFault
taken seq answer = if is_accepted answer.reply then Ok answer.after else Err (Kept seq answer.reply)

-- from the state after a row, where there is one
abbrev pub then_from : (State → Result State OpenFault) → Result State OpenFault → Result State OpenFault
then_from next (Ok s) = next s
then_from next (Err fault) = Err fault

-- Rows, of which the first has this number, submitted one after the other from a state: the state after all
-- of them, or the number of the first that is not accepted, with its reply.
abbrev pub replayed_from : ℕ → State → List KeptRow → Result State OpenFault
replayed_from seq s [] = Ok s
replayed_from seq s (row ∷ rows) =
    then_from (λ after. replayed_from (seq + 1) after rows) (taken seq (submitted s row.id row.body))

abbrev pub replayed : List KeptRow → Result State OpenFault
replayed rows = replayed_from 1 start rows

-- how many evaluations rows ask for, submitted one after the other from a state
abbrev pub replay_evaluations : State → List KeptRow → ℕ
replay_evaluations s [] = 0
replay_evaluations s (row ∷ rows) =
    evaluations s row.id row.body + replay_evaluations (submitted s row.id row.body).after rows

-- the result is the wanted one, but where the keeper failed or memory ran out
abbrev pub IsReplay : Result State OpenFault → Result State OpenFault → Type 0
IsReplay wanted (Err KeeperFault) = ⊤
IsReplay wanted (Err Memory) = ⊤
IsReplay wanted result = wanted ≡ result

-- the row was taken, with this state after it; or it has this fault, but where memory ran out
abbrev pub Takes : Result State OpenFault → State → Result (Unit {0}) OpenFault → Type 0
Takes wanted after (Ok done) = wanted ≡ Ok after
Takes wanted after (Err (Kept seq reply)) = wanted ≡ Err (Kept seq reply)
Takes wanted after (Err Memory) = ⊤
Takes wanted after (Err KeeperFault) = ⊥

-- the fault where a keeper has no answer
abbrev pub keep_fault : KeepError → OpenFault
keep_fault keep_error.Failed = KeeperFault
keep_fault keep_error.Memory = Memory
