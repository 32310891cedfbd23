-- Rows of a keeper, replayed up to one of them.
use Rattle.std.proofs.lemmas.List.{append_assoc, length_push, take-append-drop, take_all, take_more}
use Rattle.std.proofs.lemmas.Option.{get_or_from_slice_get, slice_get_within}
use Rattle.std.specs.List.{slice_get}
use Rattle.std.specs.Result.{IsErrOf}
use Rattle.std.proofs.Common.{◌≡◌, ◌≢◌, ◌≤◌, ◌+◌, ◌-◌, ◌++◌, ◌∙◌, ℕ, Bool, true, false, if◌then◌else◌, List, [], ◌∷◌, length, take, drop, Some, Ok, Err, Result, inl, inr, refl, sym, ap, subst, arith}
use Rattle.ghg_keeper.specs.declared.keeper.KeepError.{KeepError}
use Rattle.ghg_keeper.specs.declared.keeper.KeepError.TheVariants as keep_error
use Rattle.ghg_keeper.specs.declared.row.KeptRow.{KeptRow}
use Rattle.ghg_keeper.specs.Shelf.{Keeps, Shelf}
use Rattle.ghg_outer.specs.Counts.{IsCounted}
use Rattle.ghg_outer.proofs.Counts.{counted_as, counted_none, counted_on}
use Rattle.ghg_office.specs.declared.fault.OpenFault.{OpenFault}
use Rattle.ghg_office.specs.declared.fault.OpenFault.TheVariants.{Kept, KeeperFault, Memory}
use Rattle.ghg_office.specs.declared.reply.Reply.{Reply}
use Rattle.ghg_office.specs.declared.reply.Reply.TheVariants.{Accepted, Repeated, Refused, Table, NoTable}
use Rattle.ghg_office.specs.declared.reply.Reply.TheVariants as reply
use Rattle.ghg_office.specs.Keeping.{HadRows, Lists}
use Rattle.ghg_office.specs.Laws.{IsInForce, state_after_all}
use Rattle.ghg_office.specs.Office.{Answer, State, evaluations, start, submitted, unchanged}
use Rattle.ghg_office.specs.Replays.{IsReplay, Takes, keep_fault, replay_evaluations, replayed, replayed_from, taken, then_from}
use Rattle.ghg_office.specs.Replies.{is_accepted}
use Rattle.ghg_office.proofs.Cases.{submitted_cases}
use Rattle.ghg_office.proofs.InForce.{states_in_force}

-- ---- one row

taken_after : (seq : ℕ) (answer : Answer) (t : State) → taken seq answer ≡ Ok t → answer.after ≡ t
taken_after seq answer t e = by (is_accepted answer.reply) e
  where
    by : (ok : Bool) → (if ok then Ok answer.after else Err (Kept seq answer.reply)) ≡ Ok t → answer.after ≡ t
    by true e = cc
    by false e = absurd (cc)

-- what is not accepted is not taken
not_taken : (seq : ℕ) (given : Reply) (s t : State) → ((n cells : ℕ) → given ≢ Accepted n cells) → taken seq (unchanged s given) ≡ Ok t → ⊥
not_taken seq (Accepted n cells) s t other e = other n cells refl
not_taken seq (Repeated n) s t other e = cc
not_taken seq (Refused rule) s t other e = cc
not_taken seq (Table text) s t other e = cc
not_taken seq NoTable s t other e = cc
not_taken seq reply.KeeperFault s t other e = cc
not_taken seq reply.Memory s t other e = cc

-- a row that was taken stands at the end of the accepted ones
pub taken_accepts : (seq : ℕ) (s t : State) (row : KeptRow) → taken seq (submitted s row.id row.body) ≡ Ok t
    → ((submitted s row.id row.body).after ≡ t) × (t.accepted ≡ s.accepted ++ row ∷ [])
taken_accepts seq s t row e = (
  after,
  elim (submitted_cases s row.id row.body) [
    | inl left ↦ absurd (not_taken seq (submitted s row.id row.body).reply s t left.other (sym (ap (λ u. taken seq (record { reply = (submitted s row.id row.body).reply; after = u })) left.after) ∙ e))
    | inr new ↦ ap (λ u. u.accepted) (sym after) ∙ ap (λ (a : Answer). a.after.accepted) new.answers
  ],
)
  where
    after : (submitted s row.id row.body).after ≡ t
    after = taken_after seq (submitted s row.id row.body) t e

-- ---- rows

-- rows behind others are replayed from the state that these lead to
pub replayed-append : (seq : ℕ) (s t : State) (front back : List KeptRow) → replayed_from seq s front ≡ Ok t
    → replayed_from seq s (front ++ back) ≡ replayed_from (seq + length front) t back
replayed-append seq s t [] back e =
    let same : s ≡ t = cc in
    let first : seq ≡ seq + 0 = omega arith in
    ap (λ u. replayed_from seq u back) same ∙ ap (λ n. replayed_from n t back) first
replayed-append seq s t (row ∷ front) back e = by (taken seq (submitted s row.id row.body)) (λ a. replayed-append (seq + 1) a t front back) e
  where
    by : (r : Result State OpenFault)
        → ((a : State) → replayed_from (seq + 1) a front ≡ Ok t → replayed_from (seq + 1) a (front ++ back) ≡ replayed_from (seq + 1 + length front) t back)
        → then_from (λ a. replayed_from (seq + 1) a front) r ≡ Ok t
        → then_from (λ a. replayed_from (seq + 1) a (front ++ back)) r ≡ replayed_from (seq + length (row ∷ front)) t back
    by (Ok a) later e =
        let place : seq + 1 + length front ≡ seq + length (row ∷ front) = omega arith in
        later a e ∙ ap (λ n. replayed_from n t back) place
    by (Err fault) later e = absurd (cc)

-- the state that rows lead to is the one after all of them
pub replayed_state : (seq : ℕ) (s t : State) (rows : List KeptRow) → replayed_from seq s rows ≡ Ok t → state_after_all s rows ≡ t
replayed_state seq s t [] e = cc
replayed_state seq s t (row ∷ rows) e = by (is_accepted (submitted s row.id row.body).reply) (replayed_state (seq + 1) (submitted s row.id row.body).after t rows) e
  where
    by : (ok : Bool)
        → (replayed_from (seq + 1) (submitted s row.id row.body).after rows ≡ Ok t → state_after_all (submitted s row.id row.body).after rows ≡ t)
        → then_from (λ a. replayed_from (seq + 1) a rows) (if ok then Ok (submitted s row.id row.body).after else Err (Kept seq (submitted s row.id row.body).reply)) ≡ Ok t
        → state_after_all (submitted s row.id row.body).after rows ≡ t
    by true later e = later e
    by false later e = absurd (cc)

evaluations-append : (s : State) (front back : List KeptRow)
    → replay_evaluations s (front ++ back) ≡ replay_evaluations s front + replay_evaluations (state_after_all s front) back
evaluations-append s [] back = omega arith
evaluations-append s (row ∷ front) back = omega (arith, evaluations-append (submitted s row.id row.body).after front back)

-- ---- the rows of a keeper

-- how far a replay has come: as many rows as the office has accepted led to its state
pub record HasReplayed (before now : Shelf) (done : ℕ) (s : State) : Type 0 where
  pub keeps : Keeps before now
  pub tells : before.tells → now.clean → now.tells
  pub faults : now.faults ≡ before.faults
  pub number : length s.accepted ≡ done
  pub reached : replayed s.accepted ≡ Ok s
  pub front : now.tells → s.accepted ≡ take done before.rows

pub keeps_on : (a b c : Shelf) → Keeps a b → Keeps b c → Keeps a c
keeps_on a b c h k = record {
  rows = record {
    clean = λ c. h.rows.clean (k.rows.clean c);
    told = λ t. h.rows.told (k.rows.told t);
    same = λ t. k.rows.same t ∙ h.rows.same (k.rows.told t);
  };
  name = k.name ∙ h.name;
}

pub begins : (before now : Shelf) → Keeps before now → (before.tells → now.clean → now.tells) → now.faults ≡ before.faults
    → HasReplayed before now 0 start
begins before now keeps tells faults =
    record { keeps = keeps; tells = tells; faults = faults; number = refl; reached = refl; front = λ _. refl }

-- a row behind those that led to a state
front_more : (rows front : List KeptRow) (done : ℕ) (row : KeptRow) → front ≡ take done rows → slice_get rows done ≡ Some row
    → front ++ row ∷ [] ≡ take (done + 1) rows
front_more rows front done row e at =
    ap (λ xs. xs ++ row ∷ []) e ∙ ap (λ x. take done rows ++ x ∷ []) (sym (get_or_from_slice_get rows done row row at))
    ∙ sym (take_more rows done row (slice_get_within rows done row at))

reached_more : (s t : State) (front : List KeptRow) (row : KeptRow) (done : ℕ) → length front ≡ done → replayed front ≡ Ok s
    → taken (done + 1) (submitted s row.id row.body) ≡ Ok t → replayed (front ++ row ∷ []) ≡ Ok t
reached_more s t front row done number reached e =
    let place : 1 + length front ≡ done + 1 = omega arith in
    replayed-append 1 start s front (row ∷ []) reached
    ∙ ap (λ n. replayed_from n s (row ∷ [])) place ∙ ap (then_from (λ a. Ok a)) e

-- the row of a number stands one place before it
at_place : (rows : List KeptRow) (done : ℕ) (row : KeptRow) → slice_get rows (done + 1 - 1) ≡ Some row → slice_get rows done ≡ Some row
at_place rows done row at = let place : done ≡ done + 1 - 1 = omega arith in ap (slice_get rows) place ∙ at

pub one_more : (before now after : Shelf) (done : ℕ) (s t : State) (row : KeptRow) → HasReplayed before now done s → Keeps now after
    → (now.tells → after.clean → after.tells) → after.faults ≡ now.faults → (after.tells → slice_get now.rows (done + 1 - 1) ≡ Some row) → taken (done + 1) (submitted s row.id row.body) ≡ Ok t
    → HasReplayed before after (done + 1) t
one_more before now after done s t row h keeps stays faults at e =
    let accepts = taken_accepts (done + 1) s t row e in
    record {
      keeps = keeps_on before now after h.keeps keeps;
      tells = λ told clean. stays (h.tells told (keeps.rows.clean clean)) clean;
      faults = faults ∙ h.faults;
      number = ap length accepts.1 ∙ length_push s.accepted row ∙ ap (λ n. n + 1) h.number;
      reached = ap replayed accepts.1 ∙ reached_more s t s.accepted row done h.number h.reached e;
      front = λ told. accepts.1 ∙ front_more before.rows s.accepted done row (h.front (keeps.rows.told told))
          (ap (λ rows. slice_get rows done) (sym (h.keeps.rows.same (keeps.rows.told told))) ∙ at_place now.rows done row (at told));
    }

-- ---- how many evaluations they asked for

spent_within : (old spent : ℕ) (front back : List KeptRow) → spent ≤ old + replay_evaluations start front → spent ≤ old + replay_evaluations start (front ++ back)
spent_within old spent front back h = omega (arith, h, evaluations-append start front back)

pub spent_more : (old spent now : ℕ) (front : List KeptRow) (s : State) (row : KeptRow) → replayed front ≡ Ok s
    → spent ≤ old + replay_evaluations start front → now ≤ spent + evaluations s row.id row.body → now ≤ old + replay_evaluations start (front ++ row ∷ [])
spent_more old spent now front s row reached h k =
    let last : evaluations (state_after_all start front) row.id row.body ≡ evaluations s row.id row.body = ap (λ u. evaluations u row.id row.body) (replayed_state 1 start s front reached) in
    omega (arith, h, k, last, evaluations-append start front (row ∷ []))

-- ---- how it ends

-- what a call of `reopen` shows
abbrev pub Shown : Shelf → Shelf → Result State OpenFault → ℕ → ℕ → Type 0
Shown before after result old spent = (rows : List KeptRow) × HadRows before after rows × IsReplay (replayed rows) result
    × (spent ≤ old + replay_evaluations start rows)

pub keep_fault_is_free : (wanted : Result State OpenFault) (error : KeepError) → IsReplay wanted (Err (keep_fault error))
keep_fault_is_free wanted keep_error.Failed = tt
keep_fault_is_free wanted keep_error.Memory = tt

-- the rows that were read, with those that were not
rows_had : (before after : Shelf) (read : List KeptRow) (done : ℕ) → (after.tells → before.tells)
    → (before.tells → after.clean → read ≡ take done before.rows) → HadRows before after (read ++ drop done before.rows)
rows_had before after read done told front = record {
  told = told;
  same = λ t c. ap (λ xs. xs ++ drop done before.rows) (front t c) ∙ take-append-drop done before.rows;
}

pub stops_at_count : (before after : Shelf) (old : ℕ) (error : KeepError) → Keeps before after → Shown before after (Err (keep_fault error)) old old
stops_at_count before after old error keeps =
    (before.rows, record { told = keeps.rows.told; same = λ _ _. refl }, keep_fault_is_free _ error, omega arith)

pub stops_between : (before now after : Shelf) (done old spent : ℕ) (s : State) (error : KeepError) → HasReplayed before now done s → Keeps now after
    → spent ≤ old + replay_evaluations start s.accepted → Shown before after (Err (keep_fault error)) old spent
stops_between before now after done old spent s error h keeps within = (
  s.accepted ++ drop done before.rows,
  rows_had before after s.accepted done (keeps_on before now after h.keeps keeps).rows.told
      (λ told clean. h.front (h.tells told (keeps.rows.clean clean))),
  keep_fault_is_free _ error,
  spent_within old spent s.accepted (drop done before.rows) within,
)

refused_at : (s : State) (front back : List KeptRow) (row : KeptRow) (done n : ℕ) (given : Reply) → length front ≡ done → replayed front ≡ Ok s
    → taken (done + 1) (submitted s row.id row.body) ≡ Err (Kept n given) → replayed ((front ++ row ∷ []) ++ back) ≡ Err (Kept n given)
refused_at s front back row done n given number reached e =
    let place : 1 + length front ≡ done + 1 = omega arith in
    ap replayed (append_assoc front (row ∷ []) back) ∙ replayed-append 1 start s front (row ∷ back) reached
    ∙ ap (λ n. replayed_from n s (row ∷ back)) place ∙ ap (then_from (λ a. replayed_from (done + 1 + 1) a back)) e

fault_at : (s t : State) (front back : List KeptRow) (row : KeptRow) (done : ℕ) (fault : OpenFault) → length front ≡ done → replayed front ≡ Ok s
    → Takes (taken (done + 1) (submitted s row.id row.body)) t (Err fault) → IsReplay (replayed ((front ++ row ∷ []) ++ back)) (Err fault)
fault_at s t front back row done (Kept n given) number reached e = refused_at s front back row done n given number reached e
fault_at s t front back row done KeeperFault number reached e = tt
fault_at s t front back row done Memory number reached e = tt

pub stops_at_row : (before now after : Shelf) (done old spent last : ℕ) (s t : State) (row : KeptRow) (fault : OpenFault) → HasReplayed before now done s
    → Keeps now after → (now.tells → after.clean → after.tells) → (after.tells → slice_get now.rows (done + 1 - 1) ≡ Some row)
    → Takes (taken (done + 1) (submitted s row.id row.body)) t (Err fault)
    → spent ≤ old + replay_evaluations start s.accepted → last ≤ spent + evaluations s row.id row.body → Shown before after (Err fault) old last
stops_at_row before now after done old spent last s t row fault h keeps stays at takes within more =
    let read = s.accepted ++ row ∷ [] in (
      read ++ drop (done + 1) before.rows,
      rows_had before after read (done + 1) (keeps_on before now after h.keeps keeps).rows.told
          (λ told clean.
          let tells = h.tells told (keeps.rows.clean clean) in
          front_more before.rows s.accepted done row (h.front tells)
          (ap (λ rows. slice_get rows done) (sym (h.keeps.rows.same tells)) ∙ at_place now.rows done row (at (stays tells clean)))),
      fault_at s t s.accepted (drop (done + 1) before.rows) row done fault h.number h.reached takes,
      spent_within old last read (drop (done + 1) before.rows) (spent_more old spent last s.accepted s row h.reached within more),
    )

-- all rows of the keeper were read
all_read : (before now : Shelf) (done : ℕ) (s : State) → HasReplayed before now done s → (now.tells → done ≡ length before.rows)
    → now.tells → s.accepted ≡ before.rows
all_read before now done s h count told =
    let few : length before.rows ≤ done = omega (arith, count told) in h.front told ∙ take_all done before.rows few

pub all_listed : (before now : Shelf) (done : ℕ) (s : State) → HasReplayed before now done s → (now.tells → done ≡ length before.rows) → Lists now s.accepted
all_listed before now done s h count told = h.keeps.rows.same told ∙ sym (all_read before now done s h count told)

pub all_had : (before now : Shelf) (done : ℕ) (s : State) → HasReplayed before now done s → (now.tells → done ≡ length before.rows)
    → HadRows before now s.accepted
all_had before now done s h count =
    record { told = h.keeps.rows.told; same = λ told clean. all_read before now done s h count (h.tells told clean) }

pub replayed_in_force : (s : State) → replayed s.accepted ≡ Ok s → IsInForce s
replayed_in_force s reached = subst IsInForce (replayed_state 1 start s s.accepted reached) (states_in_force s.accepted)

-- where the keeper has no answer after calls that did not fail
pub counted_fault : (before now after : ℕ) (error : KeepError) → now ≡ before
    → IsCounted now after (IsErrOf {T = KeptRow} (Err error) keep_error.Failed)
    → IsCounted before after (IsErrOf {T = State} (Err (keep_fault error)) KeeperFault)
counted_fault before now after keep_error.Failed same counted =
    counted_on before now after _ same (counted_as now after _ _ (λ _. refl) (λ _. refl) counted)
counted_fault before now after keep_error.Memory same counted =
    counted_on before now after _ same (counted_as now after _ _ (λ e. cc) (λ e. cc) counted)

-- where a row that was kept is refused, or memory ran out, no call of the keeper failed
pub counted_after : (before after : ℕ) (wanted : Result State OpenFault) (s : State) (fault : OpenFault) → after ≡ before
    → Takes wanted s (Err fault) → IsCounted before after (IsErrOf {T = State} (Err fault) KeeperFault)
counted_after before after wanted s fault same takes =
    subst (λ n. IsCounted before n (IsErrOf {T = State} (Err fault) KeeperFault)) (sym same) (counted_none before _ (other fault takes))
  where
    other : (fault : OpenFault) → Takes wanted s (Err fault) → IsErrOf {T = State} (Err fault) KeeperFault → ⊥
    other (Kept seq reply) takes e = cc
    other Memory takes e = cc
    other KeeperFault takes e = absurd takes
