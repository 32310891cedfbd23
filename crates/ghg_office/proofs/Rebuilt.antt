-- A state is what its accepted list leads to.
use Rattle.std.proofs.Common.{◌≡◌, ◌+◌, ◌++◌, ◌∙◌, ℕ, List, [], ◌∷◌, length, Ok, inl, inr, refl, sym, ap, subst}
use Rattle.ghg_affected.specs.Affected.{affected_nodes}
use Rattle.ghg_definitions.specs.Data.{Data}
use Rattle.ghg_keeper.specs.declared.row.KeptRow.{KeptRow}
use Rattle.ghg_office.specs.declared.reply.Reply.{Reply}
use Rattle.ghg_office.specs.declared.reply.Reply.TheVariants.{Accepted, Repeated, Refused, Table, NoTable, KeeperFault, Memory}
use Rattle.ghg_office.specs.Laws.{AcceptedListsRebuildStates, AreAccepted, IsRebuilt, ReplaysRebuildStates, state_after_all}
use Rattle.ghg_office.specs.Office.{IsRead, State, entered_by, start, submitted}
use Rattle.ghg_office.specs.Replays.{replayed_from}
use Rattle.ghg_office.specs.Replies.{Answers}
use Rattle.ghg_office.proofs.Cases.{IsAccepted, submitted_cases}
use Rattle.ghg_office.proofs.Entered.{accepted_answers}
use Rattle.ghg_office.proofs.InForce.{reached}

-- one more submission, at the end
after-push : (s : State) (list : List KeptRow) (x : KeptRow) → state_after_all s (list ++ (x ∷ [])) ≡ (submitted (state_after_all s list) x.id x.body).after
after-push s [] x = refl
after-push s (y ∷ list) x = after-push (submitted s y.id y.body).after list x

accepted_push : (s : State) (list : List KeptRow) (x : KeptRow) → AreAccepted s list → AreAccepted (state_after_all s list) (x ∷ []) → AreAccepted s (list ++ (x ∷ []))
accepted_push s [] x all last = last
accepted_push s (y ∷ list) x all last = (all.0, accepted_push (submitted s y.id y.body).after list x all.1 last)

-- a list that rebuilds a state, with what is accepted next
module _ (s : State) (id body : List ℕ) (rebuilt : IsRebuilt s) where
  next : KeptRow
  next = record { id = id; body = body }

  list_rebuilds : (list : List KeptRow) (after : State) → list ≡ s.accepted ++ (next ∷ []) → after ≡ (submitted s id body).after
      → (cells : ℕ) → (submitted s id body).reply ≡ Accepted (length s.accepted + 1) cells → AreAccepted start list × (state_after_all start list ≡ after)
  unfolding next
  list_rebuilds list after e a cells reply =
      let last : AreAccepted (state_after_all start s.accepted) (next ∷ []) = subst (λ t. AreAccepted t (next ∷ [])) (sym rebuilt.same) ((cells, reply), tt) in
      let whole = accepted_push start s.accepted next rebuilt.whole last in
      let same = after-push start s.accepted next ∙ ap (λ t. (submitted t id body).after) rebuilt.same in
      (subst (AreAccepted start) (sym e) whole, ap (state_after_all start) e ∙ same ∙ sym a)

  accepted_rebuilt : IsAccepted s id body (submitted s id body) → IsRebuilt (submitted s id body).after
  unfolding next
  accepted_rebuilt new =
      let parts = list_rebuilds (submitted s id body).after.accepted (submitted s id body).after (ap (λ answer. answer.after.accepted) new.answers) refl _ (ap (λ answer. answer.reply) new.answers) in
      record { whole = parts.0; same = parts.1 }

  submitted_rebuilt : IsRebuilt (submitted s id body).after
  submitted_rebuilt = elim (submitted_cases s id body) [
    | inl left ↦ subst IsRebuilt (sym left.after) rebuilt
    | inr new ↦ accepted_rebuilt new
  ]

-- whatever is answered, the state after it is rebuilt
pub answered_rebuilt : (s after : State) (id body : List ℕ) (reply : Reply) → Answers (submitted s id body) reply s after → IsRebuilt s → IsRebuilt after
answered_rebuilt s after id body KeeperFault same rebuilt = subst IsRebuilt (sym same) rebuilt
answered_rebuilt s after id body Memory same rebuilt = subst IsRebuilt (sym same) rebuilt
answered_rebuilt s after id body (Accepted seq cells) made rebuilt = subst IsRebuilt (sym made.1) (submitted_rebuilt s id body rebuilt)
answered_rebuilt s after id body (Repeated seq) made rebuilt = subst IsRebuilt (sym made.1) (submitted_rebuilt s id body rebuilt)
answered_rebuilt s after id body (Refused rule) made rebuilt = subst IsRebuilt (sym made.1) (submitted_rebuilt s id body rebuilt)
answered_rebuilt s after id body (Table text) made rebuilt = subst IsRebuilt (sym made.1) (submitted_rebuilt s id body rebuilt)
answered_rebuilt s after id body NoTable made rebuilt = subst IsRebuilt (sym made.1) (submitted_rebuilt s id body rebuilt)

-- and so is the state after what breaks no rule
pub next_rebuilt : (s : State) (id body : List ℕ) (m n : Data) (list : List KeptRow) → IsRebuilt s → IsRead s id body → entered_by s body ≡ Ok m
    → n ≡ m → list ≡ s.accepted ++ (record { id = id; body = body } ∷ []) → IsRebuilt (record { content = n; accepted = list })
next_rebuilt s id body m n list rebuilt read made is more =
    answered_rebuilt s (record { content = n; accepted = list }) id body (Accepted (length s.accepted + 1) (length (affected_nodes s.content m)))
    (accepted_answers s id body m n (length s.accepted + 1) (length (affected_nodes s.content m)) list read made is refl refl more) rebuilt

-- what leaves the state leaves it rebuilt
pub still_rebuilt : (before after : State) → after ≡ before → IsRebuilt before → IsRebuilt after
still_rebuilt before after same rebuilt = subst IsRebuilt (sym same) rebuilt

pub start_rebuilt : IsRebuilt start
start_rebuilt = record { whole = tt; same = refl }

pub lists_rebuild : AcceptedListsRebuildStates
lists_rebuild given = reached IsRebuilt (λ s id body h. submitted_rebuilt s id body h) start given start_rebuilt

-- rows that are accepted one after the other are replayed whole
accepted_replayed : (seq : ℕ) (s : State) (rows : List KeptRow) → AreAccepted s rows → replayed_from seq s rows ≡ Ok (state_after_all s rows)
accepted_replayed seq s [] all = refl
accepted_replayed seq s (row ∷ rows) all = rw all.0.1 (accepted_replayed (seq + 1) (submitted s row.id row.body).after rows all.1)

pub replays_rebuild : ReplaysRebuildStates
replays_rebuild given = let rebuilt = lists_rebuild given in accepted_replayed 1 start (state_after_all start given).accepted rebuilt.whole ∙ ap Ok rebuilt.same
