-- What is left to be read decides what a session writes.
use Rattle.std.proofs.Common.{◌≡◌, ℕ, ◌+◌, ◌<◌, ◌⊎◌, inl, inr, List, [], ◌∷◌, ◌++◌, length, take, append_assoc, append-nil, length-append, refl, sym, ap, subst, ◌∙◌, arith, None, Some, Option}
use Rattle.std.specs.Io.KnownBytes as known
use Rattle.std.proofs.Math.Seq.{take-append-add}
use Rattle.ghg_outer.specs.Tape.{Appends, AppendsPrefix, AppendsProperPrefix, IsAtEnd, Tape}
use Rattle.ghg_outer.proofs.Tapes.{longer_prefix, longer_proper, proper_prefix, whole_prefix}
use Rattle.ghg_words.specs.declared.status.Status.{Status}
use Rattle.ghg_words.specs.declared.status.Status.TheVariants.{Done, BadCommandLine, NoScript, InputFailed, OutputFailed, StoreFailed, DoorFailed, OutOfMemory, RowRefused, SpliceRefused}
use Rattle.ghg_script.specs.Reading.{ReadsAs, IsMalformed, Reading, most_commands, reading_of, with_more}
use Rattle.ghg_session.specs.Session.{BreaksOff, EndsBy, IsDecided, IsDueNext, Protocol, Session, due, last_line, last_status, replies, state_after}
use Rattle.ghg_session.proofs.Replied.{replies-append}
use Rattle.ghg_script.proofs.Readings.{ParsesLocally, extends, reads_on}

-- ---- a session

module _ {S R : Type 0} (p : Protocol S R) (local : ParsesLocally p.commands) (first : S) (took rest : List ℕ) (answered : List R)
    (part : List ℕ) (input' output output' : Tape) (left : input'.left ≡ Some rest)
    (wrote : Appends output output' (replies p first answered ++ part)) where
  abbrev now : S
  now = state_after p first answered

  abbrev all : Reading R
  all = reading_of p.commands (took ++ rest)

  -- the replies to these requests come first
  due_more : (next : List R) → (reading_of p.commands took).requests ≡ answered ++ next
      → (more : List ℕ) × (due p first (took ++ rest) ≡ replies p first answered ++ (replies p now next ++ more))
  due_more next e =
      let longer = extends p.commands local most_commands 1 took rest in
      let more = replies p (state_after p now next) longer.0 ++ last_line all.wrong in (
        _,
        ap (λ (l : List R). replies p first l ++ last_line all.wrong)
            (longer.1 ∙ ap (λ (l : List R). l ++ longer.0) e ∙ append_assoc answered next longer.0)
            ∙ ap (λ (l : List ℕ). l ++ last_line all.wrong) (replies-append p answered (next ++ longer.0) first
            ∙ ap (λ (l : List ℕ). replies p first answered ++ l) (replies-append p next longer.0 now))
            ∙ append_assoc (replies p first answered) _ (last_line all.wrong)
            ∙ ap (λ (l : List ℕ). replies p first answered ++ l) (append_assoc (replies p now next) _ (last_line all.wrong)),
      )

  -- nothing of the rest was written
  begun : (next : List R) → (reading_of p.commands took).requests ≡ answered ++ next → part ≡ []
      → AppendsPrefix output output' (due p first (took ++ rest))
  begun next e nothing =
      let later = due_more next e in
      subst (AppendsPrefix output output') (sym later.1)
      (longer_prefix output output' (replies p first answered) _
      (whole_prefix output output' _ (subst (Appends output output') (ap (λ (l : List ℕ). replies p first answered ++ l) nothing ∙ append-nil _) wrote)))

  -- all of it was written
  whole : (wrong : Option ℕ) → all.requests ≡ answered → all.wrong ≡ wrong → part ≡ last_line wrong
      → Appends output output' (due p first (took ++ rest))
  whole wrong requests e line =
      let same : due p first (took ++ rest) ≡ replies p first answered ++ part = rw (requests, e, line) refl in
      subst (Appends output output') (sym same) wrote

  -- a proper prefix of the next lines was written
  short : (lines more : List ℕ) (count : ℕ) → due p first (took ++ rest) ≡ replies p first answered ++ (lines ++ more) → count < length lines
      → part ≡ take count lines → AppendsProperPrefix output output' (due p first (took ++ rest))
  short lines more count e h prefix =
      let written : List ℕ = replies p first answered in
      let proper : AppendsProperPrefix output output' (written ++ lines) = record {
        count = length written + count;
        short = omega (arith, h, length-append written lines);
        wrote = subst (Appends output output') (ap (λ (l : List ℕ). written ++ l) prefix ∙ sym (take-append-add written lines count)) wrote;
      } in
      subst (AppendsProperPrefix output output') (sym (e ∙ sym (append_assoc written lines more)))
      (longer_proper output output' (written ++ lines) more proper)

  -- no command follows the requests
  none_follows : IsMalformed p.commands input' took answered
      → (all.requests ≡ answered) × (all.wrong ≡ Some (length answered + 1))
  none_follows m = by m.final
    where
      at_end : rest ≡ [] → reading_of p.commands (took ++ rest) ≡ reading_of p.commands took
      at_end none = ap (λ (l : List ℕ). reading_of p.commands (took ++ l)) none ∙ ap (reading_of p.commands) (append-nil took)

      by : IsAtEnd input' ⊎ ((more : List ℕ) → ReadsAs p.commands (took ++ more) answered (m.read.rest ++ more))
          → (all.requests ≡ answered) × (all.wrong ≡ Some (length answered + 1))
      by (inl none) =
          let same = at_end (subst known.IsAtEnd left none) ∙ m.read.holds in
          (ap (λ (r : Reading R). r.requests) same, ap (λ (r : Reading R). r.wrong) same)
      by (inr each) = (ap (λ (r : Reading R). r.requests) (each rest), ap (λ (r : Reading R). r.wrong) (each rest))

  breaks : (last : S) → BreaksOff p now last input' took answered part
      → AppendsProperPrefix output output' (due p first (took ++ rest))
  breaks last off = by off.due
    where
      by : IsDueNext p now last input' took answered off.lines → AppendsProperPrefix output output' (due p first (took ++ rest))
      by (inl reply) =
          let later = due_more (reply.0 ∷ []) (ap (λ (r : Reading R). r.requests) reply.1) in
          let same = append-nil ((p.step now reply.0).reply) ∙ sym reply.2 in
          short off.lines later.0 off.count (later.1 ∙ ap (λ (l : List ℕ). replies p first answered ++ (l ++ later.0)) same) off.short off.prefix
      by (inr line) =
          let none = none_follows line.0 in
          let same : due p first (took ++ rest) ≡ replies p first answered ++ off.lines = rw (none.0, none.1, line.1) refl in
          short off.lines [] off.count (same ∙ ap (λ (l : List ℕ). replies p first answered ++ l) (sym (append-nil off.lines))) off.short off.prefix

  -- a session that was interrupted
  stops : (status : Status) → AppendsPrefix output output' (due p first (took ++ rest))
      → (status ≡ OutputFailed → AppendsProperPrefix output output' (due p first (took ++ rest)))
      → (status ≡ Done → ⊥) → (status ≡ NoScript → ⊥) → IsDecided p first (took ++ rest) input' output output' status
  stops status begun short no_end no_refusal = record {
    begun = begun;
    short = short;
    done = over;
    behind = λ e. absurd (no_end e);
  }
    where
      over : (status ≡ Done) ⊎ (status ≡ NoScript) → Appends output output' (due p first (took ++ rest))
          × (status ≡ last_status all.wrong)
      over (inl e) = absurd (no_end e)
      over (inr e) = absurd (no_refusal e)

  requests_of : (requests : List R) (behind : List ℕ) → ReadsAs p.commands took requests behind
      → (reading_of p.commands took).requests ≡ requests
  requests_of requests behind e = ap (λ (r : Reading R). r.requests) e

  within : (behind : List ℕ) → ReadsAs p.commands took answered behind → part ≡ [] → AppendsPrefix output output' (due p first (took ++ rest))
  within behind holds nothing = begun [] (requests_of answered behind holds ∙ sym (append-nil answered)) nothing

  asked_for : (asked : R) → ReadsAs p.commands took (answered ++ asked ∷ []) [] → part ≡ []
      → AppendsPrefix output output' (due p first (took ++ rest))
  asked_for asked holds nothing = begun (asked ∷ []) (requests_of _ [] holds) nothing

  pub decided : (last : S) (status : Status) → EndsBy p now last input' output.grows took answered part status
      → IsDecided p first (took ++ rest) input' output output' status
  decided last Done e =
      let same : all ≡ record { requests = answered; wrong = None; rest = rest } =
      reads_on p.commands local most_commands 1 took rest (ap (λ (r : Reading R). r.wrong) e.0) ∙ ap (with_more rest) e.0 in
      let written = whole None (ap (λ (r : Reading R). r.requests) same) (ap (λ (r : Reading R). r.wrong) same) e.1 in
      record {
        begun = whole_prefix output output' _ written;
        short = λ no. absurd cc;
        done = λ _. (written, sym (ap (λ (r : Reading R). last_status r.wrong) same));
        behind = λ _. left ∙ ap Some (sym (ap (λ (r : Reading R). r.rest) same));
      }
  decided last NoScript e =
      let none = none_follows e.0 in
      let written = whole (Some (length answered + 1)) none.0 none.1 e.1 in
      record {
        begun = whole_prefix output output' _ written;
        short = λ no. absurd cc;
        done = λ _. (written, sym (ap last_status none.1));
        behind = λ no. absurd cc;
      }
  decided last InputFailed e = stops InputFailed (within e.0.1.rest e.0.1.holds e.1) (λ no. absurd cc) (λ no. cc) (λ no. cc)
  decided last OutputFailed e =
      let proper = breaks last e in
      stops OutputFailed (proper_prefix output output' _ proper) (λ _. proper) (λ no. cc) (λ no. cc)
  decided last StoreFailed e = stops StoreFailed (asked_for e.0.asked e.0.holds e.1) (λ no. absurd cc) (λ no. cc) (λ no. cc)
  decided last OutOfMemory (inl (inl (few, w), nothing, same)) =
      stops OutOfMemory (within w.rest w.holds nothing) (λ no. absurd cc) (λ no. cc) (λ no. cc)
  decided last OutOfMemory (inl (inr u, nothing, same)) =
      stops OutOfMemory (asked_for u.asked u.holds nothing) (λ no. absurd cc) (λ no. cc) (λ no. cc)
  decided last OutOfMemory (inr (grows, off)) =
      stops OutOfMemory (proper_prefix output output' _ (breaks last off)) (λ no. absurd cc) (λ no. cc) (λ no. cc)
  decided last BadCommandLine e = absurd e
  decided last DoorFailed e = absurd e
  decided last RowRefused e = absurd e
  decided last SpliceRefused e = absurd e

-- where the bytes that were left are known, those behind what was read are known too
known_rest : (bytes text : List ℕ) (new : Option (List ℕ)) → known.Consumes (Some bytes) new text
    → (rest : List ℕ) × (new ≡ Some rest) × (bytes ≡ text ++ rest)
known_rest bytes text None c = absurd c
known_rest bytes text (Some rest) c = (rest, refl, c)

pub session_decided : {S R : Type 0} (p : Protocol S R) → ParsesLocally p.commands → (first last : S)
    (input input' output output' : Tape) (steps steps' : ℕ) (status : Status)
    → Session p first last input input' output output' steps steps' status → (bytes : List ℕ)
    → input.left ≡ Some bytes → IsDecided p first bytes input' output output' status
session_decided p local first last input input' output output' steps steps' status s bytes left =
    let behind = known_rest bytes s.took input'.left (subst (λ o. known.Consumes o input'.left s.took) left s.read.left) in
    subst (λ (b : List ℕ). IsDecided p first b input' output output' status) (sym behind.2)
    (decided p local first s.took behind.0 s.answered s.part input' output output' behind.1 s.wrote last status s.ends)
