-- A session that answered some requests, and how it goes on or ends then.
use Rattle.std.proofs.Common.{◌≡◌, ℕ, ◌+◌, ◌≤◌, ◌<◌, ◌⊎◌, inl, inr, Bool, true, false, nat_lt, List, [], ◌∷◌, ◌++◌, length, take, append_assoc, append-nil, length-append, refl, sym, ap, subst, ◌∙◌, arith, None, Some, Option}
use Rattle.ghg_outer.specs.Tape.{Appends, Consumes, IsAtEnd, Tape}
use Rattle.ghg_outer.proofs.Tapes.{appends_more, appends_nothing, consumes_more, consumes_nothing}
use Rattle.ghg_script.specs.declared.command.Command.TheVariants as command
use Rattle.ghg_words.specs.declared.status.Status.{Status}
use Rattle.ghg_words.specs.declared.status.Status.TheVariants.{Done, NoScript, InputFailed, OutputFailed, OutOfMemory}
use Rattle.ghg_script.specs.Reader.{Found, Missing, Stopped}
use Rattle.ghg_script.specs.Reading.{ReadsAs, IsMalformed, IsBeforeNextCommand, Reading, after_requests, most_commands, no_command, reading_of}
use Rattle.ghg_session.specs.Session.{BreaksOff, EachReply, EndsBy, IsDueNext, MayLeaveUndone, Protocol, Session, StopsReading, replies, state_after, steps_of, wrong_line}
use Rattle.ghg_session.specs.Writing.{Reports, StoppedWriting}
use Rattle.ghg_session.proofs.Replied.{each_reply-append, replies-append, state_after-append, steps_of-append}
use Rattle.ghg_script.proofs.Readings.{after_requests_twice, behind_all, behind_end, behind_none, behind_request, reading_behind}

-- So many requests were answered, and the session goes on. If each of them is quiet, the keeper is the same.
pub record Answered {S R : Type 0} (p : Protocol S R) (quiet : S → R → List ℕ → Type 0) (same : Type 0) (first now : S)
    (input input' output output' : Tape) (steps steps' done : ℕ) : Type 0 where
  pub took : List ℕ
  pub answered : List R
  pub read : Consumes input input' took
  pub each : (more : List ℕ) → reading_of p.commands (took ++ more)
      ≡ after_requests answered (reading_behind p.commands done more)
  pub wrote : Appends output output' (replies p first answered)
  pub count : done ≡ length answered
  pub state : now ≡ state_after p first answered
  pub spent : steps' ≤ steps + steps_of p first answered
  pub repeats : EachReply p quiet first answered → same

-- What a session did, and that the keeper is the same if each request that it read is quiet.
abbrev pub Acts : {S R : Type 0} → Protocol S R → (S → R → List ℕ → Type 0) → Type 0 → S → S → Tape → Tape → Tape → Tape
    → ℕ → ℕ → Status → Type 0
Acts p quiet same first last input input' output output' steps steps' status =
    (s : Session p first last input input' output output' steps steps' status)
    × (EachReply p quiet first (reading_of p.commands s.took).requests → same)

pub begins : {S R : Type 0} (p : Protocol S R) (quiet : S → R → List ℕ → Type 0) (same : Type 0) (first : S) (input output : Tape)
    (steps : ℕ) → same → Answered p quiet same first first input input output output steps steps 0
begins p quiet same first input output steps is = record {
  took = [];
  answered = [];
  read = consumes_nothing input;
  each = λ more. refl;
  wrote = appends_nothing output;
  count = refl;
  state = refl;
  spent = omega arith;
  repeats = λ h. is;
}

module _ {S R : Type 0} (p : Protocol S R) (quiet : S → R → List ℕ → Type 0) (same : Type 0) (first now : S)
    (input mid output out : Tape) (steps spent done : ℕ)
    (a : Answered p quiet same first now input mid output out steps spent done) where
  -- ---- what was read

  -- no command is found, and this is the number of the next
  holds_none : (text : List ℕ) → reading_behind p.commands done text ≡ no_command (done + 1) text
      → ReadsAs p.commands (a.took ++ text) a.answered text
  holds_none text none =
      a.each text ∙ ap (after_requests a.answered) none
      ∙ ap (λ (l : List R). record { requests = l; wrong = Some (done + 1); rest = text }) (append-nil a.answered)
      ∙ ap (λ (n : ℕ). record { requests = a.answered; wrong = Some (n + 1); rest = text }) a.count

  holds_one : (text : List ℕ) (asked : R) → done < most_commands → p.commands.parse [] ≡ None
      → ((rest : List ℕ) → p.commands.parse (text ++ rest) ≡ Some (command.Request asked, rest))
      → ReadsAs p.commands (a.took ++ text) (a.answered ++ asked ∷ []) []
  holds_one text asked h nothing each =
      let whole = ap p.commands.parse (sym (append-nil text)) ∙ each [] in
      let next : reading_behind p.commands done text ≡ after_requests (asked ∷ []) (no_command (done + 1 + 1) []) =
      behind_request p.commands done text [] asked h whole ∙ ap (after_requests (asked ∷ [])) (spent_or_none (done + 1)) in
      a.each text ∙ ap (after_requests a.answered) next
      ∙ ap (λ (n : ℕ). record { requests = a.answered ++ asked ∷ []; wrong = Some n; rest = [] })
      (omega (arith, a.count, length-append a.answered (asked ∷ [])))
    where
      spent_or_none : (number : ℕ) → reading_behind p.commands number [] ≡ no_command (number + 1) []
      spent_or_none number = by (nat_lt number most_commands) refl
        where
          by : (less : Bool) → nat_lt number most_commands ≡ less → reading_behind p.commands number [] ≡ no_command (number + 1) []
          by true e = behind_none p.commands number [] (grind (arith, e)) nothing
          by false e = behind_all p.commands number [] (grind (arith, e))

  -- ---- the session goes on

  steps_more : (asked : R) (steps' : ℕ) → steps' ≤ spent + (p.step now asked).steps
      → steps' ≤ steps + steps_of p first (a.answered ++ asked ∷ [])
  steps_more asked steps' few =
      let both = steps_of-append p a.answered (asked ∷ []) first in
      let same = ap (λ s. (p.step s asked).steps) a.state in
      omega (arith, both, same, a.spent, few)

  repeats_more : (asked : R) (same' : Type 0) → (same → quiet now asked (p.step now asked).reply → same')
      → EachReply p quiet first (a.answered ++ asked ∷ []) → same'
  repeats_more asked same' go h =
      let both = each_reply-append p quiet a.answered (asked ∷ []) first h in
      go (a.repeats both.0) (subst (λ s. quiet s asked ((p.step s asked).reply)) (sym a.state) both.1.0)

  pub answers_one : (same' : Type 0) (input' output' : Tape) (later : S) (asked : R) (steps' : ℕ) → done < most_commands
      → Found p.commands mid input' (command.Request asked) → Appends out output' (p.step now asked).reply
      → later ≡ (p.step now asked).after → steps' ≤ spent + (p.step now asked).steps
      → (same → quiet now asked (p.step now asked).reply → same')
      → Answered p quiet same' first later input input' output output' steps steps' (done + 1)
  answers_one same' input' output' later asked steps' h m wrote e few go = record {
    took = a.took ++ m.text;
    answered = a.answered ++ asked ∷ [];
    read = consumes_more input mid input' a.took m.text a.read m.read;
    each = λ more.
        ap (reading_of p.commands) (append_assoc a.took m.text more) ∙ a.each (m.text ++ more)
        ∙ ap (after_requests a.answered) (behind_request p.commands done (m.text ++ more) more asked h (m.each more))
        ∙ after_requests_twice a.answered (asked ∷ []) (reading_behind p.commands (done + 1) more);
    wrote =
        let both = appends_more output out output' _ _ a.wrote wrote in
        rw (replies-append p a.answered (asked ∷ []) first, ← a.state, append-nil) both;
    count = omega (arith, a.count, length-append a.answered (asked ∷ []));
    state = e ∙ ap (λ s. (p.step s asked).after) a.state ∙ sym (state_after-append p a.answered (asked ∷ []) first);
    spent = steps_more asked steps' few;
    repeats = repeats_more asked same' go;
  }

  -- ---- the session ends

  -- with what was read and written since
  ends : (text part : List ℕ) (requests : List R) (same' : Type 0) (input' output' : Tape) (last : S) (steps' : ℕ) (status : Status)
      → Consumes mid input' text → Appends out output' part
      → (reading_of p.commands (a.took ++ text)).requests ≡ requests → steps' ≤ steps + steps_of p first requests
      → (EachReply p quiet first requests → same')
      → EndsBy p now last input' output.grows (a.took ++ text) a.answered part status
      → Acts p quiet same' first last input input' output output' steps steps' status
  ends text part requests same' input' output' last steps' status read wrote e few go end = (
    record {
      took = a.took ++ text;
      read = consumes_more input mid input' a.took text a.read read;
      answered = a.answered;
      part = part;
      wrote = appends_more output out output' _ _ a.wrote wrote;
      ends = subst (λ (s : S). EndsBy p s last input' output.grows (a.took ++ text) a.answered part status) a.state end;
      spent = rw e few;
    },
    λ h. go (subst (EachReply p quiet first) e h),
  )

  requests_of : (requests : List R) (wrong : Option ℕ) (bytes rest : List ℕ)
      → reading_of p.commands bytes ≡ record { requests = requests; wrong = wrong; rest = rest }
      → (reading_of p.commands bytes).requests ≡ requests
  requests_of requests wrong bytes rest e = ap (λ (r : Reading R). r.requests) e

  -- the line of END was read
  pub ends_at_end : (input' : Tape) → done < most_commands → Found p.commands mid input' command.End
      → Acts p quiet same first now input input' output out steps spent Done
  ends_at_end input' h m =
      let whole = ap p.commands.parse (sym (append-nil m.text)) ∙ m.each [] in
      let script : reading_of p.commands (a.took ++ m.text) ≡ record { requests = a.answered; wrong = None; rest = [] } =
      a.each m.text ∙ ap (after_requests a.answered) (behind_end p.commands done m.text [] h whole)
      ∙ ap (λ (l : List R). record { requests = l; wrong = None; rest = [] }) (append-nil a.answered) in
      ends m.text [] a.answered same input' out now spent Done m.read (appends_nothing out) (requests_of _ _ _ _ script) a.spent
      a.repeats (script, refl, refl)

  -- reading stopped
  pub stops_reading : (input' : Tape) (status : Status) → done < most_commands → Stopped p.commands mid input' status
      → Acts p quiet same first now input input' output out steps spent status
  stops_reading input' status h m =
      let holds = holds_none m.text (behind_none p.commands done m.text h m.none) in
      let within : IsBeforeNextCommand p.commands (a.took ++ m.text) a.answered =
      record { rest = m.text; holds = holds; near = m.near } in
      ends m.text [] a.answered same input' out now spent status m.read (appends_nothing out) (requests_of _ _ _ _ holds) a.spent
      a.repeats (by m.why (rw (← a.count) h, within))
    where
      by : (status ≡ InputFailed) ⊎ (status ≡ OutOfMemory)
          → StopsReading p (a.took ++ m.text) a.answered
          → EndsBy p now now input' output.grows (a.took ++ m.text) a.answered [] status
      by (inl e) within =
          subst (EndsBy p now now input' output.grows (a.took ++ m.text) a.answered []) (sym e) (within, refl, refl)
      by (inr e) within =
          subst (EndsBy p now now input' output.grows (a.took ++ m.text) a.answered []) (sym e) (inl (inl within, refl, refl))

  -- one more request was read, and left undone
  pub stops_undone : (same' : Type 0) (input' : Tape) (asked : R) (steps' : ℕ) (status : Status) → done < most_commands
      → p.commands.parse [] ≡ None → Found p.commands mid input' (command.Request asked)
      → MayLeaveUndone (p.step now asked) status
      → steps' ≤ spent + (p.step now asked).steps → (same → quiet now asked (p.step now asked).reply → same')
      → Acts p quiet same' first now input input' output out steps steps' status
  stops_undone same' input' asked steps' status h nothing m may few go =
      ends m.text [] (a.answered ++ asked ∷ []) same' input' out now steps' status m.read (appends_nothing out)
      (requests_of _ _ _ _ holds) (steps_more asked steps' few) (repeats_more asked same' go) (by may)
    where
      holds : ReadsAs p.commands (a.took ++ m.text) (a.answered ++ asked ∷ []) []
      holds = holds_one m.text asked h nothing m.each

      by : MayLeaveUndone (p.step now asked) status
          → EndsBy p now now input' output.grows (a.took ++ m.text) a.answered [] status
      by (inl e) = subst (EndsBy p now now input' output.grows (a.took ++ m.text) a.answered []) (sym e.0)
          (inl (inr (record { asked = asked; holds = holds; why = inl (refl, e.1) }), refl, refl))
      by (inr e) = subst (EndsBy p now now input' output.grows (a.took ++ m.text) a.answered []) (sym e.0)
          (record { asked = asked; holds = holds; why = inr (refl, e.1) }, refl, refl)

  -- writing stopped
  breaks_off : (input' output' : Tape) (last : S) (took lines : List ℕ) (status : Status)
      → IsDueNext p now last input' took a.answered lines → (s : StoppedWriting out output' lines status)
      → EndsBy p now last input' output.grows took a.answered (take s.wrote.count lines) status
  breaks_off input' output' last took lines status due s = by s.why
    where
      off : BreaksOff p now last input' took a.answered (take s.wrote.count lines)
      off = record { lines = lines; due = due; count = s.wrote.count; short = s.wrote.short; prefix = refl }

      by : (status ≡ OutputFailed) ⊎ ((status ≡ OutOfMemory) × (out.grows ≡ true))
          → EndsBy p now last input' output.grows took a.answered (take s.wrote.count lines) status
      by (inl e) = subst (EndsBy p now last input' output.grows took a.answered (take s.wrote.count lines)) (sym e) off
      by (inr e) = subst (EndsBy p now last input' output.grows took a.answered (take s.wrote.count lines)) (sym e.0)
          (inr (sym a.wrote.grows ∙ e.1, off))

  pub stops_in_reply : (same' : Type 0) (input' output' : Tape) (last : S) (asked : R) (steps' : ℕ) (status : Status) → done < most_commands
      → p.commands.parse [] ≡ None → Found p.commands mid input' (command.Request asked)
      → StoppedWriting out output' (p.step now asked).reply status → last ≡ (p.step now asked).after
      → steps' ≤ spent + (p.step now asked).steps → (same → quiet now asked (p.step now asked).reply → same')
      → Acts p quiet same' first last input input' output output' steps steps' status
  stops_in_reply same' input' output' last asked steps' status h nothing m s e few go =
      let holds = holds_one m.text asked h nothing m.each in
      ends m.text _ (a.answered ++ asked ∷ []) same' input' output' last steps' status m.read s.wrote.wrote
      (requests_of _ _ _ _ holds) (steps_more asked steps' few) (repeats_more asked same' go)
      (breaks_off input' output' last (a.took ++ m.text) (p.step now asked).reply status (inl (asked, holds, refl, e)) s)

  -- no command follows: none is found, or none more is allowed
  pub malformed : (input' : Tape) → done < most_commands → (m : Missing p.commands mid input')
      → IsMalformed p.commands input' (a.took ++ m.text) a.answered
  malformed input' h m = record { read = record { rest = m.text; holds = holds m.none; near = m.near }; final = final m.none }
    where
      holds : (IsAtEnd input' × (p.commands.parse m.text ≡ None)) ⊎ ((more : List ℕ) → p.commands.parse (m.text ++ more) ≡ None)
          → ReadsAs p.commands (a.took ++ m.text) a.answered m.text
      holds (inl q) = holds_none m.text (behind_none p.commands done m.text h q.1)
      holds (inr each) =
          holds_none m.text (behind_none p.commands done m.text h (ap p.commands.parse (sym (append-nil m.text)) ∙ each []))

      final : (IsAtEnd input' × (p.commands.parse m.text ≡ None)) ⊎ ((more : List ℕ) → p.commands.parse (m.text ++ more) ≡ None)
          → IsAtEnd input' ⊎ ((more : List ℕ) → ReadsAs p.commands ((a.took ++ m.text) ++ more) a.answered (m.text ++ more))
      final (inl q) = inl q.0
      final (inr each) = inr (λ more. rw append_assoc (holds_none (m.text ++ more) (behind_none p.commands done (m.text ++ more) h (each more))))

  pub spent_all : most_commands ≤ done → IsMalformed p.commands mid (a.took ++ []) a.answered
  spent_all h = record {
    read = record { rest = []; holds = holds_none [] (behind_all p.commands done [] h); near = omega arith };
    final = inr (λ more. rw append_assoc (holds_none more (behind_all p.commands done more h)));
  }

  pub refused : (text : List ℕ) (input' output' : Tape) (status : Status) → Consumes mid input' text
      → IsMalformed p.commands input' (a.took ++ text) a.answered → Reports out output' (wrong_line (done + 1)) NoScript status
      → Acts p quiet same first now input input' output output' steps spent status
  refused text input' output' status read m told = by told
    where
      requests : (reading_of p.commands (a.took ++ text)).requests ≡ a.answered
      requests = requests_of _ _ _ _ m.read.holds

      by : Reports out output' (wrong_line (done + 1)) NoScript status
          → Acts p quiet same first now input input' output output' steps spent status
      by (inl whole) = ends text _ a.answered same input' output' now spent status read whole.0 requests a.spent a.repeats
          (subst (EndsBy p now now input' output.grows (a.took ++ text) a.answered _) (sym whole.1)
          (m, ap (λ (n : ℕ). wrong_line (n + 1)) a.count, refl))
      by (inr s) = ends text _ a.answered same input' output' now spent status read s.wrote.wrote requests a.spent a.repeats
          (breaks_off input' output' now (a.took ++ text) (wrong_line (done + 1)) status
          (inr (m, ap (λ (n : ℕ). wrong_line (n + 1)) a.count, refl)) s)
