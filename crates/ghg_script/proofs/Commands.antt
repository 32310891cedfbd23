-- A command that is read as a line, and perhaps a body.
use Rattle.std.proofs.Common.{◌≡◌, ℕ, ◌+◌, ◌≤◌, ◌⊎◌, inl, inr, Bool, true, false, List, [], ◌∷◌, ◌++◌, length, take, drop, append_assoc, append-nil, length-append, length-take, take-append-drop, refl, sym, ap, subst, ◌∙◌, arith, None, Some, Option, nat_le, option_map}
use Rattle.std.proofs.lemmas.Option.{none-some}
use Rattle.std.specs.Option.{option_map_or}
use Rattle.ghg_outer.specs.Tape.{IsAtEnd, Tape}
use Rattle.ghg_outer.proofs.Tapes.{consumes_more}
use Rattle.ghg_script.specs.declared.command.Command.{Command}
use Rattle.ghg_script.specs.declared.command.Command.TheVariants as command
use Rattle.ghg_script.specs.declared.command.Line.{Line}
use Rattle.ghg_script.specs.declared.command.Line.TheVariants as line
use Rattle.ghg_script.specs.declared.command.Request.{Request}
use Rattle.ghg_script.specs.declared.command.Request.TheVariants as request
use Rattle.ghg_words.specs.declared.status.Status.{Status}
use Rattle.ghg_script.specs.Commands.{Forms, IsTextOf, ParsesTexts, bodies, body_at, body_length, command_at, command_of, command_reach, commands_of, line_at, line_of, lines, longest_line, most_kept}
use Rattle.ghg_script.specs.Reader.{Found, Missing, Stopped}
use Rattle.ghg_script.proofs.Pieces.{whole_body}
use Rattle.ghg_script.proofs.Splits.{line_cut, line_ends, line_is}

module _ {Q : Type 0} (forms : Forms Q) where
  pub no_line : (bytes : List ℕ) → line_at bytes ≡ None → command_at forms bytes ≡ None
  unfolding command_at
  no_line bytes e = rw e refl

  -- no command has an empty text
  pub no_text : command_at forms [] ≡ None
  no_text = no_line [] (line_cut [] refl)

  no_form : (bytes text rest : List ℕ) → line_at bytes ≡ Some (text, rest) → forms text ≡ None → command_at forms bytes ≡ None
  unfolding command_at
  no_form bytes text rest e f = rw (e, f) refl

  by_form : (bytes text rest : List ℕ) (form : Line Q) → line_at bytes ≡ Some (text, rest) → forms text ≡ Some form
      → command_at forms bytes ≡ command_of form rest
  unfolding command_at
  by_form bytes text rest form e f = rw (e, f) refl

  -- ---- how far a command reaches

  near_no_line : (text : List ℕ) → line_at text ≡ None → length text ≤ longest_line + 1 → length text ≤ command_reach forms text
  unfolding command_reach
  near_no_line text e h = rw e h

  reach_of_line : (bytes words rest : List ℕ) → line_at bytes ≡ Some (words, rest)
      → command_reach forms bytes ≡ length words + 1 + body_length (forms words)
  unfolding command_reach
  reach_of_line bytes words rest e = rw e refl

  near_line : (bytes words part : List ℕ) → line_at bytes ≡ Some (words, part)
      → length part ≤ body_length (forms words) → length bytes ≤ command_reach forms bytes
  near_line bytes words part e h =
      let whole = ap length (line_is bytes words part e).0.whole ∙ length-append words (10 ∷ part) in
      omega (arith, h, whole, reach_of_line bytes words part e)

  near_body : (bytes words id part : List ℕ) (n : ℕ) → line_at bytes ≡ Some (words, part) → forms words ≡ Some (line.Submit id n)
      → length part ≤ n → length bytes ≤ command_reach forms bytes
  near_body bytes words id part n e f h = near_line bytes words part e (rw f h)

  -- ---- what a source gives of a command

  none_in_line : (text : List ℕ) (end : Type 0) → (end × (line_at text ≡ None)) ⊎ ((rest : List ℕ) → line_at (text ++ rest) ≡ None)
      → line_at text ≡ None
  none_in_line text end (inl p) = p.1
  none_in_line text end (inr each) = subst (λ (t : List ℕ). line_at t ≡ None) (append-nil text) (each [])

  no_command_behind : (text : List ℕ) (end : Type 0) → (end × (line_at text ≡ None)) ⊎ ((rest : List ℕ) → line_at (text ++ rest) ≡ None)
      → (end × (command_at forms text ≡ None)) ⊎ ((rest : List ℕ) → command_at forms (text ++ rest) ≡ None)
  no_command_behind text end (inl p) = inl (p.0, no_line text p.1)
  no_command_behind text end (inr each) = inr (λ rest. no_line (text ++ rest) (each rest))

  pub missing_line : (a b : Tape) → Missing lines a b → Missing (commands_of forms) a b
  missing_line a b m = record {
    text = m.text;
    read = m.read;
    none = no_command_behind m.text (IsAtEnd b) m.none;
    near = near_no_line m.text (none_in_line m.text (IsAtEnd b) m.none) m.near;
  }

  pub missing_form : (a b : Tape) (words : List ℕ) → Found lines a b words → forms words ≡ None → Missing (commands_of forms) a b
  missing_form a b words m f = record {
    text = m.text;
    read = m.read;
    none = inr (λ rest. no_form (m.text ++ rest) words rest (m.each rest) f);
    near =
        let whole = subst (λ (t : List ℕ). line_at t ≡ Some (words, [])) (append-nil m.text) (m.each []) in
        near_line m.text words [] whole (omega arith);
  }

  -- a command of one line
  pub found_line : (a b : Tape) (words : List ℕ) (form : Line Q) (found : Command (Request Q)) → Found lines a b words
      → forms words ≡ Some form → ((rest : List ℕ) → command_of form rest ≡ Some (found, rest)) → Found (commands_of forms) a b found
  found_line a b words form found m f g =
      record { text = m.text; read = m.read; each = λ rest. by_form (m.text ++ rest) words rest form (m.each rest) f ∙ g rest }

  abbrev submission : List ℕ → List ℕ × List ℕ → Command (Request Q) × List ℕ
  submission id body = (command.Request (request.Submit id body.0), body.1)

  enough : (id body rest : List ℕ) (n : ℕ) → length body ≡ n
      → command_of (line.Submit id n) (body ++ rest) ≡ Some (submission id (take most_kept body, rest))
  enough id body rest n e = ap (option_map (submission id)) (whole_body body rest n e)

  pub found_body : (a b c : Tape) (words id kept : List ℕ) (n : ℕ) → Found lines a b words → forms words ≡ Some (line.Submit id n)
      → Found (bodies n) b c kept → Found (commands_of forms) a c (command.Request (request.Submit id kept))
  found_body a b c words id kept n m f p = record {
    text = m.text ++ p.text;
    read = consumes_more a b c m.text p.text m.read p.read;
    each = λ rest. rw append_assoc
        (by_form (m.text ++ (p.text ++ rest)) words (p.text ++ rest) (line.Submit id n) (m.each (p.text ++ rest)) f
        ∙ ap (option_map (submission id)) (p.each rest));
  }

  -- no body as long as the line asks for
  no_body : (words id text bytes : List ℕ) (n : ℕ) → ((rest : List ℕ) → line_at (text ++ rest) ≡ Some (words, rest))
      → forms words ≡ Some (line.Submit id n) → body_at n bytes ≡ None → command_at forms (text ++ bytes) ≡ None
  no_body words id text bytes n e f none =
      by_form (text ++ bytes) words bytes (line.Submit id n) (e bytes) f ∙ ap (option_map (submission id)) none

  pub missing_body : (a b c : Tape) (words id : List ℕ) (n : ℕ) → Found lines a b words → forms words ≡ Some (line.Submit id n)
      → Missing (bodies n) b c → Missing (commands_of forms) a c
  missing_body a b c words id n m f p = record {
    text = m.text ++ p.text;
    read = consumes_more a b c m.text p.text m.read p.read;
    none = by p.none;
    near = near_body (m.text ++ p.text) words id p.text n (m.each p.text) f p.near;
  }
    where
      by : (IsAtEnd c × (body_at n p.text ≡ None)) ⊎ ((rest : List ℕ) → body_at n (p.text ++ rest) ≡ None)
          → (IsAtEnd c × (command_at forms (m.text ++ p.text) ≡ None))
          ⊎ ((rest : List ℕ) → command_at forms ((m.text ++ p.text) ++ rest) ≡ None)
      by (inl end) = inl (end.0, no_body words id m.text p.text n m.each f end.1)
      by (inr each) = inr (λ rest. rw append_assoc (no_body words id m.text (p.text ++ rest) n m.each f (each rest)))

  -- ---- where reading stopped

  pub stopped_line : (a b : Tape) (stop : Status) → Stopped lines a b stop → Stopped (commands_of forms) a b stop
  stopped_line a b stop s = record {
    text = s.text;
    read = s.read;
    none = no_line s.text s.none;
    near = near_no_line s.text s.none s.near;
    why = s.why;
  }

  pub stopped_body : (a b c : Tape) (words id : List ℕ) (n : ℕ) (stop : Status) → Found lines a b words
      → forms words ≡ Some (line.Submit id n) → Stopped (bodies n) b c stop → Stopped (commands_of forms) a c stop
  stopped_body a b c words id n stop m f s = record {
    text = m.text ++ s.text;
    read = consumes_more a b c m.text s.text m.read s.read;
    none = no_body words id m.text s.text n m.each f s.none;
    near = near_body (m.text ++ s.text) words id s.text n (m.each s.text) f s.near;
    why = s.why;
  }

  -- ---- the texts of commands

  -- what a command takes of the bytes behind its line
  abbrev IsBody : Line Q → Command (Request Q) → List ℕ → List ℕ → Type 0
  IsBody said found bytes rest = (body : List ℕ) × (bytes ≡ body ++ rest) × (command_of said body ≡ Some (found, []))

  same_body : (said : Line Q) (p q : Command (Request Q) × List ℕ) (bytes : List ℕ) → Some p ≡ Some q
      → IsBody said p.0 bytes p.1 → IsBody said q.0 bytes q.1
  same_body said p q bytes e h =
      let found : p.0 ≡ q.0 = ap (λ o. option_map_or (λ v. v.0) o p.0) e in
      let rest : p.1 ≡ q.1 = ap (λ o. option_map_or (λ v. v.1) o []) e in
      subst (λ (l : List ℕ). IsBody said q.0 bytes l) rest (subst (λ c. IsBody said c bytes p.1) found h)

  body_is : (said : Line Q) (bytes rest : List ℕ) (found : Command (Request Q)) → command_of said bytes ≡ Some (found, rest)
      → IsBody said found bytes rest
  body_is (line.Query query) bytes rest found e =
      same_body (line.Query query) (command.Request (request.Query query), bytes) (found, rest) bytes e ([], refl, refl)
  body_is line.End bytes rest found e = same_body line.End (command.End, bytes) (found, rest) bytes e ([], refl, refl)
  body_is (line.Submit id n) bytes rest found e = by (nat_le n (length bytes)) refl
    where
      by : (fits : Bool) → nat_le n (length bytes) ≡ fits → IsBody (line.Submit id n) found bytes rest
      by true f =
          let within : n ≤ length bytes = grind (arith, f) in
          let count : length (take n bytes) ≡ n = omega (arith, length-take n bytes, within) in
          let alone = ap (command_of (line.Submit id n)) (sym (append-nil (take n bytes))) ∙ enough id (take n bytes) [] n count in
          same_body (line.Submit id n) (command.Request (request.Submit id (take most_kept (take n bytes))), drop n bytes) (found, rest) bytes (rw f at e)
          (take n bytes, sym (take-append-drop n bytes), alone)
      by false f = let none = rw f at e in absurd (none-some (found, rest) none)

  abbrev behind : List ℕ → Command (Request Q) × List ℕ → Command (Request Q) × List ℕ
  behind more p = (p.0, p.1 ++ more)

  moved : (more : List ℕ) (p q : Command (Request Q) × List ℕ) → Some p ≡ Some q → Some (behind more p) ≡ Some (behind more q)
  moved more p q e = ap (option_map (behind more)) e

  -- and what stands behind changes nothing
  body_parses : (said : Line Q) (body rest : List ℕ) (found : Command (Request Q)) → command_of said body ≡ Some (found, [])
      → command_of said (body ++ rest) ≡ Some (found, rest)
  body_parses (line.Query query) body rest found e = moved rest (command.Request (request.Query query), body) (found, []) e
  body_parses line.End body rest found e = moved rest (command.End, body) (found, []) e
  body_parses (line.Submit id n) body rest found e = by (nat_le n (length body)) refl
    where
      by : (fits : Bool) → nat_le n (length body) ≡ fits → command_of (line.Submit id n) (body ++ rest) ≡ Some (found, rest)
      by true f =
          let both = rw f at e in
          let none : drop n body ≡ [] = ap (λ o. option_map_or (λ v. v.1) o []) both in
          let all : take n body ≡ body = sym (append-nil (take n body)) ∙ ap (λ (l : List ℕ). take n body ++ l) (sym none) ∙ take-append-drop n body in
          let within : n ≤ length body = grind (arith, f) in
          let count : length body ≡ n = omega (arith, within, ap length all, length-take n body) in
          let same : command.Request (request.Submit id (take most_kept (take n body))) ≡ found = ap (λ o. option_map_or (λ v. v.0) o found) both in
          enough id body rest n count
          ∙ ap (λ (l : List ℕ). Some (command.Request (request.Submit id (take most_kept l)), rest)) (sym all)
          ∙ ap (λ (c : Command (Request Q)). Some (behind rest (c, []))) same
      by false f = let none = rw f at e in absurd (none-some (found, []) none)

  pub parses_texts : ParsesTexts forms
  parses_texts bytes rest found = (begins, λ t. ap (command_at forms) t.1 ∙ parses t.0 t.2)
    where
      parses : (text : List ℕ) → IsTextOf forms found text → command_at forms (text ++ rest) ≡ Some (found, rest)
      parses text t =
          let same = ap (λ (l : List ℕ). l ++ rest) t.written ∙ append_assoc (line_of t.line) t.body rest in
          ap (command_at forms) same
          ∙ by_form _ t.line (t.body ++ rest) t.said (line_ends t.line (t.body ++ rest) t.short t.plain) t.says
          ∙ body_parses t.said t.body rest found t.whole

      begins : command_at forms bytes ≡ Some (found, rest) → (text : List ℕ) × (bytes ≡ text ++ rest) × IsTextOf forms found text
      begins h = by (line_at bytes) refl
        where
          formed : (text behind : List ℕ) → line_at bytes ≡ Some (text, behind) → (form : Option (Line Q)) → forms text ≡ form
              → (text : List ℕ) × (bytes ≡ text ++ rest) × IsTextOf forms found text
          formed text behind e (Some form) f =
              let body = body_is form behind rest found (sym (by_form bytes text behind form e f) ∙ h) in
              let line = line_is bytes text behind e in (
                line_of text ++ body.0,
                line.0.whole ∙ ap (λ (l : List ℕ). text ++ 10 ∷ l) body.1 ∙ sym (append_assoc text (10 ∷ []) (body.0 ++ rest)) ∙ sym (append_assoc (line_of text) body.0 rest),
                record { line = text; body = body.0; said = form; written = refl; short = line.1; plain = line.0.plain; says = f; whole = body.2 },
              )
          formed text behind e None f = absurd (none-some (found, rest) (sym (no_form bytes text behind e f) ∙ h))

          by : (split : Option (List ℕ × List ℕ)) → line_at bytes ≡ split → (text : List ℕ) × (bytes ≡ text ++ rest) × IsTextOf forms found text
          by (Some split) e = formed split.0 split.1 e (forms split.0) refl
          by None e = absurd (none-some (found, rest) (sym (no_line bytes e) ∙ h))

  -- what follows a command changes nothing of it
  pub command_locally : (bytes rest more : List ℕ) (found : Command (Request Q)) → command_at forms bytes ≡ Some (found, rest)
      → command_at forms (bytes ++ more) ≡ Some (found, rest ++ more)
  command_locally bytes rest more found h =
      let t = (parses_texts bytes rest found).0 h in
      (parses_texts (bytes ++ more) (rest ++ more) found).1
      (t.0, ap (λ (l : List ℕ). l ++ more) t.1 ∙ append_assoc t.0 rest more, t.2)
