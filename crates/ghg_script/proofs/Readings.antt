-- What bytes read as, command by command.
use Rattle.std.proofs.Common.{◌≡◌, ℕ, zero, suc, ◌+◌, ◌-◌, ◌≤◌, ◌<◌, List, [], ◌∷◌, ◌++◌, append_assoc, refl, sym, ap, ◌∙◌, Option, Some, None, arith}
use Rattle.ghg_script.specs.declared.command.Command.{Command}
use Rattle.ghg_script.specs.declared.command.Command.TheVariants as command
use Rattle.ghg_script.specs.Commands.{Grammar}
use Rattle.ghg_script.specs.Reading.{Reading, after_requests, ended, most_commands, no_command, reading, with_more}

pub reading_none : {R : Type 0} (g : Grammar (Command R)) (n number : ℕ) (bytes : List ℕ) → g.parse bytes ≡ None
    → reading g (suc n) number bytes ≡ no_command number bytes
unfolding reading
reading_none g n number bytes e = rw e refl

pub reading_end : {R : Type 0} (g : Grammar (Command R)) (n number : ℕ) (bytes rest : List ℕ)
    → g.parse bytes ≡ Some (command.End, rest) → reading g (suc n) number bytes ≡ ended rest
unfolding reading
reading_end g n number bytes rest e = rw e refl

pub reading_request : {R : Type 0} (g : Grammar (Command R)) (n number : ℕ) (bytes rest : List ℕ) (asked : R)
    → g.parse bytes ≡ Some (command.Request asked, rest)
    → reading g (suc n) number bytes ≡ after_requests (asked ∷ []) (reading g n (number + 1) rest)
unfolding reading
reading_request g n number bytes rest asked e = rw e refl

-- no command more is allowed
pub reading_spent : {R : Type 0} (g : Grammar (Command R)) (number : ℕ) (bytes : List ℕ)
    → reading g 0 number bytes ≡ no_command number bytes
unfolding reading
reading_spent g number bytes = refl

-- ---- behind so many requests

abbrev pub reading_behind : {R : Type 0} → Grammar (Command R) → ℕ → List ℕ → Reading R
reading_behind g done bytes = reading g (most_commands - done) (done + 1) bytes

one_more : (done : ℕ) → done < most_commands → most_commands - done ≡ suc (most_commands - (done + 1))
one_more done h = omega (arith, h)

pub behind_none : {R : Type 0} (g : Grammar (Command R)) (done : ℕ) (bytes : List ℕ) → done < most_commands
    → g.parse bytes ≡ None → reading_behind g done bytes ≡ no_command (done + 1) bytes
behind_none g done bytes h e =
    ap (λ (n : ℕ). reading g n (done + 1) bytes) (one_more done h) ∙ reading_none g _ (done + 1) bytes e

pub behind_end : {R : Type 0} (g : Grammar (Command R)) (done : ℕ) (bytes rest : List ℕ) → done < most_commands
    → g.parse bytes ≡ Some (command.End, rest) → reading_behind g done bytes ≡ ended rest
behind_end g done bytes rest h e =
    ap (λ (n : ℕ). reading g n (done + 1) bytes) (one_more done h) ∙ reading_end g _ (done + 1) bytes rest e

pub behind_request : {R : Type 0} (g : Grammar (Command R)) (done : ℕ) (bytes rest : List ℕ) (asked : R)
    → done < most_commands → g.parse bytes ≡ Some (command.Request asked, rest)
    → reading_behind g done bytes ≡ after_requests (asked ∷ []) (reading_behind g (done + 1) rest)
behind_request g done bytes rest asked h e =
    ap (λ (n : ℕ). reading g n (done + 1) bytes) (one_more done h) ∙ reading_request g _ (done + 1) bytes rest asked e

none_more : (done : ℕ) → most_commands ≤ done → most_commands - done ≡ 0
none_more done h = omega (arith, h)

pub behind_all : {R : Type 0} (g : Grammar (Command R)) (done : ℕ) (bytes : List ℕ) → most_commands ≤ done
    → reading_behind g done bytes ≡ no_command (done + 1) bytes
behind_all g done bytes h =
    ap (λ (n : ℕ). reading g n (done + 1) bytes) (none_more done h) ∙ reading_spent g (done + 1) bytes

-- ---- requests, one after the other

pub after_requests_twice : {R : Type 0} (xs ys : List R) (r : Reading R)
    → after_requests xs (after_requests ys r) ≡ after_requests (xs ++ ys) r
after_requests_twice {R} xs ys r =
    ap (λ (l : List R). record r { requests = l }) (sym (append_assoc xs ys r.requests))

-- what follows a command changes nothing of it
abbrev pub ParsesLocally : {R : Type 0} → Grammar (Command R) → Type 0
ParsesLocally g = (bytes rest more : List ℕ) (found : Command _) → g.parse bytes ≡ Some (found, rest)
    → g.parse (bytes ++ more) ≡ Some (found, rest ++ more)

-- ---- what bytes read as, with more behind them

module _ {R : Type 0} (g : Grammar (Command R)) (local : ParsesLocally g) where
  -- a script reads the same
  abbrev ReadsOn : ℕ → ℕ → List ℕ → List ℕ → Type 0
  ReadsOn n number bytes more = (reading g n number bytes).wrong ≡ None
      → reading g n number (bytes ++ more) ≡ with_more more (reading g n number bytes)

  reads_by : (n number : ℕ) (bytes more : List ℕ) (first : Option (Command R × List ℕ)) → g.parse bytes ≡ first
      → ((rest : List ℕ) → ReadsOn n (number + 1) rest more) → ReadsOn (suc n) number bytes more
  reads_by n number bytes more None e go = rw (reading_none g n number bytes e) (λ h. absurd cc)
  reads_by n number bytes more (Some (command.End, rest)) e go =
      rw (reading_end g n number bytes rest e, reading_end g n number (bytes ++ more) (rest ++ more) (local bytes rest more command.End e)) (λ h. refl)
  reads_by n number bytes more (Some (command.Request asked, rest)) e go =
      rw (reading_request g n number bytes rest asked e, reading_request g n number (bytes ++ more) (rest ++ more) asked (local bytes rest more (command.Request asked) e))
      (λ h. ap (after_requests (asked ∷ [])) (go rest h))

  pub reads_on : (n number : ℕ) (bytes more : List ℕ) → ReadsOn n number bytes more
  reads_on zero number bytes more = rw (reading_spent g number bytes) (λ h. absurd cc)
  reads_on (suc n) number bytes more = reads_by n number bytes more (g.parse bytes) refl (λ rest. reads_on n (number + 1) rest more)

  -- and the requests of any bytes come first
  abbrev Extends : ℕ → ℕ → List ℕ → List ℕ → Type 0
  Extends n number bytes more = (later : List R)
      × ((reading g n number (bytes ++ more)).requests ≡ (reading g n number bytes).requests ++ later)

  extends_by : (n number : ℕ) (bytes more : List ℕ) (first : Option (Command R × List ℕ)) → g.parse bytes ≡ first
      → ((rest : List ℕ) → Extends n (number + 1) rest more) → Extends (suc n) number bytes more
  extends_by n number bytes more None e go = rw (reading_none g n number bytes e) (_, refl)
  extends_by n number bytes more (Some (command.End, rest)) e go =
      rw (reading_end g n number bytes rest e, reading_end g n number (bytes ++ more) (rest ++ more) (local bytes rest more command.End e)) ([], refl)
  extends_by n number bytes more (Some (command.Request asked, rest)) e go =
      let later = go rest in
      rw (reading_request g n number bytes rest asked e, reading_request g n number (bytes ++ more) (rest ++ more) asked (local bytes rest more (command.Request asked) e))
      (later.0, ap (λ (l : List R). asked ∷ l) later.1)

  pub extends : (n number : ℕ) (bytes more : List ℕ) → Extends n number bytes more
  extends zero number bytes more = rw (reading_spent g number bytes, reading_spent g number (bytes ++ more)) ([], refl)
  extends (suc n) number bytes more = extends_by n number bytes more (g.parse bytes) refl (λ rest. extends n (number + 1) rest more)
