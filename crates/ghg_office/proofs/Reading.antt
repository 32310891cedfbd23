-- A new submission whose body is read: no rule before those on its rows is broken.
use Rattle.std.proofs.Common.{◌≡◌, ◌≤◌, ◌+◌, ℕ, List, length, refl, ap, arith}
use Rattle.std.proofs.lemmas.Bool.{le-ltb}
use Rattle.ghg_import.specs.Body.{max_body}
use Rattle.ghg_office.specs.Office.{IsRead, State, decided, entered_by, evaluations, evaluations_by, submitted}

pub read_decided : (s : State) (id body : List ℕ) → IsRead s id body → submitted s id body ≡ decided s id body (entered_by s body)
unfolding submitted
read_decided s id body read = rw (read.id_form, read.new_id, le-ltb max_body (length body) read.length_of_body) refl

pub read_evaluations : (s : State) (id body : List ℕ) → IsRead s id body → evaluations s id body ≡ evaluations_by s body
unfolding evaluations
read_evaluations s id body read = rw (read.id_form, read.new_id, le-ltb max_body (length body) read.length_of_body) refl

-- no more steps than the submission asks for, where the state is the one that was opened
pub spent_reading : (opened s : State) (id body : List ℕ) (old new : ℕ) → opened ≡ s → IsRead s id body → new ≤ old + evaluations_by opened body
    → new ≤ old + evaluations s id body
spent_reading opened s id body old new same read h =
    omega (arith, h, ap (λ t. evaluations_by t body) same, read_evaluations s id body read)
