-- One more of what is left.
use Rattle.std.proofs.Common.{◌≡◌, ℕ, zero, suc, ◌+◌, ◌-◌, ◌<◌, ◌≤◌, [], ◌++◌, ◌∷◌, List, refl, sym, arith}
use Rattle.ghg_office.specs.Office.{State, evaluations, submitted}
use Rattle.ghg_office.specs.Replays.{replay_evaluations}
use Rattle.ghg_generator.specs.Bodies.{activity_row, activity_rows, line_body}
use Rattle.ghg_generator.specs.Draws.{after_draws, drawn, next}
use Rattle.ghg_generator.specs.Summary.{line_submissions, submission}

less : (n : ℕ) → suc n - 1 ≡ n
less n = omega arith

pub rows_left : (left : ℕ) (digits : List ℕ) (x : ℕ) → 0 < left → activity_rows left digits x
    ≡ activity_row digits (1990 + (left - 1)) (drawn (next x)) ++ activity_rows (left - 1) digits (next x)
unfolding activity_rows
rows_left zero digits x some = absurd (omega arith)
rows_left (suc n) digits x some = rw (less n) refl

pub draws_left : (left x : ℕ) → 0 < left → after_draws left x ≡ after_draws (left - 1) (next x)
unfolding after_draws
draws_left zero x some = absurd (omega arith)
draws_left (suc n) x some = rw (less n) refl

pub lines_left : (left place x : ℕ) → 0 < left → line_submissions left place x
    ≡ submission place (line_body place x) ∷ line_submissions (left - 1) (place + 1) (after_draws 32 x)
unfolding line_submissions
lines_left zero place x some = absurd (omega arith)
lines_left (suc n) place x some = rw (less n) refl

pub run_left : (lines done x : ℕ) → done < lines → line_submissions (lines - done) (done + 1) x
    ≡ submission (done + 1) (line_body (done + 1) x)
    ∷ line_submissions (lines - (done + 1)) (done + 1 + 1) (after_draws 32 x)
run_left lines done x some =
    let left : 0 < lines - done = omega arith in
    let less : lines - done - 1 ≡ lines - (done + 1) = omega arith in
    rw less at (lines_left (lines - done) (done + 1) x left)

pub none_left : (lines done place x : ℕ) → lines ≤ done → line_submissions (lines - done) place x ≡ []
unfolding line_submissions
none_left lines done place x all = let none : lines - done ≡ 0 = omega arith in rw none refl

-- the steps that are left are enough for one line more
pub spent_left : (s : State) (lines done x steps steps' bound : ℕ) (body : List ℕ) → done < lines
    → steps + replay_evaluations s (line_submissions (lines - done) (done + 1) x) ≤ bound
    → body ≡ line_body (done + 1) x
    → steps' ≤ steps + evaluations s (submission (done + 1) body).id body
    → steps' + replay_evaluations (submitted s (submission (done + 1) body).id body).after
    (line_submissions (lines - (done + 1)) (done + 1 + 1) (after_draws 32 x)) ≤ bound
spent_left s lines done x steps steps' bound body some before same spent =
    let due = rw (run_left lines done x some, sym same) at before in
    omega (arith, due, spent)
