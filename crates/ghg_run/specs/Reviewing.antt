-- `review`: a script that may also freeze the present figures, and ask what became of them.
use Rattle.std.specs.Prelude.{◌≡◌, ⊤, ℕ, true, List, [], codes}
use Rattle.ghg_definitions.specs.Compilation.{compilation, is_year_of}
use Rattle.ghg_definitions.specs.Data.{span}
use Rattle.ghg_office.specs.declared.reply.Reply.TheVariants.{Table}
use Rattle.ghg_office.specs.Laws.{IsInForce}
use Rattle.ghg_office.specs.Office.{State, start}
use Rattle.ghg_outer.specs.Tape.{Tape}
use Rattle.ghg_review.specs.Replies.{review}
use Rattle.ghg_script.specs.declared.command.Request.{Request}
use Rattle.ghg_script.specs.declared.command.Request.TheVariants.{Query}
use Rattle.ghg_script.specs.declared.review.ReviewQuery.{ReviewQuery}
use Rattle.ghg_script.specs.declared.review.ReviewQuery.TheVariants.{Show, Trend}
use Rattle.ghg_session.specs.Replies.{table_lines}
use Rattle.ghg_session.specs.Session.{EachReply, Session}
use Rattle.ghg_trendunc.specs.Sound.{IsSoundTrend}
use Rattle.ghg_versions.specs.Desk.{DeskState}
use Rattle.ghg_words.specs.declared.status.Status.{Status}
use Rattle.ghg_run.specs.Sound.{AreSoundTableLines}

-- ---- the bounds that a review prints

-- For a year of the span the lines are a table under its heading. Unless the uncertainty of its total is
-- unknown, it ends with bounds of that, which hold the root of the exact sum. Of another year this says
-- nothing.
abbrev pub AreSoundTrendLines : State → ℕ → List ℕ → Type 0
AreSoundTrendLines s year lines = is_year_of (span s.content) year ≡ true → (text : List ℕ)
    × (lines ≡ table_lines (codes "trendunc") year (Table text))
    × IsSoundTrend s.content (compilation s.content) year text

-- The bounds hold in each table of the office that is asked for, and in that of the trend's uncertainty. Of
-- the replies to other requests this says nothing.
abbrev pub AreSoundReviewLines : DeskState → Request ReviewQuery → List ℕ → Type 0
AreSoundReviewLines s (Query (Show show)) lines = AreSoundTableLines s.office show lines
AreSoundReviewLines s (Query (Trend year)) lines = AreSoundTrendLines s.office year lines
AreSoundReviewLines s asked lines = ⊤

-- That holds of the replies to any requests from this desk on.
abbrev pub HasSoundReview : DeskState → Type 0
HasSoundReview s = (requests : List (Request ReviewQuery)) → EachReply review AreSoundReviewLines s requests

-- That holds from each state in force, whatever was frozen of it.
abbrev pub ReviewsAreSound : Type 0
ReviewsAreSound = (s : DeskState) → IsInForce s.office → HasSoundReview s

-- ---- the command

-- an office without data, and no version
abbrev pub first_desk : DeskState
first_desk = record { office = start; versions = [] }

-- A desk answered the script that the input holds, as a session, and its replies to any requests are sound.
abbrev pub Reviews : Tape → Tape → Tape → Tape → ℕ → ℕ → Status → Type 0
Reviews input input' output output' steps steps' status = (last : DeskState)
    × Session review first_desk last input input' output output' steps steps' status
    × HasSoundReview first_desk
