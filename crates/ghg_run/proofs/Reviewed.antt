-- The bounds that a review prints hold.
use Rattle.std.proofs.Common.{ℕ, [], ◌∷◌, codes, refl, sym, subst}
use Rattle.ghg_definitions.specs.Compilation.{compilation}
use Rattle.ghg_office.specs.Laws.{IsInForce}
use Rattle.ghg_office.proofs.InForce.{states_stay}
use Rattle.ghg_review.specs.Replies.{lines_under, review_step}
use Rattle.ghg_review.proofs.Reviews.{frozen_stays}
use Rattle.ghg_script.specs.declared.command.Request.{Request}
use Rattle.ghg_script.specs.declared.command.Request.TheVariants.{Submit, Query}
use Rattle.ghg_script.specs.declared.review.ReviewQuery.{ReviewQuery}
use Rattle.ghg_script.specs.declared.review.ReviewQuery.TheVariants.{Show, Freeze, Recalc, Trend}
use Rattle.ghg_trendunc.proofs.Sound.{trends_sound}
use Rattle.ghg_versions.specs.Desk.{DeskState, answered, trended}
use Rattle.ghg_run.specs.Reviewing.{AreSoundReviewLines, AreSoundTrendLines, ReviewsAreSound}
use Rattle.ghg_run.proofs.Held.{sound_table}

-- ---- the data stay in force

stays : (s : DeskState) (asked : Request ReviewQuery) → IsInForce s.office → IsInForce (review_step s asked).after.office
unfolding review_step answered
stays s (Submit id body) h = states_stay.later s.office id body h
stays s (Query (Show show)) h = h
stays s (Query (Freeze name)) h = subst IsInForce (sym (frozen_stays s name)) h
stays s (Query (Recalc name year)) h = h
stays s (Query (Trend year)) h = h

sound_trend : (s : DeskState) (year : ℕ) → AreSoundTrendLines s.office year (lines_under (codes "trendunc") year (trended s year))
unfolding trended
sound_trend s year within =
    rw within (_, refl, trends_sound s.office.content (compilation s.office.content) year)

sound_lines : (s : DeskState) (asked : Request ReviewQuery) → IsInForce s.office → AreSoundReviewLines s asked (review_step s asked).reply
unfolding review_step answered
sound_lines s (Submit id body) h = tt
sound_lines s (Query (Show show)) h = sound_table s.office show h
sound_lines s (Query (Freeze name)) h = tt
sound_lines s (Query (Recalc name year)) h = tt
sound_lines s (Query (Trend year)) h = sound_trend s year

pub sound_reviews : ReviewsAreSound
sound_reviews s h [] = tt
sound_reviews s h (first ∷ rest) =
    (sound_lines s first h, sound_reviews (review_step s first).after (stays s first h) rest)
