-- What a review leaves as it is.
use Rattle.std.proofs.Common.{◌≡◌, inl, inr, ℕ, Bool, true, false, nat_le, List, length, Option, Some, None, if◌then◌else◌, refl, subst}
use Rattle.ghg_outer.specs.Tape.{Tape}
use Rattle.ghg_review.specs.Replies.{review, review_step}
use Rattle.ghg_script.specs.declared.command.Request.{Request}
use Rattle.ghg_script.specs.declared.review.ReviewQuery.{ReviewQuery}
use Rattle.ghg_session.specs.Session.{EndsBy, MayLeaveUndone, Session, state_after}
use Rattle.ghg_units.specs.Name.{is_name}
use Rattle.ghg_versions.specs.declared.reply.DeskReply.TheVariants.{BadVersion}
use Rattle.ghg_versions.specs.Desk.{DeskState, frozen, frozen_anew, frozen_once, most_versions, seq_of, unchanged}
use Rattle.ghg_words.specs.declared.status.Status.{Status}
use Rattle.ghg_words.specs.declared.status.Status.TheVariants.{OutOfMemory, StoreFailed}

-- ---- freezing leaves the office

once_stays : (s : DeskState) (name : List ℕ) (seq : Option ℕ) → (frozen_once s name seq).after.office ≡ s.office
once_stays s name (Some seq) = refl
once_stays s name None = by (nat_le most_versions (length s.versions)) refl
  where
    by : (full : Bool) → nat_le most_versions (length s.versions) ≡ full → (frozen_anew s name).after.office ≡ s.office
    by true is = rw is refl
    by false is = rw is refl

pub frozen_stays : (s : DeskState) (name : List ℕ) → (frozen s name).after.office ≡ s.office
unfolding frozen
frozen_stays s name = by (is_name name)
  where
    by : (is : Bool) → (if is then frozen_once s name (seq_of name s.versions) else unchanged s BadVersion).after.office ≡ s.office
    by true = once_stays s name (seq_of name s.versions)
    by false = refl

-- ---- nothing is kept

never_kept : (s : DeskState) (asked : Request ReviewQuery) → MayLeaveUndone (review_step s asked) StoreFailed → ⊥
unfolding review_step
never_kept s asked (inl e) = let status : StoreFailed ≡ OutOfMemory = e.0 in cc
never_kept s asked (inr e) = let kept : false ≡ true = e.1 in cc

never_ends : (now last : DeskState) (left : Tape) (grows : Bool) (took : List ℕ) (answered : List (Request ReviewQuery)) (part : List ℕ)
    → EndsBy review now last left grows took answered part StoreFailed → ⊥
never_ends now last left grows took answered part end = never_kept _ _ end.0.why

-- so a review does not end at the keeper
pub review_no_keeper : (first last : DeskState) (input input' output output' : Tape) (steps steps' : ℕ) (status : Status)
    → Session review first last input input' output output' steps steps' status → status ≡ StoreFailed → ⊥
review_no_keeper first last input input' output output' steps steps' status s is =
    never_ends (state_after review first s.answered) last input' output.grows s.took s.answered s.part
    (subst (EndsBy review (state_after review first s.answered) last input' output.grows s.took s.answered s.part) is s.ends)
