-- A request that is left undone changes nothing.
use Rattle.std.proofs.Common.{◌≡◌, ◌≢◌, ◌∙◌, ℕ, Bool, true, false, inl, inr, List, length, refl, sym, ap, Option, Some, None, Result, Ok, Err, IfErr, OnErr, nat_le, if◌then◌else◌}
use Rattle.std.specs.Prelude.{IfOk, OnOk}
use Rattle.ghg_office.specs.Office.{Answer}
use Rattle.ghg_office.specs.declared.reply.Reply.TheVariants as office
use Rattle.ghg_office.proofs.Cases.{submitted_cases}
use Rattle.ghg_units.specs.Name.{is_name}
use Rattle.ghg_versions.specs.declared.command.Command.{Command}
use Rattle.ghg_versions.specs.declared.command.Command.TheVariants.{Submit, Show, Freeze, Recalc, Trend}
use Rattle.ghg_versions.specs.declared.reply.DeskReply.{DeskReply}
use Rattle.ghg_versions.specs.declared.reply.DeskReply.TheVariants.{Office, Frozen, BadVersion, VersionExists, TooManyVersions, Table, NoTable, Memory}
use Rattle.ghg_versions.specs.Desk.{DeskAnswer, DeskState, answered, frozen, frozen_anew, frozen_once, most_versions, seq_of, unchanged}
use Rattle.ghg_versions.specs.Replies.{Answers, HasNoFailure}
use Rattle.ghg_words.specs.declared.status.Status.{Status}
use Rattle.ghg_words.specs.declared.status.Status.TheVariants.{OutOfMemory}
use Rattle.ghg_script.specs.declared.command.Request.{Request}
use Rattle.ghg_script.specs.declared.review.ReviewQuery.{ReviewQuery}
use Rattle.ghg_session.specs.declared.reply.Lines.{Lines}
use Rattle.ghg_session.specs.Session.{MayLeaveUndone, bytes_of}
use Rattle.ghg_review.specs.Replies.{HasNoLines, command_of, lines_of, review_step}

-- a reply after which the desk is another
tells_change : DeskReply → Bool
tells_change (Office (office.Accepted seq cells)) = true
tells_change (Frozen seq) = true
tells_change reply = false

-- a name that is not frozen anew changes nothing
once_stays : (s : DeskState) (name : List ℕ) (seq : Option ℕ) → tells_change (frozen_once s name seq).reply ≡ false
    → (frozen_once s name seq).after ≡ s
unfolding tells_change
once_stays s name (Some seq) e = refl
once_stays s name None e = by (nat_le most_versions (length s.versions)) refl e
  where
    by : (full : Bool) → nat_le most_versions (length s.versions) ≡ full → tells_change (frozen_anew s name).reply ≡ false
        → (frozen_anew s name).after ≡ s
    by true is e = rw is refl
    by false is e = absurd cc

frozen_stays : (s : DeskState) (name : List ℕ) → tells_change (frozen s name).reply ≡ false → (frozen s name).after ≡ s
unfolding frozen tells_change
frozen_stays s name = by (is_name name)
  where
    chosen : Bool → DeskAnswer
    chosen is = if is then frozen_once s name (seq_of name s.versions) else unchanged s BadVersion

    by : (is : Bool) → tells_change (chosen is).reply ≡ false → (chosen is).after ≡ s
    by true e = once_stays s name (seq_of name s.versions) e
    by false e = refl

stays : (s : DeskState) (command : Command) → tells_change (answered s command).reply ≡ false → (answered s command).after ≡ s
unfolding answered tells_change
stays s (Submit id body) e = elim (submitted_cases s.office id body) [
  | inl left ↦ ap (λ o. record { office = o; versions = s.versions }) left.after
  | inr new ↦ absurd (cc (e, ap (λ (a : Answer). a.reply) new.answers))
]
stays s (Show table year) e = refl
stays s (Freeze name) e = frozen_stays s name e
stays s (Recalc name year) e = refl
stays s (Trend year) e = refl

-- the reply that has no lines tells no change, or is that memory ran out
pub left_undone : (s : DeskState) (command : Command) (reply : DeskReply) (stop : Status) (new : DeskState)
    → Answers (answered s command) reply s new → HasNoFailure reply → HasNoLines reply stop
    → (new ≡ s) × (stop ≡ OutOfMemory)
unfolding tells_change
left_undone s command Memory stop new h works none = (h, none)
left_undone s command (Office (office.Refused rule)) stop new h works none = (h.1 ∙ stays s command (ap tells_change (sym h.0)), none.0)
left_undone s command (Office (office.Table text)) stop new h works none = (h.1 ∙ stays s command (ap tells_change (sym h.0)), none.0)
left_undone s command (Office (office.Accepted seq cells)) stop new h works none = let long = none.1 in absurd cc
left_undone s command (Office (office.Repeated seq)) stop new h works none = let long = none.1 in absurd cc
left_undone s command (Office office.NoTable) stop new h works none = let long = none.1 in absurd cc
left_undone s command (Office office.KeeperFault) stop new h works none = absurd cc
left_undone s command (Office office.Memory) stop new h works none = absurd cc
left_undone s command (Frozen seq) stop new h works none = absurd none
left_undone s command BadVersion stop new h works none = (h.1 ∙ stays s command (ap tells_change (sym h.0)), none)
left_undone s command (VersionExists seq) stop new h works none = (h.1 ∙ stays s command (ap tells_change (sym h.0)), none)
left_undone s command TooManyVersions stop new h works none = (h.1 ∙ stays s command (ap tells_change (sym h.0)), none)
left_undone s command (Table text) stop new h works none = (h.1 ∙ stays s command (ap tells_change (sym h.0)), none)
left_undone s command NoTable stop new h works none = (h.1 ∙ stays s command (ap tells_change (sym h.0)), none)

-- what is replied is the answer, unless memory ran out
pub told : (answer : DeskAnswer) (reply : DeskReply) (s new : DeskState) → reply ≢ Memory → Answers answer reply s new
    → (reply ≡ answer.reply) × (new ≡ answer.after)
told answer Memory s new other h = absurd (other refl)
told answer (Office reply) s new other h = h
told answer (Frozen seq) s new other h = h
told answer BadVersion s new other h = h
told answer (VersionExists seq) s new other h = h
told answer TooManyVersions s new other h = h
told answer (Table text) s new other h = h
told answer NoTable s new other h = h

-- ---- what comes of a request

module _ (s : DeskState) (asked : Request ReviewQuery) (reply : DeskReply) (new : DeskState) (other : reply ≢ Memory)
    (a : Answers (answered s (command_of asked)) reply s new) (works : HasNoFailure reply) where
  pub lines_are : (r : Result Lines Status) → IfOk r (λ lines. bytes_of lines ≡ lines_of (command_of asked) reply)
      → IfOk r (λ lines. bytes_of lines ≡ (review_step s asked).reply)
  unfolding review_step
  lines_are (Ok lines) e = e ∙ ap (lines_of (command_of asked)) (told _ reply s new other a).0
  lines_are (Err stop) e = tt

  pub after_is : (r : Result Lines Status) → OnOk r (new ≡ (review_step s asked).after)
  unfolding review_step
  after_is (Ok lines) = (told _ reply s new other a).1
  after_is (Err stop) = tt

  pub undone_is : (r : Result Lines Status) → IfErr r (HasNoLines reply) → OnErr r (new ≡ s)
  undone_is (Ok lines) none = tt
  undone_is (Err stop) none = (left_undone s (command_of asked) reply stop new a works none).0

  pub cause_is : (r : Result Lines Status) → IfErr r (HasNoLines reply) → IfErr r (MayLeaveUndone (review_step s asked))
  unfolding review_step
  cause_is (Ok lines) none = tt
  cause_is (Err stop) none = inl ((left_undone s (command_of asked) reply stop new a works none).1, refl)
