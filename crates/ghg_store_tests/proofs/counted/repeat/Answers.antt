use Rattle.std.proofs.Common.{◌≡◌, ℕ, Bool, true, false, nat_lt, List, length, Option, Some, None, Result, Ok, Err, if◌then◌else◌, refl, sym, ap, ◌∙◌, subst, arith}
use Rattle.ghg_definitions.specs.Data.{Data}
use Rattle.ghg_import.specs.Body.{max_body}
use Rattle.ghg_keeper.specs.Id.{is_id}
use Rattle.ghg_office.specs.Accepted.{Kept, kept_from}
use Rattle.ghg_office.specs.Office.{Answer, State, decided, entered_by, evaluations, evaluations_once, judged, once, refused, submitted}
use Rattle.ghg_office.specs.Replies.{Answers}
use Rattle.ghg_office.specs.declared.reply.Reply.TheVariants.{Accepted, Refused, Repeated}
use Rattle.ghg_units.specs.declared.rule.Rule.{Rule}
use Rattle.ghg_units.specs.declared.rule.Rule.TheVariants.{BadId, BodyTooLong}
use Rattle.ghg_store_tests.proofs.counted.repeat.Goals as goal

-- a submission whose id is not kept repeats none
module _ (s : State) (id body : List ℕ) (seq : ℕ) where
  not_decided : (r : Result Data Rule) → (decided s id body r).reply ≡ Repeated seq → ⊥
  not_decided (Err rule) e = cc
  not_decided (Ok m) e = cc

  not_judged : (judged s id body).reply ≡ Repeated seq → ⊥
  not_judged = by (nat_lt max_body (length body))
    where
      by : (long : Bool) → (if long then refused s BodyTooLong else decided s id body (entered_by s body)).reply ≡ Repeated seq → ⊥
      by true e = cc
      by false e = not_decided (entered_by s body) e

  none_once : (kept : Option Kept) → (once s id body kept).reply ≡ Repeated seq → evaluations_once s body kept ≡ 0
  none_once None e = absurd (not_judged e)
  none_once (Some kept) e = refl

  none_asked : (submitted s id body).reply ≡ Repeated seq → evaluations s id body ≡ 0
  unfolding submitted evaluations
  none_asked = by (is_id id)
    where
      by : (b : Bool) → (if b then once s id body (kept_from 1 id s.accepted) else refused s BadId).reply ≡ Repeated seq
          → (if b then evaluations_once s body (kept_from 1 id s.accepted) else 0) ≡ 0
      by true e = none_once (kept_from 1 id s.accepted) e
      by false e = refl

pub returns : goal.returns
returns g c = λ seq same.
    let s = c.args.office.now in
    let id = c.args.id.now in
    let body = c.args.body.now in
    let answer = subst (λ r. Answers (submitted s id body) r s c.submit.new.self) same c.submit.ensures.answer in
    let none = none_asked s id body seq (sym answer.0) in
    let spent = c.submit.ensures.steps in
    omega (arith, none, spent)
