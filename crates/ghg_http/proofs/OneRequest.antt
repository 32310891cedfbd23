-- Bytes hold one request.
use Rattle.std.proofs.Common.{◌≡◌, ℕ, ◌⊎◌, inl, inr, List, [], ◌++◌, length, take, sym, ap, subst, ◌∙◌, append-nil, length-append, arith}
use Rattle.std.proofs.Math.Seq.{take-append_seam}
use Rattle.httparse.specs.Grammar.{EndsInTarget, MayBecomeRequest, NeverHasRequest, ReadsRequest, RequestHead}
use Rattle.httparse.specs.Spans.{RequestExceeds}
use Rattle.httparse.proofs.GrammarLemmas.{request_unique}
use Rattle.ghg_http.specs.Decision.{Decision, decision_of, refuse, show, submit}
use Rattle.ghg_http.specs.Head.{AwaitsHead, HasHead, IsTooLarge}
use Rattle.ghg_http.specs.Laws.{HasTwoFaults, HoldsNoneEarly, HoldsOneRequest, IsHeadFault}
use Rattle.ghg_http.specs.Receive.{Decides, EndsEarly, HasShortBody, HoldsRequest, HoldsSubmission, IsRefusedBy}
use Rattle.ghg_http.specs.declared.decision.Refusal.{Refusal}
use Rattle.ghg_http.specs.declared.decision.Refusal.TheVariants.{BadRequest, HeadTooLarge}
use Rattle.ghg_http.specs.declared.request.Request.{Request}
use Rattle.ghg_http.specs.declared.request.Request.TheVariants.{Refused, Asked}
use Rattle.ghg_office.specs.declared.request.Request.TheVariants.{Show, Submit}
use Rattle.ghg_http.proofs.Excess.{exceeds}

refuse_same : (r s : Refusal) → refuse r ≡ refuse s → r ≡ s
refuse_same r s e = cc

submit_same : (i j : List ℕ) (m n : ℕ) → submit i m ≡ submit j n → (i ≡ j) × (m ≡ n)
submit_same i j m n e = (cc, cc)

show_same : (a b : List ℕ) (x y : ℕ) → show a x ≡ show b y → (a ≡ b) × (x ≡ y)
show_same a b x y e = (cc, cc)

-- the front of two equal texts, of the same length
front_same : (a b c d : List ℕ) → a ++ c ≡ b ++ d → length a ≡ length b → a ≡ b
front_same a b c d e size =
    sym (take-append_seam a c) ∙ ap (λ t. take (length a) t) e ∙ ap (λ n. take n (b ++ d)) size ∙ take-append_seam b d

module _ (bytes : List ℕ) where
  module _ (h : RequestHead) (rest : List ℕ) (has : HasHead bytes h rest) where
    never_none : NeverHasRequest bytes → ⊥
    never_none never = never [] h rest (subst (λ t. ReadsRequest t h rest) (sym (append-nil bytes)) has.reads)

    not_large : IsTooLarge bytes → ⊥
    not_large (inl unended) = unended.0 h rest has.reads
    not_large (inr over) = let many = exceeds 64 bytes h rest has.reads over in omega (arith, many, has.few)

    one_head : (k : RequestHead) (more : List ℕ) → HasHead bytes k more → (h ≡ k) × (rest ≡ more)
    one_head k more other = request_unique bytes h k rest more has.reads other.reads

    one_decision : (k : RequestHead) (more : List ℕ) (made : Decision) → HasHead bytes k more → decision_of k ≡ made
        → decision_of h ≡ made
    one_decision k more made other decides = ap decision_of (one_head k more other).0 ∙ decides

    refused_by_head : (reason : Refusal) → IsRefusedBy bytes reason → decision_of h ≡ refuse reason
    refused_by_head reason (inl malformed) = absurd (never_none malformed.1)
    refused_by_head reason (inr (inl large)) = absurd (not_large large.1)
    refused_by_head reason (inr (inr d)) = one_decision d.head d.rest (refuse reason) d.has_head d.decides

  -- ---- refusals

  two_faults : NeverHasRequest bytes → IsTooLarge bytes → HasTwoFaults bytes
  two_faults never (inl (none, inl (more, h, reads), full)) = absurd (never more h [] reads)
  two_faults never (inl (none, inr inside, full)) = (never, inl (inside, full))
  two_faults never (inr over) = (never, inr over)

  abbrev OneRefusal : Refusal → Refusal → Type 0
  OneRefusal r s = (Refused r ≡ Refused s) ⊎ (IsHeadFault (Refused r) × IsHeadFault (Refused s) × HasTwoFaults bytes)

  one_refusal : (r s : Refusal) → IsRefusedBy bytes r → IsRefusedBy bytes s → OneRefusal r s
  one_refusal r s (inr (inr d)) y =
      inl (ap Refused (refuse_same r s (sym d.decides ∙ refused_by_head d.head d.rest d.has_head s y)))
  one_refusal r s x (inr (inr d)) =
      inl (ap Refused (refuse_same r s (sym (refused_by_head d.head d.rest d.has_head r x) ∙ d.decides)))
  one_refusal r s (inl x) (inl y) = inl (ap Refused (x.0 ∙ sym y.0))
  one_refusal r s (inr (inl x)) (inr (inl y)) = inl (ap Refused (x.0 ∙ sym y.0))
  one_refusal r s (inl x) (inr (inl y)) = inr (inl (ap Refused x.0), inr (ap Refused y.0), two_faults x.1 y.1)
  one_refusal r s (inr (inl x)) (inl y) = inr (inr (ap Refused x.0), inl (ap Refused y.0), two_faults y.1 x.1)

  refused_or_submitted : {X : Type 0} (reason : Refusal) (id body : List ℕ) → IsRefusedBy bytes reason
      → HoldsSubmission bytes id body → X
  refused_or_submitted reason id body x y =
      let e = sym (refused_by_head y.head (body ++ y.extra) y.has_head reason x) ∙ y.decides in absurd (cc)

  refused_or_shown : {X : Type 0} (reason : Refusal) (table : List ℕ) (year : ℕ) → IsRefusedBy bytes reason
      → Decides bytes (show table year) → X
  refused_or_shown reason table year x y =
      let e = sym (refused_by_head y.head y.rest y.has_head reason x) ∙ y.decides in absurd (cc)

  -- ---- submissions and tables

  submitted_or_shown : {X : Type 0} (id body table : List ℕ) (year : ℕ) → HoldsSubmission bytes id body
      → Decides bytes (show table year) → X
  submitted_or_shown id body table year x y =
      let e = sym x.decides ∙ one_decision x.head (body ++ x.extra) x.has_head y.head y.rest (show table year) y.has_head y.decides
      in absurd (cc)

  one_submission : (i j a b : List ℕ) → HoldsSubmission bytes i a → HoldsSubmission bytes j b
      → Asked (Submit i a) ≡ Asked (Submit j b)
  one_submission i j a b x y =
      let made = one_decision x.head (a ++ x.extra) x.has_head y.head (b ++ y.extra) (submit j (length b)) y.has_head y.decides in
      let same = submit_same i j (length a) (length b) (sym x.decides ∙ made) in
      let behind = (one_head x.head (a ++ x.extra) x.has_head y.head (b ++ y.extra) y.has_head).1 in
      let body = front_same a b x.extra y.extra behind same.1 in
      ap (λ i. Asked (Submit i a)) same.0 ∙ ap (λ b. Asked (Submit j b)) body

  one_table : (a b : List ℕ) (x y : ℕ) → Decides bytes (show a x) → Decides bytes (show b y)
      → Asked (Show a x) ≡ Asked (Show b y)
  one_table a b x y p q =
      let made = one_decision p.head p.rest p.has_head q.head q.rest (show b y) q.has_head q.decides in
      let same = show_same a b x y (sym p.decides ∙ made) in
      ap (λ t. Asked (Show t x)) same.0 ∙ ap (λ y. Asked (Show b y)) same.1

  one : (x y : Request) → HoldsRequest bytes x → HoldsRequest bytes y
      → (x ≡ y) ⊎ (IsHeadFault x × IsHeadFault y × HasTwoFaults bytes)
  one (Refused r) (Refused s) x y = one_refusal r s x.0 y.0
  one (Refused r) (Asked (Submit id body)) x y = refused_or_submitted r id body x.0 y
  one (Refused r) (Asked (Show table year)) x y = refused_or_shown r table year x.0 y.0
  one (Asked (Submit id body)) (Refused s) x y = refused_or_submitted s id body y.0 x
  one (Asked (Submit i a)) (Asked (Submit j b)) x y = inl (one_submission i j a b x y)
  one (Asked (Submit id body)) (Asked (Show table year)) x y = submitted_or_shown id body table year x y.0
  one (Asked (Show table year)) (Refused s) x y = refused_or_shown s table year y.0 x.0
  one (Asked (Show table year)) (Asked (Submit id body)) x y = submitted_or_shown id body table year y x.0
  one (Asked (Show a x)) (Asked (Show b y)) p q = inl (one_table a b x y p.0 q.0)

  -- ---- bytes that end early

  abbrev IsExcused : Request → Type 0
  IsExcused x = ((x ≡ Refused BadRequest) × NeverHasRequest bytes × EndsInTarget bytes)
      ⊎ ((x ≡ Refused HeadTooLarge) × RequestExceeds 64 bytes)

  in_target : NeverHasRequest bytes → MayBecomeRequest bytes → EndsInTarget bytes
  in_target never (inl (more, h, reads)) = absurd (never more h [] reads)
  in_target never (inr inside) = inside

  refused_early : (reason : Refusal) → AwaitsHead bytes → IsRefusedBy bytes reason → IsExcused (Refused reason)
  refused_early reason early (inl x) = inl (ap Refused x.0, x.1, in_target x.1 early.1)
  refused_early reason early (inr (inl (is, inl full))) = absurd (omega (arith, early.2, full.2))
  refused_early reason early (inr (inl (is, inr over))) = inr (ap Refused is, over)
  refused_early reason early (inr (inr d)) = absurd (early.0 d.head d.rest d.has_head.reads)

  awaits_none : (x : Request) → AwaitsHead bytes → HoldsRequest bytes x → IsExcused x
  awaits_none (Refused reason) early x = refused_early reason early x.0
  awaits_none (Asked (Submit id body)) early x = absurd (early.0 x.head (body ++ x.extra) x.has_head.reads)
  awaits_none (Asked (Show table year)) early x = absurd (early.0 x.0.head x.0.rest x.0.has_head.reads)

  short_none : {X : Type 0} (x : Request) → HasShortBody bytes → HoldsRequest bytes x → X
  short_none (Refused reason) s x =
      let e = sym (refused_by_head s.head s.rest s.has_head reason x.0) ∙ s.decides in absurd (cc)
  short_none (Asked (Submit id body)) s x =
      let made = one_decision s.head s.rest s.has_head x.head (body ++ x.extra) (submit id (length body)) x.has_head x.decides in
      let same = submit_same s.id id s.size (length body) (sym s.decides ∙ made) in
      let behind = (one_head s.head s.rest s.has_head x.head (body ++ x.extra) x.has_head).1 in
      let size = ap length behind ∙ length-append body x.extra in
      absurd (omega (arith, same.1, size, s.short))
  short_none (Asked (Show table year)) s x =
      let e = sym s.decides
      ∙ one_decision s.head s.rest s.has_head x.0.head x.0.rest (show table year) x.0.has_head x.0.decides in absurd (cc)

  none_early : (x : Request) → EndsEarly bytes → HoldsRequest bytes x → IsExcused x
  none_early x (inl early) h = awaits_none x early h
  none_early x (inr short) h = short_none x short h

pub holds_one_request : HoldsOneRequest
holds_one_request = one

pub holds_none_early : HoldsNoneEarly
holds_none_early = none_early
