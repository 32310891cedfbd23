-- What comes of requests, one after the other.
use Rattle.std.proofs.Common.{◌≡◌, ℕ, ◌+◌, List, [], ◌∷◌, ◌++◌, append_assoc, refl, sym, ap, ◌∙◌, arith}
use Rattle.ghg_session.specs.Session.{EachReply, Protocol, replies, state_after, steps_of}

pub replies-append : {S R : Type 0} (p : Protocol S R) (xs ys : List R) (s : S)
    → replies p s (xs ++ ys) ≡ replies p s xs ++ replies p (state_after p s xs) ys
replies-append p [] ys s = refl
replies-append p (x ∷ xs) ys s =
    let t = (p.step s x).after in
    ap (λ (l : List ℕ). (p.step s x).reply ++ l) (replies-append p xs ys t)
    ∙ sym (append_assoc ((p.step s x).reply) (replies p t xs) (replies p (state_after p t xs) ys))

pub state_after-append : {S R : Type 0} (p : Protocol S R) (xs ys : List R) (s : S)
    → state_after p s (xs ++ ys) ≡ state_after p (state_after p s xs) ys
state_after-append p [] ys s = refl
state_after-append p (x ∷ xs) ys s = state_after-append p xs ys ((p.step s x).after)

pub steps_of-append : {S R : Type 0} (p : Protocol S R) (xs ys : List R) (s : S)
    → steps_of p s (xs ++ ys) ≡ steps_of p s xs + steps_of p (state_after p s xs) ys
steps_of-append p [] ys s = omega arith
steps_of-append p (x ∷ xs) ys s = let rest = steps_of-append p xs ys ((p.step s x).after) in omega (arith, rest)

pub each_reply-append : {S R : Type 0} (p : Protocol S R) (holds : S → R → List ℕ → Type 0) (xs ys : List R) (s : S)
    → EachReply p holds s (xs ++ ys) → EachReply p holds s xs × EachReply p holds (state_after p s xs) ys
each_reply-append p holds [] ys s h = (tt, h)
each_reply-append p holds (x ∷ xs) ys s h =
    let rest = each_reply-append p holds xs ys ((p.step s x).after) h.1 in ((h.0, rest.0), rest.1)
