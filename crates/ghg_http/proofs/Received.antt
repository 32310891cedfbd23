-- What was read from a link by several reads holds a request.
use Rattle.std.proofs.Common.{◌≡◌, ℕ, ◌+◌, ◌<◌, ◌≤◌, List, [], ◌++◌, length, take, drop, sym, ap, ◌∙◌, append_assoc, append-nil, length-append, refl, subst, arith, inl, inr, ◌⊎◌, length-drop, Option, Some, None, Result, Ok, Err, Bor}
use Rattle.std.specs.Prelude.{IfErr, IfOk}
use Rattle.std.proofs.lemmas.List.{append_cancel_left, length-take-le, nil_from_length, take-append-drop}
use Rattle.httparse.specs.Grammar.{ReadsRequest}
use Rattle.httparse.proofs.GrammarLemmas.{ReadsRequest-append}
use Rattle.ghg_outer.specs.Tape.{Consumes, Tape}
use Rattle.ghg_outer.proofs.Tapes.{consumes_more, consumes_nothing}
use Rattle.ghg_http.specs.Decision.{seen, show, submit}
use Rattle.ghg_http.specs.Head.{HasHead, IsWhole}
use Rattle.ghg_http.specs.Receive.{CompletesBody, CutsBody, EndsEarly, FollowsHead, Grows, HasShortBody, HoldsRequest, IsFilled, IsPrompt, Stopped, TakesRequest, max_read}
use Rattle.ghg_http.specs.declared.decision.Decision.{Decision}
use Rattle.ghg_http.specs.declared.decision.Decision.TheVariants as decided
use Rattle.ghg_http.specs.declared.decision.Refusal.{Refusal}
use Rattle.ghg_http.specs.declared.request.ReceiveError.{ReceiveError}
use Rattle.ghg_http.specs.declared.request.ReceiveError.TheVariants.{Memory}
use Rattle.ghg_http.specs.declared.request.Request.{Request}
use Rattle.ghg_http.specs.declared.request.Request.TheVariants.{Refused, Asked}
use Rattle.ghg_office.specs.declared.request.Request.TheVariants.{Submit, Show}

-- ---- stopping

-- some text was read before
pub stopped_later : (Kind Late Taken Came : List ℕ → Type 0) (a b c : Tape) (text : List ℕ) (e : ReceiveError)
    → Consumes a b text → ((more : List ℕ) → Late more → Kind (text ++ more))
    → ((more : List ℕ) → Came more → Taken (text ++ more))
    → Stopped Late Came b c e → Stopped Kind Taken a c e
stopped_later Kind Late Taken Came a b c text e read known took s = record {
  text = text ++ s.text;
  read = consumes_more a b c text s.text read s.read;
  kind = λ failed. known s.text (s.kind failed);
  taken = took s.text s.taken;
}

-- memory ran out before anything was read
pub stopped_at_once : (Kind Taken : List ℕ → Type 0) (a : Tape) → Taken [] → Stopped Kind Taken a a Memory
stopped_at_once Kind Taken a taken = record {
  text = [];
  read = consumes_nothing a;
  kind = λ failed. absurd (cc);
  taken = taken;
}

-- ---- a buffer

-- a buffer that began empty holds what was read
pub all_read : (a b : Tape) (buffer : List ℕ) → Grows a b [] buffer → Consumes a b buffer
all_read a b buffer grows = subst (Consumes a b) (sym grows.buffer) grows.read

-- one read more
pub grows_more : (a b c : Tape) (x y z : List ℕ) → Grows a b x y → Grows b c y z → Grows a c x z
grows_more a b c x y z p q = record {
  got = p.got ++ q.got;
  buffer = q.buffer ∙ ap (λ t. t ++ q.got) p.buffer ∙ append_assoc x p.got q.got;
  read = consumes_more a b c p.got q.got p.read q.read;
}

-- nothing was read yet
pub grows_nothing : (a : Tape) (x : List ℕ) → Grows a a x x
grows_nothing a x = record { got = []; buffer = sym (append-nil x); read = consumes_nothing a }

-- so many bytes came
count_came : (b c : Tape) (old new : List ℕ) (n : ℕ) (grows : Grows b c old new) → length new ≡ length old + n → length grows.got ≡ n
count_came b c old new n grows count =
    let size = ap length grows.buffer ∙ length-append old grows.got in omega (arith, size, count)

-- what a read takes while the buffer is shorter than this size
pub filled_last : (a b : Tape) (old new : List ℕ) (size : ℕ) → Grows a b old new → length new < size
    → (more : List ℕ) → length more ≤ max_read → IsFilled old (new ++ more) size
filled_last a b old new size grows room more few =
    inr (record {
      front = grows.got;
      last = more;
      whole = ap (λ t. t ++ more) grows.buffer;
      short = subst (λ t. length t < size) grows.buffer room;
      few = few;
    })

-- one read more
pub filled_more : (a b c : Tape) (x y z : List ℕ) (size n : ℕ) → Grows a b x y → length y < size → Grows b c y z
    → length z ≡ length y + n → n ≤ max_read → IsFilled x z size
filled_more a b c x y z size n p room q count once =
    let came = count_came b c y z n q count in
    subst (λ t. IsFilled x t size) (sym q.buffer) (filled_last a b x y size p room q.got (omega (arith, came, once)))

-- a buffer that is as before grew by nothing
none_got : (a b : Tape) (old new : List ℕ) (grows : Grows a b old new) → new ≡ old → grows.got ≡ []
none_got a b old new grows same =
    let size = ap length grows.buffer ∙ length-append old grows.got in
    let as_before = ap length same in nil_from_length grows.got (omega (arith, size, as_before))

-- after a read while the bytes end early nothing is read behind a request
pub prompt_last : (new : List ℕ) → EndsEarly new → (more : List ℕ) → length more ≤ max_read
    → IsPrompt (new ++ more)
prompt_last new early more few = record {
  front = new;
  last = more;
  whole = refl;
  early = inr early;
  few = few;
}

pub prompt_more : (b c : Tape) (old new : List ℕ) (n : ℕ) → EndsEarly old → Grows b c old new → length new ≡ length old + n
    → n ≤ max_read → IsPrompt new
prompt_more b c old new n early grows count once =
    let came = count_came b c old new n grows count in
    subst IsPrompt (sym grows.buffer) (prompt_last old early grows.got (omega (arith, came, once)))

-- a read that gave nothing leaves the buffer
nothing_came : (b c : Tape) (old new : List ℕ) (n : ℕ) → Grows b c old new → length new ≡ length old + n → n ≡ 0 → old ≡ new
nothing_came b c old new n grows count none =
    let size = ap length grows.buffer ∙ length-append old grows.got in
    let empty : grows.got ≡ [] = nil_from_length grows.got (omega (arith, size, count, none)) in
    sym (grows.buffer ∙ ap (λ t. old ++ t) empty ∙ append-nil old)

-- so what the buffer held before is all that was read
pub still_read : (a b c : Tape) (old new : List ℕ) (n : ℕ) → Grows a b [] old → Grows b c old new
    → length new ≡ length old + n → n ≡ 0 → Consumes a c old
still_read a b c old new n before grows count none =
    subst (Consumes a c) (sym (nothing_came b c old new n grows count none))
    (all_read a c new (grows_more a b c [] old new before grows))

-- a read that failed leaves it, and one for whose bytes there was no memory took them behind it
pub stopped_grown : (Kind Taken : List ℕ → Type 0) (a b c : Tape) (old new : List ℕ) (e : ReceiveError)
    → Grows a b old new → Kind new
    → ((more : List ℕ) → length more ≤ max_read → Taken (new ++ more))
    → Stopped (λ text. text ≡ []) (λ text. length text ≤ max_read) b c e
    → Stopped (λ text. Kind (old ++ text)) (λ text. Taken (old ++ text)) a c e
stopped_grown Kind Taken a b c old new e grows h took =
    stopped_later (λ text. Kind (old ++ text)) (λ text. text ≡ [])
    (λ text. Taken (old ++ text)) (λ text. length text ≤ max_read) a b c grows.got e grows.read
    (λ more none. subst Kind (grows.buffer ∙ sym (ap (λ t. old ++ t) (ap (λ t. grows.got ++ t) none ∙ append-nil grows.got))) h)
    (λ more few. subst Taken (ap (λ t. t ++ more) grows.buffer ∙ append_assoc old grows.got more)
    (took more few))

-- ---- a body

-- the body that is cut from what came, and the rest of it
pub body_cut : (a b : Tape) (rest all body : List ℕ) (n : ℕ) → Grows a b rest all → IsFilled rest all n → body ≡ take n all
    → n ≤ length all → (all ≡ rest) ⊎ (length all ≤ n) → CompletesBody a b rest body
body_cut a b rest all body n grows filled cut whole near = record {
  all = all;
  extra = drop n all;
  grows = grows;
  whole = sym (take-append-drop n all) ∙ ap (λ t. t ++ drop n all) (sym cut);
  near = by near;
  last = subst (IsFilled rest all) (sym (ap length cut ∙ length-take-le n all whole)) filled;
}
  where
    by : (all ≡ rest) ⊎ (length all ≤ n) → (all ≡ rest) ⊎ (drop n all ≡ [])
    by (inl same) = inl same
    by (inr few) =
        let size = length-drop n all in
        inr (nil_from_length (drop n all) (omega (arith, size, few)))

-- ---- requests

module _ (bytes : List ℕ) (made : Decision) (size : ℕ) (h : IsWhole bytes made size) (small : length bytes ≤ 16384) where
  -- the head, with more bytes behind it
  has_head : (got rest : List ℕ) → drop size bytes ++ got ≡ rest → HasHead (bytes ++ got) h.head rest
  has_head got rest e = record {
    reads = subst (ReadsRequest (bytes ++ got) h.head) e (ReadsRequest-append bytes h.head (drop size bytes) got h.reads);
    short = omega (arith, h.within, h.size_is, small);
    few = h.few;
  }

  no_more : length (bytes ++ []) ≤ 16384
  no_more = subst (λ t. length t ≤ 16384) (sym (append-nil bytes)) small

  near_body : (a b : Tape) (all extra : List ℕ) (grows : Grows a b (drop size bytes) all)
      → (all ≡ drop size bytes) ⊎ (extra ≡ []) → (length (bytes ++ grows.got) ≤ 16384) ⊎ (extra ≡ [])
  near_body a b all extra grows (inl same) =
      inl (subst (λ t. length (bytes ++ t) ≤ 16384) (sym (none_got a b _ all grows same)) no_more)
  near_body a b all extra grows (inr none) = inr none

  still_prompt : IsPrompt bytes → IsPrompt (bytes ++ [])
  still_prompt = subst IsPrompt (sym (append-nil bytes))

  -- the request is there without a body
  at_once : (a : Tape) (request : Request) → IsPrompt bytes → HoldsRequest (bytes ++ []) request
      → FollowsHead a a bytes (Some request)
  at_once a request prompt holds =
      record { got = []; read = consumes_nothing a; holds = (holds, still_prompt prompt) }

  -- it is refused
  pub refuses : (a : Tape) (reason : Refusal) → IsPrompt bytes → made ≡ decided.Refuse reason → FollowsHead a a bytes (Some (Refused reason))
  refuses a reason prompt is = at_once a (Refused reason) prompt (
    inr (inr (record {
      head = h.head;
      rest = drop size bytes ++ [];
      has_head = has_head [] (drop size bytes ++ []) refl;
      decides = sym h.decides ∙ ap seen is;
    })),
    no_more,
  )

  -- it asks for a table
  pub shows : (a : Tape) (table : Bor (List ℕ)) (name : List ℕ) (year : ℕ) → IsPrompt bytes → made ≡ decided.Show table year
      → name ≡ table.now → FollowsHead a a bytes (Some (Asked (Show name year)))
  shows a table name year prompt is named = at_once a (Asked (Show name year)) prompt (
    record {
      head = h.head;
      rest = drop size bytes ++ [];
      has_head = has_head [] (drop size bytes ++ []) refl;
      decides = sym h.decides ∙ ap seen is ∙ ap (λ t. show t year) (sym named);
    },
    no_more,
  )

  -- bytes behind the head that are less than a body
  pub has_short_body : (id : Bor (List ℕ)) (n : ℕ) (got : List ℕ) → made ≡ decided.Submit id n
      → length (drop size bytes ++ got) < n → HasShortBody (bytes ++ got)
  has_short_body id n got is short = record {
    head = h.head;
    rest = drop size bytes ++ got;
    id = id.now;
    size = n;
    has_head = has_head got (drop size bytes ++ got) refl;
    decides = sym h.decides ∙ ap seen is;
    short = short;
  }

  prompt_body : (id : Bor (List ℕ)) (n : ℕ) (text : List ℕ) → IsPrompt bytes → made ≡ decided.Submit id n
      → IsFilled (drop size bytes) (drop size bytes ++ text) n → IsPrompt (bytes ++ text)
  prompt_body id n text prompt is (inl same) =
      let none : text ≡ [] =
      append_cancel_left (drop size bytes) text [] (same ∙ sym (append-nil (drop size bytes))) in
      subst (λ t. IsPrompt (bytes ++ t)) (sym none) (still_prompt prompt)
  prompt_body id n text prompt is (inr some) = record {
    front = bytes ++ some.front;
    last = some.last;
    whole =
        let got : text ≡ some.front ++ some.last =
        append_cancel_left (drop size bytes) text (some.front ++ some.last)
        (some.whole ∙ append_assoc (drop size bytes) some.front some.last) in
        ap (λ t. bytes ++ t) got ∙ sym (append_assoc bytes some.front some.last);
    early = inr (inr (has_short_body id n some.front is some.short));
    few = some.few;
  }

  pub stops_short : (a b : Tape) (e : ReceiveError) (id : Bor (List ℕ)) (n : ℕ) → IsPrompt bytes
      → made ≡ decided.Submit id n
      → Stopped (λ text. length (drop size bytes ++ text) < n)
      (λ text. IsFilled (drop size bytes) (drop size bytes ++ text) n) a b e
      → Stopped (λ text. EndsEarly (bytes ++ text)) (λ text. IsPrompt (bytes ++ text)) a b e
  stops_short a b e id n prompt is =
      stopped_later (λ text. EndsEarly (bytes ++ text)) (λ text. length (drop size bytes ++ text) < n)
      (λ text. IsPrompt (bytes ++ text))
      (λ text. IsFilled (drop size bytes) (drop size bytes ++ text) n) a a b [] e (consumes_nothing a)
      (λ text short. inr (has_short_body id n text is short))
      (λ text filled. prompt_body id n text prompt is filled)

  -- there was no memory for a text of the head
  pub stops_at_head : (a : Tape) → IsPrompt bytes
      → Stopped (λ text. EndsEarly (bytes ++ text)) (λ text. IsPrompt (bytes ++ text)) a a Memory
  stops_at_head a prompt =
      stopped_at_once (λ text. EndsEarly (bytes ++ text))
      (λ text. IsPrompt (bytes ++ text)) a (still_prompt prompt)

  -- it is a submission whose body came
  pub submits : (a b : Tape) (id : Bor (List ℕ)) (n : ℕ) (name body : List ℕ) → IsPrompt bytes → made ≡ decided.Submit id n
      → name ≡ id.now → CompletesBody a b (drop size bytes) body → length body ≡ n
      → FollowsHead a b bytes (Some (Asked (Submit name body)))
  submits a b id n name body prompt is named came count = record {
    got = came.grows.got;
    read = came.grows.read;
    holds = (
      record {
        head = h.head;
        extra = came.extra;
        has_head = has_head came.grows.got (body ++ came.extra) (sym came.grows.buffer ∙ came.whole);
        decides = sym h.decides ∙ ap seen is ∙ ap (λ i. submit i n) (sym named) ∙ ap (submit name) (sym count);
        near = near_body a b came.all came.extra came.grows came.near;
      },
      prompt_body id n came.grows.got prompt is
          (subst (λ t. IsFilled (drop size bytes) t n) came.grows.buffer
          (subst (IsFilled (drop size bytes) came.all) count came.last)),
    );
  }

  -- or one that is cut off
  pub cuts : (a b : Tape) (id : Bor (List ℕ)) (n : ℕ) → made ≡ decided.Submit id n → CutsBody a b (drop size bytes) n
      → FollowsHead a b bytes None
  cuts a b id n is cut = record {
    got = cut.got;
    read = cut.read;
    holds = (cut.end, inr (has_short_body id n cut.got is cut.short));
  }

-- a request that follows its head was read with it
pub follows : (a b c : Tape) (buffer : List ℕ) (r : Result (Option Request) ReceiveError) → Grows a b [] buffer
    → IfOk r (FollowsHead b c buffer) → IfOk r (TakesRequest a c)
follows a b c buffer (Err e) grows h = tt
follows a b c buffer (Ok found) grows h = record {
  bytes = buffer ++ h.got;
  read = consumes_more a b c buffer h.got (all_read a b buffer grows) h.read;
  holds = h.holds;
}

pub follows_stopped : (a b c : Tape) (buffer : List ℕ) (r : Result (Option Request) ReceiveError) → Grows a b [] buffer
    → IfErr r (Stopped (λ text. EndsEarly (buffer ++ text)) (λ text. IsPrompt (buffer ++ text)) b c)
    → IfErr r (Stopped EndsEarly IsPrompt a c)
follows_stopped a b c buffer (Ok found) grows h = tt
follows_stopped a b c buffer (Err e) grows h =
    stopped_later EndsEarly (λ text. EndsEarly (buffer ++ text))
    IsPrompt (λ text. IsPrompt (buffer ++ text)) a b c buffer e (all_read a b buffer grows)
    (λ more early. early) (λ more prompt. prompt) h
