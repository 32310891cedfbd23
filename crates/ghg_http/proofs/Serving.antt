-- What comes of a link, from what was read, answered and written.
use Rattle.std.proofs.Common.{◌≡◌, ℕ, ◌+◌, ◌<◌, ◌≤◌, Bool, true, false, List, [], length, take, Option, Some, None, Result, Ok, refl, sym, ap, subst, ◌∙◌, arith}
use Rattle.std.specs.declared.alloc.AllocError.{AllocError}
use Rattle.std.proofs.lemmas.Bool.{false≢true}
use Rattle.ghg_outer.specs.Tape.{Appends, Consumes, IsAtEnd, Tape}
use Rattle.ghg_outer.specs.Counts.{IsCounted}
use Rattle.ghg_outer.proofs.Counts.{counted_none, counted_on}
use Rattle.ghg_outer.proofs.Tapes.{appends_nothing}
use Rattle.ghg_office.specs.Office.{State}
use Rattle.ghg_http.specs.Receive.{EndsEarly, IsPrompt, Stopped, TakesRequest}
use Rattle.ghg_http.specs.Reply.{HttpReply, reply_bytes}
use Rattle.ghg_http.specs.Serve.{AnswersRequest, BreaksOff, Exchange, IsAnswered, IsUnanswered, Passes, Sends, ServesLink, Snapshot, TellsFaults, asks_to_append, evaluations_asked, snapshot}
use Rattle.ghg_http.specs.declared.reply.Message.{Message}
use Rattle.ghg_http.specs.declared.request.ReceiveError.TheVariants as stopped
use Rattle.ghg_http.specs.declared.request.Request.{Request}
use Rattle.ghg_http.specs.declared.request.Request.TheVariants.{Refused, Asked}
use Rattle.ghg_http.specs.declared.serve.LinkEnd.{LinkEnd}
use Rattle.ghg_http.specs.declared.serve.LinkEnd.TheVariants.{Served, Cut, LinkFault, Memory}

-- ---- faults of the keeper

-- nothing was due, and the keeper is as before
none_due : (stored : Bool) (count : ℕ) → TellsFaults None stored count count
none_due stored count = record {
  counted = counted_none count _ false≢true;
  store = λ e. absurd (false≢true e);
}

-- what `serve_one` shows, where the keeper is the same if no request is to be appended
abbrev pub Serves : Bool → ℕ → ℕ → Type 0 → Snapshot → Snapshot → LinkEnd → Type 0
Serves stored count later Same before after end = (due : Option HttpReply)
    × (served : ServesLink before after due end) × TellsFaults due stored count later
    × (asks_to_append stored before.state served.exchange.asked ≡ false → Same)

-- ---- without an answer

module _ (stored : Bool) (count : ℕ) (Same : Type 0) (s : State) (a b : Tape) (n : ℕ) (same : Same) where
  abbrev quiet : List ℕ → Exchange
  quiet text = record { before = s; after = s; asked = None; taken = text; written = [] }

  quietly : (text : List ℕ) → IsUnanswered (quiet text)
  quietly text = record { same = refl; nothing = refl; none = refl }

  -- nothing was written, and the keeper is as before
  read_only : (end : LinkEnd) (text : List ℕ) → Consumes a b text → Passes (quiet text) None end → (end ≡ Cut → IsAtEnd b)
      → IsCounted a.faults b.faults (end ≡ LinkFault) → Serves stored count count Same (snapshot s a n) (snapshot s b n) end
  read_only end text read passes cut counted = (
    None,
    record {
      exchange = quiet text;
      from = refl;
      to = refl;
      link = (b, read, appends_nothing b);
      passes = passes;
      cut = cut;
      counted = counted;
      spent = omega arith;
    },
    none_due stored count,
    λ _. same,
  )

  pub cut_off : TakesRequest a b None → IsCounted a.faults b.faults (Cut ≡ LinkFault)
      → Serves stored count count Same (snapshot s a n) (snapshot s b n) Cut
  cut_off t = read_only Cut t.bytes t.read (record { early = t.holds.1; unanswered = quietly t.bytes }) (λ _. t.holds.0)

  pub link_failed : Stopped EndsEarly IsPrompt a b stopped.Failed → IsCounted a.faults b.faults (LinkFault ≡ LinkFault)
      → Serves stored count count Same (snapshot s a n) (snapshot s b n) LinkFault
  link_failed h = read_only LinkFault h.text h.read (record { early = h.kind refl; unanswered = quietly h.text }) (λ e. cc)

  pub ran_out : Stopped EndsEarly IsPrompt a b stopped.Memory → IsCounted a.faults b.faults (Memory ≡ LinkFault)
      → Serves stored count count Same (snapshot s a n) (snapshot s b n) Memory
  ran_out h = read_only Memory h.text h.read (record { prompt = h.taken; unanswered = quietly h.text }) (λ e. cc)

-- ---- with an answer

-- a reply has some bytes
reply_some : (due : HttpReply) → 0 < length (reply_bytes due)
unfolding reply_bytes
reply_some due = omega arith

module _ (stored : Bool) (count later : ℕ) (Same : Type 0) (s after : State) (a b : Tape) (n m : ℕ) (request : Request)
    (due : HttpReply) (t : TakesRequest a b (Some request)) (stays : b.faults ≡ a.faults) (spent : m ≤ n + evaluations_asked s (Some request))
    (faults : TellsFaults (Some due) stored count later)
    (untouched : asks_to_append stored s (Some request) ≡ false → Same) where
  abbrev loud : List ℕ → Exchange
  loud written = record { before = s; after = after; asked = Some request; taken = t.bytes; written = written }

  -- this was written
  wrote : (c : Tape) (end : LinkEnd) (written : List ℕ) → Appends b c written → Passes (loud written) (Some due) end
      → (end ≡ Cut → IsAtEnd c) → IsCounted b.faults c.faults (end ≡ LinkFault)
      → Serves stored count later Same (snapshot s a n) (snapshot after c m) end
  wrote c end written w passes cut counted = (
    Some due,
    record {
      exchange = loud written;
      from = refl;
      to = refl;
      link = (b, t.read, w);
      passes = passes;
      cut = cut;
      counted = counted_on _ _ _ _ stays counted;
      spent = spent;
    },
    faults,
    untouched,
  )

  is_answered : (r : Result Message AllocError) → AnswersRequest s request due after r → (written : List ℕ)
      → IsAnswered (loud written) due
  is_answered r h written =
      record { request = request; asked = refl; holds = t.holds.0; prompt = t.holds.1; replies = h.replies }

  -- there was no memory for the reply
  pub unwritten : (r : Result Message AllocError) → AnswersRequest s request due after r
      → Serves stored count later Same (snapshot s a n) (snapshot after b m) Memory
  unwritten r h = wrote b Memory [] (appends_nothing b)
      (record { answered = is_answered r h []; count = 0; short = reply_some due; prefix = refl }) (λ e. cc) (counted_none _ _ (λ e. cc))

  module _ (message : Message) (h : AnswersRequest s request due after (Ok message)) (c : Tape) where
    abbrev bytes : List ℕ
    bytes = message.bytes.items

    breaks : (count : ℕ) → count < length bytes → BreaksOff (loud (take count bytes)) due
    breaks count short = record {
      answered = is_answered (Ok message) h (take count bytes);
      count = count;
      short = subst (λ bytes. count < length bytes) h.made.bytes short;
      prefix = ap (take count) h.made.bytes;
    }

    -- the reply was written, or a part of it
    pub sent : (end : LinkEnd) → Sends b c message end → IsCounted b.faults c.faults (end ≡ LinkFault)
        → Serves stored count later Same (snapshot s a n) (snapshot after c m) end
    sent (Served code) w = wrote c (Served code) bytes w.1
        (record { answered = is_answered (Ok message) h bytes; code_is = sym h.made.status ∙ sym w.0; whole = h.made.bytes }) (λ e. cc)
    sent Cut w = absurd w
    sent LinkFault w = wrote c LinkFault (take w.count bytes) w.wrote (breaks w.count w.short) (λ e. cc)
    sent Memory w = wrote c Memory (take w.count bytes) w.wrote (breaks w.count w.short) (λ e. cc)

-- ---- the keeper

not_asked : (stored : Bool) (s : State) (request : Request) → stored ≡ false → asks_to_append stored s (Some request) ≡ false
not_asked stored s (Refused reason) none = refl
not_asked stored s (Asked request) none = rw none refl

-- where submissions are not stored, none is to be appended
pub unstored : (stored : Bool) (Same : Type 0) (s after : State) (request : Request) (due : HttpReply) (r : Result Message AllocError)
    → AnswersRequest s request due after r → (asks_to_append stored s (Some request) ≡ false → Same) → stored ≡ false → Same
unstored stored Same s after request due r h untouched none = untouched (not_asked stored s request none)
