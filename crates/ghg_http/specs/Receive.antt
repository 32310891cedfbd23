-- What is received from a link, and where a request stands in it.
use Rattle.std.specs.Prelude.{◌≡◌, ℕ, ◌<◌, ◌≤◌, ◌⊎◌, List, [], ◌++◌, length, Option, Some, None}
use Rattle.httparse.specs.Grammar.{RequestHead, NeverHasRequest}
use Rattle.ghg_outer.specs.Tape.{Consumes, IsAtEnd, Tape}
use Rattle.ghg_http.specs.Decision.{Decision, decision_of, refuse, submit, show}
use Rattle.ghg_http.specs.Head.{AwaitsHead, HasHead, IsTooLarge}
use Rattle.ghg_http.specs.declared.decision.Refusal.{Refusal}
use Rattle.ghg_http.specs.declared.decision.Refusal.TheVariants.{BadRequest, HeadTooLarge}
use Rattle.ghg_http.specs.declared.head.TheConstants.{MAX_HEAD}
use Rattle.ghg_http.specs.declared.request.TheConstants.{MAX_READ}
use Rattle.ghg_http.specs.declared.request.ReceiveError.{ReceiveError}
use Rattle.ghg_http.specs.declared.request.ReceiveError.TheVariants.{Failed}
use Rattle.ghg_http.specs.declared.request.Request.{Request}
use Rattle.ghg_http.specs.declared.request.Request.TheVariants.{Refused, Asked}
use Rattle.ghg_office.specs.declared.request.Request.TheVariants.{Submit, Show}

-- ---- reading

-- the most bytes that one read takes
abbrev pub max_read : ℕ
max_read = MAX_READ

-- What was read, perhaps by several reads, stands at the end of the buffer.
pub record Grows (before after : Tape) (old new : List ℕ) : Type 0 where
  pub got : List ℕ
  pub buffer : new ≡ old ++ got
  pub read : Consumes before after got

-- A buffer grew by several reads, and before the last of them it had been shorter than this size.
pub record ReadsLast (old new : List ℕ) (size : ℕ) : Type 0 where
  pub front : List ℕ
  pub last : List ℕ
  pub whole : new ≡ (old ++ front) ++ last
  pub short : length (old ++ front) < size
  pub few : length last ≤ max_read

-- A buffer is as before, or grew by reads, each of them while it was shorter than this size.
abbrev pub IsFilled : List ℕ → List ℕ → ℕ → Type 0
IsFilled old new size = (new ≡ old) ⊎ ReadsLast old new size

-- Some text was read, of which `Taken` holds. Then the link failed, and `Kind` holds of the text too. Or
-- memory ran out.
pub record Stopped (Kind Taken : List ℕ → Type 0) (before after : Tape) (error : ReceiveError) : Type 0 where
  pub text : List ℕ
  pub read : Consumes before after text
  pub kind : error ≡ Failed → Kind text
  pub taken : Taken text

-- What was read completes this body, of which the rest had come before. Some bytes may have come behind it,
-- but then nothing more was read.
pub record CompletesBody (before after : Tape) (rest body : List ℕ) : Type 0 where
  pub all : List ℕ
  pub extra : List ℕ
  pub grows : Grows before after rest all
  pub whole : all ≡ body ++ extra
  pub near : (all ≡ rest) ⊎ (extra ≡ [])
  pub last : IsFilled rest all (length body)

-- The input ended before a body of this size, of which the rest had come before.
pub record CutsBody (before after : Tape) (rest : List ℕ) (size : ℕ) : Type 0 where
  pub got : List ℕ
  pub read : Consumes before after got
  pub end : IsAtEnd after
  pub short : length (rest ++ got) < size

-- ---- requests

-- The bytes begin with a head that decides this.
pub record Decides (bytes : List ℕ) (made : Decision) : Type 0 where
  pub head : RequestHead
  pub rest : List ℕ
  pub has_head : HasHead bytes head rest
  pub decides : decision_of head ≡ made

-- why a request is refused before its body
abbrev pub IsRefusedBy : List ℕ → Refusal → Type 0
IsRefusedBy bytes reason =
    ((reason ≡ BadRequest) × NeverHasRequest bytes)
    ⊎ (((reason ≡ HeadTooLarge) × IsTooLarge bytes) ⊎ Decides bytes (refuse reason))

-- The head decides that a submission of this id and size follows, and this is its body. Bytes stand behind it
-- only in the room that a head has.
pub record HoldsSubmission (bytes id body : List ℕ) : Type 0 where
  pub head : RequestHead
  pub extra : List ℕ
  pub has_head : HasHead bytes head (body ++ extra)
  pub decides : decision_of head ≡ submit id (length body)
  pub near : (length bytes ≤ MAX_HEAD) ⊎ (extra ≡ [])

-- There is less of a submission's body than its head says.
pub record HasShortBody (bytes : List ℕ) : Type 0 where
  pub head : RequestHead
  pub rest : List ℕ
  pub id : List ℕ
  pub size : ℕ
  pub has_head : HasHead bytes head rest
  pub decides : decision_of head ≡ submit id size
  pub short : length rest < size

-- The bytes hold this request. There are no more of them than the room of a head, or than its body takes.
abbrev pub HoldsRequest : List ℕ → Request → Type 0
HoldsRequest bytes (Refused reason) = IsRefusedBy bytes reason × (length bytes ≤ MAX_HEAD)
HoldsRequest bytes (Asked (Submit id body)) = HoldsSubmission bytes id body
HoldsRequest bytes (Asked (Show name year)) = Decides bytes (show name year) × (length bytes ≤ MAX_HEAD)

-- The bytes end before a whole request: before the end of a head that has room, or of a body. Bytes that can
-- begin no head are no such bytes, nor are those that fill the room of a head.
abbrev pub EndsEarly : List ℕ → Type 0
EndsEarly bytes = AwaitsHead bytes ⊎ HasShortBody bytes

-- Nothing was read once a whole request had come: before the last read the bytes ended early, or there were
-- none.
pub record IsPrompt (bytes : List ℕ) : Type 0 where
  pub front : List ℕ
  pub last : List ℕ
  pub whole : bytes ≡ front ++ last
  pub early : (front ≡ []) ⊎ EndsEarly front
  pub few : length last ≤ max_read

-- The bytes that were read hold this request, and nothing was read behind it. Or the input ended before a
-- whole one.
abbrev pub IsReceived : Tape → List ℕ → Option Request → Type 0
IsReceived after bytes (Some request) = HoldsRequest bytes request × IsPrompt bytes
IsReceived after bytes None = IsAtEnd after × EndsEarly bytes

-- Some bytes were read, and they hold this request, or end before a whole one.
pub record TakesRequest (before after : Tape) (found : Option Request) : Type 0 where
  pub bytes : List ℕ
  pub read : Consumes before after bytes
  pub holds : IsReceived after bytes found

-- Some bytes were read behind those that begin with the head, and all of them hold this request, or end
-- before a whole one.
pub record FollowsHead (before after : Tape) (bytes : List ℕ) (found : Option Request) : Type 0 where
  pub got : List ℕ
  pub read : Consumes before after got
  pub holds : IsReceived after (bytes ++ got) found
