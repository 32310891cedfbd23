-- Which targets of requests find which route, what a repeat is replied to, and that bytes hold one request.
use Rattle.std.specs.Prelude.{◌≡◌, ◌↔◌, ◌⊎◌, ◌≤◌, ℕ, Bool, not, ◌&&◌, ◌==◌, nat_lt, List, ◌++◌, length, codes, Some, IsTrue}
use Rattle.std.specs.List.{list_all}
use Rattle.httparse.specs.Grammar.{EndsInTarget, NeverHasRequest}
use Rattle.httparse.specs.Spans.{RequestExceeds}
use Rattle.ghg_office.specs.Office.{State, repeated, submitted}
use Rattle.ghg_office.specs.declared.reply.Reply.TheVariants.{Repeated}
use Rattle.ghg_office.specs.declared.request.Request.TheVariants.{Submit}
use Rattle.ghg_http.specs.declared.head.TheConstants.{MAX_FIELDS, MAX_HEAD}
use Rattle.ghg_http.specs.Receive.{EndsEarly, HoldsRequest}
use Rattle.ghg_http.specs.Reply.{HttpReply}
use Rattle.ghg_http.specs.Route.{Target, is_slash, path_of, submission, table, target_of}
use Rattle.ghg_http.specs.Serve.{Replies}
use Rattle.ghg_http.specs.Statuses.{office_reply}
use Rattle.ghg_http.specs.declared.decision.Refusal.TheVariants.{BadRequest, HeadTooLarge}
use Rattle.ghg_http.specs.declared.request.Request.{Request}
use Rattle.ghg_http.specs.declared.request.Request.TheVariants.{Refused, Asked}

-- any byte but a slash and a question mark
abbrev pub is_segment_byte : ℕ → Bool
is_segment_byte b = nat_lt b 256 && (not (is_slash b) && not (b == 63))

-- one segment of a path
abbrev pub is_segment : List ℕ → Bool
is_segment text = nat_lt 0 (length text) && list_all is_segment_byte text

-- The path of what is asked for: `/submissions/ID` with any one segment for the id, or `/tables/TABLE/YEAR`
-- with any two segments for the name and the year.
abbrev pub IsPathOf : Target → List ℕ → Type 0
IsPathOf (submission id) path = (path ≡ codes "/submissions/" ++ id) × IsTrue (is_segment id)
IsPathOf (table name year) path = (path ≡ codes "/tables/" ++ (name ++ (codes "/" ++ year)))
    × IsTrue (is_segment name) × IsTrue (is_segment year)

-- A target asks for something exactly where its path, which ends at a question mark, has one of these forms.
-- So no other path has a route.
abbrev pub FindsTargets : Type 0
FindsTargets = (text : List ℕ) (found : Target) → IsTrue (list_all (λ b. nat_lt b 256) text)
    → (target_of (path_of text) ≡ Some found) ↔ IsPathOf found (path_of text)

-- The reply to a repeat is 200 with its number, and nothing changes. So it is never 503 nor 507.
abbrev pub RepliesToRepeats : Type 0
RepliesToRepeats = (s after : State) (id body : List ℕ) (seq : ℕ) (due : HttpReply)
    → submitted s id body ≡ repeated s seq → Replies s (Asked (Submit id body)) due after
    → (due ≡ office_reply (Repeated seq)) × (after ≡ s)

-- The request is refused as malformed, or as too large.
abbrev pub IsHeadFault : Request → Type 0
IsHeadFault request = (request ≡ Refused BadRequest) ⊎ (request ≡ Refused HeadTooLarge)

-- No bytes can follow that make a head. But these fill the room of a head and break off in a target, or they
-- have more fields than a head may have.
abbrev pub HasTwoFaults : List ℕ → Type 0
HasTwoFaults bytes = NeverHasRequest bytes
    × ((EndsInTarget bytes × (MAX_HEAD ≤ length bytes)) ⊎ RequestExceeds MAX_FIELDS bytes)

-- Bytes hold one request. Only where a head has two faults may it be refused as malformed and as too large.
abbrev pub HoldsOneRequest : Type 0
HoldsOneRequest = (bytes : List ℕ) (x y : Request) → HoldsRequest bytes x → HoldsRequest bytes y
    → (x ≡ y) ⊎ (IsHeadFault x × IsHeadFault y × HasTwoFaults bytes)

-- Bytes that end early hold no request. Only where they break off in a target that no bytes can complete may
-- it be refused as malformed, and only where they have too many fields as too large.
abbrev pub HoldsNoneEarly : Type 0
HoldsNoneEarly = (bytes : List ℕ) (x : Request) → EndsEarly bytes → HoldsRequest bytes x
    → ((x ≡ Refused BadRequest) × NeverHasRequest bytes × EndsInTarget bytes)
    ⊎ ((x ≡ Refused HeadTooLarge) × RequestExceeds MAX_FIELDS bytes)
