-- Where the head of a request stands in the bytes that have come.
use Rattle.std.specs.Prelude.{◌≡◌, ℕ, ◌<◌, ◌≤◌, ◌⊎◌, List, length, drop}
use Rattle.httparse.specs.Grammar.{RequestHead, print_request, ReadsRequest, HasNoRequest, NeverHasRequest, MayBecomeRequest}
use Rattle.httparse.specs.Spans.{RequestExceeds}
use Rattle.ghg_http.specs.Decision.{decision_of, seen}
use Rattle.ghg_http.specs.declared.decision.Decision.{Decision}
use Rattle.ghg_http.specs.declared.head.Head.{Head}
use Rattle.ghg_http.specs.declared.head.Head.TheVariants.{Whole, Unfinished, Malformed, TooLarge}
use Rattle.ghg_http.specs.declared.head.TheConstants.{MAX_HEAD, MAX_FIELDS}

-- the bytes begin with a head of the grammar that is no longer and has no more fields than one may have
pub record HasHead (bytes : List ℕ) (head : RequestHead) (rest : List ℕ) : Type 0 where
  pub reads : ReadsRequest bytes head rest
  pub short : length (print_request head) ≤ MAX_HEAD
  pub few : length head.fields ≤ MAX_FIELDS

-- the bytes begin with a head of this length, which decides so
pub record IsWhole (bytes : List ℕ) (made : Decision) (size : ℕ) : Type 0 where
  pub head : RequestHead
  pub within : size ≤ length bytes
  pub size_is : size ≡ length (print_request head)
  pub reads : ReadsRequest bytes head (drop size bytes)
  pub few : length head.fields ≤ MAX_FIELDS
  pub decides : seen made ≡ decision_of head

-- they hold no head yet, and there is room for more
abbrev pub AwaitsHead : List ℕ → Type 0
AwaitsHead bytes = HasNoRequest bytes × MayBecomeRequest bytes × (length bytes < MAX_HEAD)

-- a head that began well has not ended in the room that one has, or there are more fields than one may have
abbrev pub IsTooLarge : List ℕ → Type 0
IsTooLarge bytes =
    (HasNoRequest bytes × MayBecomeRequest bytes × (MAX_HEAD ≤ length bytes))
    ⊎ RequestExceeds MAX_FIELDS bytes

-- what is said of the bytes
abbrev pub IsHead : List ℕ → Head → Type 0
IsHead bytes (Whole made size) = IsWhole bytes made size
IsHead bytes Unfinished = AwaitsHead bytes
-- no bytes can follow that make a head
IsHead bytes Malformed = NeverHasRequest bytes
IsHead bytes TooLarge = IsTooLarge bytes
