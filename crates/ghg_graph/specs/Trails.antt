-- A search from a line: the lines found so far, and for each the place of the line that led to it.
use Rattle.std.specs.Prelude.{◌≡◌, ◌≢◌, ◌⊎◌, ℕ, ◌+◌, ◌<◌, Bool, true, false, List, [], ◌∷◌, ◌++◌, length, set, slice_index}
use Rattle.ghg_definitions.specs.Listed.{IsListed}
use Rattle.ghg_graph.specs.declared.search.Search.{Search}
use Rattle.ghg_graph.specs.Links.{IsLink, IsOnNoRing, IsRingFrom, Links}
use Rattle.ghg_graph.specs.Walks.{IsMarked, unmarked}

-- each line but the first was led to by an earlier one
pub record IsLed (lines led_by : List ℕ) : Type 0 where
  pub same : length led_by ≡ length lines
  pub earlier : (k : ℕ) → 0 < k → k < length lines → slice_index led_by k < k

-- and takes its value
pub record IsTrail (links : Links) (start : ℕ) (lines led_by : List ℕ) : Type 0 where
  pub led : IsLed lines led_by
  pub some : 0 < length lines
  pub first : slice_index lines 0 ≡ start
  pub taken : (k : ℕ) → 0 < k → k < length lines → IsLink links (slice_index lines (slice_index led_by k))
      (slice_index lines k)

-- the way along which the line at a place was found: a ring, where that line takes the first
abbrev pub IsWay : List ℕ → List ℕ → ℕ → List ℕ → Type 0
IsWay lines led_by end way = (links : Links) (start : ℕ) → IsTrail links start lines led_by → IsLink links
    (slice_index lines end) start → IsRingFrom links start way

-- the line is found, or on no ring
abbrev pub IsPassed : Links → List ℕ → ℕ → Type 0
IsPassed links lines line = IsOnNoRing links line ⊎ IsListed line lines

-- the targets of a line are passed, and none is the start
abbrev pub IsLooked : Links → ℕ → List ℕ → ℕ → Type 0
IsLooked links start lines target = (target ≢ start) × IsPassed links lines target

-- the lines before the head were looked at
pub record IsSearch (links : Links) (start : ℕ) (s : Search) (head : ℕ) : Type 0 where
  pub trail : IsTrail links start s.lines.items s.led_by.items
  pub within : (k : ℕ) → k < length s.lines.items → slice_index s.lines.items k < length links
  pub wide : length s.marks.items ≡ length links
  pub marked : (line : ℕ) → IsMarked s.marks.items line → IsPassed links s.lines.items line
  pub looked : (k : ℕ) → k < head → (target : ℕ) → IsLink links (slice_index s.lines.items k) target
      → IsLooked links start s.lines.items target

-- only the start is found
pub record IsBegun (clear : List Bool) (start : ℕ) (s : Search) : Type 0 where
  pub lines : s.lines.items ≡ start ∷ []
  pub led_by : s.led_by.items ≡ 0 ∷ []
  pub marks : s.marks.items ≡ clear

-- the line is found
pub record IsFound (line from : ℕ) (old new : Search) : Type 0 where
  pub lines : new.lines.items ≡ old.lines.items ++ line ∷ []
  pub led_by : new.led_by.items ≡ old.led_by.items ++ from ∷ []
  pub marks : new.marks.items ≡ set old.marks.items line true

abbrev pub IsNoted : Bool → ℕ → ℕ → Search → Search → Type 0
IsNoted true line from old new = new ≡ old
IsNoted false line from old new = IsFound line from old new

-- what the search has still to look at, together with what it has looked at
abbrev pub extent : Search → ℕ
extent s = unmarked s.marks.items + length s.lines.items

-- the line at the head takes the start
pub record IsClosed (links : Links) (start : ℕ) (s : Search) (head : ℕ) : Type 0 where
  pub trail : IsTrail links start s.lines.items s.led_by.items
  pub within : head < length s.lines.items
  pub closes : IsLink links (slice_index s.lines.items head) start

-- the line at the head was looked at too
pub record IsOver (links : Links) (start : ℕ) (old new : Search) (head : ℕ) : Type 0 where
  pub search : IsSearch links start new (head + 1)
  pub extent : extent new ≡ extent old
