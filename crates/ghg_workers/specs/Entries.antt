-- What workers hand in.
use Rattle.std.specs.Prelude.{◌≡◌, ℕ, ◌<◌, List, map, All}
use Rattle.ghg_cell.specs.Boards.{PassView}
use Rattle.ghg_workers.specs.declared.entry.Entry.{Entry}

module _ {O : Type 0} where
  abbrev pub place_of : Entry O → ℕ
  place_of e = e.place

  abbrev pub places_of : List (Entry O) → List ℕ
  places_of entries = map place_of entries

  -- the entry has what its place gives
  abbrev pub IsOf : (ℕ → O → Type 0) → ℕ → Entry O → Type 0
  IsOf outcome count e = (e.place < count) × outcome e.place e.outcome

  -- the entries are of the places that the pass claimed, in order, and it was told that no place is left
  abbrev pub IsWhole : (ℕ → O → Type 0) → ℕ → List (Entry O) → PassView → Type 0
  IsWhole outcome count entries pass =
      (places_of entries ≡ pass.claimed) × All (IsOf outcome count) entries × (0 < pass.misses)
