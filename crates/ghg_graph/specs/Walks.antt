-- A walk over lines, from each to those that it takes.
use Rattle.std.specs.Prelude.{◌≡◌, ℕ, ◌+◌, ◌<◌, ◌≤◌, Bool, true, false, List, [], ◌∷◌, ◌++◌, length, replicate, reverse, set, slice_index, slice_index_or}
use Rattle.ghg_definitions.specs.Listed.{IsListed}
use Rattle.ghg_graph.specs.declared.walk.Walk.{Walk}
use Rattle.ghg_graph.specs.Links.{BeginsWith, IsLink, IsPlaced, Links, targets_of}

abbrev pub IsMarked : List Bool → ℕ → Type 0
IsMarked marks line = slice_index_or marks line false ≡ true

abbrev pub IsUnmarked : List Bool → ℕ → Type 0
IsUnmarked marks line = slice_index_or marks line false ≡ false

-- how many lines are not marked
abbrev pub unmarked : List Bool → ℕ
unmarked [] = 0
unmarked (true ∷ marks) = unmarked marks
unmarked (false ∷ marks) = 1 + unmarked marks

-- the first place from one on whose line is not marked
pub record IsFirstUnmarked (marks : List Bool) (lines : List ℕ) (from next : ℕ) : Type 0 where
  pub within : next < length lines
  pub unmarked : IsUnmarked marks (slice_index lines next)
  pub before : (k : ℕ) → from ≤ k → k < next → IsMarked marks (slice_index lines k)

-- ---- paths; the last line comes first here

abbrev pub IsTakenByFirst : Links → ℕ → List ℕ → Type 0
IsTakenByFirst links x [] = Unit {0}
IsTakenByFirst links x (y ∷ ys) = IsLink links y x

-- each line stands once, and is taken by the one that was gone through before it
abbrev pub IsPath : Links → List ℕ → Type 0
IsPath links [] = Unit {0}
IsPath links (x ∷ xs) = (¬ IsListed x xs) × IsTakenByFirst links x xs × IsPath links xs

-- the part of the lines from this one on
pub record IsPartFrom (line : ℕ) (lines part : List ℕ) : Type 0 where
  pub front : List ℕ
  pub whole : lines ≡ front ++ part
  pub begins : BeginsWith line part

-- ---- walks

-- the lines of the path are those that are opened and not placed
pub record IsWalk (links : Links) (w : Walk) (path : List ℕ) : Type 0 where
  pub order : IsPlaced links (reverse w.order.items)
  pub on_path : IsPath links path
  pub opened_wide : length w.opened.items ≡ length links
  pub placed_wide : length w.placed.items ≡ length links
  pub tried_wide : length w.tried.items ≡ length links
  pub marked : (line : ℕ) → IsMarked w.placed.items line → IsListed line (reverse w.order.items)
  pub all_marked : (line : ℕ) → IsListed line (reverse w.order.items) → IsMarked w.placed.items line
  pub path_opened : (line : ℕ) → IsListed line path → IsMarked w.opened.items line
      × IsUnmarked w.placed.items line
  pub opened_path : (line : ℕ) → IsMarked w.opened.items line → IsUnmarked w.placed.items line
      → IsListed line path
  pub placed_opened : (line : ℕ) → IsMarked w.placed.items line → IsMarked w.opened.items line
  pub tried : (line k : ℕ) → k < slice_index w.tried.items line → IsMarked w.placed.items
      (slice_index (targets_of links line) k)

-- nothing is placed or opened
pub record IsStarted (count : ℕ) (w : Walk) : Type 0 where
  pub order : w.order.items ≡ []
  pub path : w.path.items ≡ []
  pub tried : w.tried.items ≡ replicate count 0
  pub opened : w.opened.items ≡ replicate count false
  pub placed : w.placed.items ≡ replicate count false

-- the line is put on the path
pub record IsOpened (line : ℕ) (old new : Walk) : Type 0 where
  pub path : new.path.items ≡ old.path.items ++ line ∷ []
  pub opened : new.opened.items ≡ set old.opened.items line true
  pub order : new.order.items ≡ old.order.items
  pub tried : new.tried.items ≡ old.tried.items
  pub placed : new.placed.items ≡ old.placed.items

-- the line is placed
pub record IsPut (line : ℕ) (old new : Walk) : Type 0 where
  pub order : new.order.items ≡ old.order.items ++ line ∷ []
  pub placed : new.placed.items ≡ set old.placed.items line true
  pub path : new.path.items ≡ old.path.items
  pub tried : new.tried.items ≡ old.tried.items
  pub opened : new.opened.items ≡ old.opened.items

-- more may be known to be tried
pub record IsTried (old new : Walk) : Type 0 where
  pub order : new.order.items ≡ old.order.items
  pub path : new.path.items ≡ old.path.items
  pub opened : new.opened.items ≡ old.opened.items
  pub placed : new.placed.items ≡ old.placed.items

-- all that is marked stays so
abbrev pub Keeps : List Bool → List Bool → Type 0
Keeps old new = (line : ℕ) → IsMarked old line → IsMarked new line

-- what the walk has still to do: each line is opened, and leaves the path
abbrev pub work : Walk → ℕ
work w = unmarked w.opened.items + unmarked w.opened.items + length w.path.items

-- once the last line of the path was gone on from
pub record IsTurned (links : Links) (old new : Walk) : Type 0 where
  pub walk : IsWalk links new (reverse new.path.items)
  pub opened : Keeps old.opened.items new.opened.items
  pub placed : Keeps old.placed.items new.placed.items
  pub less : work new ≤ work old

-- once the line is placed, and those that it leads to
pub record IsVisited (links : Links) (line : ℕ) (old new : Walk) : Type 0 where
  pub walk : IsWalk links new (reverse new.path.items)
  pub path : new.path.items ≡ []
  pub itself : IsMarked new.placed.items line
  pub placed : Keeps old.placed.items new.placed.items
