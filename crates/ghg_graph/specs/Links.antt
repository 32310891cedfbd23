-- Lines by their numbers: for each the numbers of the lines that it takes.
use Rattle.std.specs.Prelude.{◌≡◌, ℕ, ◌<◌, List, [], ◌∷◌, length, reverse, slice_index_or}
use Rattle.ghg_definitions.specs.Rings.{IsRing}
use Rattle.ghg_definitions.specs.Listed.{IsListed}

abbrev pub Links : Type 0
Links = List (List ℕ)

abbrev pub targets_of : Links → ℕ → List ℕ
targets_of links line = slice_index_or links line []

-- the first takes the value of the second
abbrev pub IsLink : Links → ℕ → ℕ → Type 0
IsLink links i j = IsListed j (targets_of links i)

-- what a line takes is a line
abbrev pub AreWithin : Links → Type 0
AreWithin links = (line target : ℕ) → IsLink links line target → target < length links

-- ---- orders

-- the last line comes first here: it stands once, and behind those that it takes
abbrev pub IsPlaced : Links → List ℕ → Type 0
IsPlaced links [] = Unit {0}
IsPlaced links (x ∷ done) = (¬ IsListed x done) ×
    ((target : ℕ) → IsLink links x target → IsListed target done) × IsPlaced links done

-- each line, once, behind those that it takes
pub record IsOrder (links : Links) (order : List ℕ) : Type 0 where
  pub placed : IsPlaced links (reverse order)
  pub within : (line : ℕ) → IsListed line (reverse order) → line < length links
  pub complete : (line : ℕ) → line < length links → IsListed line (reverse order)

-- ---- rings

abbrev pub BeginsWith : ℕ → List ℕ → Type 0
BeginsWith i [] = ⊥
BeginsWith i (x ∷ xs) = x ≡ i

-- a ring that begins with the line
abbrev pub IsRingFrom : Links → ℕ → List ℕ → Type 0
IsRingFrom links start ring = BeginsWith start ring × IsRing (IsLink links) ring

-- the line is on no ring
abbrev pub IsOnNoRing : Links → ℕ → Type 0
IsOnNoRing links i = (ring : List ℕ) → IsRing (IsLink links) ring → ¬ IsListed i ring

-- a ring that begins with the least line on any ring
pub record IsLeast (links : Links) (ring : List ℕ) : Type 0 where
  pub least : ℕ
  pub ring_from : IsRingFrom links least ring
  pub before : (i : ℕ) → i < least → IsOnNoRing links i
