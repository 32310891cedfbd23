-- The table of categories: the code of each, and the one just above it.
-- Source: 2006 IPCC Guidelines, Volume 1, Chapter 8, Table 8.2.
use Rattle.std.specs.Prelude.{ℕ, zero, suc, Bool, false, ◌||◌, not, List, ◌++◌, codes, Option, Some, None}
use Rattle.std.specs.Option.{option_map_or}
use Rattle.std.specs.List.{find, list_any}
use Rattle.std.specs.Str.{bytes_eq}
use Rattle.ghg_categories.specs.declared.category.Category.{Category}
use Rattle.ghg_categories.specs.declared.category.Category.TheVariants as at
use Rattle.ghg_categories.specs.declared.category.TheConstants.Category.{MEMO, TREE}
use Rattle.ghg_categories.specs.declared.tree.TheConstants.{DEPTH}

-- a code, and the category just above
pub record Row : Type 0 where
  pub code : List ℕ
  pub parent : Option Category

abbrev pub top : List ℕ → Row
top code = record { code = code; parent = None }

infix 50 ◌under◌
abbrev pub ◌under◌ : List ℕ → Category → Row
code under parent = record { code = code; parent = Some parent }

abbrev pub row : Category → Row
row at.National = top (codes "0")
row at.C1 = codes "1" under at.National
row at.C1A = codes "1A" under at.C1
row at.C1A1 = codes "1A1" under at.C1A
row at.C1A1a = codes "1A1a" under at.C1A1
row at.C1A1b = codes "1A1b" under at.C1A1
row at.C1A1c = codes "1A1c" under at.C1A1
row at.C1A2 = codes "1A2" under at.C1A
row at.C1A3 = codes "1A3" under at.C1A
row at.C1A3a = codes "1A3a" under at.C1A3
row at.C1A3b = codes "1A3b" under at.C1A3
row at.C1A3c = codes "1A3c" under at.C1A3
row at.C1A3d = codes "1A3d" under at.C1A3
row at.C1A3e = codes "1A3e" under at.C1A3
row at.C1A4 = codes "1A4" under at.C1A
row at.C1A4a = codes "1A4a" under at.C1A4
row at.C1A4b = codes "1A4b" under at.C1A4
row at.C1A4c = codes "1A4c" under at.C1A4
row at.C1A5 = codes "1A5" under at.C1A
row at.C1B = codes "1B" under at.C1
row at.C1B1 = codes "1B1" under at.C1B
row at.C1B2 = codes "1B2" under at.C1B
row at.C1B3 = codes "1B3" under at.C1B
row at.C1C = codes "1C" under at.C1
row at.C2 = codes "2" under at.National
row at.C2A = codes "2A" under at.C2
row at.C2A1 = codes "2A1" under at.C2A
row at.C2A2 = codes "2A2" under at.C2A
row at.C2A3 = codes "2A3" under at.C2A
row at.C2A4 = codes "2A4" under at.C2A
row at.C2B = codes "2B" under at.C2
row at.C2B1 = codes "2B1" under at.C2B
row at.C2B2 = codes "2B2" under at.C2B
row at.C2B3 = codes "2B3" under at.C2B
row at.C2C = codes "2C" under at.C2
row at.C2C1 = codes "2C1" under at.C2C
row at.C2C3 = codes "2C3" under at.C2C
row at.C2D = codes "2D" under at.C2
row at.C2D1 = codes "2D1" under at.C2D
row at.C2D2 = codes "2D2" under at.C2D
row at.C3 = codes "3" under at.National
row at.C3A = codes "3A" under at.C3
row at.C3A1 = codes "3A1" under at.C3A
row at.C3A2 = codes "3A2" under at.C3A
row at.C3B = codes "3B" under at.C3
row at.C3B1 = codes "3B1" under at.C3B
row at.C3B2 = codes "3B2" under at.C3B
row at.C3B3 = codes "3B3" under at.C3B
row at.C3B4 = codes "3B4" under at.C3B
row at.C3B5 = codes "3B5" under at.C3B
row at.C3B6 = codes "3B6" under at.C3B
row at.C3C = codes "3C" under at.C3
row at.C3C1 = codes "3C1" under at.C3C
row at.C3C2 = codes "3C2" under at.C3C
row at.C3C3 = codes "3C3" under at.C3C
row at.C3C4 = codes "3C4" under at.C3C
row at.C3C5 = codes "3C5" under at.C3C
row at.C3C6 = codes "3C6" under at.C3C
row at.C3C7 = codes "3C7" under at.C3C
row at.C3C8 = codes "3C8" under at.C3C
row at.C3D = codes "3D" under at.C3
row at.C3D1 = codes "3D1" under at.C3D
row at.C3D2 = codes "3D2" under at.C3D
row at.C4 = codes "4" under at.National
row at.C4A = codes "4A" under at.C4
row at.C4B = codes "4B" under at.C4
row at.C4C = codes "4C" under at.C4
row at.C4C1 = codes "4C1" under at.C4C
row at.C4C2 = codes "4C2" under at.C4C
row at.C4D = codes "4D" under at.C4
row at.C4D1 = codes "4D1" under at.C4D
row at.C4D2 = codes "4D2" under at.C4D
row at.C4E = codes "4E" under at.C4
row at.C5 = codes "5" under at.National
row at.C5A = codes "5A" under at.C5
row at.C5B = codes "5B" under at.C5
row at.MB = top (codes "MB")
row at.MC = top (codes "MC")
row at.RA = top (codes "RA")

-- each category of the tree, in the order of the codes' bytes
abbrev pub tree : List Category
tree = TREE

abbrev pub code_of : Category → List ℕ
code_of c = (row c).code

abbrev pub parent_of : Category → Option Category
parent_of c = (row c).parent

-- the category that a text is the code of
unfoldable pub named_in : List ℕ → Option Category
named_in text = find (λ c. bytes_eq (code_of c) text) (TREE ++ MEMO)

abbrev pub is_same : Category → Category → Bool
is_same c d = bytes_eq (code_of c) (code_of d)

-- none has it as its parent
abbrev pub is_leaf_of : Category → Bool
is_leaf_of c = not (list_any (λ d. option_map_or (λ p. is_same p c) (parent_of d) false) tree)

-- the second is the first, or stands above it by no more than so many levels
abbrev pub stands_within : ℕ → Category → Category → Bool
stands_within zero c above = is_same c above
stands_within (suc n) c above =
    is_same c above || option_map_or (λ p. stands_within n p above) (parent_of c) false

-- the second is the first, or stands above it
unfoldable pub stands_under : Category → Category → Bool
stands_under c above = stands_within DEPTH c above
