-- Lines in an order in which each stands behind those that it takes.
use Rattle.std.specs.Prelude.{◌≡◌, true, is_some, ⊤, List, [], ◌∷◌}
use Rattle.std.specs.List.{Contains}
use Rattle.ghg_definitions.specs.Data.{Data, Name, line}
use Rattle.ghg_definitions.specs.Rings.{Takes}

-- each name is a line that is present and not done, and those that it takes are done or stand before it
abbrev pub IsBehind : Data → List Name → List Name → Type 0
IsBehind m done [] = ⊤
IsBehind m done (name ∷ names) = (is_some (line m name) ≡ true) × (¬ Contains done name) ×
    ((k : Name) → Takes m name k → Contains done k) × IsBehind m (name ∷ done) names

-- each line once, behind those that it takes
pub record IsLineOrder (m : Data) (names : List Name) : Type 0 where
  pub behind : IsBehind m [] names
  pub complete : (name : Name) → is_some (line m name) ≡ true → Contains names name
