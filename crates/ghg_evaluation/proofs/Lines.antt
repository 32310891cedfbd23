-- What is kept of a line.
use Rattle.std.proofs.Common.{◌≡◌, List, [], ◌∷◌, map, refl, ap}
use Rattle.ghg_equations.specs.declared.row.Param.{Param}
use Rattle.ghg_equations.specs.Table.{Quantity, ◌of◌}
use Rattle.ghg_definitions.specs.Data.{Data, Name, binding}

-- the parameters of the code are those of the table
pub bindings_are : (m : Data) (name : Name) (ps : List Param)
    → map (λ p. binding m name p.name.now) ps ≡ map (λ (q : Quantity). binding m name q.name) (map (λ (p : Param). p.name.now of p.dim) ps)
bindings_are m name [] = refl
bindings_are m name (p ∷ ps) = ap (λ bs. binding m name p.name.now ∷ bs) (bindings_are m name ps)
