-- Why lines were not placed.
use Rattle.std.specs.Prelude.{◌≡◌, ⊤, ℕ, Bool, List, length}
use Rattle.ghg_definitions.specs.Rings.{IsRing}
use Rattle.ghg_graph.specs.declared.walk.Met.{Met}
use Rattle.ghg_graph.specs.declared.walk.Stop.{Stop}
use Rattle.ghg_graph.specs.declared.walk.Stop.TheVariants as stop
use Rattle.ghg_graph.specs.Links.{IsLink, IsOnNoRing, Links}
use Rattle.ghg_graph.specs.Walks.{IsMarked}

-- marks of lines that are on no ring
pub record AreClear (links : Links) (marks : List Bool) : Type 0 where
  pub wide : length marks ≡ length links
  pub clear : (line : ℕ) → IsMarked marks line → IsOnNoRing links line

-- a ring, beside marks of lines that are on none
pub record IsMet (links : Links) (met : Met) : Type 0 where
  pub ring : IsRing (IsLink links) met.ring.items
  pub placed : AreClear links met.placed.items

-- P of the ring that was met, if one was
abbrev pub IfMet : (Met → Type 0) → Stop → Type 0
IfMet P (stop.Ring met) = P met
IfMet P stop.Memory = ⊤
