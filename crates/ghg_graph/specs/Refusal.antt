-- Why lines have no order.
use Rattle.std.specs.Prelude.{⊤, List, [], ◌∷◌}
use Rattle.ghg_definitions.specs.Data.{Data, Name}
use Rattle.ghg_definitions.specs.Rings.{IsLeastRing}
use Rattle.ghg_graph.specs.declared.rings.CycleRefusal.{CycleRefusal}
use Rattle.ghg_graph.specs.declared.rings.CycleRefusal.TheVariants as refusal

-- a ring that begins with the least line on any
abbrev pub IsLeastRingOf : Data → List Name → Type 0
IsLeastRingOf m [] = ⊥
IsLeastRingOf m (least ∷ others) = IsLeastRing m least others

-- P of the ring, if there is one
abbrev pub IfRing : (List Name → Type 0) → CycleRefusal → Type 0
IfRing P (refusal.Ring ring) = P ring
IfRing P refusal.Memory = ⊤
