-- What is compiled.
use Rattle.std.specs.Prelude.{◌≡◌, true, None}
use Rattle.ghg_units.specs.declared.node.Node.{Node}
use Rattle.ghg_definitions.specs.Compilation.{compilation, is_node, overflow, sheet_of}
use Rattle.ghg_definitions.specs.Containment.{HoldsExactValues}
use Rattle.ghg_definitions.specs.Data.{Data}
use Rattle.ghg_definitions.specs.Rings.{IsAcyclic}
use Rattle.ghg_definitions.specs.Sound.{IsWorkbook}
use Rattle.ghg_definitions.specs.Trials.{IsCompilation, Outcomes}

-- the outcomes at the nodes of the workbook are its compilation, in which nothing is over and each known node
-- holds its exact value
pub record IsCompiled (m : Data) (outcomes : Outcomes) : Type 0 where
  pub workbook : IsWorkbook m
  pub acyclic : IsAcyclic m
  pub outcomes_are : (n : Node) → is_node m n ≡ true → outcomes n ≡ compilation m n
  pub fits : IsCompilation (sheet_of m) (compilation m)
  pub none_over : overflow m ≡ None
  pub contained : HoldsExactValues m
