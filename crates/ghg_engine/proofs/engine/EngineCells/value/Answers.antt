use Rattle.std.proofs.Common.{ap, subst}
use Rattle.ghg_definitions.specs.Compilation.{compilation, sheet_of}
use Rattle.ghg_definitions.specs.Data.{Data}
use Rattle.ghg_definitions.specs.Trials.{IsCompilation}
use Rattle.ghg_engine.proofs.engine.EngineCells.value.Goals as goal

abbrev IsFit : Data → Type 0
IsFit m = IsCompilation (sheet_of m) (compilation m)

pub returns-then-is_node-clause-compiled : goal.returns-then-is_node-clause-compiled
returns-then-is_node-clause-compiled c = subst IsFit (ap (λ s. s.content) c.self.view_is) c.self.invariant.0.fits

pub returns-else-is_node-clause-compiled : goal.returns-else-is_node-clause-compiled
returns-else-is_node-clause-compiled c = subst IsFit (ap (λ s. s.content) c.self.view_is) c.self.invariant.0.fits
