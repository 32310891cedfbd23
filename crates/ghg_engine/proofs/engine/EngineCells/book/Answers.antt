use Rattle.std.proofs.Common.{ap, subst}
use Rattle.ghg_definitions.specs.Compilation.{compilation, sheet_of}
use Rattle.ghg_definitions.specs.Data.{Data}
use Rattle.ghg_definitions.specs.Trials.{IsCompilation}
use Rattle.ghg_engine.proofs.engine.EngineCells.book.Goals as goal

abbrev IsFit : Data → Type 0
IsFit m = IsCompilation (sheet_of m) (compilation m)

pub returns-clause-compiled : goal.returns-clause-compiled
returns-clause-compiled c = subst IsFit (ap (λ s. s.content) c.self.view_is) c.self.invariant.0.fits
