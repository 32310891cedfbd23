use Rattle.std.proofs.Common.{arith, to_z-of_z}
use Rattle.std.proofs.lemmas.Grind.{common_steps}
use Rattle.ghg_uncertainty.proofs.RootBounds.{roots_are}
use Rattle.ghg_tables.specs.Analyses.{record_text}
use Rattle.ghg_tables.proofs.propagation.append_record.Goals as goal

pub returns : goal.returns
unfolding record_text
returns c = grind (arith, common_steps, to_z-of_z, roots_are)
