use Rattle.std.proofs.Common.{arith, to_z-of_z}
use Rattle.std.proofs.lemmas.Grind.{common_steps}
use Rattle.ghg_splice.specs.Texts.{figures_text}
use Rattle.ghg_splice.proofs.text.append_figures.Goals as goal

pub returns : goal.returns
unfolding figures_text
returns c = grind (arith, common_steps, to_z-of_z)
