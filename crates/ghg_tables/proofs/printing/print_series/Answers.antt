use Rattle.std.proofs.Common.{arith}
use Rattle.std.proofs.lemmas.Grind.{common_steps}
use Rattle.ghg_tables.specs.Tables.{series_text}
use Rattle.ghg_tables.proofs.Years.{no_year, year_added}
use Rattle.ghg_tables.proofs.printing.print_series.Goals as goal

pub loop-each-init : goal.loop-each-init
loop-each-init g c = grind (arith, common_steps, no_year)

pub loop-each-preserved : goal.loop-each-preserved
loop-each-preserved g c = grind (arith, common_steps, year_added)

pub returns : goal.returns
unfolding series_text
returns g c = grind (arith, common_steps, year_added)
