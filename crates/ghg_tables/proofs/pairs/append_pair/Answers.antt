use Rattle.std.proofs.Common.{arith}
use Rattle.std.proofs.lemmas.Grind.{common_steps}
use Rattle.ghg_tables.proofs.Few.{few_lines}
use Rattle.ghg_tables.proofs.PairRows.{few_at}
use Rattle.ghg_tables.proofs.pairs.append_pair.Goals as goal

pub equivalent_tonnes-now-requires : goal.equivalent_tonnes-now-requires
equivalent_tonnes-now-requires g c =
    let few = few_lines (g.C.Cells.content c.args.cells.now) c.requires.workbook in
    grind (arith, common_steps, few, few_at)

pub equivalent_tonnes-base-requires : goal.equivalent_tonnes-base-requires
equivalent_tonnes-base-requires g c =
    let few = few_lines (g.C.Cells.content c.args.cells.now) c.requires.workbook in
    grind (arith, common_steps, few, few_at)
