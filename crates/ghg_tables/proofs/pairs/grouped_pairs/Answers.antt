use Rattle.std.proofs.Common.{◌≡◌, ◌≤◌, List, arith, subst, sym}
use Rattle.std.specs.List.{sum_by}
use Rattle.std.proofs.lemmas.Grind.{common_steps}
use Rattle.ghg_definitions.specs.Compilation.{compilation}
use Rattle.ghg_keycat.specs.declared.Pair.{Pair}
use Rattle.ghg_keycat.specs.Ranking.{AreDistinct}
use Rattle.ghg_keycat.specs.Sizes.{gross, gross_limit}
use Rattle.ghg_tables.specs.Sums.{pairs}
use Rattle.ghg_tables.proofs.Few.{few_lines}
use Rattle.ghg_tables.proofs.PairRows.{pairs_distinct, pairs_small}
use Rattle.ghg_tables.proofs.pairs.grouped_pairs.Goals as goal

pub returns-clause-distinct : goal.returns-clause-distinct
unfolding pairs
returns-clause-distinct g c =
    let m = g.C.Cells.content c.args.cells.now in
    let is : c.loop-category.rows.items ≡ pairs m (compilation m) c.args.years = grind (arith, common_steps) in
    subst AreDistinct (sym is) (pairs_distinct m (compilation m) c.args.years)

pub returns-clause-small : goal.returns-clause-small
unfolding pairs
returns-clause-small g c =
    let m = g.C.Cells.content c.args.cells.now in
    let is : c.loop-category.rows.items ≡ pairs m (compilation m) c.args.years = grind (arith, common_steps) in
    let few = few_lines m c.requires.workbook in
    subst (λ (rows : List Pair). sum_by gross rows ≤ gross_limit) (sym is) (pairs_small m c.requires.compiled c.args.years few)
