use Rattle.std.proofs.Common.{◌≡◌, ◌≤◌, Vec, Global, length, subst}
use Rattle.std.proofs.lemmas.Result.{IfOk-weaker}
use Rattle.ghg_definitions.specs.Data.{Name}
use Rattle.ghg_definitions.specs.Sound.{IsWorkbook}
use Rattle.ghg_definitions.specs.Rules.{most_lines}
use Rattle.ghg_tables.specs.Tables.{emitters}
use Rattle.ghg_tables.proofs.Few.{few_emitters}
use Rattle.ghg_tables.proofs.propagation.emitters.Goals as goal

pub returns-clause-few : goal.returns-clause-few
returns-clause-few g c =
    let m = g.C.Cells.content c.args.cells.now in
    let few : length (emitters m) ≤ most_lines = few_emitters m (subst IsWorkbook c.book.ensures.content c.lines.ensures.workbook) in
    IfOk-weaker c.in_tree.result (λ (v : Vec Name Global). v.items ≡ emitters m) (λ (v : Vec Name Global). length v.items ≤ most_lines) (λ v is. rw is few) c.in_tree.ensures
