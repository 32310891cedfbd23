use Rattle.std.proofs.Common.{subst}
use Rattle.ghg_definitions.specs.Sound.{IsWorkbook}
use Rattle.ghg_tables.proofs.Sound.{result_sound}
use Rattle.ghg_tables.proofs.printing.print.Goals as goal

pub returns-clause-bounds : goal.returns-clause-bounds
returns-clause-bounds g c =
    result_sound _ (subst IsWorkbook c.book.ensures.content c.span.ensures.workbook) c.book.ensures.acyclic c.args.table c.args.year c.print_in.result c.print_in.ensures
