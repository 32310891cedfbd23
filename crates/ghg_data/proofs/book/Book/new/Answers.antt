use Rattle.std.proofs.Common.{sym, subst}
use Rattle.ghg_definitions.specs.Sound.{IsWorkbook}
use Rattle.ghg_data.proofs.Empty.{is_workbook}
use Rattle.ghg_data.proofs.book.Book.new.Goals as goal

pub invariant_of-result : goal.invariant_of-result
invariant_of-result c = subst IsWorkbook (sym c.new.ensures) is_workbook
