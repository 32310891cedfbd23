use Rattle.std.proofs.Common.{rules, subst, sym}
use Rattle.ghg_definitions.specs.Sound.{IsWorkbook}
use Rattle.ghg_trendunc.specs.Table.{HasSums, trend_of}
use Rattle.ghg_trendunc.proofs.Sums.{sums_small}
use Rattle.ghg_trendunc.proofs.printing.trend_at.Goals as goal

pub returns-clause-value : goal.returns-clause-value
unfolding trend_of
returns-clause-value g c = search rules

pub returns-clause-small : goal.returns-clause-small
returns-clause-small g c = subst HasSums (sym (returns-clause-value g c)) (sums_small (g.C.Cells.content c.args.cells.now) c.args.year (subst IsWorkbook c.book.ensures.content c.span.ensures.workbook) c.book.ensures.compiled (rw c.requires.lines at c.requires.few) c.requires.in_span)
