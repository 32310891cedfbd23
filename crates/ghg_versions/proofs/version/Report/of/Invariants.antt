use Rattle.std.proofs.Common.{◌≡◌, ◌-◌, ◌<◌, map}
use Rattle.ghg_definitions.specs.Compilation.{compilation, years_from}
use Rattle.ghg_tables.specs.Values.{values}
use Rattle.ghg_versions.proofs.version.Report.of.Given as goal

-- the years so far; a year is past the last only where the span has none
abbrev pub invariant-loop-year : goal.invariant-loop-year
invariant-loop-year g l = record {
  so_far : map (λ kept. kept.items) l.years.items ≡ map (values (g.C.Cells.content l.cells) (compilation (g.C.Cells.content l.cells))) (years_from l.span.first (l.year - l.span.first));
  past : l.span.last < l.year → l.year ≡ l.span.first;
}
