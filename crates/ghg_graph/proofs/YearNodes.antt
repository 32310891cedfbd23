-- The span of a workbook.
use Rattle.std.proofs.Common.{◌≡◌, Option, Some, None, refl, subst}
use Rattle.std.specs.FinMap.{get}
use Rattle.ghg_units.specs.declared.row.Span.{Span}
use Rattle.ghg_units.specs.WellFormed.{IsSpan}
use Rattle.ghg_definitions.specs.declared.record.Record.{Record}
use Rattle.ghg_definitions.specs.declared.record.Record.TheVariants as entry
use Rattle.ghg_definitions.specs.declared.record.RecordKey.TheVariants as key
use Rattle.ghg_definitions.specs.Data.{Data, as_span, span}
use Rattle.ghg_definitions.specs.Sound.{IsWorkbook}

pub span_is : (m : Data) (s : Span) → IsWorkbook m → span m ≡ Some s → IsSpan s
span_is m s workbook e = by (get m key.Span) refl e
  where
    by : (r : Option Record) → get m key.Span ≡ r → as_span r ≡ Some s → IsSpan s
    by None is e = absurd (cc)
    by (Some (entry.Span t)) is e = let same : t ≡ s = cc in subst IsSpan same (workbook.records key.Span (entry.Span t) is)
    by (Some _) is e = absurd (cc)
