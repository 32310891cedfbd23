use Rattle.std.proofs.Common.{◌≡◌, Some, ap, sym, ◌∙◌}
use Rattle.std.specs.FinMap.{get}
use Rattle.ghg_definitions.specs.declared.record.Record.{Record}
use Rattle.ghg_definitions.specs.declared.record.Record.TheVariants as entry
use Rattle.ghg_definitions.specs.declared.record.RecordKey.TheVariants as key
use Rattle.ghg_tables.proofs.propagation.uncertainty.Goals as goal

pub returns-in-Some-Uncert-clause-small : goal.returns-in-Some-Uncert-clause-small
returns-in-Some-Uncert-clause-small g c =
    let m = g.R.Records.content c.args.records.now in
    let found : get m (key.Uncert c.args.line.now) ≡ Some (entry.Uncert c.in-Some-Uncert.activity c.in-Some-Uncert.factor) =
    sym c.in-Some-Uncert.ensures.record ∙ ap (λ (r : Record). Some r) c.in-Some-Uncert.field-0-is in
    let is = c.get.ensures.workbook.records (key.Uncert c.args.line.now) (entry.Uncert c.in-Some-Uncert.activity c.in-Some-Uncert.factor) found in
    (is.1, is.2)
