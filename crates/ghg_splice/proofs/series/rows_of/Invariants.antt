use Rattle.std.proofs.Common.{◌≡◌, ◌≤◌, ◌+◌, Ok, drop, length, map}
use Rattle.csv.specs.Records.{fields_of}
use Rattle.ghg_units.specs.Year.{latest_year}
use Rattle.ghg_splice.specs.Refusals.{joined}
use Rattle.ghg_splice.specs.Series.{rows_from}
use Rattle.ghg_splice.proofs.series.rows_of.Given as goal

abbrev pub invariant-loop-fields : goal.invariant-loop-fields
invariant-loop-fields l = record {
  said : joined (Ok l.rows.items) (rows_from l.number l.after (map fields_of (drop l.fields-index l.records))) ≡ rows_from 1 0 (map fields_of l.records);
  counted : l.number ≡ 1 + length l.rows.items;
  few : length l.rows.items ≤ l.after;
  late : l.after ≤ latest_year;
}
