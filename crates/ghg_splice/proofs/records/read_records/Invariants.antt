use Rattle.std.proofs.Common.{map}
use Rattle.csv.specs.Records.{fields_of}
use Rattle.ghg_splice.proofs.AllRecords.{IsAhead, IsReading}
use Rattle.ghg_splice.proofs.records.read_records.Given as goal

abbrev pub invariant-loop-record : goal.invariant-loop-record
invariant-loop-record l = IsReading l.record-iterator × IsAhead l.fn.body (map fields_of l.records.items) l.record-iterator.rdr
