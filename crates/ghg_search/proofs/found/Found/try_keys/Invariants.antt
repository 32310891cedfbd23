use Rattle.std.proofs.Common.{take}
use Rattle.ghg_definitions.specs.Listed.{IsListed}
use Rattle.ghg_definitions.specs.declared.record.RecordKey.{RecordKey}
use Rattle.ghg_search.specs.Found.{AreAdded}
use Rattle.ghg_search.specs.Search.{AreEquivalentsTried, AreLinesTried, IsChange}
use Rattle.ghg_search.proofs.found.Found.try_keys.Given as goal

abbrev pub invariant-loop-key : goal.invariant-loop-key
invariant-loop-key g l =
    let old = g.R.Records.content l.old in
    let new = g.S.Records.content l.new in
    record {
      added : AreAdded (IsChange old new) l.fn.self l.self;
      lines : (k : RecordKey) → IsListed k (take l.key-index l.keys) → AreLinesTried old new l.index l.years k l.self;
      equivalents : (k : RecordKey) → IsListed k (take l.key-index l.keys) → AreEquivalentsTried old new l.index l.years k l.self;
    }
