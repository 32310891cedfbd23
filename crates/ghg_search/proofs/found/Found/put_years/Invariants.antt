use Rattle.std.proofs.Common.{take}
use Rattle.ghg_definitions.specs.Data.{Name}
use Rattle.ghg_definitions.specs.Listed.{IsListed}
use Rattle.ghg_search.specs.Found.{AreAdded}
use Rattle.ghg_search.specs.Search.{IsNodeIn}
use Rattle.ghg_search.proofs.Fresh.{AreLineNodes}
use Rattle.ghg_search.proofs.found.Found.put_years.Given as goal

abbrev pub invariant-loop-name : goal.invariant-loop-name
invariant-loop-name g l =
    let m = g.R.Records.content l.records in
    record {
      added : AreAdded (IsNodeIn m l.years) l.fn.self l.self;
      found : (name : Name) → IsListed name (take l.name-index l.name-items) → AreLineNodes m l.self name l.years;
    }
