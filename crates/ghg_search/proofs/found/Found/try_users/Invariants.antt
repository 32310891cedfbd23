use Rattle.std.proofs.Common.{take}
use Rattle.ghg_definitions.specs.Data.{Name}
use Rattle.ghg_definitions.specs.Listed.{IsListed}
use Rattle.ghg_search.specs.Found.{AreAdded}
use Rattle.ghg_search.specs.Search.{AreTriedBy, IsChange}
use Rattle.ghg_search.proofs.found.Found.try_users.Given as goal

abbrev pub invariant-loop-name : goal.invariant-loop-name
invariant-loop-name g l =
    let old = g.R.Records.content l.old in
    let new = g.S.Records.content l.new in
    record {
      added : AreAdded (IsChange old new) l.fn.self l.self;
      tried : (name : Name) → IsListed name (take l.name-index l.names) → AreTriedBy old new l.source l.years name l.self;
    }
