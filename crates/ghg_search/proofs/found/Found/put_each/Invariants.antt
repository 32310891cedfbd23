use Rattle.std.proofs.Common.{◌≡◌, ℕ, take, true}
use Rattle.ghg_units.specs.declared.node.Node.TheVariants as node
use Rattle.ghg_definitions.specs.Data.{Name}
use Rattle.ghg_definitions.specs.Listed.{IsListed}
use Rattle.ghg_search.specs.Found.{AreAdded, IsIn}
use Rattle.ghg_search.specs.Index.{names_bound}
use Rattle.ghg_search.specs.Search.{IsLineNaming}
use Rattle.ghg_search.specs.Series.{Within}
use Rattle.ghg_data.specs.YearSet.{has_year}
use Rattle.ghg_search.proofs.found.Found.put_each.Given as goal

abbrev pub invariant-loop-taker : goal.invariant-loop-taker
invariant-loop-taker g l =
    let m = g.R.Records.content l.records in
    record {
      added : AreAdded (Within l.years (IsLineNaming m l.source)) l.fn.self l.self;
      found : (taker : Name) → IsListed taker (take l.taker-index l.taker-items) → names_bound m l.source taker ≡ true → (year : ℕ) → has_year l.years year ≡ true → IsIn l.self (node.Line taker year);
    }
