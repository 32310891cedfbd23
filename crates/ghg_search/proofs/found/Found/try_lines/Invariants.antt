use Rattle.std.proofs.Common.{◌≡◌, ℕ, take, true}
use Rattle.ghg_definitions.specs.Data.{Name}
use Rattle.ghg_definitions.specs.Listed.{IsListed}
use Rattle.ghg_search.specs.Found.{AreAdded, IsLineTried}
use Rattle.ghg_search.specs.Search.{IsChange}
use Rattle.ghg_data.specs.YearSet.{has_year}
use Rattle.ghg_search.proofs.found.Found.try_lines.Given as goal

abbrev pub invariant-loop-name : goal.invariant-loop-name
invariant-loop-name g l = record {
  added : AreAdded (IsChange (g.R.Records.content l.old) (g.S.Records.content l.new)) l.fn.self l.self;
  tried : (name : Name) → IsListed name (take l.name-index l.names) → (year : ℕ) → has_year l.years year ≡ true → IsLineTried (g.R.Records.content l.old) (g.S.Records.content l.new) l.self name year;
}
