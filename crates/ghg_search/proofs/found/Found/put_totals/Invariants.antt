use Rattle.std.proofs.Common.{◌≡◌, ℕ, take, true}
use Rattle.ghg_categories.specs.declared.category.Category.{Category}
use Rattle.ghg_units.specs.declared.node.Node.TheVariants as node
use Rattle.ghg_definitions.specs.Listed.{IsListed}
use Rattle.ghg_search.specs.Found.{AreAdded, IsIn}
use Rattle.ghg_search.specs.Search.{IsTotalOf}
use Rattle.ghg_search.specs.Series.{Within}
use Rattle.ghg_data.specs.YearSet.{has_year}
use Rattle.ghg_search.proofs.found.Found.put_totals.Given as goal

abbrev pub invariant-loop-top : goal.invariant-loop-top
invariant-loop-top l = record {
  added : AreAdded (Within l.years (IsTotalOf l.tops)) l.fn.self l.self;
  totals : (top : Category) → IsListed top (take l.top-index l.tops) → (year : ℕ) → has_year l.years year ≡ true → IsIn l.self (node.Total top year);
}
