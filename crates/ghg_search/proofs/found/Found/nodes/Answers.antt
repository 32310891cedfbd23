use Rattle.std.proofs.Common.{◌∙◌, subst, sym}
use Rattle.std.specs.List.Sorted.{IsStrictlySortedBy}
use Rattle.ghg_definitions.specs.Listed.{IsListed}
use Rattle.ghg_definitions.specs.Nodes.{year_in}
use Rattle.ghg_definitions.proofs.Listed.{contained, listed}
use Rattle.ghg_columns.specs.Cells.{series_of, series_order}
use Rattle.ghg_search.proofs.Ordered.{key_listed}
use Rattle.ghg_search.proofs.found.Found.nodes.Goals as goal

pub nodes_of-requires : goal.nodes_of-requires
nodes_of-requires c = subst (IsStrictlySortedBy series_order) (sym c.deref.ensures.value) c.in_ok-all.ensures.order

pub returns-clause-order : goal.returns-clause-order
returns-clause-order c = c.in_ok-nodes.ensures.order

pub returns-clause-only : goal.returns-clause-only
returns-clause-only c = λ n i. (c.in_ok-nodes.ensures.only n (listed c.in_ok-nodes.nodes.items n i)).0

pub returns-clause-all : goal.returns-clause-all
returns-clause-all c = λ n some is. contained c.in_ok-nodes.nodes.items n (c.in_ok-nodes.ensures.all_found n some is
    (subst (IsListed (series_of n)) (sym (c.deref.ensures.value ∙ c.in_ok-all.ensures.series)) (key_listed (series_of n) c.args.self.now.years.entries (year_in n) is)))
