use Rattle.std.proofs.Common.{◌∙◌, subst}
use Rattle.std.specs.List.Sorted.{IsBinarySearchResult}
use Rattle.ghg_affected.proofs.NodeOrder.{orders}
use Rattle.ghg_engine.proofs.Searched.{given_is}
use Rattle.ghg_engine.proofs.notes.is_given.Goals as goal

pub returns : goal.returns
returns c = c.is_ok.ensures.value ∙ given_is c.args.nodes.now c.requires c.args.node.now c.binary_search.result c.binary_search.ensures.bound
    (subst (λ order. IsBinarySearchResult (λ k. order k c.args.node.now) c.args.nodes.now c.binary_search.result) orders c.binary_search.ensures.position)
