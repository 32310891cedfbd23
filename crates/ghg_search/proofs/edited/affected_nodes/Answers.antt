use Rattle.std.proofs.Common.{sym}
use Rattle.ghg_units.specs.declared.node.Node.TheVariants as node
use Rattle.ghg_graph.proofs.YearNodes.{span_is}
use Rattle.ghg_search.proofs.Adding.{equivalent_kept}
use Rattle.ghg_search.proofs.Fresh.{are_kept, fresh_of_new, fresh_off, parted}
use Rattle.ghg_search.proofs.Listing.{lists, none_listed, seeds_nodes}
use Rattle.ghg_search.proofs.Unchanged.{changed_found}
use Rattle.ghg_search.proofs.edited.affected_nodes.Goals as goal

pub returns-in_default : goal.returns-in_default
returns-in_default g c =
    none_listed (g.R.Records.content c.args.old.now) (g.S.Records.content c.args.new.now) c.in_default.ensures.span c.new.result.items c.new.ensures.items

pub put_years-requires : goal.put_years-requires
put_years-requires g c =
    fresh_of_new _ _ c.in-Some.span c.span.ensures.workbook c.in-Some.ensures.span c.span-2.result c.span-2.ensures.span c.years_of-all.result c.years_of.result c.years_without-fresh.result c.years_without-kept.result c.years_of-all.ensures.only c.years_of-all.ensures.all c.years_of.ensures.only c.years_of.ensures.all c.years_without-fresh.ensures c.years_without-kept.ensures

pub try_keys-requires : goal.try_keys-requires
try_keys-requires g c =
    are_kept _ _ c.in-Some.span c.span.ensures.workbook c.in-Some.ensures.span c.span-2.result c.span-2.ensures.span c.years_of-all.result c.years_of.result c.years_without-fresh.result c.years_without-kept.result c.years_of-all.ensures.only c.years_of-all.ensures.all c.years_of.ensures.only c.years_of.ensures.all c.years_without-fresh.ensures c.years_without-kept.ensures

pub put_moved-requires-clause-years : goal.put_moved-requires-clause-years
put_moved-requires-clause-years g c =
    are_kept _ _ c.in-Some.span c.span.ensures.workbook c.in-Some.ensures.span c.span-2.result c.span-2.ensures.span c.years_of-all.result c.years_of.result c.years_without-fresh.result c.years_without-kept.result c.years_of-all.ensures.only c.years_of-all.ensures.all c.years_of.ensures.only c.years_of.ensures.all c.years_without-fresh.ensures c.years_without-kept.ensures

pub spread-requires-clause-years : goal.spread-requires-clause-years
spread-requires-clause-years g c =
    span_is (g.S.Records.content c.args.new.now) c.in-Some.span c.span.ensures.workbook (sym c.in-Some.ensures.span)

pub spread-requires-clause-queued : goal.spread-requires-clause-queued
spread-requires-clause-queued g c =
    c.in_ok-put_moved.ensures.added.queued (c.in_ok-try_keys.ensures.added.queued (c.in_ok-put_years.ensures.added.queued c.new-found.ensures.queued))

pub spread-requires-clause-nodes : goal.spread-requires-clause-nodes
spread-requires-clause-nodes g c =
    let old = g.R.Records.content c.args.old.now in
    let new = g.S.Records.content c.args.new.now in
    seeds_nodes old new c.new-found.result c.put_years.new.self c.try_keys.new.self c.put_moved.new.self c.years_without-fresh.result
    c.in_ok-put_years.ensures.added (fresh_off _ _ c.in-Some.span c.span.ensures.workbook c.in-Some.ensures.span c.span-2.result c.span-2.ensures.span c.years_of-all.result c.years_of.result c.years_without-fresh.result c.years_without-kept.result c.years_of-all.ensures.only c.years_of-all.ensures.all c.years_of.ensures.only c.years_of.ensures.all c.years_without-fresh.ensures c.years_without-kept.ensures)
    c.in_ok-try_keys.ensures.added c.in_ok-put_moved.ensures.added c.new-found.ensures.none

pub returns : goal.returns
returns g c =
    let old = g.R.Records.content c.args.old.now in
    let new = g.S.Records.content c.args.new.now in
    let fresh = c.years_without-fresh.result in
    let kept = c.years_without-kept.result in
    let seeds = c.put_moved.new.self in
    let grown = c.in_ok-put_moved.ensures.added.kept in
    lists old new c.new-found.result c.put_years.new.self c.try_keys.new.self seeds fresh
    c.in_ok-put_years.ensures.added (fresh_off _ _ c.in-Some.span c.span.ensures.workbook c.in-Some.ensures.span c.span-2.result c.span-2.ensures.span c.years_of-all.result c.years_of.result c.years_without-fresh.result c.years_without-kept.result c.years_of-all.ensures.only c.years_of-all.ensures.all c.years_of.ensures.only c.years_of.ensures.all c.years_without-fresh.ensures c.years_without-kept.ensures)
    c.in_ok-try_keys.ensures.added c.in_ok-put_moved.ensures.added c.new-found.ensures.none
    c.spread.new.self (c.in_ok-spread.ensures.affected old) c.in_ok-spread.ensures.queued c.in_ok-spread.ensures.closed c.in_ok-spread.ensures.kept
    (changed_found old new c.args.keys.now c.requires.kept c.args.index.now c.requires.index seeds fresh kept
    (parted _ _ c.in-Some.span c.span.ensures.workbook c.in-Some.ensures.span c.span-2.result c.span-2.ensures.span c.years_of-all.result c.years_of.result c.years_without-fresh.result c.years_without-kept.result c.years_of-all.ensures.only c.years_of-all.ensures.all c.years_of.ensures.only c.years_of.ensures.all c.years_without-fresh.ensures c.years_without-kept.ensures)
    (λ n is. grown n (c.in_ok-try_keys.ensures.added.kept n (c.in_ok-put_years.ensures.found n is)))
    (λ k i name year within may e. grown (node.Line name year) (c.in_ok-try_keys.ensures.lines k i name year within may e))
    (λ k i name year within may. equivalent_kept old new c.try_keys.new.self seeds name grown year
    (c.in_ok-try_keys.ensures.equivalents k i name year within may))
    c.in_ok-put_moved.ensures.totals c.in_ok-put_moved.ensures.gross) c.span.ensures.workbook
    c.in_ok-nodes.nodes.items c.in_ok-nodes.ensures.order c.in_ok-nodes.ensures.only c.in_ok-nodes.ensures.all
