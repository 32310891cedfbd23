use Rattle.std.proofs.Common.{◌<◌, get_or, refl, subst, sym}
use Rattle.ghg_graph.proofs.Searching.{closed, looked_next, looked_over, noted_in, target_small, target_taken}
use Rattle.ghg_graph.proofs.search.look.Goals as goal

pub returns-then-target-start : goal.returns-then-target-start
returns-then-target-start c = closed _ _ _ _ _ _ c.targets-target-items.result.now c.loop-target.target-index c.loop-target.invariant c.targets-target-items.ensures.targets c.loop-target-test.true c.if-target-start.true

pub note-requires : goal.note-requires
note-requires c =
    subst (λ n. get_or c.targets-target-items.result.now c.loop-target.target-index 0 < n) (sym c.loop-target.invariant.search.wide)
    (target_small c.args.links.now c.index-line.result.now c.targets-target-items.result.now c.loop-target.target-index c.targets-target-items.ensures.within c.targets-target-items.ensures.targets c.loop-target-test.true)

pub loop-target-preserved : goal.loop-target-preserved
loop-target-preserved c =
    let inv = c.loop-target.invariant in
    let links = c.args.links.now in
    let ts = c.targets-target-items.result.now in
    let target = get_or ts c.loop-target.target-index 0 in
    looked_next _ _ _ c.loop-target.search _ _ ts c.loop-target.target-index inv c.targets-target-items.ensures.targets c.note.new.search
    (noted_in links c.args.start c.loop-target.search c.args.head inv.search inv.within target
    (target_small links c.index-line.result.now ts c.loop-target.target-index c.targets-target-items.ensures.within c.targets-target-items.ensures.targets c.loop-target-test.true)
    (target_taken links c.loop-target.search.lines.items ts c.args.head c.index-line.result.now c.loop-target.target-index inv.here c.targets-target-items.ensures.targets c.loop-target-test.true)
    c.note.new.search _ refl c.in_ok-note.ensures)
    c.if-target-start.false

pub returns : goal.returns
returns c = looked_over _ _ _ _ _ _ c.targets-target-items.result.now c.loop-target.target-index c.loop-target.invariant c.targets-target-items.ensures.targets c.loop-target-test.false
