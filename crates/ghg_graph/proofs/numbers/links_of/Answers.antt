use Rattle.std.proofs.Common.{◌∙◌, ◌+◌, ◌<◌, [], length, map, ap, subst, length-append}
use Rattle.std.proofs.lemmas.List.{get_or_default, length-map, map-append}
use Rattle.ghg_graph.specs.Numbers.{AreNumbers, lines_taken, name_at}
use Rattle.ghg_graph.proofs.LineNumbers.{all_within, links_more, same_number}
use Rattle.ghg_graph.proofs.numbers.links_of.Goals as goal

pub loop-line-preserved : goal.loop-line-preserved
loop-line-preserved g c =
    let m = g.R.Records.content c.args.records.now in
    let lines = c.args.lines.now in
    let n = c.loop-line.line-index in
    let line = c.line-item.is ∙ get_or_default lines n c.line-item.result [] c.loop-line-test.true in (
      ap length c.in_ok-push.ensures.items ∙ length-append c.loop-line.targets.items _ ∙ ap (λ k. k + 1) c.loop-line.invariant.0,
      links_more lines (λ k. lines_taken c.args.before m (name_at lines k)) _ _ c.in_ok-targets_of.field-0.items n (length-map c.loop-line.targets.items _ ∙ c.loop-line.invariant.0) c.loop-line.invariant.1
          (subst (λ name. AreNumbers lines c.in_ok-targets_of.field-0.items (lines_taken c.args.before m name)) line c.in_ok-targets_of.ensures)
          (ap (map (λ targets. targets.items)) c.in_ok-push.ensures.items ∙ map-append _ c.loop-line.targets.items _),
    )

pub new-requires : goal.new-requires
new-requires g c =
    let lines = c.args.lines.now in
    let lists = map (λ targets. targets.items) c.loop-line.targets.items in
    let count = length-map c.loop-line.targets.items _ ∙ c.loop-line.invariant.0 in
    all_within lines (λ k. lines_taken c.args.before (g.R.Records.content c.args.records.now) (name_at lines k)) lists (count ∙ same_number _ _ c.loop-line.auto.line-index-end c.loop-line-test.false) (λ k h. c.loop-line.invariant.1 k (subst (λ n. k < n) count h))
