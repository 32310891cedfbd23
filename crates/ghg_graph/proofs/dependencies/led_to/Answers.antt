use Rattle.std.proofs.Common.{◌∙◌, rules, subst}
use Rattle.ghg_graph.specs.Dependencies.{IsGathered}
use Rattle.ghg_graph.proofs.Depending.{changed_present, queued_from, reached_from}
use Rattle.ghg_graph.proofs.dependencies.led_to.Goals as goal

pub spread-requires-clause-present : goal.spread-requires-clause-present
spread-requires-clause-present g c =
    let m = g.R.Records.content c.args.records.now in
    let first = c.add.new.self in
    let more = subst (λ ns. IsGathered ns c.new-gathered.result first) (c.deref.ensures.value ∙ c.in_ok-present_lines.ensures) c.in_ok-add.ensures in
    λ name i. changed_present m c.args.keys.now name (queued_from _ c.new-gathered.result first c.new-gathered.ensures.queued c.new-gathered.ensures.empty more name i)

pub returns : goal.returns
returns g c =
    let m = g.R.Records.content c.args.records.now in
    let first = c.add.new.self in
    let keys = c.spread.new.self.names.keys in
    let more = subst (λ ns. IsGathered ns c.new-gathered.result first) (c.deref.ensures.value ∙ c.in_ok-present_lines.ensures) c.in_ok-add.ensures in
    let are = reached_from _ c.new-gathered.result first c.new-gathered.ensures.queued c.new-gathered.ensures.empty more m keys
    c.in_ok-spread.ensures in
    search (rules, are)
