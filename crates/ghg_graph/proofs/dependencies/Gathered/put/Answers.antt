use Rattle.std.proofs.Common.{◌∙◌, ◌+◌, if◌then◌else◌, ap}
use Rattle.std.specs.BTreeSet.{btree_set_len}
use Rattle.ghg_graph.proofs.Depending.{gathered_new}
use Rattle.ghg_graph.proofs.dependencies.Gathered.put.Goals as goal

pub returns-in_ok-push : goal.returns-in_ok-push
returns-in_ok-push c =
    let old = c.args.self.now in
    let set = c.in_ok-insert.ensures in
    gathered_new old (record { names = c.insert.new.self; queue = c.push.new.self }) c.args.name c.requires set.ordered
    (set.len ∙ ap (λ b. btree_set_len old.names + (if b then 1 else 0)) c.if-branch.true)
    set.updates c.in_ok-push.ensures.items
