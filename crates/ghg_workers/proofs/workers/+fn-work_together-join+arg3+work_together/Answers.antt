use Rattle.std.proofs.Common.{ap}
use Rattle.ghg_workers.proofs.Wholes.{whole_both}
use Rattle.ghg_workers.proofs.workers.+fn-work_together-join+arg3+work_together.Goals as goal

pub returns-clause-entries : goal.returns-clause-entries
returns-clause-entries g t c =
    whole_both (g.N.Layer.outcome c.args.task.now.layer.now) (g.N.Layer.count c.args.task.now.layer.now) _ _ _
    c.join-other.result.1.0 c.join-other.result.0.0 c.join.new.pass c.both.ensures
    c.join-other.ensures.second.1 c.join-other.ensures.first.1
    (ap (λ p. p.claimed) c.join.ensures) (ap (λ p. p.misses) c.join.ensures)
