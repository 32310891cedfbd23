use Rattle.std.proofs.Common.{subst}
use Rattle.std.proofs.lemmas.List.{take_all}
use Rattle.ghg_graph.specs.Dependencies.{IsGathered}
use Rattle.ghg_graph.proofs.Depending.{gathered_next, gathered_none}
use Rattle.ghg_graph.proofs.dependencies.Gathered.add.Goals as goal

pub loop-name-init : goal.loop-name-init
loop-name-init c = gathered_none c.args.self.now c.requires

pub loop-name-preserved : goal.loop-name-preserved
loop-name-preserved c =
    gathered_next c.args.names.now c.loop-name.name-index c.name-item.result c.args.self.now c.loop-name.self c.put.new.self
    c.loop-name-test.true c.name-item.is c.loop-name.invariant c.in_ok-put.ensures

pub returns : goal.returns
returns c =
    subst (λ ns. IsGathered ns c.args.self.now c.loop-name.self) (take_all c.loop-name.name-index c.args.names.now c.loop-name-test.false) c.loop-name.invariant
