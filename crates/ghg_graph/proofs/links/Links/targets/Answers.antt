use Rattle.std.proofs.Common.{subst}
use Rattle.ghg_graph.specs.Links.{AreWithin}
use Rattle.ghg_graph.proofs.links.Links.targets.Goals as goal

pub returns-clause-within : goal.returns-clause-within
returns-clause-within c = subst AreWithin c.self.view_is c.self.invariant
