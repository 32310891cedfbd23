use Rattle.std.proofs.Common.{◌∙◌, refl, sym, ap}
use Rattle.ghg_engine.specs.Proposals.{affected_count}
use Rattle.ghg_office.proofs.proposing.propose.Goals as goal

-- the proposal has the edits that were planned
pub returns-in-Ok-clause-proposed : goal.returns-in-Ok-clause-proposed
returns-in-Ok-clause-proposed g c = record {
  edits_are = refl;
  count_is = c.in-Ok.ensures.proposed.count_is ∙ ap (affected_count c.propose.new.self.content) (sym c.in-Ok.ensures.proposed.edits_are);
  made = c.in-Ok.ensures.proposed.made;
}
