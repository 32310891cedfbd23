use Rattle.ghg_office.proofs.Repeats.{repeats_act_once}
use Rattle.ghg_office.proofs.laws.repeats_act_once.Goals as goal

pub returns : goal.returns
returns c = repeats_act_once
