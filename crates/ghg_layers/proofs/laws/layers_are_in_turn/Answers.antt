use Rattle.ghg_layers.proofs.InTurn.{layers_are_in_turn}
use Rattle.ghg_layers.proofs.laws.layers_are_in_turn.Goals as goal

pub returns : goal.returns
returns c = layers_are_in_turn
