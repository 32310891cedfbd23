use Rattle.std.proofs.Common.{◌≡◌, take}
use Rattle.ghg_layers.specs.Ranks.{last_of}
use Rattle.ghg_layers.proofs.ranks.last_of.Given as goal

abbrev pub invariant-loop-number : goal.invariant-loop-number
invariant-loop-number l = l.last ≡ last_of l.ranks (take l.number-index l.numbers) l.year
