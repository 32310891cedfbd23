use Rattle.std.proofs.Common.{◌≡◌, map, string_bytes, length}
use Rattle.ghg_words.specs.Options.{leading, seen, value_of}
use Rattle.ghg_words.proofs.options.Options.value_of.Given as goal

abbrev pub invariant-loop-first : goal.invariant-loop-first
invariant-loop-first l = value_of l.name (leading (map string_bytes l.rest)).0 ≡ value_of l.name (seen l.self)

abbrev pub decreases-loop-first : goal.decreases-loop-first
decreases-loop-first l = length l.rest
