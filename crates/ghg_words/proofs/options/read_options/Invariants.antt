use Rattle.std.proofs.Common.{◌≡◌, map, string_bytes, length}
use Rattle.ghg_words.specs.Options.{leading}
use Rattle.ghg_words.proofs.options.read_options.Given as goal

abbrev pub invariant-loop-first : goal.invariant-loop-first
invariant-loop-first l = (leading (map string_bytes l.rest)).1 ≡ (leading (map string_bytes l.words)).1

abbrev pub decreases-loop-first : goal.decreases-loop-first
decreases-loop-first l = length l.rest
