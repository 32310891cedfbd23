use Rattle.std.proofs.Common.{◌≡◌, map, string_bytes, length}
use Rattle.ghg_words.specs.Options.{are_named, leading, seen, text_of}
use Rattle.ghg_words.proofs.options.Options.are_named.Given as goal

abbrev pub invariant-loop-first : goal.invariant-loop-first
invariant-loop-first l =
    are_named (map text_of l.names) (leading (map string_bytes l.rest)).0 ≡ are_named (map text_of l.names) (seen l.self)

abbrev pub decreases-loop-first : goal.decreases-loop-first
decreases-loop-first l = length l.rest
