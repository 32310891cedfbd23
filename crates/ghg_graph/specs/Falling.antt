-- Numbers of lines that do not rise from a line to those that it takes.
use Rattle.std.specs.Prelude.{ℕ, ◌≤◌, List, slice_index_or}
use Rattle.ghg_graph.specs.Links.{IsLink, Links}

-- no line takes one of a greater number
abbrev pub IsFalling : Links → List ℕ → Type 0
IsFalling links numbers = (line target : ℕ) → IsLink links line target → slice_index_or numbers target 0
    ≤ slice_index_or numbers line 0
