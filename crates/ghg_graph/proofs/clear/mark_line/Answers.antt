use Rattle.std.proofs.Common.{◌≡◌, ◌∙◌, nat_lt, subst, sym, true}
use Rattle.std.specs.Prelude.{slice_index_or}
use Rattle.std.specs.List.{list_all}
use Rattle.ghg_graph.specs.Links.{targets_of}
use Rattle.ghg_graph.proofs.Falling.{clear_more, falls_clear}
use Rattle.ghg_graph.proofs.clear.mark_line.Goals as goal

pub returns-then-are_below : goal.returns-then-are_below
returns-then-are_below c =
    let links = c.args.links.now in
    let numbers = c.args.numbers.now in
    clear_more links c.args.marks.now.items c.args.line c.requires.clear (falls_clear links numbers c.requires.falling c.args.line
    (subst (λ b. list_all (λ t. nat_lt (slice_index_or numbers t 0) b) (targets_of links c.args.line) ≡ true) c.at.ensures
    (sym c.are_below.ensures ∙ c.if-are_below.true)))
