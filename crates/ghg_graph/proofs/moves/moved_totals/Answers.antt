use Rattle.std.proofs.Common.{◌∙◌, ap, filter}
use Rattle.std.specs.List.{list_any}
use Rattle.ghg_categories.specs.Tree.{stands_under, tree}
use Rattle.ghg_definitions.specs.Compilation.{counts_in_gross}
use Rattle.ghg_graph.specs.Moves.{crosses}
use Rattle.ghg_graph.proofs.Moving.{are_moved_by}
use Rattle.ghg_graph.proofs.moves.moved_totals.Goals as goal

pub returns : goal.returns
returns g c =
    are_moved_by (g.R.Records.content c.args.old.now) (g.S.Records.content c.args.new.now) c.args.keys.now c.requires.kept
    c.in_ok-moves.moves.items c.in_ok-moves.ensures (record { tops = c.in_ok-tops.tops; gross = c.is_moved-gross.result })
    (c.in_ok-tops.ensures
    ∙ ap (λ ls. filter (λ top. list_any (crosses (λ c. stands_under c top)) ls) tree) c.deref.ensures.value)
    (c.is_moved-gross.ensures ∙ ap (list_any (crosses counts_in_gross)) c.deref-2.ensures.value)
