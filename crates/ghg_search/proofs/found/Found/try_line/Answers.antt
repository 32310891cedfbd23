use Rattle.std.proofs.Common.{◌∙◌, inl, inr, refl, subst, sym}
use Rattle.ghg_units.specs.declared.node.Node.TheVariants as node
use Rattle.ghg_definitions.specs.Nodes.{year_in}
use Rattle.ghg_definitions.proofs.Alike.{both, first_so, second_so, so_not}
use Rattle.ghg_definitions.proofs.Depth.{or_else}
use Rattle.ghg_search.specs.Found.{is_found}
use Rattle.ghg_search.specs.Search.{IsChange}
use Rattle.ghg_data.specs.YearSet.{has_year}
use Rattle.ghg_columns.specs.declared.series.Series.TheVariants as series
use Rattle.ghg_search.proofs.Adding.{added_weaker}
use Rattle.ghg_search.proofs.Groups.{of_node}
use Rattle.ghg_search.proofs.found.Found.try_line.Goals as goal

pub changed_lines-changed-requires : goal.changed_lines-changed-requires
changed_lines-changed-requires g c = λ y h. c.requires y (first_so (has_year c.args.years.now y) _ (sym (c.missing.ensures y) ∙ h))

pub returns-clause-added : goal.returns-clause-added
returns-clause-added g c =
    let P = IsChange (g.R.Records.content c.args.old.now) (g.S.Records.content c.args.new.now) in
    added_weaker _ P _ _ (λ n of. subst P (sym (of_node (series.Line c.args.name.now) c.changed_lines-changed.result n of))
    (second_so (has_year _ (year_in n)) _ (sym (c.changed_lines-changed.ensures (year_in n)) ∙ of.1))) c.in_ok-put.ensures.added

pub returns-clause-tried : goal.returns-clause-tried
returns-clause-tried g c = λ y h e. elim (or_else (is_found c.args.self.now (series.Line c.args.name.now) y)) [
  | inl is ↦ c.in_ok-put.ensures.added.kept (node.Line c.args.name.now y) is
  | inr off ↦ c.in_ok-put.ensures.found (node.Line c.args.name.now y)
      (refl, c.changed_lines-changed.ensures y ∙ both _ _ (c.missing.ensures y ∙ both _ _ h (so_not _ off)) e)
]
