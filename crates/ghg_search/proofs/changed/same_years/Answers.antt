use Rattle.std.proofs.Common.{◌∙◌, ap, ap₂, not, option_copied, ℕ}
use Rattle.ghg_affected.specs.Equalities.{same_operand}
use Rattle.ghg_definitions.specs.Compilation.{bound_to}
use Rattle.ghg_definitions.specs.Formulas.{map_operand}
use Rattle.ghg_definitions.specs.Lookups.{given}
use Rattle.ghg_search.specs.Changed.{given_by}
use Rattle.ghg_search.proofs.Changing.{not_not}
use Rattle.ghg_search.proofs.Filtering.{filtered_all, filtered_more, filtered_none}
use Rattle.ghg_search.proofs.changed.same_years.Goals as goal

pub loop-year-init : goal.loop-year-init
loop-year-init g c =
    filtered_none (λ y. same_operand (given_by (g.R.Records.content c.args.old.now) y (option_copied c.args.was))
    (given_by (g.S.Records.content c.args.new.now) y (option_copied c.args.is)))
    c.args.years.now c.empty-same.result c.requires c.empty-same.ensures

pub loop-year-preserved : goal.loop-year-preserved
loop-year-preserved g c =
    let old = g.R.Records.content c.args.old.now in
    let new = g.S.Records.content c.args.new.now in
    let at_old = λ (f : ℕ). map_operand (given old) (bound_to old f c.in-Some.year (option_copied c.args.was)) in
    let at_new = λ (f : ℕ). map_operand (given new) (bound_to new f c.in-Some.year (option_copied c.args.is)) in
    filtered_more (λ y. same_operand (given_by old y (option_copied c.args.was)) (given_by new y (option_copied c.args.is)))
    c.args.years.now c.loop-year.same c.with-same.result c.loop-year.last c.in-Some.year (not c.differ.result) c.requires
    c.loop-year.invariant c.in-Some.ensures.0 c.in-Some.ensures.1 c.in-Some.ensures.2
    (ap not c.differ.ensures ∙ not_not _ ∙ ap₂ same_operand (c.bound_operand-gave.ensures.operand ∙ ap at_old c.first_year-before.ensures)
    (c.bound_operand-gives.ensures.operand ∙ ap at_new c.first_year-first.ensures)) c.with-same.ensures

pub returns : goal.returns
returns g c =
    filtered_all (λ y. same_operand (given_by (g.R.Records.content c.args.old.now) y (option_copied c.args.was))
    (given_by (g.S.Records.content c.args.new.now) y (option_copied c.args.is)))
    c.args.years.now c.loop-year.same c.loop-year.last c.loop-year.invariant c.in_default.ensures
