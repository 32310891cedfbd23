use Rattle.std.proofs.Common.{◌∙◌, ◌&&◌, ap, ap₂, is_some, not, sym}
use Rattle.ghg_units.specs.declared.node.Node.TheVariants as node
use Rattle.ghg_affected.specs.Equalities.{same_input}
use Rattle.ghg_data.specs.YearSet.{has_year}
use Rattle.ghg_definitions.specs.Compilation.{is_year_of, potential}
use Rattle.ghg_definitions.specs.Data.{span}
use Rattle.ghg_definitions.specs.Lookups.{factor_input, given}
use Rattle.ghg_search.proofs.Changing.{and_alike, and_off, and_on, equivalent_is_changed, none_changed, not_not, other_potential}
use Rattle.ghg_search.proofs.Filtering.{filtered_all, filtered_more, filtered_none}
use Rattle.ghg_search.proofs.changed.changed_equivalents.Goals as goal

pub returns-in_default : goal.returns-in_default
returns-in_default g c = λ y.
    let old = g.R.Records.content c.args.old.now in
    let new = g.S.Records.content c.args.new.now in
    and_off _ (has_year c.args.years.now y) _ (c.empty.ensures y) (none_changed old new (node.Equiv c.args.name.now y)
    (ap (λ o. is_some o && is_year_of (span new) y) (sym c.in_default.ensures)))

pub returns-in_default-line_gas : goal.returns-in_default-line_gas
returns-in_default-line_gas g c = λ y.
    let old = g.R.Records.content c.args.old.now in
    let new = g.S.Records.content c.args.new.now in
    and_on (has_year c.args.years.now y) _ (λ h.
    equivalent_is_changed old new c.args.name.now y (c.requires y h).1 (c.requires y h).2 (sym (ap is_some c.in-Some.ensures))
    _ (ap is_some c.in_default-line_gas.ensures))

pub loop-year-init : goal.loop-year-init
loop-year-init g c =
    filtered_none (other_potential (g.R.Records.content c.args.old.now) (g.S.Records.content c.args.new.now) c.args.name.now)
    c.args.years.now c.empty-changed.result (λ y h. (c.requires y h).0) c.empty-changed.ensures

pub loop-year-preserved : goal.loop-year-preserved
loop-year-preserved g c =
    let old = g.R.Records.content c.args.old.now in
    let new = g.S.Records.content c.args.new.now in
    let year = c.in-Some-first_after.year in
    filtered_more (other_potential old new c.args.name.now)
    c.args.years.now c.loop-year.changed c.with-changed.result c.loop-year.last year c.inputs_differ-differs.result (λ y h. (c.requires y h).0)
    c.loop-year.invariant c.in-Some-first_after.ensures.0 c.in-Some-first_after.ensures.1 c.in-Some-first_after.ensures.2
    (c.inputs_differ-differs.ensures ∙ ap not (ap₂ same_input
    (c.factor.ensures.input ∙ ap (λ n. factor_input old n year) c.potential-was.ensures ∙ ap (λ o. given old (potential old year o)) c.in-Some-line_gas.ensures)
    (c.factor-in-Some-first_after.ensures.input ∙ ap (λ n. factor_input new n year) c.potential-is.ensures ∙ ap (λ o. given new (potential new year o)) c.in-Some.ensures))) c.with-changed.ensures

pub returns : goal.returns
returns g c = λ y.
    let old = g.R.Records.content c.args.old.now in
    let new = g.S.Records.content c.args.new.now in
    filtered_all (other_potential old new c.args.name.now) c.args.years.now c.loop-year.changed c.loop-year.last c.loop-year.invariant
    c.in_default-first_after.ensures y
    ∙ and_alike (has_year c.args.years.now y) _ _ (λ h. sym (
    equivalent_is_changed old new c.args.name.now y (c.requires y h).1 (c.requires y h).2 (sym (ap is_some c.in-Some.ensures))
    _ (ap is_some c.in-Some-line_gas.ensures) ∙ not_not _))
