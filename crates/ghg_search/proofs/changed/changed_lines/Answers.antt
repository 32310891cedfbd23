use Rattle.std.proofs.Common.{◌≡◌, ◌∙◌, ◌&&◌, ◌||◌, Bool, ap, ap₂, is_some, not, sym, true}
use Rattle.std.proofs.lemmas.List.{take_all}
use Rattle.std.proofs.lemmas.List.Folds.{list_any_more}
use Rattle.std.specs.List.{list_any}
use Rattle.ghg_equations.specs.Table.{parameters}
use Rattle.ghg_equations.specs.declared.row.Param.{Param}
use Rattle.ghg_units.specs.Parameter.{is_parameter}
use Rattle.ghg_units.specs.declared.node.Node.TheVariants as node
use Rattle.ghg_affected.specs.Equalities.{same_operand}
use Rattle.ghg_data.specs.YearSet.{has_year}
use Rattle.ghg_definitions.specs.Compilation.{is_year_of}
use Rattle.ghg_definitions.specs.Data.{span}
use Rattle.ghg_definitions.proofs.Alike.{first_so}
use Rattle.ghg_graph.proofs.EquationParameters.{any_named}
use Rattle.ghg_graph.proofs.Taking.{all_left}
use Rattle.ghg_search.specs.Changed.{given_by}
use Rattle.ghg_search.proofs.Changing.{and_alike, and_more, and_off, and_on, and_rest, line_is_changed, none_changed, other_at}
use Rattle.ghg_search.proofs.changed.changed_lines.Goals as goal

pub returns-in_default : goal.returns-in_default
returns-in_default g c = λ y.
    let old = g.R.Records.content c.args.old.now in
    let new = g.S.Records.content c.args.new.now in
    and_off _ (has_year c.args.years.now y) _ (c.empty.ensures y) (none_changed old new (node.Line c.args.name.now y)
    (ap (λ o. is_some o && is_year_of (span new) y) (sym c.in_default.ensures)))

pub returns-then-not-had_equation : goal.returns-then-not-had_equation
returns-then-not-had_equation g c = λ y.
    let old = g.R.Records.content c.args.old.now in
    let new = g.S.Records.content c.args.new.now in
    and_on (has_year c.args.years.now y) _ (λ h.
    line_is_changed old new c.args.name.now y (c.requires y h).1 (c.requires y h).2 c.in-Some.id c.in-Some.ensures
    ∙ ap (λ b. not b || list_any (λ q. other_at old new c.args.name.now y q.name) (parameters c.in-Some.id)) (sym c.had_equation.ensures ∙ c.if-not-had_equation.true))

pub same_years-same-requires : goal.same_years-same-requires
same_years-same-requires g c = λ y h. (c.requires y (first_so (has_year c.args.years.now y) _ (sym (c.loop-param.invariant.1 y) ∙ h))).0

pub loop-param-preserved : goal.loop-param-preserved
loop-param-preserved g c =
    let old = g.R.Records.content c.args.old.now in
    let new = g.S.Records.content c.args.new.now in
    let name = c.args.name.now in
    let ps = c.params_of-param-items.result.now in
    let i = c.loop-param.param-index in (
      all_left (λ (q : Param). is_parameter q.name.now ≡ true) ps i c.loop-param-test.true c.loop-param.invariant.0,
      λ y. c.same_years-same.ensures y
          ∙ ap₂ (λ (a b : Bool). a && b) (c.loop-param.invariant.1 y)
          (ap₂ same_operand (ap (given_by old y) c.bound-was.ensures) (ap (given_by new y) c.bound-is.ensures))
          ∙ and_more (has_year c.args.years.now y) _ _
          ∙ ap (λ b. has_year c.args.years.now y && not b)
          (sym (list_any_more (λ (q : Param). other_at old new name y q.name.now) ps i _ c.loop-param-test.true)),
    )

pub returns : goal.returns
returns g c = λ y.
    let old = g.R.Records.content c.args.old.now in
    let new = g.S.Records.content c.args.new.now in
    let name = c.args.name.now in
    let ps = c.params_of-param-items.result.now in
    c.years_without.ensures y
    ∙ and_rest (has_year c.args.years.now y) _ _ (c.loop-param.invariant.1 y)
    ∙ and_alike (has_year c.args.years.now y) _ _ (λ h.
    ap (list_any (λ (q : Param). other_at old new name y q.name.now)) (take_all c.loop-param.param-index ps c.loop-param-test.false)
    ∙ sym (any_named (λ p. other_at old new name y p) ps)
    ∙ ap (list_any (λ q. other_at old new name y q.name)) c.params_of-param-items.ensures.table
    ∙ sym (line_is_changed old new name y (c.requires y h).1 (c.requires y h).2 c.in-Some.id c.in-Some.ensures
    ∙ ap (λ b. not b || list_any (λ q. other_at old new name y q.name) (parameters c.in-Some.id)) (sym c.had_equation.ensures ∙ c.if-not-had_equation.false)))
