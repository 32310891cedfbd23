use Rattle.std.proofs.Common.{false, cond, ◌&&◌, ◌==◌, is_some, ◌∙◌, sym, ap, subst}
use Rattle.ghg_definitions.specs.Data.{figure}
use Rattle.ghg_definitions.specs.Rules.{is_other_year}
use Rattle.ghg_definitions.specs.Sound.{IsConsistent}
use Rattle.ghg_units.specs.Year.{is_year}
use Rattle.ghg_data.specs.YearSet.{has_year}
use Rattle.ghg_data.proofs.OtherYears.{answers, never_none, no_other, some_other}
use Rattle.ghg_data.proofs.draft.Draft.other_year.Goals as goal

pub returns-in-Some-last_until-clause-found : goal.returns-in-Some-last_until-clause-found
returns-in-Some-last_until-clause-found c =
    let m = c.args.self.now in
    let k = c.args.key.now in
    let year = c.in-Some.year in
    let parts = some_other (subst IsConsistent c.self.view_is c.self.invariant) k c.in-Some.series year (sym c.date_of.ensures ∙ c.in-Some.is) (has_year c.with.result)
    (λ y. c.with.ensures y ∙ ap (λ b. cond (is_year year && (y == year)) false b) (c.years.ensures y)) c.in-Some-last_until.other c.in-Some-last_until.ensures.1 in
    answers m k c.dated.result c.figure.result c.figure.ensures (ap (λ q. is_some (figure m q)) c.dated.ensures ∙ parts.0) (ap (is_other_year k) c.dated.ensures ∙ parts.1)

pub returns-in-Some-last_until-clause-none : goal.returns-in-Some-last_until-clause-none
returns-in-Some-last_until-clause-none c =
    let m = c.args.self.now in
    let k = c.args.key.now in
    let year = c.in-Some.year in
    let parts = some_other (subst IsConsistent c.self.view_is c.self.invariant) k c.in-Some.series year (sym c.date_of.ensures ∙ c.in-Some.is) (has_year c.with.result)
    (λ y. c.with.ensures y ∙ ap (λ b. cond (is_year year && (y == year)) false b) (c.years.ensures y)) c.in-Some-last_until.other c.in-Some-last_until.ensures.1 in
    never_none m k c.dated.result c.figure.result c.figure.ensures (ap (λ q. is_some (figure m q)) c.dated.ensures ∙ parts.0) _

pub returns-in-None-clause-none : goal.returns-in-None-clause-none
returns-in-None-clause-none c =
    let year = c.in-Some.year in
    no_other (subst IsConsistent c.self.view_is c.self.invariant) c.args.key.now c.in-Some.series year (sym c.date_of.ensures ∙ c.in-Some.is) (has_year c.with.result)
    (λ y. c.with.ensures y ∙ ap (λ b. cond (is_year year && (y == year)) false b) (c.years.ensures y)) c.in-None.ensures
