use Rattle.std.proofs.Common.{◌≡◌, arith, le-leb, leb-true, nat_le, subst, sym, true}
use Rattle.ghg_definitions.specs.Compilation.{is_year_of}
use Rattle.ghg_definitions.proofs.Alike.{both, second_so}
use Rattle.ghg_units.specs.Year.{earliest_year, latest_year}
use Rattle.ghg_search.proofs.Spans.{year_of_span}
use Rattle.ghg_search.proofs.edited.years_of.Goals as goal

pub returns-in-Some-clause-only : goal.returns-in-Some-clause-only
returns-in-Some-clause-only c = λ y h.
    let is = c.years_between.ensures.only y h in (
      is.0,
      subst (λ o. is_year_of o y ≡ true) (sym c.in-Some.is)
          (both _ _ (le-leb c.in-Some.span.first y is.1) (le-leb y c.in-Some.span.last (omega (arith, is.2)))),
    )

pub returns-in-Some-clause-all : goal.returns-in-Some-clause-all
returns-in-Some-clause-all c = λ y is within.
    let inside = year_of_span c.in-Some.span y (subst (λ o. is_year_of o y ≡ true) c.in-Some.is within) in
    let late = leb-true y latest_year (second_so (nat_le earliest_year y) _ is) in
    c.years_between.ensures.all y is inside.0 (omega (arith, inside.1, late))
