use Rattle.std.proofs.Common.{rules, ◌≡◌, refl, Some, None}
use Rattle.std.proofs.lemmas.Result.{err_from_is_err_and}
use Rattle.ghg_script.specs.declared.command.Line.TheVariants.{End, Query, Submit}
use Rattle.ghg_script.proofs.Commands.{missing_line, missing_form, found_line, found_body, missing_body, stopped_line, stopped_body}
use Rattle.ghg_script.proofs.reading.next_command.Goals as goal

pub returns-in_default-clause-parsed : goal.returns-in_default-clause-parsed
returns-in_default-clause-parsed g c = missing_line _ _ _ (rw c.in_default.is at c.in_ok-text.ensures.parsed)

pub returns-in-None-clause-parsed : goal.returns-in-None-clause-parsed
returns-in-None-clause-parsed g c =
    let read = rw c.in-Some.is at c.in_ok-text.ensures.parsed in
    let form : g.D.Dialect.forms c.in-Some.text.items ≡ None = search rules in
    missing_form _ _ _ _ read form

pub returns-in-Some-End-clause-parsed : goal.returns-in-Some-End-clause-parsed
returns-in-Some-End-clause-parsed g c =
    let read = rw c.in-Some.is at c.in_ok-text.ensures.parsed in
    let form : g.D.Dialect.forms c.in-Some.text.items ≡ Some End = search rules in
    found_line _ _ _ _ _ _ read form (λ rest. refl)

pub returns-in-Some-Query-clause-parsed : goal.returns-in-Some-Query-clause-parsed
returns-in-Some-Query-clause-parsed g c =
    let read = rw c.in-Some.is at c.in_ok-text.ensures.parsed in
    let form : g.D.Dialect.forms c.in-Some.text.items ≡ Some (Query c.in-Some-Query.query) = search rules in
    found_line _ _ _ _ _ _ read form (λ rest. refl)

pub returns-in-None-2-clause-parsed : goal.returns-in-None-2-clause-parsed
returns-in-None-2-clause-parsed g c =
    let read = rw c.in-Some.is at c.in_ok-text.ensures.parsed in
    let form : g.D.Dialect.forms c.in-Some.text.items ≡ Some (Submit c.in-Some-Submit.id c.in-Some-Submit.length) = search rules in
    missing_body _ _ _ _ _ _ _ read form (rw c.in-None-2.is at c.in_ok-read_body-in-Some-Submit.ensures.parsed)

pub returns-in-Some-2-clause-parsed : goal.returns-in-Some-2-clause-parsed
returns-in-Some-2-clause-parsed g c =
    let read = rw c.in-Some.is at c.in_ok-text.ensures.parsed in
    let form : g.D.Dialect.forms c.in-Some.text.items ≡ Some (Submit c.in-Some-Submit.id c.in-Some-Submit.length) = search rules in
    let body = rw c.in-Some-2.is at c.in_ok-read_body-in-Some-Submit.ensures.parsed in
    rw c.new-body.ensures (found_body _ _ _ _ _ _ _ _ read form body)

pub returns-in_err-text-clause-parsed : goal.returns-in_err-text-clause-parsed
returns-in_err-text-clause-parsed g c =
    let p = err_from_is_err_and c.from_residual.result c.from_residual.ensures.1 in
    rw (p.1, p.2) (stopped_line _ _ _ _ c.in_err-text.ensures.parsed)

pub returns-in_err-read_body-in-Some-Submit-clause-parsed : goal.returns-in_err-read_body-in-Some-Submit-clause-parsed
returns-in_err-read_body-in-Some-Submit-clause-parsed g c =
    let read = rw c.in-Some.is at c.in_ok-text.ensures.parsed in
    let form : g.D.Dialect.forms c.in-Some.text.items ≡ Some (Submit c.in-Some-Submit.id c.in-Some-Submit.length) = search rules in
    let p = err_from_is_err_and c.from_residual-in_err-read_body-in-Some-Submit.result c.from_residual-in_err-read_body-in-Some-Submit.ensures.1 in
    rw (p.1, p.2) (stopped_body _ _ _ _ _ _ _ _ read form c.in_err-read_body-in-Some-Submit.ensures.parsed)
