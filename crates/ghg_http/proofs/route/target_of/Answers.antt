use Rattle.std.proofs.Common.{◌∙◌, sym, ap}
use Rattle.ghg_http.specs.Route.{target_of, parts_of}
use Rattle.std.specs.Prelude.{option_and_then}
use Rattle.ghg_http.proofs.route.target_of.Goals as goal

pub returns-in-Ok : goal.returns-in-Ok
unfolding target_of
returns-in-Ok c =
    let found = rw c.requires at c.in-Ok.ensures.found in
    c.parts_of.ensures ∙ sym (ap (option_and_then (λ route. parts_of route.value c.args.path.now)) found)

pub returns-in-Err : goal.returns-in-Err
unfolding target_of
returns-in-Err c =
    let missing = rw c.requires at c.in-Err.ensures.missing in
    sym (ap (option_and_then (λ route. parts_of route.value c.args.path.now)) missing)
