use Rattle.std.proofs.Common.{◌≤◌, ◌<◌, length, Ok, Err, is_ok, if◌then◌else◌, ◌∙◌, ap, subst}
use Rattle.std.specs.List.{insert}
use Rattle.std.specs.List.Sorted.{IsBinarySearchResult}
use Rattle.ghg_definitions.specs.Data.{name_cmp}
use Rattle.ghg_data.proofs.Placed.{insert_place, insert_found}
use Rattle.ghg_data.proofs.names.put_name.Goals as goal

pub returns-in-Err-clause-items : goal.returns-in-Err-clause-items
returns-in-Err-clause-items c = λ order.
    let xs = c.args.names.now.items in
    let name = c.args.name.now in
    let place = c.in-Err.place in
    let same = c.deref.ensures.value in
    c.insert.ensures.items ∙ ap (λ r. if is_ok r then insert xs place name else xs) c.unwrap.ensures
    ∙ insert_place xs name place order (subst (λ ys. place ≤ length ys) same c.in-Err.ensures.bound) (subst (λ ys. IsBinarySearchResult (λ y. name_cmp y name) ys (Err place)) same c.in-Err.ensures.position)

pub returns-in_default-clause-items : goal.returns-in_default-clause-items
returns-in_default-clause-items c = λ order.
    let name = c.args.name.now in
    let place = c.in_default.field-0 in
    let same = c.deref.ensures.value in
    insert_found c.args.names.now.items name place order (subst (λ ys. place < length ys) same c.in_default.ensures.bound) (subst (λ ys. IsBinarySearchResult (λ y. name_cmp y name) ys (Ok place)) same c.in_default.ensures.position)
