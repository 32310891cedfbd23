use Rattle.std.proofs.Common.{◌<◌, length, Ok, Err, ◌∙◌, subst}
use Rattle.std.specs.List.Sorted.{IsBinarySearchResult}
use Rattle.ghg_definitions.specs.Data.{name_cmp}
use Rattle.ghg_data.proofs.Placed.{remove_place, remove_found}
use Rattle.ghg_data.proofs.names.take_name.Goals as goal

pub returns-in-Ok-clause-items : goal.returns-in-Ok-clause-items
returns-in-Ok-clause-items c = λ order.
    let name = c.args.name.now in
    let place = c.in-Ok.place in
    let same = c.deref.ensures.value in
    c.remove.ensures.items ∙ remove_found c.args.names.now.items name place order (subst (λ ys. place < length ys) same c.in-Ok.ensures.bound) (subst (λ ys. IsBinarySearchResult (λ y. name_cmp y name) ys (Ok place)) same c.in-Ok.ensures.position)

pub returns-in_default-clause-items : goal.returns-in_default-clause-items
returns-in_default-clause-items c = λ order.
    let name = c.args.name.now in
    let place = c.in_default.field-0 in
    remove_place c.args.names.now.items name place order (subst (λ ys. IsBinarySearchResult (λ y. name_cmp y name) ys (Err place)) c.deref.ensures.value c.in_default.ensures.position)
