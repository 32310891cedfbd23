use Rattle.std.proofs.Common.{◌≡◌, ◌++◌, ◌∷◌, [], ◌∙◌, ap, length, map, arith, length-append}
use Rattle.std.proofs.lemmas.List.{length-map, map-append}
use Rattle.std.specs.Str.{bytes_eq}
use Rattle.indexmap.proofs.CallerLemmas.{insert_entry-new}
use Rattle.ghg_office.specs.Accepted.{entry_row, kept_bytes, kept_from}
use Rattle.ghg_office.proofs.Kept.{kept_bytes-push, missing}
use Rattle.ghg_office.proofs.accepted.Accepted.push.Goals as goal

-- the map has one more entry, at its end
longer : (c : goal.After-len) → c.insert.new.self.entries ≡ c.self.inside.bodies.entries ++ ((c.args.id, c.args.body) ∷ [])
longer c =
    let old = c.self.inside.bodies in
    let none = missing 1 c.args.id old.entries (ap (λ a. kept_from 1 c.args.id a.list) c.self.view_is ∙ c.requires.new_id) in
    rw c.unwrap.ensures at c.insert.ensures.entries ∙ insert_entry-new bytes_eq old c.args.id c.args.body none

-- and so has the list
added : (c : goal.After-len) → map entry_row c.insert.new.self.entries ≡ c.args.self.now.list ++ (record { id = c.args.id; body = c.args.body } ∷ [])
added c =
    ap (map entry_row) (longer c) ∙ map-append entry_row c.self.inside.bodies.entries ((c.args.id, c.args.body) ∷ [])
    ∙ ap (λ a. a.list ++ (record { id = c.args.id; body = c.args.body } ∷ [])) c.self.view_is

pub invariant_of-self : goal.invariant_of-self
invariant_of-self c =
    let sum = ap kept_bytes (added c) ∙ kept_bytes-push c.args.self.now.list (record { id = c.args.id; body = c.args.body }) in
    let before = ap (λ a. kept_bytes a.list) c.self.view_is in
    let body = ap length c.as_slice.ensures in
    (omega (arith, sum, before, body), omega (arith, before, body), omega (arith, c.len.ensures.len))

pub returns-clause-list : goal.returns-clause-list
returns-clause-list c = added c

pub returns-clause-seq : goal.returns-clause-seq
returns-clause-seq c =
    let view = ap (λ a. length a.list) c.self.view_is in
    let mapped = length-map c.self.inside.bodies.entries entry_row in
    omega (arith, c.len.ensures.len, ap length (longer c), length-append c.self.inside.bodies.entries ((c.args.id, c.args.body) ∷ []), view, mapped)
