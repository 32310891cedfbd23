use Rattle.std.proofs.Common.{◌≡◌, ◌∙◌, ◌+◌, ◌<◌, ◌≤◌, ap, length, map, take, sym, is_some, Bor, ℕ, List}
use Rattle.std.specs.List.{list_all}
use Rattle.std.proofs.lemmas.List.{length-map}
use Rattle.ghg_units.specs.Name.{plain_name_in}
use Rattle.ghg_units.specs.WellFormed.{are_different}
use Rattle.ghg_units.specs.declared.names.TheConstants.{MOST_NAMES}
use Rattle.ghg_import.specs.Forms.{parts_of}
use Rattle.ghg_import.proofs.Sums.{all_parts, named, no_names, none_named, repeated_name, some_named, strange_name, too_many}
use Rattle.ghg_import.proofs.sum.names_named.Goals as goal

abbrev texts_of : List (Bor (List ℕ)) → List (List ℕ)
texts_of parts = map (λ (part : Bor (List ℕ)). part.now) parts

as_many : (parts : List (Bor (List ℕ))) (n : ℕ) → n ≡ length parts → n ≡ length (texts_of parts)
as_many parts n e = e ∙ sym (length-map parts (λ (part : Bor (List ℕ)). part.now))

whole : (text : List ℕ) (parts seen : List (Bor (List ℕ))) (n : ℕ) → texts_of parts ≡ take (MOST_NAMES + 1) (parts_of text) → n ≡ length parts → n ≤ MOST_NAMES → seen ≡ parts → (texts_of seen ≡ parts_of text) × (length (texts_of seen) ≤ MOST_NAMES)
whole text parts seen n first len few same =
    let small : length (texts_of parts) ≤ MOST_NAMES = rw (← as_many parts n len) few in
    (ap texts_of same ∙ all_parts (parts_of text) (texts_of parts) first small, rw same small)

pub returns-then-len-gt-MOST_NAMES : goal.returns-then-len-gt-MOST_NAMES
returns-then-len-gt-MOST_NAMES c =
    let many : MOST_NAMES < length (texts_of c.in_ok-parts.parts.items) = rw (← as_many c.in_ok-parts.parts.items c.len.result (c.len.ensures ∙ c.in_ok-parts.parts.ok.0)) c.if-len-gt-MOST_NAMES.true in
    no_names c.args.text.now (too_many (parts_of c.args.text.now) _ c.in_ok-parts.ensures many)

pub returns-in_default : goal.returns-in_default
returns-in_default c =
    let all = whole c.args.text.now c.in_ok-parts.parts.items c.deref.result.now c.len.result c.in_ok-parts.ensures (c.len.ensures ∙ c.in_ok-parts.parts.ok.0) c.if-len-gt-MOST_NAMES.false c.deref.ensures.value in
    let strange = none_named (λ v. v.items) _ _ c.in_ok-names.field-0 c.in_ok-names.ensures c.in_default.is in
    no_names c.args.text.now (strange_name (parts_of c.args.text.now) (ap (list_all (λ name. is_some (plain_name_in name))) (sym all.0) ∙ strange))

pub returns-then-not-branch : goal.returns-then-not-branch
returns-then-not-branch c =
    let all = whole c.args.text.now c.in_ok-parts.parts.items c.deref.result.now c.len.result c.in_ok-parts.ensures (c.len.ensures ∙ c.in_ok-parts.parts.ok.0) c.if-len-gt-MOST_NAMES.false c.deref.ensures.value in
    let read = some_named (λ v. v.items) _ _ c.in_ok-names.field-0 c.in-Some.names c.in_ok-names.ensures c.in-Some.is in
    no_names c.args.text.now (repeated_name (parts_of c.args.text.now) (ap are_different (sym (c.deref-2.ensures.value ∙ read.1 ∙ all.0)) ∙ sym c.in_ok-are_different.ensures ∙ c.if-not-branch.true))

pub returns : goal.returns
returns c =
    let all = whole c.args.text.now c.in_ok-parts.parts.items c.deref.result.now c.len.result c.in_ok-parts.ensures (c.len.ensures ∙ c.in_ok-parts.parts.ok.0) c.if-len-gt-MOST_NAMES.false c.deref.ensures.value in
    let read = some_named (λ v. v.items) _ _ c.in_ok-names.field-0 c.in-Some.names c.in_ok-names.ensures c.in-Some.is in
    named c.args.text.now (texts_of c.deref.result.now) c.new.result all.0 all.1 read.0 (c.new.ensures ∙ read.1) (ap are_different (c.new.ensures ∙ sym c.deref-2.ensures.value) ∙ sym c.in_ok-are_different.ensures ∙ c.if-not-branch.false)
