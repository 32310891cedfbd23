use Rattle.std.proofs.Common.{◌∙◌, sym}
use Rattle.ghg_http.proofs.Lengths.{not_length, length_utf8, length_parsed, utf8_read, utf8_same}
use Rattle.ghg_http.proofs.fields.length_of.Goals as goal

pub returns-then-not-is_length : goal.returns-then-not-is_length
returns-then-not-is_length c = sym (not_length _ (sym c.if-not-is_length.ensures))

pub returns-in_err-ok : goal.returns-in_err-ok
returns-in_err-ok c = absurd (utf8_read c.args.value.now c.from_utf8.result _ c.from_utf8.ensures.cases
    (length_utf8 _ (sym c.if-not-is_length.ensures)) (sym c.ok.ensures.value ∙ c.in_err-ok.was))

pub returns : goal.returns
returns c =
    let same = utf8_same c.args.value.now c.from_utf8.result c.in_ok-ok.field-0 _ c.from_utf8.ensures.cases
    (sym c.ok.ensures.value ∙ c.in_ok-ok.was) in
    c.ok-2.ensures.value
    ∙ length_parsed c.args.value.now c.parse.result (sym c.if-not-is_length.ensures) (rw same at c.parse.ensures.value.0)
