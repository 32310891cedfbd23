use Rattle.std.proofs.Common.{◌∙◌, sym}
use Rattle.ghg_words.proofs.Numbers.{number_not_parsed}
use Rattle.ghg_words.proofs.values.number_within.Goals as goal

pub returns-in_err-number-clause-value : goal.returns-in_err-number-clause-value
returns-in_err-number-clause-value c =
    let all = sym (rw c.as_bytes.ensures.value at c.if-not-all_digits.ensures) in
    let none = number_not_parsed c.args.low c.args.high c.args.text.now c.parse.result c.parse.ensures.value.0 all
    c.ranges.high.fits (sym c.ok.ensures.value ∙ c.in_err-number.was) in
    c.from_residual.ensures ∙ sym none
