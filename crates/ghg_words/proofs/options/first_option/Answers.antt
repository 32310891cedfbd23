use Rattle.std.proofs.Common.{◌∙◌, [], map, ap, sym, string_bytes}
use Rattle.std.proofs.lemmas.List.{nil_from_length}
use Rattle.ghg_words.specs.Options.{leading}
use Rattle.ghg_words.proofs.Steps.{leading_stop, leading_one, leading_last, leading_two, leading_end}
use Rattle.ghg_words.proofs.options.first_option.Goals as goal

pub returns-in_err-word-clause-option : goal.returns-in_err-word-clause-option
returns-in_err-word-clause-option c =
    let none = nil_from_length c.args.words.now c.in_err-word.ensures.cases in
    rw (c.from_residual.ensures, none) leading_end

pub returns-in_err-name-clause-option : goal.returns-in_err-name-clause-option
returns-in_err-name-clause-option c =
    let cut = ap (map string_bytes) c.in_ok-word.ensures.cases.0 in
    let word = rw c.as_str.ensures.value at (rw c.in_err-name.was at c.option_word.ensures) in
    rw c.from_residual-in_err-name.ensures (ap leading cut ∙ leading_stop _ _ (sym word) ∙ ap (λ ws. ([], ws)) (sym cut))

pub returns-in_err-value-in-None-clause-option : goal.returns-in_err-value-in-None-clause-option
returns-in_err-value-in-None-clause-option c =
    let last = nil_from_length c.in_ok-word.after.now c.in_err-value-in-None.ensures.cases in
    let cut = rw last at (ap (map string_bytes) c.in_ok-word.ensures.cases.0) in
    let word = rw c.in-None.is at (rw c.as_str.ensures.value at (rw c.in_ok-name.was at c.option_word.ensures)) in
    rw c.from_residual-in_err-value-in-None.ensures (
    ap leading cut ∙ leading_last _ _ (sym word) ∙ ap (λ ws. ([], ws)) (sym cut))

pub returns-in-Some-clause-option : goal.returns-in-Some-clause-option
returns-in-Some-clause-option c =
    let cut = ap (map string_bytes) c.in_ok-word.ensures.cases.0 in
    let word = rw c.in-Some.is at (rw c.as_str.ensures.value at (rw c.in_ok-name.was at c.option_word.ensures)) in
    ap leading cut ∙ leading_one _ _ _ _ (sym word)

pub returns-in_ok-value-in-None-clause-option : goal.returns-in_ok-value-in-None-clause-option
returns-in_ok-value-in-None-clause-option c =
    let next = ap (map string_bytes) c.in_ok-value-in-None.ensures.cases.0 in
    let cut = rw next at (ap (map string_bytes) c.in_ok-word.ensures.cases.0) in
    let word = rw c.in-None.is at (rw c.as_str.ensures.value at (rw c.in_ok-name.was at c.option_word.ensures)) in
    rw c.as_str-in-None.ensures.value (ap leading cut ∙ leading_two _ _ _ _ (sym word))
