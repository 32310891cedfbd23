use Rattle.std.proofs.Common.{◌≡◌, ap, ◌∙◌, sym, lit<, codes, option_map, Some}
use Rattle.ghg_words.specs.Options.{option_word, name_and_value}
use Rattle.ghg_words.proofs.Words.{stripped_text, name_and_value_there, name_and_value_none}
use Rattle.ghg_words.proofs.options.option_word.Goals as goal

pub returns-in_err-text : goal.returns-in_err-text
unfolding option_word
returns-in_err-text c =
    let cut = stripped_text (codes "--") c.args.word.now c.strip_prefix.result c.strip_prefix.ensures.cases in
    rw c.from_residual.ensures (ap (option_map name_and_value) (rw c.in_err-text.was at cut))

pub returns-in-Some : goal.returns-in-Some
unfolding option_word
returns-in-Some c =
    let cut = stripped_text (codes "--") c.args.word.now c.strip_prefix.result c.strip_prefix.ensures.cases in
    let parts = c.in-Some.ensures.byte (lit< tt) (λ w o f. f) in
    let whole : Some (c.in-Some.name.now, Some c.in-Some.value.now) ≡ option_word c.args.word.now =
    ap Some (sym (name_and_value_there _ _ _ parts.0 parts.1 parts.2))
    ∙ ap (option_map name_and_value) (rw c.in_ok-text.was at cut) in whole

pub returns-in-None : goal.returns-in-None
unfolding option_word
returns-in-None c =
    let cut = stripped_text (codes "--") c.args.word.now c.strip_prefix.result c.strip_prefix.ensures.cases in
    let parts = c.in-None.ensures.byte (lit< tt) (λ w o f. f) in
    ap Some (sym (name_and_value_none _ parts))
    ∙ ap (option_map name_and_value) (rw c.in_ok-text.was at cut)
