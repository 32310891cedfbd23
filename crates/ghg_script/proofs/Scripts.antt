-- What follows END changes nothing, and no bytes begin with two scripts.
use Rattle.std.proofs.Common.{◌≡◌, ℕ, List, ◌++◌, ◌∙◌, ap, sym, None}
use Rattle.std.proofs.lemmas.List.{append_cancel_right}
use Rattle.ghg_script.specs.Commands.{Forms, commands_of}
use Rattle.ghg_script.specs.Reading.{IsScriptOf, Reading, ReadsLocally, ReadsOnce, most_commands, reading_of, with_more}
use Rattle.ghg_script.specs.declared.command.Request.{Request}
use Rattle.ghg_script.proofs.Commands.{command_locally}
use Rattle.ghg_script.proofs.Readings.{reads_on}

pub reads_locally : {Q : Type 0} (forms : Forms Q) → ReadsLocally forms
reads_locally forms bytes more h = reads_on (commands_of forms) (command_locally forms) most_commands 1 bytes more h

pub reads_once : {Q : Type 0} (forms : Forms Q) → ReadsOnce forms
reads_once {Q} forms a b behind_a behind_b xs ys s t e =
    let both = sym (behind a behind_a xs s) ∙ ap (reading_of (commands_of forms)) e ∙ behind b behind_b ys t in
    let same : behind_a ≡ behind_b = ap (λ (r : Reading (Request Q)). r.rest) both in (
      append_cancel_right a b behind_b (ap (λ (l : List ℕ). a ++ l) (sym same) ∙ e),
      ap (λ (r : Reading (Request Q)). r.requests) both,
    )
  where
    behind : (text rest : List ℕ) (requests : List (Request Q)) → IsScriptOf (commands_of forms) text requests
        → reading_of (commands_of forms) (text ++ rest) ≡ record { requests = requests; wrong = None; rest = rest }
    behind text rest requests is = reads_locally forms text rest (ap (λ (r : Reading (Request Q)). r.wrong) is) ∙ ap (with_more rest) is
