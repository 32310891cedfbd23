use Rattle.std.proofs.Common.{None, ◌++◌, flat_map, fold, map, sym, ap, ◌∙◌, subst}
use Rattle.std.proofs.lemmas.Grind.{fold-append}
use Rattle.ghg_definitions.specs.Data.{Data}
use Rattle.ghg_data.specs.Changes.{applied}
use Rattle.ghg_data.specs.Faults.{considered, key_places}
use Rattle.ghg_data.specs.Settling.{HasLooked}
use Rattle.ghg_data.proofs.Faults.{unsound_found}
use Rattle.ghg_data.proofs.bindings.unsound_place.Goals as goal

pub returns : goal.returns
returns c =
    let n = applied c.args.holdings.now.content c.args.edits.now in
    let keys = map (λ d. d.0) c.args.edits.now in
    let draft = c.of-draft.result in
    let least = c.consider_unsettled.new.least in
    let looked = subst (λ (x : Data). HasLooked x keys None least) c.of-draft.ensures c.consider_unsettled.ensures in
    c.consider_keys.ensures
    ∙ ap (λ ks. fold (considered draft) least (flat_map (key_places draft) ks)) c.keys.ensures.keys
    ∙ ap (λ (x : Data). fold (considered x) least (flat_map (key_places x) keys)) c.of-draft.ensures
    ∙ ap (λ l. fold (considered n) l (flat_map (key_places n) keys)) looked.1
    ∙ sym (fold-append (considered n) None looked.0 (flat_map (key_places n) keys))
    ∙ unsound_found c.requires.consistent (looked.0 ++ flat_map (key_places n) keys) looked.2
