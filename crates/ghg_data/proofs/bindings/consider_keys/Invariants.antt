use Rattle.std.proofs.Common.{◌≡◌, drop, flat_map, fold}
use Rattle.ghg_data.specs.Faults.{considered, key_places}
use Rattle.ghg_data.proofs.bindings.consider_keys.Given as goal

abbrev pub invariant-loop-key : goal.invariant-loop-key
invariant-loop-key l =
    fold (considered l.draft) l.least (flat_map (key_places l.draft) (drop l.key-index l.keys))
    ≡ fold (considered l.draft) l.fn.least (flat_map (key_places l.draft) l.keys)
