use Rattle.std.proofs.Common.{◌≡◌, true, [], ◌++◌, flat_map, map, refl, sym, subst}
use Rattle.ghg_definitions.specs.Data.{Data, line_names}
use Rattle.ghg_definitions.specs.declared.place.Place.{Place}
use Rattle.ghg_definitions.specs.Listed.{IsListed}
use Rattle.ghg_data.specs.Faults.{is_fault, key_places, line_places}
use Rattle.ghg_data.specs.Settling.{IsSettled}
use Rattle.ghg_data.proofs.Covered.{covered}
use Rattle.ghg_data.proofs.Settled.{settled_faults}
use Rattle.ghg_data.proofs.bindings.consider_unsettled.Goals as goal

pub returns-then-unsettles : goal.returns-then-unsettles
returns-then-unsettles c =
    let m = c.args.holdings.now.content in
    let cs = c.args.edits.now in (
      flat_map (line_places m) (line_names m),
      c.consider_lines.ensures,
      subst (λ (n : Data). (p : Place) → is_fault n p ≡ true → IsListed p (flat_map (line_places m) (line_names m) ++ flat_map (key_places n) (map (λ d. d.0) cs))) (sym c.requires.draft) (covered m c.requires.workbook cs),
    )

pub returns-else-unsettles : goal.returns-else-unsettles
returns-else-unsettles c =
    let m = c.args.holdings.now.content in
    let cs = c.args.edits.now in
    let settled = c.unsettles.ensures.0 c.if-unsettles.false in (
      [],
      refl,
      subst (λ (n : Data). (p : Place) → is_fault n p ≡ true → IsListed p (flat_map (key_places n) (map (λ d. d.0) cs))) (sym c.requires.draft)
          (settled_faults m c.requires.workbook cs (subst (IsSettled m) c.requires.draft settled)),
    )
