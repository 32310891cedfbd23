use Rattle.std.proofs.Common.{◌∙◌, ap, sym}
use Rattle.std.specs.BTreeMap.{is_at}
use Rattle.std.specs.Map.{lookup}
use Rattle.std.specs.Option.{unwrap_or}
use Rattle.ghg_shifts.specs.Noted.{nothing, place_order}
use Rattle.ghg_shifts.proofs.Steps.{nothing_is_noted}
use Rattle.ghg_shifts.proofs.shifts.Shifts.new.Goals as goal

pub returns-clause-noted : goal.returns-clause-noted
returns-clause-noted c old new = record {
  each = λ year on leaf. ap (λ es. unwrap_or (lookup (is_at (place_order (year, leaf))) es) nothing) c.new.ensures.empty ∙ sym (nothing_is_noted old new year leaf);
}
