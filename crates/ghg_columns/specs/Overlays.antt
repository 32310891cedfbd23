-- Fresh cells over cells that are kept.
use Rattle.ghg_definitions.specs.Trials.{Outcomes}
use Rattle.ghg_columns.specs.Cells.{cell_at, found_in}
use Rattle.ghg_columns.specs.Fresh.{fresh_at}
use Rattle.ghg_columns.specs.declared.overlay.Overlay.{Overlay}

abbrev pub outcomes_of : Overlay → Outcomes
outcomes_of overlay = found_in (fresh_at overlay.fresh) (cell_at overlay.kept.now)
