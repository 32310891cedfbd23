use Rattle.std.proofs.Common.{ap, ◌∙◌}
use Rattle.ghg_columns.specs.Cells.{cell_at, cells_in, column_of, found_in}
use Rattle.ghg_columns.specs.Written.{column_in}
use Rattle.ghg_columns.proofs.Cellwise.{each_over}
use Rattle.ghg_columns.proofs.Overs.{only_values}
use Rattle.ghg_columns.proofs.cells.Cells.take.Goals as goal

pub returns : goal.returns
returns c =
    let fresh = c.args.fresh in
    let old = c.args.self.now in
    let new = c.take_columns.new.self in
    each_over (column_in fresh.values) (column_of old) (column_of new) (λ s y. c.take_columns.ensures s y ∙ c.take_last-columns.ensures.values s y)
    ∙ ap (λ f. found_in f (cell_at old)) (only_values (cells_in (column_in fresh.values)) fresh.over c.requires.none_over)
