use Rattle.std.proofs.Common.{Ok, ap, ap₂}
use Rattle.std.proofs.Math.Path.{fun_ext}
use Rattle.std.specs.Option.{option_map}
use Rattle.ghg_definitions.specs.Nodes.{year_in}
use Rattle.ghg_columns.specs.Cells.{found_in, series_of, value_at}
use Rattle.ghg_columns.proofs.Overs.{none_over}
use Rattle.ghg_columns.proofs.fresh.FreshCells.new.Goals as goal

pub returns : goal.returns
returns c = ap₂ found_in (fun_ext (λ n. ap (λ o. option_map Ok (value_at o (year_in n))) (c.new.ensures (series_of n)))) (none_over c.new-2.result c.new-2.ensures.empty)
