use Rattle.std.proofs.Common.{false, sym, ap, ◌∙◌}
use Rattle.std.specs.BTreeMap.{is_at}
use Rattle.std.specs.Option.{option_map_or}
use Rattle.ghg_columns.specs.Cells.{series_order}
use Rattle.ghg_columns.specs.contracts.series.SeriesOrd.TheImpl.Laws as laws
use Rattle.ghg_columns.proofs.written.Written.is_last.Goals as goal

pub returns-in-Some : goal.returns-in-Some
returns-in-Some c = c.eq.ensures ∙ laws.matches_eq-law c.in-Some.last c.args.series.now
    ∙ sym (ap (λ o. option_map_or (λ t. is_at (series_order t) c.args.series.now) o false) c.in-Some.is)
