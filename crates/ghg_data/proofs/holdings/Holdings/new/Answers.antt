use Rattle.std.proofs.Common.{is_some, ◌&&◌, ◌∙◌, sym, ap}
use Rattle.std.specs.FinMap.{from_entries, get}
use Rattle.ghg_definitions.specs.Data.{key_cmp, line_names}
use Rattle.ghg_data.specs.Series.{dated}
use Rattle.ghg_units.specs.Year.{is_year}
use Rattle.ghg_data.proofs.Empty.{no_dates, no_lines}
use Rattle.ghg_data.proofs.holdings.Holdings.new.Goals as goal

pub invariant_of-result : goal.invariant_of-result
invariant_of-result c = (
  c.new.ensures.items ∙ sym (ap (λ es. line_names (from_entries {R = key_cmp} es)) c.with_hasher.ensures.empty ∙ no_lines),
  λ s y. c.new-2.ensures s y ∙ sym (ap (λ es. is_year y && is_some (get (from_entries {R = key_cmp} es) (dated s y))) c.with_hasher.ensures.empty ∙ no_dates s y),
)
