use Rattle.std.proofs.Common.{◌∙◌, sym, ap}
use Rattle.std.specs.FinMap as finite
use Rattle.ghg_definitions.proofs.Entries.{counted}
use Rattle.ghg_definitions.proofs.Keys.{key_eq, key_ties, keys_total}
use Rattle.ghg_data.proofs.holdings.Holdings.len.Goals as goal

pub returns-clause-len : goal.returns-clause-len
returns-clause-len c = c.len.ensures.len ∙ sym (counted keys_total key_eq key_ties c.self.inside.records.entries c.len.ensures.unique) ∙ ap (λ s. finite.len s.content) c.self.view_is
