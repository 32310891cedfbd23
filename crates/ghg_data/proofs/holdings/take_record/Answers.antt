use Rattle.ghg_definitions.proofs.Entries.{removed}
use Rattle.ghg_definitions.proofs.Keys.{key_eq, key_ties, keys_total, keys_same}
use Rattle.ghg_data.proofs.holdings.take_record.Goals as goal

pub returns-in_default-clause-content : goal.returns-in_default-clause-content
returns-in_default-clause-content c = removed keys_total key_eq key_ties keys_same c.args.records.now.entries _ c.args.key.now c.swap_remove_full.ensures.updates.0

pub returns-in-Some-get_index-clause-content : goal.returns-in-Some-get_index-clause-content
returns-in-Some-get_index-clause-content c = removed keys_total key_eq key_ties keys_same c.args.records.now.entries _ c.args.key.now c.swap_remove_full.ensures.updates.0

pub returns-in_default-get_index-clause-content : goal.returns-in_default-get_index-clause-content
returns-in_default-get_index-clause-content c = removed keys_total key_eq key_ties keys_same c.args.records.now.entries _ c.args.key.now c.swap_remove_full.ensures.updates.0
