use Rattle.ghg_definitions.proofs.Entries.{inserted}
use Rattle.ghg_definitions.proofs.Keys.{key_eq, key_ties, keys_total, keys_same}
use Rattle.ghg_data.proofs.Applied.{on_ok}
use Rattle.ghg_data.proofs.holdings.put_record.Goals as goal

pub returns-clause-content : goal.returns-clause-content
returns-clause-content c =
    let updates = on_ok c.insert_full.result c.unwrap-place.result _ c.unwrap-place.ensures c.insert_full.ensures.updates in
    inserted keys_total key_eq key_ties keys_same c.args.records.now.entries c.insert_full.new.self.entries c.args.key c.args.entry updates.0
