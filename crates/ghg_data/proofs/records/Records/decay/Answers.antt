use Rattle.std.proofs.Common.{sym, subst}
use Rattle.ghg_definitions.specs.Choices.{HoldsSource}
use Rattle.ghg_definitions.specs.Lookups.{decay}
use Rattle.ghg_definitions.proofs.Chosen.{sources_held}
use Rattle.ghg_data.proofs.records.Records.decay.Goals as goal

pub returns-clause-holds : goal.returns-clause-holds
returns-clause-holds g c =
    let m = g.Self.Records.content c.args.self.now in
    let source = decay m c.args.name.now c.args.year in
    subst (HoldsSource m source) (sym c.decay.ensures.input) (sources_held m c.decay.ensures.workbook source)
