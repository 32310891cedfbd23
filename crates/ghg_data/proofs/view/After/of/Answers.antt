use Rattle.std.proofs.Common.{sym, subst}
use Rattle.ghg_definitions.specs.Sound.{IsConsistent}
use Rattle.ghg_definitions.proofs.Consistent.{workbook_consistent}
use Rattle.ghg_data.specs.Changes.{applied}
use Rattle.ghg_data.proofs.view.After.of.Goals as goal

pub of-requires : goal.of-requires
of-requires c = subst (λ s. IsConsistent (applied s.content c.args.edits.now)) (sym c.holdings.ensures) (workbook_consistent c.requires.workbook)
