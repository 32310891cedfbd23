use Rattle.ghg_evaluation.proofs.reader.Reader.potential.Goals as goal

pub read-requires-2 : goal.read-requires-2
read-requires-2 g c = c.begin.ensures (g.R.Records.content c.self.inside.records.now) c.self.invariant.factors_are
