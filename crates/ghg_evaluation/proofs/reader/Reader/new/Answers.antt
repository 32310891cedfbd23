use Rattle.ghg_evaluation.proofs.reader.Reader.new.Goals as goal

pub invariant_of-result : goal.invariant_of-result
invariant_of-result g c =
    let m = g.R.Records.content c.args.records.now in
    record { first_is = c.first_year.ensures; line_is = c.new.ensures m; emission_is = c.new-2.ensures m; factors_are = c.new-3.ensures m }
