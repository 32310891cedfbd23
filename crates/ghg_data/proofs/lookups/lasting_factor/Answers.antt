use Rattle.std.proofs.Common.{◌∙◌, refl, sym, ap}
use Rattle.ghg_definitions.specs.Lookups.{given, input_of_figure, recorded}
use Rattle.ghg_data.proofs.InForce.{begun, stays_in_force, stays_out}
use Rattle.ghg_data.proofs.lookups.lasting_factor.Goals as goal

pub returns-in-Some-clause-lasting : goal.returns-in-Some-clause-lasting
returns-in-Some-clause-lasting g c = λ year after until.
    let m = g.R.Records.content c.args.records.now in
    ap (λ o. given m (recorded o)) (stays_in_force m c.args.name.now c.args.year _ (sym c.in-Some.ensures.start) c.in-Some.first refl
    c.year_before_next-last.result c.year_before_next-last.ensures.none year after until)
    ∙ sym (c.input.ensures ∙ ap input_of_figure c.figure.ensures.figure)

pub returns-in-Some-clause-year : goal.returns-in-Some-clause-year
returns-in-Some-clause-year g c =
    let m = g.R.Records.content c.args.records.now in
    (begun m c.args.name.now c.args.year _ (sym c.in-Some.ensures.start) c.in-Some.first refl, c.year_before_next-last.ensures.after)

pub returns-in-None-clause-lasting : goal.returns-in-None-clause-lasting
returns-in-None-clause-lasting g c = λ year after until.
    let m = g.R.Records.content c.args.records.now in
    ap (λ o. given m (recorded o)) (stays_out m c.args.name.now c.args.year (sym c.in-None.ensures.start)
    c.year_before_next-last.result c.year_before_next-last.ensures.none year until)
