use Rattle.std.proofs.Common.{true, subst}
use Rattle.ghg_data.specs.declared.calendar.Calendar.{Calendar}
use Rattle.ghg_data.specs.Calendar.{HasYearSet}
use Rattle.ghg_data.proofs.calendar.Calendar.put.Goals as goal

pub returns-then-not-put_last-clause-dates : goal.returns-then-not-put_last-clause-dates
returns-then-not-put_last-clause-dates c =
    subst (λ (old : Calendar). HasYearSet old c.put_any.new.self c.args.series c.args.year true) (c.put_last.ensures.other c.if-not-put_last.true) c.put_any.ensures.dates
