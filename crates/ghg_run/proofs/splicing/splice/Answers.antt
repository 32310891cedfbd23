use Rattle.std.proofs.Common.{inl, inr, refl}
use Rattle.ghg_outer.proofs.Counts.{count_stays, counted_none, counted_on, counted_told}
use Rattle.ghg_run.proofs.Known.{spliced_input, stops_no_output}
use Rattle.ghg_run.proofs.splicing.splice.Goals as goal

pub returns-in-Ok-clause-run : goal.returns-in-Ok-clause-run
returns-in-Ok-clause-run g c =
    let told = rw c.deref.ensures.value at c.report_spliced.ensures.told in
    let holds = rw c.deref.ensures.value at c.report_spliced.ensures.holds in
    inl (c.in-Ok.series.items, c.in-Ok.ensures.read, told, holds)

pub returns-in-Ok-clause-input : goal.returns-in-Ok-clause-input
returns-in-Ok-clause-input g c =
    counted_on _ _ _ _ (count_stays _ _ _ (λ e. cc) c.in-Ok.ensures.counted)
    (counted_none _ _ (spliced_input _ _ _ _ c.report_spliced.ensures.told))

pub returns-in-Err-clause-run : goal.returns-in-Err-clause-run
returns-in-Err-clause-run g c = inr (c.in-Err.ensures.read, refl)

pub returns-in-Err-clause-input : goal.returns-in-Err-clause-input
returns-in-Err-clause-input g c = counted_told _ _ _ _ c.in-Err.ensures.counted

pub returns-in-Err-clause-output : goal.returns-in-Err-clause-output
returns-in-Err-clause-output g c = counted_none _ _ (stops_no_output _ _ _ c.in-Err.ensures.read)
