use Rattle.ghg_session.proofs.session.refuse.Goals as goal

pub returns-clause-reported : goal.returns-clause-reported
returns-clause-reported g c =
    let report = rw c.as_slice.ensures.value at c.report.ensures.reported in
    rw c.refusal.ensures at report
