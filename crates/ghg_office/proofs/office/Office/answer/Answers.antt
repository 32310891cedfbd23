use Rattle.ghg_outer.proofs.Counts.{counted_none}
use Rattle.ghg_office.specs.Office.{submitted}
use Rattle.ghg_office.proofs.Requests.{shows_answers, shows_may_fail, shows_no_fault, submit_may_fail, to_append}
use Rattle.ghg_office.proofs.office.Office.answer.Goals as goal

pub returns-in-Submit-clause-failure : goal.returns-in-Submit-clause-failure
returns-in-Submit-clause-failure g c =
    rw c.in-Submit.is (submit_may_fail c.args.stored _ _ _ _ c.submit.ensures.memory c.submit.ensures.fault)

pub returns-in-Submit-clause-store : goal.returns-in-Submit-clause-store
returns-in-Submit-clause-store g c =
    λ e. (to_append c.args.stored (submitted c.args.self.now c.in-Submit.id.now c.in-Submit.body.now) (c.submit.ensures.fault e)).0

pub returns-in-Show-clause-answer : goal.returns-in-Show-clause-answer
returns-in-Show-clause-answer g c = rw c.in-Show.is (shows_answers c.args.self.now _ _ c.show.ensures.table)

pub returns-in-Show-clause-failure : goal.returns-in-Show-clause-failure
returns-in-Show-clause-failure g c =
    rw c.in-Show.is (shows_may_fail c.args.self.now _ _ _ c.show.ensures.table c.show.ensures.memory)

pub returns-in-Show-clause-store : goal.returns-in-Show-clause-store
returns-in-Show-clause-store g c = λ e. absurd (shows_no_fault c.args.self.now _ _ _ c.show.ensures.table e)

pub returns-in-Show-clause-faults : goal.returns-in-Show-clause-faults
returns-in-Show-clause-faults g c = counted_none _ _ (shows_no_fault c.args.self.now _ _ _ c.show.ensures.table)
