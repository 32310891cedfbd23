use Rattle.std.proofs.Common.{◌≡◌, true, sym, subst, ◌∙◌}
use Rattle.ghg_office.specs.Office.{requested}
use Rattle.ghg_versions.specs.Desk.{answered}
use Rattle.ghg_versions.specs.Replies.{takes_memory_for}
use Rattle.ghg_versions.proofs.Replying.{memory_is, requested_takes}
use Rattle.ghg_versions.proofs.desk.Desk.step.Goals as goal

pub returns-in-Show-clause-memory : goal.returns-in-Show-clause-memory
unfolding answered
returns-in-Show-clause-memory g c =
    let e = rw c.as_slice.ensures at c.show.ensures in
    rw c.in-Show.is (λ m. subst (λ s. takes_memory_for (requested s.office c.in-Show.table c.in-Show.year) ≡ true) c.self.view_is
    (requested_takes _ _ _ (e.memory (memory_is _ (sym c.office_reply.ensures ∙ m)))))
