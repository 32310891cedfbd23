use Rattle.std.proofs.Common.{◌≡◌}
use Rattle.ghg_review.specs.Replies.{review}
use Rattle.ghg_session.proofs.Answered.{Answered}
use Rattle.ghg_review.proofs.session.answer_review.Given as goal

abbrev pub invariant-commands : goal.invariant-commands
invariant-commands g l = record {
  session : Answered review (λ now asked lines. Unit {0}) (Unit {0}) l.fn.desk l.desk
      (g.S.Told.tape l.fn.input) (g.S.Told.tape l.input)
      (g.W.Told.tape l.fn.out) (g.W.Told.tape l.out) l.fn.steps l.steps l.done;
  input_stays : (g.S.Told.tape l.input).faults ≡ (g.S.Told.tape l.fn.input).faults;
  output_stays : (g.W.Told.tape l.out).faults ≡ (g.W.Told.tape l.fn.out).faults;
}
