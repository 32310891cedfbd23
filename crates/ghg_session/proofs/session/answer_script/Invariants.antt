use Rattle.std.proofs.Common.{◌≡◌, true, false}
use Rattle.ghg_office.specs.Keeping.{KeepsAccepted}
use Rattle.ghg_session.specs.Replies.{office_step}
use Rattle.ghg_session.specs.Session.{protocol_of}
use Rattle.ghg_session.proofs.Answered.{Answered}
use Rattle.ghg_session.proofs.session.answer_script.Given as goal

abbrev pub invariant-commands : goal.invariant-commands
invariant-commands g l = record {
  session : Answered (protocol_of g.D.Dialect.forms (office_step l.environment.stored))
      (λ now asked lines. (office_step l.environment.stored now asked).is_kept ≡ false) (l.keeper ≡ l.fn.keeper)
      l.fn.office l.office (g.S.Told.tape l.fn.input) (g.S.Told.tape l.input)
      (g.W.Told.tape l.fn.out) (g.W.Told.tape l.out) l.fn.steps l.steps l.done;
  kept : l.environment.stored ≡ true
      → KeepsAccepted (g.K.Keeper.shelf l.fn.keeper) (g.K.Keeper.shelf l.keeper) l.office.accepted;
  untouched : l.environment.stored ≡ false → l.keeper ≡ l.fn.keeper;
  input_stays : (g.S.Told.tape l.input).faults ≡ (g.S.Told.tape l.fn.input).faults;
  output_stays : (g.W.Told.tape l.out).faults ≡ (g.W.Told.tape l.fn.out).faults;
  keeper_stays : (g.K.Keeper.shelf l.keeper).faults ≡ (g.K.Keeper.shelf l.fn.keeper).faults;
}
