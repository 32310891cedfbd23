use Rattle.std.proofs.Common.{arith, ap, inl, refl}
use Rattle.std.proofs.lemmas.List.Elements.{All-tail}
use Rattle.ghg_outer.specs.Doors.{IsFreshLink}
use Rattle.ghg_outer.proofs.memory_door.MemoryDoorDoor.next.Goals as goal

pub invariant_of-self-in-Some : goal.invariant_of-self-in-Some
invariant_of-self-in-Some c = (
  omega (arith, c.in-Some.ensures.len, c.self.invariant.0),
  All-tail IsFreshLink c.in-Some.link _ (rw c.in-Some.ensures.items at c.self.invariant.1),
)

pub returns-in-None-clause-counted : goal.returns-in-None-clause-counted
returns-in-None-clause-counted c =
    let before = ap (λ door. door.plan.faults) c.self.view_is in
    let listed = c.next_call.ensures.faults.later in
    record {
      later = omega (arith, before, listed, c.fail.ensures.faults.later);
      rose = λ _. omega (arith, before, listed, c.fail.ensures.faults.rose tt);
      stays = inl refl;
    }
