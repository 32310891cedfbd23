use Rattle.std.proofs.Common.{◌≡◌, true, false, IfSome}
use Rattle.ghg_office.specs.Keeping.{KeepsAccepted}
use Rattle.ghg_office.specs.Laws.{IsInForce}
use Rattle.ghg_run.specs.Serve.{office_at, register_of}
use Rattle.ghg_run.proofs.Links.{ServedSoFar, station}
use Rattle.ghg_run.proofs.serving.serve_office.Given as goal

abbrev pub invariant-links : goal.invariant-links
invariant-links g l = record {
  served : ServedSoFar l.environment.stored
      (station (office_at l.fn.office l.fn.steps (g.K.Keeper.shelf l.fn.keeper).faults)
      (register_of g.D.Link.Told.tape (g.D.Door.register l.fn.door)))
      (station (office_at l.office l.steps (g.K.Keeper.shelf l.keeper).faults)
      (register_of g.D.Link.Told.tape (g.D.Door.register l.door))) l._served;
  in_force : IsInForce l.office;
  kept : l.environment.stored ≡ true
      → KeepsAccepted (g.K.Keeper.shelf l.fn.keeper) (g.K.Keeper.shelf l.keeper) l.office.accepted;
  untouched : l.environment.stored ≡ false → l.keeper ≡ l.fn.keeper;
  door : (g.D.Door.register l.door).faults ≡ (g.D.Door.register l.fn.door).faults;
  port : IfSome (g.D.Door.register l.door).port (λ open_port. open_port ≡ l.service.port);
}
