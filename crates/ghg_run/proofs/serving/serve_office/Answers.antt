use Rattle.std.proofs.Common.{◌∙◌, inr, [], ◌∷◌, ◌++◌, option_map, refl, ap, arith}
use Rattle.std.proofs.lemmas.Bool.{false≢true}
use Rattle.std.proofs.lemmas.List.{nil_from_length}
use Rattle.ghg_outer.proofs.Counts.{count_stays, counted_as, counted_none, counted_on}
use Rattle.ghg_office.proofs.InForce.{requested_sound}
use Rattle.ghg_session.proofs.Keeping.{keeps_listed, keeps_more}
use Rattle.ghg_words.specs.declared.status.Status.TheVariants.{Done, DoorFailed, OutOfMemory}
use Rattle.ghg_run.specs.Serve.{office_at, register_of}
use Rattle.ghg_run.proofs.Held.{link_stays}
use Rattle.ghg_run.proofs.Known.{done_no_door, memory_no_door}
use Rattle.ghg_run.proofs.Links.{none_served, one_more, port_stays, served_same, serving_drops, serving_ends, station, tells_given, tells_opened, tells_same, tells_taken}
use Rattle.ghg_run.proofs.serving.serve_office.Goals as goal

pub returns-in_default-clause-links : goal.returns-in_default-clause-links
returns-in_default-clause-links g c = (
  c.args.office,
  serving_ends _ _ (station (office_at c.args.office c.args.steps.now (g.K.Keeper.shelf c.args.keeper.now).faults)
      (register_of g.D.Link.Told.tape (g.D.Door.register c.args.door.now))) _ 0 OutOfMemory (none_served _ _ _ refl refl refl) c.requires.store
      (λ links number. (omega (arith, number, c.requires.some), inr (nil_from_length links number, refl))),
  λ stored. keeps_listed _ _ (c.requires.same stored),
)

pub returns-in-Err-clause-links : goal.returns-in-Err-clause-links
returns-in-Err-clause-links g c =
    let told = tells_same g.D.Link.Told.tape (g.D.Door.register c.args.door.now) (g.D.Door.register c.listen.new.self) c.in-Err.ensures.kept in (
      c.args.office,
      serving_ends _ _ _ _ 0 DoorFailed (none_served _ _ _ refl told.given_is told.finished_is) c.requires.store
          (λ links number. (omega (arith, number, c.requires.some), refl)),
      λ stored. keeps_listed _ _ (c.requires.same stored),
    )

pub links-init : goal.links-init
links-init g c =
    let told = tells_opened g.D.Link.Told.tape (g.D.Door.register c.args.door.now) (g.D.Door.register c.listen.new.self) _ c.in_default-listen.ensures.opened in
    record {
      served = none_served _ _ _ refl told.0 told.1;
      in_force = c.requires.in_force;
      kept = λ stored. keeps_listed _ _ (c.requires.same stored);
      untouched = λ _. refl;
      door = count_stays _ _ _ (λ e. cc) c.in_default-listen.ensures.counted;
      port = c.in_default-listen.ensures.opened.port_is;
    }

pub returns-in_default-next-clause-links : goal.returns-in_default-next-clause-links
returns-in_default-next-clause-links g c =
    let told = tells_same g.D.Link.Told.tape (g.D.Door.register c.links.door) (g.D.Door.register c.next.new.self) c.in_default-next.ensures.kept in (
      c.links.office,
      serving_ends _ _ _ _ c.links._served DoorFailed
          (served_same _ _ _ _ _ c.links.invariant.served refl told.given_is told.finished_is) c.requires.store
          (λ links number. (omega (arith, number, c.links-test.true), refl)),
      c.links.invariant.kept,
    )

pub returns-in-Err-finish-clause-links : goal.returns-in-Err-finish-clause-links
returns-in-Err-finish-clause-links g c =
    let given = tells_given g.D.Link.Told.tape (g.D.Door.register c.links.door) (g.D.Door.register c.next.new.self) c.in-Ok-next.ensures.given in
    let same = tells_same g.D.Link.Told.tape (g.D.Door.register c.next.new.self) (g.D.Door.register c.finish.new.self) c.in-Err-finish.ensures.kept in (
      c.serve_one.new.office,
      serving_drops _ _ _ _ c.links._served
          (record {
            link = g.D.Link.Told.tape c.serve_one.new.link;
            due = c.serve_one.ensures.serves.0;
            end = c.serve_one.result;
          })
          c.links.invariant.served
          (record {
            new = g.D.Link.Told.tape c.in-Ok-next.link;
            fresh = c.in-Ok-next.ensures.fresh;
            serves = c.serve_one.ensures.serves.1;
            keeper = c.serve_one.ensures.serves.2;
            bounds = requested_sound _ c.links.invariant.in_force;
          })
          (same.given_is ∙ given.given_is) c.args.service.now
          c.requires.store (same.finished_is ∙ given.finished_is) c.links-test.true,
      λ stored. keeps_more _ _ _ _ _ (c.links.invariant.kept stored) (c.serve_one.ensures.kept stored),
    )

pub links-preserved : goal.links-preserved
links-preserved g c =
    let given = tells_given g.D.Link.Told.tape (g.D.Door.register c.links.door) (g.D.Door.register c.next.new.self) c.in-Ok-next.ensures.given in
    let taken = tells_taken g.D.Link.Told.tape (g.D.Door.register c.next.new.self) (g.D.Door.register c.finish.new.self) c.serve_one.new.link c.in_default-finish.ensures.finished in
    record {
      served = one_more _ _ _ _ c.links._served
          (record {
            link = g.D.Link.Told.tape c.serve_one.new.link;
            due = c.serve_one.ensures.serves.0;
            end = c.serve_one.result;
          })
          c.links.invariant.served
          (record {
            new = g.D.Link.Told.tape c.in-Ok-next.link;
            fresh = c.in-Ok-next.ensures.fresh;
            serves = c.serve_one.ensures.serves.1;
            keeper = c.serve_one.ensures.serves.2;
            bounds = requested_sound _ c.links.invariant.in_force;
          })
          (taken.given_is ∙ given.given_is)
          (taken.finished_is ∙ ap (option_map (λ links. links ++ g.D.Link.Told.tape c.serve_one.new.link ∷ [])) given.finished_is);
      in_force = link_stays _ _ _ _ c.serve_one.ensures.serves.1 c.links.invariant.in_force;
      kept = λ stored. keeps_more _ _ _ _ _ (c.links.invariant.kept stored) (c.serve_one.ensures.kept stored);
      untouched = λ none. c.serve_one.ensures.untouched none ∙ c.links.invariant.untouched none;
      door = count_stays _ _ _ (λ e. e) c.finish.ensures.counted ∙ count_stays _ _ _ (λ e. cc) c.in-Ok-next.ensures.counted ∙ c.links.invariant.door;
      port = port_stays _ _ _ (taken.port_is ∙ given.port_is) c.links.invariant.port;
    }

pub returns-clause-links : goal.returns-clause-links
returns-clause-links g c = (
  c.links.office,
  serving_ends _ _ _ _ c.links._served Done c.links.invariant.served c.requires.store
      (λ links number. (omega (arith, number, c.links-test.false, c.links.auto._served-end), refl, c.links.invariant.port)),
  c.links.invariant.kept,
)

-- ---- the count of the door's faults

pub returns-in-Err-clause-counted : goal.returns-in-Err-clause-counted
returns-in-Err-clause-counted g c = counted_as _ _ _ _ (λ _. refl) (λ _. refl) c.in-Err.ensures.counted

pub returns-in_default-next-clause-counted : goal.returns-in_default-next-clause-counted
returns-in_default-next-clause-counted g c =
    counted_on _ _ _ _ c.links.invariant.door (counted_as _ _ _ _ (λ _. refl) (λ _. refl) c.in_default-next.ensures.counted)

pub returns-in-Err-finish-clause-counted : goal.returns-in-Err-finish-clause-counted
returns-in-Err-finish-clause-counted g c =
    counted_on _ _ _ _ (count_stays _ _ _ false≢true c.in-Ok-next.ensures.counted ∙ c.links.invariant.door)
    (counted_as _ _ _ _ memory_no_door (λ e. absurd e) c.finish.ensures.counted)

pub returns-in-Err-finish-clause-unkept : goal.returns-in-Err-finish-clause-unkept
returns-in-Err-finish-clause-unkept g c =
    λ none. c.serve_one.ensures.untouched none ∙ c.links.invariant.untouched none

pub returns-clause-counted : goal.returns-clause-counted
returns-clause-counted g c = counted_on _ _ _ _ c.links.invariant.door (counted_none _ _ done_no_door)
