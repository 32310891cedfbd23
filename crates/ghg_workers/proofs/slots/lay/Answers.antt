use Rattle.std.proofs.Common.{◌≡◌, [], ◌∷◌, ◌++◌, Some, length, subst, arith}
use Rattle.std.proofs.lemmas.List.{length-set}
use Rattle.std.proofs.lemmas.Grind.{common_steps}
use Rattle.std.proofs.lemmas.List.Elements.{All-pop}
use Rattle.ghg_workers.specs.Entries.{IsOf}
use Rattle.ghg_workers.proofs.Filling.{IsLaid, ends, goes_on}
use Rattle.ghg_workers.proofs.slots.lay.Goals as goal

pub entries-preserved-in-Some : goal.entries-preserved-in-Some
entries-preserved-in-Some g c =
    let outcome = g.N.Layer.outcome c.args.layer.now in
    let count = g.N.Layer.count c.args.layer.now in
    let popped : c.entries.entries.items ≡ c.pop.new.self.items ++ c.in-Some.entry ∷ [] = c.in-Some.ensures.items in
    let right = All-pop (IsOf outcome count) c.entries.entries.items c.pop.new.self.items (Some c.in-Some.entry) popped c.entries.invariant.right in
    let laid = subst (IsLaid outcome count c.entries.slots.items) popped c.entries.invariant.laid in
    record {
      long = simp length-set c.entries.invariant.long;
      laid = goes_on outcome count c.entries.slots.items c.pop.new.self.items c.in-Some.entry c.entries.invariant.long right.1 laid;
      right = right.0;
    }

pub entries-preserved : goal.entries-preserved
entries-preserved g c =
    let outcome = g.N.Layer.outcome c.args.layer.now in
    let count = g.N.Layer.count c.args.layer.now in
    let popped : c.entries.entries.items ≡ c.pop.new.self.items ++ c.in-Some.entry ∷ [] = c.in-Some.ensures.items in
    let right = All-pop (IsOf outcome count) c.entries.entries.items c.pop.new.self.items (Some c.in-Some.entry) popped c.entries.invariant.right in
    let laid = subst (IsLaid outcome count c.entries.slots.items) popped c.entries.invariant.laid in
    record {
      long = simp length-set c.entries.invariant.long;
      laid = goes_on outcome count c.entries.slots.items c.pop.new.self.items c.in-Some.entry c.entries.invariant.long right.1 laid;
      right = right.0;
    }

pub returns : goal.returns
returns g c =
    let none : length c.entries.entries.items ≡ 0 = grind (arith, common_steps, c.in_default.ensures.cases, c.in_default.ensures.variant) in
    ends (g.N.Layer.outcome c.args.layer.now) (g.N.Layer.count c.args.layer.now) c.entries.slots c.entries.entries.items none c.entries.invariant.long c.entries.invariant.laid
