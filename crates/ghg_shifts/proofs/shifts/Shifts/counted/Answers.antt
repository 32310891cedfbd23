use Rattle.std.proofs.Common.{◌∙◌, ap₂, false, refl, subst, sym, ◌≡◌}
use Rattle.std.specs.BTreeMap.Range.{entries_between}
use Rattle.std.specs.declared.ops.Bound.TheVariants.{Included}
use Rattle.std.proofs.lemmas.Map.Iter.{rest_all, rest_more}
use Rattle.std.specs.Map.Iter.{deref_pair}
use Rattle.ghg_shifts.specs.Noted.{Place, place_order}
use Rattle.ghg_shifts.specs.Shifts.{counts_in}
use Rattle.ghg_shifts.specs.declared.shifts.Counted.{Counted}
use Rattle.ghg_shifts.proofs.Counting.{AreDone, all_done, none_done, one_done, one_left, room}
use Rattle.ghg_shifts.proofs.OfYear.{Entry, are_of_year, entries_of}
use Rattle.ghg_shifts.proofs.shifts.Shifts.counted.Goals as goal

pub loop-leaf-init : goal.loop-leaf-init
loop-leaf-init c =
    let es = entries_of c.args.year c.args.self.now in
    let none : Counted = record { went = c.zero.result; came = c.zero-2.result; over = false } in
    let is : c.into_iter-leaf-iterator.result ≡ es = c.into_iter-leaf-iterator.ensures.into_iter_gives ∙ c.range-leaf-items.ensures.between c.new.ensures.exhausted
    ∙ ap₂ (λ (p q : Place). entries_between place_order (Included p) (Included q) c.args.self.now.by_leaf.entries) c.new.ensures.start c.new.ensures.end in
    subst (λ rest. AreDone (counts_in c.args.top) es rest none) (sym is) (none_done (counts_in c.args.top) es none c.zero.ensures c.zero-2.ensures refl)

pub with-counted-requires-clause-went : goal.with-counted-requires-clause-went
with-counted-requires-clause-went c =
    (room (counts_in c.args.top) (entries_of c.args.year c.args.self.now) c.loop-leaf.leaf-iterator c.loop-leaf.counted c.loop-leaf.invariant c.args.year
    (are_of_year c.args.year c.args.self.now c.range-leaf-items.ensures.ordered)).went_terms

pub with-counted-requires-clause-came : goal.with-counted-requires-clause-came
with-counted-requires-clause-came c =
    (room (counts_in c.args.top) (entries_of c.args.year c.args.self.now) c.loop-leaf.leaf-iterator c.loop-leaf.counted c.loop-leaf.invariant c.args.year
    (are_of_year c.args.year c.args.self.now c.range-leaf-items.ensures.ordered)).came_terms

pub loop-leaf-preserved-then-counts : goal.loop-leaf-preserved-then-counts
loop-leaf-preserved-then-counts c =
    let e : Entry = (c.in-Some.field-0-0.now, c.in-Some.shift.now) in
    one_done (counts_in c.args.top) (entries_of c.args.year c.args.self.now) c.loop-leaf.leaf-iterator c.loop-leaf.counted c.loop-leaf.invariant e c.next.new.self
    (rest_more deref_pair c.loop-leaf.leaf-iterator c.next.new.self c.next.result _ c.in-Some.is c.next.ensures.steps)
    (sym c.counts.ensures ∙ c.if-counts.true) c.with-counted.result c.with-counted.ensures

pub loop-leaf-preserved : goal.loop-leaf-preserved
loop-leaf-preserved c =
    let e : Entry = (c.in-Some.field-0-0.now, c.in-Some.shift.now) in
    one_left (counts_in c.args.top) (entries_of c.args.year c.args.self.now) c.loop-leaf.leaf-iterator c.loop-leaf.counted c.loop-leaf.invariant e c.next.new.self
    (rest_more deref_pair c.loop-leaf.leaf-iterator c.next.new.self c.next.result _ c.in-Some.is c.next.ensures.steps)
    (sym c.counts.ensures ∙ c.if-counts.false)

pub returns : goal.returns
returns c = all_done c.args.self.now c.args.year c.args.top c.range-leaf-items.ensures.ordered c.loop-leaf.leaf-iterator
    (rest_all deref_pair c.loop-leaf.leaf-iterator c.next.new.self c.next.result c.in-None.is c.next.ensures.steps) c.loop-leaf.counted c.loop-leaf.invariant
