use Rattle.std.proofs.Common.{◌++◌, [], ◌∷◌, Some, None, ◌∙◌, sym, ap, arith, length, length-append}
use Rattle.std.specs.FinMap.{from_entries}
use Rattle.ghg_definitions.specs.Data.{Data}
use Rattle.ghg_data.specs.Changes.{applied}
use Rattle.ghg_data.proofs.Applied.{applied-pop}
use Rattle.ghg_data.proofs.Calendars.{calendar_of, record_noted}
use Rattle.ghg_data.proofs.holdings.change_records.Goals as goal

pub loop-key-preserved : goal.loop-key-preserved
loop-key-preserved c =
    let m : Data = from_entries c.loop-key.records.entries in
    let popped = c.in-Some.ensures.entries in
    let rest = c.pop.new.self.entries in
    let key = c.in-Some.key in
    let left = c.take_record.ensures in
    record {
      records_room = omega (arith, simp length-append at (ap (λ cs. length cs) popped));
      years_room = omega (arith, simp length-append at (ap (λ cs. length cs) popped));
      years = calendar_of _ _ left.content c.take_record.new.calendar (record_noted m key None c.loop-key.calendar c.take_record.new.calendar c.loop-key.invariant.years left.dates);
      content = ap (λ (n : Data). applied n rest) left.content ∙ sym (applied-pop m rest (key, None)) ∙ ap (λ x. applied m (rest ++ (key, x) ∷ [])) (sym c.in-None.is)
          ∙ ap (applied m) (sym popped) ∙ c.loop-key.invariant.content;
    }

pub loop-key-preserved-in-Some-change : goal.loop-key-preserved-in-Some-change
loop-key-preserved-in-Some-change c =
    let m : Data = from_entries c.loop-key.records.entries in
    let popped = c.in-Some.ensures.entries in
    let rest = c.pop.new.self.entries in
    let key = c.in-Some.key in
    let entry = c.in-Some-change.entry in
    let left = c.put_record.ensures in
    record {
      records_room = omega (arith, simp length-append at (ap (λ cs. length cs) popped));
      years_room = omega (arith, simp length-append at (ap (λ cs. length cs) popped));
      years = calendar_of _ _ left.content c.put_record.new.calendar (record_noted m key (Some entry) c.loop-key.calendar c.put_record.new.calendar c.loop-key.invariant.years left.dates);
      content = ap (λ (n : Data). applied n rest) left.content ∙ sym (applied-pop m rest (key, Some entry)) ∙ ap (λ x. applied m (rest ++ (key, x) ∷ [])) (sym c.in-Some-change.is)
          ∙ ap (applied m) (sym popped) ∙ c.loop-key.invariant.content;
    }
