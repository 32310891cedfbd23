use Rattle.std.proofs.Common.{◌≡◌, suc, ◌-◌, ◌∷◌, drop, ◌∙◌, sym, ap, subst, arith}
use Rattle.std.specs.List.Sorted.{IsStrictlySortedBy}
use Rattle.ghg_definitions.specs.Data.{Data, line_names, name_cmp}
use Rattle.ghg_definitions.proofs.Lines.{lines_sorted}
use Rattle.ghg_data.specs.Changes.{applied}
use Rattle.ghg_data.specs.Names.{names_after}
use Rattle.ghg_data.proofs.Lines.{drop_at, line_names-with_record}
use Rattle.ghg_data.proofs.names.change_names.Goals as goal

pub loop-left-preserved : goal.loop-left-preserved
loop-left-preserved c =
    let cs = c.args.edits.now in
    let left = c.loop-left.left in
    let key = c.at.result.0.now in
    let change = c.at.result.1.now in
    let next : suc (left - 1) ≡ left = omega (arith, c.loop-left-test.true) in
    let rest = drop_at cs (left - 1) (key, change) c.at.ensures ∙ ap (λ j. (key, change) ∷ drop j cs) next in
    record {
      items = λ m before.
          let n : Data = applied m (drop left cs) in
          let was = c.loop-left.invariant.items m before in
          c.change_name.ensures.items (subst (IsStrictlySortedBy name_cmp) (sym was) (lines_sorted n))
          ∙ ap (names_after key c.is_some.result) was
          ∙ ap (λ b. names_after key b (line_names n)) c.is_some.ensures
          ∙ sym (line_names-with_record n key change)
          ∙ ap (λ es. line_names (applied m es)) (sym rest);
      room = omega (arith, c.change_name.ensures.len, c.change_name.ensures.capacity, c.loop-left.invariant.room, c.loop-left-test.true);
      capacity = c.change_name.ensures.capacity ∙ c.loop-left.invariant.capacity;
      within = omega (arith, c.loop-left.invariant.within);
    }
