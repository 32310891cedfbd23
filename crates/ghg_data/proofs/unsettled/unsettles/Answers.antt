use Rattle.std.proofs.Common.{◌≡◌, Bool, true, false, List, sym, ap, ◌∙◌, subst}
use Rattle.std.specs.List.{list_any}
use Rattle.std.proofs.lemmas.Bool.{both_ways}
use Rattle.ghg_definitions.specs.Data.{Data}
use Rattle.ghg_definitions.specs.Sound.{IsConsistent}
use Rattle.ghg_definitions.proofs.Consistent.{workbook_consistent}
use Rattle.ghg_data.specs.declared.series.Series.{Series}
use Rattle.ghg_data.specs.Changes.{applied}
use Rattle.ghg_data.specs.Settling.{IsSettled, loses_dimension, loses_equation}
use Rattle.ghg_data.proofs.Settled.{none_lose, nothing_lost}
use Rattle.ghg_data.proofs.unsettled.unsettles.Goals as goal

pub of-before-requires : goal.of-before-requires
of-before-requires c = subst (λ cs. IsConsistent (applied c.args.holdings.now.content cs)) (sym c.new-none.ensures) (workbook_consistent c.requires.workbook)

-- some name loses its dimension, and so the edits are not settled
lost : (before m n : Data) (names : List Series) (answer : Bool) → before ≡ m → answer ≡ list_any (loses_dimension before n) names → answer ≡ true → IsSettled m n → true ≡ false
lost before m n names answer was is so settled =
    absurd (both_ways _ (none_lose (loses_dimension m n) names settled.names) (sym (λ i. list_any (loses_dimension (was i) n) names) ∙ sym is ∙ so))

pub returns-then-lose_dimension : goal.returns-then-lose_dimension
returns-then-lose_dimension c =
    let m = c.args.holdings.now.content in
    let was = c.of-before.ensures ∙ ap (applied m) c.new-none.ensures in
    (λ e. absurd (cc), lost c.of-before.result m c.args.after.now c.series_put.result.now c.lose_dimension.result was c.lose_dimension.ensures c.if-lose_dimension.true)

pub returns-then-lose_dimension-2 : goal.returns-then-lose_dimension-2
returns-then-lose_dimension-2 c =
    let m = c.args.holdings.now.content in
    let was = c.of-before.ensures ∙ ap (applied m) c.new-none.ensures in
    (λ e. absurd (cc), lost c.of-before.result m c.args.after.now c.series_taken.result.now c.lose_dimension-2.result was c.lose_dimension-2.ensures c.if-lose_dimension-2.true)

pub returns : goal.returns
returns c =
    let m = c.args.holdings.now.content in
    let cs = c.args.edits.now in
    let was = c.of-before.ensures ∙ ap (applied m) c.new-none.ensures in
    let now = c.requires.after in
    let none : (names : List Series) (lost : Bool) → lost ≡ list_any (loses_dimension c.of-before.result c.args.after.now) names → lost ≡ false → list_any (loses_dimension m (applied m cs)) names ≡ false = λ names lost is not. sym (λ i. list_any (loses_dimension (was i) (now i)) names) ∙ sym is ∙ not in (
      λ no_line. subst (IsSettled m) (sym now)
          (nothing_lost m c.requires.workbook cs (subst IsConsistent now c.requires.consistent) c.series_put.result.now c.series_taken.result.now c.series_put.ensures c.series_taken.ensures
          (none c.series_put.result.now c.lose_dimension.result c.lose_dimension.ensures c.if-lose_dimension.false)
          (none c.series_taken.result.now c.lose_dimension-2.result c.lose_dimension-2.ensures c.if-lose_dimension-2.false)
          (sym (λ i. list_any (loses_equation m (now i)) (c.keys.ensures.keys i)) ∙ sym c.lose_equation.ensures ∙ no_line)),
      λ settled. c.lose_equation.ensures ∙ none_lose (loses_equation m c.args.after.now) c.keys.result.now settled.lines,
    )
