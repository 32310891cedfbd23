use Rattle.std.proofs.Common.{◌≡◌, ℕ, ◌+◌, ◌<◌, List, [], ◌∷◌, ◌++◌, length, get_or, take, filter_map, Option, refl, arith}
use Rattle.std.specs.List.{cons_option}
use Rattle.std.proofs.lemmas.List.Elements.{filter_map-append}
use Rattle.ghg_definitions.specs.Compilation.{compilation}
use Rattle.ghg_definitions.specs.Data.{Name}
use Rattle.ghg_graph.proofs.LineNumbers.{take_next}
use Rattle.ghg_trendunc.specs.declared.totals.Sides.{Sides}
use Rattle.ghg_trendunc.specs.Table.{line_sides}
use Rattle.ghg_trendunc.proofs.printing.all_sides.Goals as goal

one_more : (f : Name → Option Sides) (xs : List Name) (i : ℕ) (x : Name) → i < length xs → x ≡ get_or xs i x → filter_map f (take (i + 1) xs) ≡ filter_map f (take i xs) ++ cons_option (f x) []
one_more f xs i x h is = rw (take_next xs i x h is, filter_map-append f (take i xs) (x ∷ [])) refl

pub loop-name-preserved : goal.loop-name-preserved
loop-name-preserved g c =
    let m = g.C.Cells.content c.args.cells.now in
    let more = one_more (line_sides m (compilation m) c.args.trend) c.args.lines.now c.loop-name.name-index c.name-item.result c.loop-name-test.true c.name-item.is in
    let pushed = c.in_ok-push_sides.ensures in
    record {
      value = cc (more, pushed.items, c.loop-name.invariant.value, c.line_sides.ensures.value);
      each = pushed.each;
      few = omega (arith, pushed.few);
    }
