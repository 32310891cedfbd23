use Rattle.std.proofs.Common.{◌<◌, [], ◌∷◌, ◌++◌, refl, sym, ap, subst, ◌∙◌, vec_len, arith}
use Rattle.ghg_graph.specs.Walks.{IsUnmarked}
use Rattle.ghg_graph.proofs.Marks.{read_false, read_true}
use Rattle.ghg_graph.proofs.Paths.{path_ring}
use Rattle.ghg_graph.proofs.Walking.{back_walk, clear_marks, first_within, target_back, turned_on, turned_put}
use Rattle.ghg_graph.proofs.walk.turn.Goals as goal

pub put-requires : goal.put-requires
put-requires c = subst (λ n. c.args.line < n) (sym c.in-None.ensures.walk.placed_wide) (first_within _ _ c.args.line _ c.in-None.ensures.walk)

pub returns-in_ok-put-in-None : goal.returns-in_ok-put-in-None
returns-in_ok-put-in-None c = turned_put c.args.links.now c.args.walk.now c.next_target.new.walk _ c.args.line c.in-None.ensures.tried c.in-None.ensures.walk c.in-None.ensures.target c.in_ok-put-in-None.ensures

pub index-requires : goal.index-requires
index-requires c =
    let small = c.in-Some.ensures.target.0 in
    let fits : c.in-Some.target < vec_len c.next_target.new.walk.opened = grind (arith, small, c.in-Some.ensures.walk.opened_wide, c.next_target.new.walk.opened.ok) in fits

pub part_from-requires : goal.part_from-requires
part_from-requires c =
    let small = subst (λ n. c.in-Some.target < n) (sym c.in-Some.ensures.walk.opened_wide) c.in-Some.ensures.target.0 in
    target_back c.args.links.now c.next_target.new.walk c.args.walk.now.path.items c.args.line c.in-Some.target c.in-Some.ensures.walk
    (read_true c.next_target.new.walk.opened.items c.in-Some.target c.index.result.now small c.index.ensures c.if-index.true)
    (subst (λ marks. IsUnmarked marks c.in-Some.target) (sym c.in-Some.ensures.tried.placed) c.in-Some.ensures.target.2)
    c.deref.result.now (c.deref.ensures.value ∙ c.in_ok-append-in-Some.ensures ∙ ap (λ xs. xs ++ c.args.line ∷ []) c.in-Some.ensures.tried.path)

pub returns-then-index : goal.returns-then-index
returns-then-index c = record {
  ring = path_ring c.args.links.now c.args.walk.now.path.items c.deref.result.now c.args.line c.in-Some.target c.in-Some.ensures.walk.on_path c.in-Some.ensures.target.1
      (c.deref.ensures.value ∙ c.in_ok-append-in-Some.ensures ∙ ap (λ xs. xs ++ c.args.line ∷ []) c.in-Some.ensures.tried.path) _ c.in_ok-ring-in-Some.ensures;
  placed = clear_marks c.args.links.now c.next_target.new.walk _ c.in-Some.ensures.walk _ (c.in_ok-placed-in-Some.ensures.items ∙ c.deref-then-index.ensures.value);
}

pub open-requires : goal.open-requires
open-requires c = subst (λ n. c.in-Some.target < n) (sym c.in-Some.ensures.walk.opened_wide) c.in-Some.ensures.target.0

pub returns-in_ok-open-in-Some : goal.returns-in_ok-open-in-Some
returns-in_ok-open-in-Some c = turned_on c.args.links.now c.args.walk.now _ _ c.args.line c.in-Some.target
    (back_walk c.args.links.now c.args.walk.now c.next_target.new.walk _ c.args.line c.in-Some.ensures.walk c.in-Some.ensures.tried.path refl refl refl refl c.in_ok-append-in-Some.ensures)
    (c.in_ok-append-in-Some.ensures ∙ ap (λ xs. xs ++ c.args.line ∷ []) c.in-Some.ensures.tried.path)
    c.in-Some.ensures.tried.opened c.in-Some.ensures.tried.placed c.in-Some.ensures.target.0 c.in-Some.ensures.target.1
    (read_false c.next_target.new.walk.opened.items c.in-Some.target c.index.result.now c.index.ensures c.if-index.false)
    c.in_ok-open-in-Some.ensures
