use Rattle.std.proofs.Common.{◌<◌, length, refl, sym, ap, subst, ◌∙◌, vec_len, arith}
use Rattle.ghg_graph.proofs.Marks.{read_number}
use Rattle.ghg_graph.proofs.Walking.{all_targets, before_first, first_within, target_found, targets_within, tried_walk}
use Rattle.ghg_graph.proofs.walk.next_target.Goals as goal

pub targets-targets-requires : goal.targets-targets-requires
targets-targets-requires c = first_within _ _ c.args.line _ c.requires

pub index-requires : goal.index-requires
index-requires c =
    let small = first_within _ _ c.args.line _ c.requires in
    let fits : c.args.line < vec_len c.args.walk.now.tried = grind (arith, small, c.requires.tried_wide, c.args.walk.now.tried.ok) in fits

pub first_unplaced-requires : goal.first_unplaced-requires
first_unplaced-requires c = targets_within c.args.links.now c.args.line c.deref.result.now c.targets-targets.result.now c.targets-targets.ensures.within (ap length c.deref.ensures.value ∙ c.requires.placed_wide) c.targets-targets.ensures.targets

pub returns-in-None-clause-target : goal.returns-in-None-clause-target
returns-in-None-clause-target c =
    let small = subst (λ n. c.args.line < n) (sym c.requires.tried_wide) (first_within _ _ c.args.line _ c.requires) in
    all_targets c.args.links.now c.args.walk.now _ c.requires c.args.line _ c.deref.result.now c.targets-targets.result.now
    (read_number c.args.walk.now.tried.items c.args.line _ small c.index.ensures) c.deref.ensures.value c.targets-targets.ensures.targets c.in-None.ensures

pub returns-in-Some-clause-walk : goal.returns-in-Some-clause-walk
returns-in-Some-clause-walk c =
    let small = subst (λ n. c.args.line < n) (sym c.requires.tried_wide) (first_within _ _ c.args.line _ c.requires) in
    let from = read_number c.args.walk.now.tried.items c.args.line _ small c.index.ensures in
    tried_walk c.args.links.now c.args.walk.now _ _ c.requires refl refl refl c.args.line c.in-Some.next refl
    (before_first c.args.links.now c.args.walk.now _ c.requires c.args.line c.in-Some.next _ c.deref.result.now c.targets-targets.result.now from c.deref.ensures.value c.targets-targets.ensures.targets c.in-Some.ensures)

pub returns-in-Some-clause-target : goal.returns-in-Some-clause-target
returns-in-Some-clause-target c = target_found c.args.links.now c.args.walk.now c.args.line c.in-Some.next _ c.deref.result.now c.targets-targets.result.now c.targets-targets.ensures.within c.deref.ensures.value c.targets-targets.ensures.targets c.in-Some.ensures
