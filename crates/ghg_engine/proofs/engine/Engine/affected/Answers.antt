use Rattle.std.proofs.Common.{◌∙◌, sym, ap, subst}
use Rattle.std.specs.FinMap.{get}
use Rattle.ghg_data.specs.Changes.{applied}
use Rattle.ghg_graph.proofs.Corrected.{kept_record}
use Rattle.ghg_search.specs.Index.{HasUsers}
use Rattle.ghg_engine.proofs.Answered.{in_any_case}
use Rattle.ghg_engine.proofs.engine.Engine.affected.Goals as goal

pub affected-requires-clause-index : goal.affected-requires-clause-index
affected-requires-clause-index c =
    let m = c.self.inside.book.content in
    subst (λ n. HasUsers n c.add.new.self) c.after.ensures
    (c.in_ok-add.ensures.added m (λ k off. kept_record m c.args.edits.now c.keys.result.now c.keys.ensures.keys k off ∙ ap (λ n. get n k) (sym c.after.ensures)) c.self.invariant.1)

pub returns-clause-users : goal.returns-clause-users
returns-clause-users c =
    let m = c.self.inside.book.content in
    in_any_case c.affected.result (subst (λ n. HasUsers (applied n c.args.edits.now) c.add.new.self) (ap (λ s. s.content) c.self.view_is)
    (subst (λ n. HasUsers n c.add.new.self) c.after.ensures
    (c.in_ok-add.ensures.added m (λ k off. kept_record m c.args.edits.now c.keys.result.now c.keys.ensures.keys k off ∙ ap (λ n. get n k) (sym c.after.ensures)) c.self.invariant.1)))
