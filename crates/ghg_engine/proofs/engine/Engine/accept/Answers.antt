use Rattle.std.proofs.Common.{◌≡◌, ◌∙◌, sym, ap, subst}
use Rattle.ghg_columns.specs.Cells.{cell_at, found_in}
use Rattle.ghg_columns.specs.Fresh.{HasRoomFor, fresh_at}
use Rattle.ghg_definitions.specs.Compilation.{compilation}
use Rattle.ghg_data.specs.Changes.{applied}
use Rattle.ghg_search.specs.Index.{HasUsers}
use Rattle.ghg_engine.specs.Compiled.{IsCompiled}
use Rattle.ghg_engine.specs.Withdrawn.{without_withdrawn}
use Rattle.ghg_engine.proofs.Compiled.{compiled_alike}
use Rattle.ghg_engine.proofs.Dropped.{nodes_stay}
use Rattle.ghg_engine.proofs.Patched.{front_compiled}
use Rattle.ghg_engine.proofs.engine.Engine.accept.Goals as goal

pub take-requires-clause-room : goal.take-requires-clause-room
take-requires-clause-room c = subst (λ cells. HasRoomFor cells c.args.proposal.fresh) (sym (ap (λ s. s.cells) c.self.view_is)) c.requires.room

pub invariant_of-self : goal.invariant_of-self
invariant_of-self c =
    let old = c.self.inside.book.content in
    let edits = c.args.proposal.edits in
    let new = applied old edits in
    let is = ap (λ s. s.content) c.self.view_is in
    let fresh = fresh_at c.args.proposal.fresh in
    let cells = cell_at c.self.inside.cells in
    let left = cell_at c.drop_withdrawn.new.cells in
    let over = subst (λ m. IsCompiled (applied m edits) (found_in fresh (compilation m))) (sym is) c.requires.fresh.compiled in
    let keys = c.keys.result.now in
    let dropped : left ≡ without_withdrawn new keys (cell_at c.take.new.self) = subst (λ m. left ≡ without_withdrawn m keys (cell_at c.take.new.self)) c.after-records.ensures c.drop_withdrawn.ensures in
    let users = subst (HasUsers (applied c.args.self.now.content edits)) (sym (ap (λ s. s.index) c.self.view_is)) c.requires.users in
    let pruned = c.prune.ensures (subst (λ m. HasUsers m c.self.inside.index) (sym (c.after-records.ensures ∙ ap (λ m. applied m edits) is)) users) in (
      subst (λ m. IsCompiled m left) (sym c.commit.ensures)
          (compiled_alike new (found_in fresh cells) left (λ n node. ap (λ f. f n) dropped ∙ nodes_stay new keys (cell_at c.take.new.self) n node ∙ ap (λ f. f n) c.take.ensures) (front_compiled old new cells fresh c.self.invariant.0 over)),
      subst (λ m. HasUsers m c.prune.new.self) (c.after-records.ensures ∙ sym c.commit.ensures) pruned,
    )
