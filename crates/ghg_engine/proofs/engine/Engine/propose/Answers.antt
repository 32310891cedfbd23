use Rattle.std.proofs.Common.{◌≡◌, ◌∙◌, ◌+◌, length, refl, sym, ap, arith}
use Rattle.ghg_affected.specs.Affected.{affected_nodes}
use Rattle.ghg_data.specs.Changes.{applied}
use Rattle.ghg_data.specs.Shelf.{Shelf}
use Rattle.ghg_engine.specs.Proposals.{affected_count}
use Rattle.ghg_columns.specs.declared.fresh.FreshCells.{FreshCells}
use Rattle.ghg_engine.specs.declared.proposal.Proposal.{Proposal}
use Rattle.ghg_engine.proofs.Patched.{all_affected}
use Rattle.ghg_engine.proofs.Proposed.{made_on}
use Rattle.ghg_engine.proofs.Spent.{refused}
use Rattle.ghg_engine.proofs.engine.Engine.propose.Goals as goal

pub returns-in-Ok-clause-steps : goal.returns-in-Ok-clause-steps
returns-in-Ok-clause-steps g c =
    let old = c.args.self.now.content in
    let all : length c.in_ok-nodes.nodes.items ≡ length (affected_nodes old (applied old c.args.edits)) = all_affected old (applied old c.args.edits) c.in_ok-nodes.nodes.items c.in_ok-nodes.ensures.nodes in
    omega (arith, all, c.in-Ok.ensures.steps)

pub returns-in-Err-clause-steps : goal.returns-in-Err-clause-steps
returns-in-Err-clause-steps g c =
    let old = c.args.self.now.content in
    let all : length c.in_ok-nodes.nodes.items ≡ length (affected_nodes old (applied old c.args.edits)) = all_affected old (applied old c.args.edits) c.in_ok-nodes.nodes.items c.in_ok-nodes.ensures.nodes in
    omega (arith, all, c.in-Err.ensures.steps)

pub returns-in-Ok-clause-spent : goal.returns-in-Ok-clause-spent
returns-in-Ok-clause-spent g c =
    let old = c.args.self.now.content in
    let all : length c.in_ok-nodes.nodes.items ≡ length (affected_nodes old (applied old c.args.edits)) = all_affected old (applied old c.args.edits) c.in_ok-nodes.nodes.items c.in_ok-nodes.ensures.nodes in
    omega (arith, all, c.in-Ok.ensures.spent)

pub returns-in-Err-clause-spent : goal.returns-in-Err-clause-spent
returns-in-Err-clause-spent g c =
    let old = c.args.self.now.content in
    let all : length c.in_ok-nodes.nodes.items ≡ length (affected_nodes old (applied old c.args.edits)) = all_affected old (applied old c.args.edits) c.in_ok-nodes.nodes.items c.in_ok-nodes.ensures.nodes in
    refused _ _ (λ spent. spent ∙ ap (λ count. c.args.steps.now + count) all) FreshCells Proposal c.in-Err.refusal c.in-Err.ensures.spent

pub returns-in-Ok-clause-proposed : goal.returns-in-Ok-clause-proposed
returns-in-Ok-clause-proposed g c =
    let old = c.args.self.now in
    let made = applied old.content c.args.edits in
    let all : length c.in_ok-nodes.nodes.items ≡ affected_count old.content c.args.edits = all_affected old.content made c.in_ok-nodes.nodes.items c.in_ok-nodes.ensures.nodes in
    let len = c.len-count.ensures in
    let count : c.len-count.result ≡ affected_count old.content c.args.edits = grind (arith, all, len, c.in_ok-nodes.nodes.ok) in
    record {
      edits_are = refl;
      count_is = count ∙ ap (λ (s : Shelf). affected_count s.content c.args.edits) (sym (c.in-Ok.ensures.shelf ∙ c.in_ok-nodes.ensures.shelf));
      made = made_on old c.affected.new.self c.evaluated_with_room.new.self (record { edits = c.args.edits; fresh = c.in-Ok.fresh; cells = c.len-count.result })
          c.in_ok-nodes.ensures.shelf c.in-Ok.ensures.shelf c.in-Ok.ensures.index c.requires.arranged.planned c.in_ok-nodes.ensures.users c.in-Ok.ensures.fresh c.in-Ok.ensures.room;
    }
