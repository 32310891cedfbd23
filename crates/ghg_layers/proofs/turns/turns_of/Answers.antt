use Rattle.std.proofs.Common.{◌≡◌, ◌∙◌, ◌+◌, ◌<◌, length, ap, subst, sym}
use Rattle.ghg_units.specs.declared.node.Node.TheVariants as node
use Rattle.ghg_definitions.specs.Listed.{IsListed}
use Rattle.ghg_definitions.proofs.Listed.{listed}
use Rattle.ghg_graph.specs.Numbers.{name_at}
use Rattle.ghg_layers.proofs.Turning.{AreTurnsTo, line_more, turns_same, turns_sorted}
use Rattle.ghg_layers.proofs.turns.turns_of.Goals as goal
use Rattle.ghg_layers.proofs.turns.turns_of.Goals.{in-Line+in-Some+in_ok-push, in-Line+in_default-number_of, in_default}

pub overflow_sub-offset : goal.overflow_sub-offset
overflow_sub-offset c = c.requires.years (node.Line c.in-Line.name c.in-Line.year) (subst (λ n. IsListed n c.args.nodes.now) c.in-Line.is (listed c.args.nodes.now c.node-item.result (c.loop-node.node-index, c.loop-node-test.true, sym c.node-item.is)))

pub loop-node-preserved : goal.loop-node-preserved
loop-node-preserved c =
    let l = c.args.lines.now in
    let ns = c.args.nodes.now in
    let k = c.loop-node.node-index in
    let n = c.node-item.result in
    let h = c.loop-node-test.true in
    let e = c.node-item.is in
    let was = c.loop-node.invariant in
    elim c.match-node.branch [
      | in-Line+in-Some+in_ok-push w ↦
          line_more l c.args.first ns k n h e c.loop-node.turns.items was c.requires.lines.0 c.requires.lines.1 w.in-Line.name w.in-Line.year w.in-Some.number w.index-place.result.now
          (c.requires.years (node.Line w.in-Line.name w.in-Line.year) (subst (λ x. IsListed x ns) w.in-Line.is (listed ns n (k, h, sym e)))) w.in-Line.is
          (subst (λ xs. (w.in-Some.number < length xs) × (name_at xs w.in-Some.number ≡ w.in-Line.name)) w.deref.ensures.value w.in-Some.ensures)
          w.index-place.ensures c.match-node.turns.items (ap (λ v. v.items) w.turns-is ∙ w.in_ok-push.ensures.items)
      | in-Line+in_default-number_of w ↦
          absurd (w.in_default-number_of.ensures (subst (IsListed w.in-Line.name) (sym w.deref.ensures.value) (c.requires.all w.in-Line.name w.in-Line.year (subst (λ x. IsListed x ns) w.in-Line.is (listed ns n (k, h, sym e))))))
      | in_default w ↦ subst (λ v. AreTurnsTo l c.args.first ns (k + 1) v.items) (sym w.turns-is) (turns_same l c.args.first ns k n h e c.loop-node.turns.items was w.in_default.not-Line)
    ]

pub returns-clause-turns : goal.returns-clause-turns
returns-clause-turns c = turns_sorted c.args.lines.now c.args.first c.args.nodes.now c.loop-node.node-index c.loop-node-test.false c.loop-node.turns.items c.sort.new.self.items c.loop-node.invariant c.sort.ensures.permutation
