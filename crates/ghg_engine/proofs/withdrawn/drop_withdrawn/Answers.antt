use Rattle.std.proofs.Common.{◌≡◌, ◌+◌, sym, subst, take}
use Rattle.std.proofs.lemmas.List.{take_all}
use Rattle.ghg_columns.specs.Cells.{cell_at}
use Rattle.ghg_engine.specs.Withdrawn.{without_withdrawn}
use Rattle.ghg_engine.proofs.Dropped.{line_next, none_dropped, other_next}
use Rattle.ghg_engine.proofs.Keys.{no_name}
use Rattle.ghg_engine.proofs.withdrawn.drop_withdrawn.Goals as goal
use Rattle.ghg_engine.proofs.withdrawn.drop_withdrawn.Goals.{in-Line, in_default}

pub loop-key-init : goal.loop-key-init
loop-key-init g c = none_dropped (g.R.Records.content c.args.records.now) (cell_at c.args.cells.now)

pub loop-key-preserved : goal.loop-key-preserved
loop-key-preserved g c =
    let m = g.R.Records.content c.args.records.now in
    let keys = c.args.keys.now in
    let i = c.loop-key.key-index in
    let start = cell_at c.args.cells.now in
    let kept = cell_at c.loop-key.cells in
    elim c.match-key.branch [
      | in-Line w ↦
          subst (λ cells. cell_at cells ≡ without_withdrawn m (take (i + 1) keys) start) (sym w.cells-is)
          (line_next m keys i c.key-item.result c.loop-key-test.true c.key-item.is start kept c.loop-key.invariant w.in-Line.name w.in-Line.is
          (cell_at w.drop_values.new.cells) (cell_at w.drop_equivalents.new.cells) w.drop_values.ensures w.drop_equivalents.ensures)
      | in_default w ↦
          subst (λ cells. cell_at cells ≡ without_withdrawn m (take (i + 1) keys) start) (sym w.cells-is)
          (other_next m keys i c.key-item.result c.loop-key-test.true c.key-item.is start kept c.loop-key.invariant (no_name c.key-item.result w.in_default.not-Line))
    ]

pub returns : goal.returns
returns g c =
    let m = g.R.Records.content c.args.records.now in
    subst (λ ks. cell_at c.loop-key.cells ≡ without_withdrawn m ks (cell_at c.args.cells.now)) (take_all c.loop-key.key-index c.args.keys.now c.loop-key-test.false) c.loop-key.invariant
