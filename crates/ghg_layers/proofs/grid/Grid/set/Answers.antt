use Rattle.std.proofs.Common.{length-set, refl}
use Rattle.ghg_layers.proofs.Padding.{cells_set, on_ok}
use Rattle.ghg_layers.proofs.grid.Grid.set.Goals as goal

pub returns : goal.returns
returns c = record {
  height = length-set c.args.self.now.rows.items c.args.row c.set_at.new.ranks;
  set = on_ok c.set_at.result _ _ c.set_at.ensures (λ is. cells_set c.args.self.now _ c.args.row c.args.year c.args.rank c.index_mut.result.now c.set_at.new.ranks c.requires c.index_mut.ensures.value is refl);
}
