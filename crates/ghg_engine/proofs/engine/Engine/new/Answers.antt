use Rattle.std.proofs.Common.{sym, subst}
use Rattle.ghg_search.specs.Index.{HasUsers}
use Rattle.ghg_engine.proofs.Compiled.{nothing_compiled}
use Rattle.ghg_engine.proofs.engine.Engine.new.Goals as goal

pub invariant_of-result : goal.invariant_of-result
invariant_of-result c = (
  nothing_compiled _ _ c.new.ensures c.new-2.ensures,
  subst (λ m. HasUsers m c.new-3.result) (sym c.new.ensures) c.new-3.ensures,
)
