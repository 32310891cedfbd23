use Rattle.std.proofs.Common.{◌≡◌, ◌++◌, List, Some, Vec, Global, cond, ap, arith}
use Rattle.std.specs.BTreeMap.{get, is_at}
use Rattle.std.specs.Map.{lookup}
use Rattle.ghg_graph.proofs.Pushed.{items_in}
use Rattle.ghg_categories.specs.declared.category.Category.{Category}
use Rattle.ghg_equations.specs.declared.quantity.Gas.{Gas}
use Rattle.ghg_definitions.specs.Data.{Name}
use Rattle.ghg_keycat.specs.Ranking.{key_order}
use Rattle.ghg_tables.specs.Sums.{same_pair}
use Rattle.ghg_tables.proofs.ByPair.{name_if, pushed}
use Rattle.ghg_tables.proofs.groups.Groups.push.Goals as goal

pub returns : goal.returns
returns c = λ q.
    let old = get key_order c.args.self.now.by_pair q in
    let step : (es : List ((Category × Gas) × Vec Name Global)) → lookup (is_at (key_order q)) es ≡ cond (is_at (key_order c.args.pair) q) (Some c.push.new.self) old → items_in (lookup (is_at (key_order q)) es) ≡ items_in old ++ name_if (same_pair c.args.pair q) c.args.name.now =
    λ es is. pushed old (lookup (is_at (key_order q)) es) c.or_default.result.now c.push.new.self (get key_order c.args.self.now.by_pair c.args.pair) c.args.pair q c.args.name.now is
    (λ e. ap (get key_order c.args.self.now.by_pair) e) (rw c.in_ok-self.ensures.value at c.or_default.ensures.value) c.in_ok-push.ensures.items in
    let held = step _ ((c.in_ok-self.ensures.update.0 c.push.new.self).0 q) in
    first_of (cc held, grind (arith, held))
