use Rattle.std.proofs.Common.{◌≡◌, ◌∙◌, filter_map, ap, subst, sym}
use Rattle.std.proofs.lemmas.List.Filters.{dedup_is}
use Rattle.std.specs.List.{dedup}
use Rattle.std.specs.List.Sorted.{IsStrictlySortedBy}
use Rattle.ghg_definitions.specs.Data.{name_cmp}
use Rattle.ghg_definitions.specs.Listed.{IsListed}
use Rattle.ghg_layers.specs.Lines.{line_in}
use Rattle.ghg_layers.proofs.Naming.{name_kept, names_strict, same_names}
use Rattle.ghg_layers.proofs.lines.line_names.Goals as goal

pub returns-clause-order : goal.returns-clause-order
returns-clause-order c =
    let is : c.dedup.new.self.items ≡ dedup same_names (filter_map line_in c.args.nodes.now) = dedup_is same_names c.in_ok-names.names.items c.dedup.new.self.items c.dedup.ensures.filtered ∙ ap (dedup same_names) c.in_ok-names.ensures in
    subst (IsStrictlySortedBy name_cmp) (sym is) (names_strict c.args.nodes.now c.requires)

pub returns-clause-all : goal.returns-clause-all
returns-clause-all c =
    let is : c.dedup.new.self.items ≡ dedup same_names (filter_map line_in c.args.nodes.now) = dedup_is same_names c.in_ok-names.names.items c.dedup.new.self.items c.dedup.ensures.filtered ∙ ap (dedup same_names) c.in_ok-names.ensures in
    λ name year i. subst (IsListed name) (sym is) (name_kept c.args.nodes.now name year i)
