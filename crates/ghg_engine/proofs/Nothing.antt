-- Without records nothing is over.
use Rattle.std.proofs.Common.{◌≡◌, Bool, true, false, ◌&&◌, is_some, None, refl, sym, ap, ◌∙◌}
use Rattle.std.specs.FinMap.{empty, get-empty}
use Rattle.ghg_units.specs.declared.node.Node.{Node}
use Rattle.ghg_units.specs.declared.node.Node.TheVariants as node
use Rattle.ghg_definitions.specs.declared.record.Record.{Record}
use Rattle.ghg_definitions.specs.declared.record.RecordKey.TheVariants as key
use Rattle.ghg_definitions.specs.Compilation.{compilation, emits, is_in_tree, is_node, is_year_of, overflow}
use Rattle.ghg_definitions.specs.Data.{as_span, key_cmp, line, span}
use Rattle.ghg_definitions.specs.Trials.{is_over}
use Rattle.ghg_definitions.proofs.Alike.{first_so}
use Rattle.ghg_definitions.proofs.OneTrial.{compilation_trial, no_break_found}
use Rattle.ghg_data.proofs.Empty.{is_acyclic}

no_year : (b : Bool) (year : _) → (b && is_year_of (span (empty {X = Record} {R = key_cmp})) year) ≡ false
no_year b year = ap (λ r. b && is_year_of (as_span r) year) (get-empty key_cmp key.Span) ∙ and_false b
  where
    and_false : (c : Bool) → (c && false) ≡ false
    and_false true = refl
    and_false false = refl

no_node : (n : Node) → is_node (empty {X = Record} {R = key_cmp}) n ≡ false
no_node (node.Line name year) = no_year (is_some (line (empty {X = Record} {R = key_cmp}) name)) year
no_node (node.Equiv name year) = no_year (emits (empty {X = Record} {R = key_cmp}) name) year
no_node (node.Total c year) = no_year (is_in_tree c) year
no_node (node.Gross year) = no_year true year

no_outcome : (n : Node) → compilation (empty {X = Record} {R = key_cmp}) n ≡ None
no_outcome n = (compilation_trial (empty {X = Record} {R = key_cmp}) is_acyclic).nowhere_else n (no_node n)

pub nothing_over : overflow (empty {X = Record} {R = key_cmp}) ≡ None
nothing_over = no_break_found (empty {X = Record} {R = key_cmp}) (λ n b. clash (sym (first_so (is_over (compilation (empty {X = Record} {R = key_cmp}) n)) _ b) ∙ ap is_over (no_outcome n)))
  where
    clash : ◌≡◌ {A = Bool} true false → ⊥
    clash f = cc

pub nothing_found : (n : Node) → compilation (empty {X = Record} {R = key_cmp}) n ≡ None
nothing_found n = no_outcome n
