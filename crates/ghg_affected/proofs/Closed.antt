-- In a workbook each input of a node is a node.
use Rattle.std.proofs.Common.{◌≡◌, inl, inr, ℕ, ◌-◌, ◌<◌, ◌≤◌, Bool, true, false, nat_le, leb-false, leb-true, le-leb, List, [], ◌∷◌, map, is_some, Option, Some, None, refl, sym, ap, ◌∙◌, subst, arith, if◌then◌else◌}
use Rattle.std.specs.List.{find}
use Rattle.std.specs.FinMap.{get}
use Rattle.std.specs.Option.{option_map_or}
use Rattle.std.specs.Str.{bytes_eq}
use Rattle.ghg_categories.specs.declared.category.Category.{Category}
use Rattle.ghg_categories.specs.Tree.{stands_under}
use Rattle.ghg_equations.specs.declared.eq_id.EqId.{EqId}
use Rattle.ghg_equations.specs.declared.quantity.Dim.{Dim}
use Rattle.ghg_equations.specs.declared.quantity.Dim.TheVariants as dims
use Rattle.ghg_equations.specs.Quantity.{same_dim}
use Rattle.ghg_equations.specs.Table.{Quantity, parameters}
use Rattle.ghg_units.specs.declared.node.Node.{Node}
use Rattle.ghg_units.specs.declared.node.Node.TheVariants as node
use Rattle.ghg_units.specs.declared.row.Binding.{Binding}
use Rattle.ghg_units.specs.declared.row.Binding.TheVariants as bound
use Rattle.ghg_units.specs.declared.row.Span.{Span}
use Rattle.ghg_definitions.specs.declared.record.Record.{Record}
use Rattle.ghg_definitions.specs.declared.record.RecordKey.TheVariants as key
use Rattle.ghg_definitions.specs.Compilation.{bound_to, counts_in_gross, emits, first_year, gas_lines, gas_lines_at, is_node, is_year_of, line_formula, previous, sheet_of}
use Rattle.ghg_definitions.specs.Data.{Data, Name, as_binding, binding, category, line, line_names, span}
use Rattle.ghg_definitions.specs.Formulas.{Operand, inputs, nodes_in}
use Rattle.ghg_definitions.specs.Listed.{IsListed}
use Rattle.ghg_definitions.specs.Lookups.{Source}
use Rattle.ghg_definitions.specs.Rules.{binds_parameter, is_bound, is_line_of}
use Rattle.ghg_definitions.specs.Sound.{IsWorkbook}
use Rattle.ghg_definitions.specs.Trials.{IsInput}
use Rattle.ghg_definitions.proofs.Alike.{both, first_so, second_so}
use Rattle.ghg_definitions.proofs.Listed.{from_filter, from_flat, from_map, listed}
use Rattle.ghg_definitions.proofs.NodeLists.{emitting}
use Rattle.ghg_definitions.proofs.Rings.{all_listed, binding_sound, present}
use Rattle.ghg_affected.specs.Closed.{InputsAreNodes}

-- ---- the lines that a binding names

named_by : Option Binding → List Name
named_by (Some (bound.Line k)) = k ∷ []
named_by (Some (bound.Prev k)) = k ∷ []
named_by (Some (bound.Sum ks)) = ks
named_by _ = []

by_dim : (b rest : Bool) → (if b then false else rest) ≡ true → rest ≡ true
by_dim true rest h = absurd (cc)
by_dim false rest h = h

-- are present, where it gives a dimension
named_present : (m : Data) (d : Dim) (b : Option Binding) (name : Name) → is_bound m d b ≡ true
    → IsListed name (named_by b) → is_some (line m name) ≡ true
unfolding named_by
named_present m d None name h i = absurd i
named_present m d (Some (bound.Activity other)) name h i = absurd i
named_present m d (Some (bound.Factor other)) name h i = absurd i
named_present m d (Some (bound.Line k)) name h (inl e) =
    ap (λ k. is_some (line m k)) e ∙ present (line m k) d (by_dim (same_dim d dims.Decay) _ h)
named_present m d (Some (bound.Line k)) name h (inr i) = absurd i
named_present m d (Some (bound.Prev k)) name h (inl e) =
    ap (λ k. is_some (line m k)) e ∙ present (line m k) d (by_dim (same_dim d dims.Decay) _ h)
named_present m d (Some (bound.Prev k)) name h (inr i) = absurd i
named_present m d (Some (bound.Sum ks)) name h i =
    present (line m name) d (all_listed (is_line_of m d) ks name (by_dim (same_dim d dims.Decay) _ h) i)
named_present m d (Some (bound.Decay other)) name h i = absurd i
named_present m d (Some (bound.Key notation)) name h i = absurd i

-- a binding that names a line is a record
naming_record : (o : Option Record) (name : Name) → IsListed name (named_by (as_binding o))
    → (r : Record) × (o ≡ Some r)
unfolding named_by
naming_record None name h = absurd h
naming_record (Some r) name h = (r, refl)

-- so a line that a line's parameter names is present
taken_stands : (m : Data) → IsWorkbook m → (k parameter name : Name)
    → IsListed name (named_by (binding m k parameter)) → is_some (line m name) ≡ true
taken_stands m is k parameter name h = by (line m k) (binding_sound m is k parameter found.0 found.1)
  where
    found : (r : Record) × (get m (key.Bind k parameter) ≡ Some r)
    found = naming_record (get m (key.Bind k parameter)) name h

    at : (o : Option Quantity) → option_map_or (λ q. is_bound m q.dim (binding m k parameter)) o false ≡ true
        → is_some (line m name) ≡ true
    at None e = absurd (cc)
    at (Some q) e = named_present m q.dim (binding m k parameter) name e h

    by : (e : Option EqId) → option_map_or (λ e. binds_parameter m e parameter (binding m k parameter)) e
        false ≡ true → is_some (line m name) ≡ true
    by None e = absurd (cc)
    by (Some e) h = at (find (λ q. bytes_eq q.name parameter) (parameters e)) h

-- ---- years

year_before : (s : Option Span) (year : ℕ) → nat_le year (first_year s) ≡ false → is_year_of s year ≡ true
    → is_year_of s (year - 1) ≡ true
year_before None year e is = is
year_before (Some s) year e is =
    let low : s.first < year = omega (arith, leb-false) in
    let high : year ≤ s.last = leb-true year s.last (second_so (nat_le s.first year) _ is) in
    both _ _ (le-leb s.first (year - 1) (omega arith)) (le-leb (year - 1) s.last (omega arith))

-- ---- the nodes that a formula takes

module _ (m : Data) (is : IsWorkbook m) where
  previous_is : (k : Name) (year : ℕ) (b : Bool) → nat_le year (first_year (span m)) ≡ b
      → is_some (line m k) ≡ true → is_year_of (span m) year ≡ true
      → (n : Node) → IsListed n (nodes_in (previous b k year)) → is_node m n ≡ true
  previous_is k year true e there in_span n h = absurd h
  previous_is k year false e there in_span n (inl same) =
      subst (λ j. is_node m j ≡ true) (sym same) (both _ _ there (year_before (span m) year e in_span))
  previous_is k year false e there in_span n (inr h) = absurd h

  bound_is : (year : ℕ) → is_year_of (span m) year ≡ true → (b : Option Binding)
      → ((name : Name) → IsListed name (named_by b) → is_some (line m name) ≡ true)
      → (n : Node) → IsListed n (nodes_in (bound_to m (first_year (span m)) year b)) → is_node m n ≡ true
  unfolding named_by
  bound_is year in_span None h n i = absurd i
  bound_is year in_span (Some (bound.Activity name)) h n i = absurd i
  bound_is year in_span (Some (bound.Factor name)) h n i = absurd i
  bound_is year in_span (Some (bound.Line k)) h n (inl same) =
      subst (λ j. is_node m j ≡ true) (sym same) (both _ _ (h k (inl refl)) in_span)
  bound_is year in_span (Some (bound.Line k)) h n (inr i) = absurd i
  bound_is year in_span (Some (bound.Prev k)) h n i = previous_is k year _ refl (h k (inl refl)) in_span n i
  bound_is year in_span (Some (bound.Sum ks)) h n i =
      let from = from_map (λ k. node.Line k year) n ks i in
      subst (λ j. is_node m j ≡ true) (sym from.2) (both _ _ (h from.0 from.1) in_span)
  bound_is year in_span (Some (bound.Decay name)) h n i = absurd i
  bound_is year in_span (Some (bound.Key notation)) h n i = absurd i

  line_is : (name : Name) (year : ℕ) → is_year_of (span m) year ≡ true → (e : Option EqId) (n : Node)
      → IsListed n (inputs (line_formula m (first_year (span m)) name year e)) → is_node m n ≡ true
  line_is name year in_span None n h = absurd h
  line_is name year in_span (Some e) n h =
      let operand = from_flat (nodes_in {A = Source}) n
      (map (λ q. bound_to m (first_year (span m)) year (binding m name q.name)) (parameters e)) h in
      let from = from_map (λ q. bound_to m (first_year (span m)) year (binding m name q.name)) operand.0
      (parameters e) operand.1 in
      bound_is year in_span (binding m name from.0.name) (taken_stands m is name from.0.name) n
      (subst (λ (o : Operand Source). IsListed n (nodes_in o)) from.2 operand.2)

  sum_is : (test : Category → Bool) (year : ℕ) → is_year_of (span m) year ≡ true → (n : Node)
      → IsListed n (map (λ name. node.Equiv name year) (gas_lines_at test m)) → is_node m n ≡ true
  sum_is test year in_span n h =
      let from = from_map (λ name. node.Equiv name year) n (gas_lines_at test m) h in
      let passes = from_filter (λ name. option_map_or test (category m name) false) from.0
      (gas_lines m) from.1 in
      let emitted = from_filter (emits m) from.0 (line_names m) passes.0 in
      subst (λ j. is_node m j ≡ true) (sym from.2) (both _ _ emitted.1 in_span)

  closed : (k n : Node) → IsInput (sheet_of m) k n → is_node m k ≡ true
  closed k (node.Line name year) i =
      line_is name year (second_so (is_some (line m name)) _ i.node) (line m name) k (listed _ k i.among)
  closed k (node.Equiv name year) i = elim (listed (node.Line name year ∷ []) k i.among) [
    | inl same ↦ subst (λ j. is_node m j ≡ true) (sym same)
        (both _ _ (emitting m name (first_so (emits m name) _ i.node)) (second_so (emits m name) _ i.node))
    | inr h ↦ absurd h
  ]
  closed k (node.Total c year) i =
      sum_is (λ d. stands_under d c) year (second_so _ _ i.node) k (listed _ k i.among)
  closed k (node.Gross year) i = sum_is counts_in_gross year i.node k (listed _ k i.among)

pub inputs_are_nodes : InputsAreNodes
inputs_are_nodes m is k n i = closed m is k n i
