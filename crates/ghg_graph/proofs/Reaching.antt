-- When a node of each kind is changed.
use Rattle.std.proofs.Common.{◌≡◌, ℕ, Bool, true, false, not, ◌&&◌, ◌||◌, List, [], ◌∷◌, map, is_eq, is_some, Option, Some, None, refl, sym, ap, ap₂, ◌∙◌}
use Rattle.std.proofs.lemmas.Cmp.{tied_itself}
use Rattle.std.specs.Cmp.Lexicographic.{nat_list_cmp_total, pointwise}
use Rattle.std.specs.Option.{option_map_or}
use Rattle.std.specs.Ordering.{eq_by_cmp}
use denote.Enum.Bare.{same_true, true_same}
use Rattle.ghg_categories.specs.declared.category.Category.{Category}
use Rattle.ghg_categories.specs.Tree.{stands_under}
use Rattle.ghg_cell.specs.declared.input.Input.{Input}
use Rattle.ghg_equations.specs.declared.eq_id.EqId.{EqId}
use Rattle.ghg_equations.specs.contracts.eq_id.EqId.{the_type}
use Rattle.ghg_equations.specs.Table.{Quantity, parameters}
use Rattle.ghg_units.specs.declared.node.Node.{Node}
use Rattle.ghg_units.specs.declared.node.Node.TheVariants as node
use Rattle.ghg_definitions.specs.Compilation.{bound_to, counts_in_gross, first_year, gas_lines_at, is_in_tree, is_node, is_year_of, line_formula, line_gas, potential}
use Rattle.ghg_definitions.specs.Data.{Data, Name, binding, line, name_cmp, span}
use Rattle.ghg_definitions.specs.Formulas.{Operand, map_formula, map_operand}
use Rattle.ghg_definitions.specs.Lookups.{given}
use Rattle.ghg_definitions.proofs.Alike.{first_so}
use Rattle.ghg_definitions.proofs.Keys.{equal_by, names_same}
use Rattle.ghg_affected.specs.Affected.{formula_with_inputs, is_changed}
use Rattle.ghg_affected.specs.Equalities.{same_equation, same_formula, same_input, same_node, same_nodes, same_operand}
use Rattle.ghg_affected.proofs.Bools.{true_not_false}
use Rattle.ghg_affected.proofs.Equalities.{node_decides}
use Rattle.ghg_graph.specs.Moves.{are_moved}

-- ---- truth values

pub same_truth : (a b : Bool) → (a ≡ true → b ≡ true) → (b ≡ true → a ≡ true) → a ≡ b
same_truth true true to back = refl
same_truth true false to back = absurd (true_not_false (sym (to refl)))
same_truth false true to back = absurd (true_not_false (sym (back refl)))
same_truth false false to back = refl

-- ---- nodes of each kind

pub same_node_itself : (n : Node) → same_node n n ≡ true
same_node_itself n = (node_decides n n).1 refl

map_twice : {A B C : Type 0} (f : B → C) (g : A → B) (xs : List A) → map f (map g xs) ≡ map (λ x. f (g x)) xs
map_twice f g [] = refl
map_twice f g (x ∷ xs) = ap (λ ys. f (g x) ∷ ys) (map_twice f g xs)

-- a line that was none, that had the equation, and that had another
none_so : (w p : Bool) → false ≡ ((w && false) && p)
none_so true p = refl
none_so false p = refl

same_so : (w p : Bool) → (w && p) ≡ ((w && true) && p)
same_so true p = refl
same_so false p = refl

other_so : (w p : Bool) → (w && false) ≡ ((w && false) && p)
other_so true p = refl
other_so false p = refl

not_both : (w p : Bool) → not (w && p) ≡ (not w || not p)
not_both true p = refl
not_both false p = refl

same_id : (d e : EqId) → same_equation d e ≡ true → d ≡ e
same_id d e h = same_true the_type tt d e h

same_names_by : (x y : Name) (year : ℕ)
    → same_node (node.Equiv x year) (node.Equiv y year) ≡ eq_by_cmp name_cmp x y
same_names_by x y year = same_truth _ _
    (λ e. let same : x ≡ y = equivalent_name year x y ((node_decides (node.Equiv x year) (node.Equiv y year)).0 e) in
    ap (eq_by_cmp name_cmp x) (sym same) ∙ ap is_eq (tied_itself nat_list_cmp_total x))
    (λ e. (node_decides (node.Equiv x year) (node.Equiv y year)).1 (ap (λ z. node.Equiv z year) (names_same x y (equal_by _ e))))
  where
    equivalent_name : (year : ℕ) (x y : Name) → node.Equiv x year ≡ node.Equiv y year → x ≡ y
    equivalent_name year x y e = cc

-- sums of the equivalents of lines are the same where the lines are
sums_same : (year : ℕ) (xs ys : List Name)
    → same_nodes (map (λ name. node.Equiv name year) xs) (map (λ name. node.Equiv name year) ys)
    ≡ pointwise (eq_by_cmp name_cmp) xs ys
sums_same year [] [] = refl
sums_same year [] (y ∷ ys) = refl
sums_same year (x ∷ xs) [] = refl
sums_same year (x ∷ xs) (y ∷ ys) = ap₂ (λ (a b : Bool). a && b) (same_names_by x y year) (sums_same year xs ys)

-- the line was there in the year, with the equation
abbrev pub was_line : Data → Name → EqId → ℕ → Bool
was_line old name e year =
    is_year_of (span old) year && option_map_or (λ d. same_equation d e) (line old name) false

module _ (old new : Data) where
  pub changed_is : (n : Node) → is_node new n ≡ true → is_changed old new n
      ≡ not (is_node old n && same_formula (formula_with_inputs old n) (formula_with_inputs new n))
  changed_is n is =
      ap (λ (a : Bool). a && not (is_node old n && same_formula (formula_with_inputs old n) (formula_with_inputs new n))) is

  -- ---- lines

  abbrev what : Data → ℕ → Name → Quantity → Operand Input
  what m year name q = map_operand (given m) (bound_to m (first_year (span m)) year (binding m name q.name))

  abbrev same_whats : ℕ → Name → EqId → EqId → Bool
  same_whats year name d e =
      pointwise same_operand (map (what old year name) (parameters d)) (map (what new year name) (parameters e))

  line_same : (name : Name) (year : ℕ) (d e : EqId) → line old name ≡ Some d → line new name ≡ Some e
      → same_formula (formula_with_inputs old (node.Line name year)) (formula_with_inputs new (node.Line name year))
      ≡ (same_equation d e && same_whats year name d e)
  unfolding same_formula
  line_same name year d e was at =
      ap₂ (λ x y. same_formula (map_formula (given old) (line_formula old (first_year (span old)) name year x))
      (map_formula (given new) (line_formula new (first_year (span new)) name year y))) was at
      ∙ ap₂ (λ (xs ys : List (Operand Input)). same_equation d e && pointwise same_operand xs ys)
      (map_twice (map_operand (given old)) (λ q. bound_to old (first_year (span old)) year (binding old name q.name)) (parameters d))
      (map_twice (map_operand (given new)) (λ q. bound_to new (first_year (span new)) year (binding new name q.name)) (parameters e))

  abbrev was_within : ℕ → Bool
  was_within year = is_year_of (span old) year

  abbrev same_line : Name → ℕ → Bool
  same_line name year =
      same_formula (formula_with_inputs old (node.Line name year)) (formula_with_inputs new (node.Line name year))

  pub line_changed : (name : Name) (year : ℕ) (e : EqId) → line new name ≡ Some e
      → is_node new (node.Line name year) ≡ true
      → is_changed old new (node.Line name year) ≡ not (was_line old name e year && same_whats year name e e)
  line_changed name year e at is = changed_is (node.Line name year) is ∙ ap not (by (line old name) refl)
    where
      with_id : (d : EqId) → line old name ≡ Some d → (b : Bool) → same_equation d e ≡ b
          → ((is_some (line old name) && was_within year) && same_line name year) ≡ (was_line old name e year && same_whats year name e e)
      with_id d was true one =
          ap₂ (λ (o : Option EqId) (f : Bool). (is_some o && was_within year) && f) was
          (line_same name year e e (was ∙ ap Some (same_id d e one)) at
          ∙ ap (λ (b : Bool). b && same_whats year name e e) (true_same the_type e e refl))
          ∙ same_so (was_within year) (same_whats year name e e)
          ∙ sym (ap (λ (o : Option EqId). (was_within year && option_map_or (λ k. same_equation k e) o false) && same_whats year name e e) was
          ∙ ap (λ (b : Bool). (was_within year && b) && same_whats year name e e) one)
      with_id d was false other =
          ap₂ (λ (o : Option EqId) (f : Bool). (is_some o && was_within year) && f) was
          (line_same name year d e was at ∙ ap (λ (b : Bool). b && same_whats year name d e) other)
          ∙ other_so (was_within year) (same_whats year name e e)
          ∙ sym (ap (λ (o : Option EqId). (was_within year && option_map_or (λ k. same_equation k e) o false) && same_whats year name e e) was
          ∙ ap (λ (b : Bool). (was_within year && b) && same_whats year name e e) other)

      by : (o : Option EqId) → line old name ≡ o
          → ((is_some (line old name) && was_within year) && same_line name year) ≡ (was_line old name e year && same_whats year name e e)
      by None was = ap (λ (o : Option EqId). (is_some o && was_within year) && same_line name year) was
          ∙ none_so (was_within year) (same_whats year name e e)
          ∙ sym (ap (λ (o : Option EqId). (was_within year && option_map_or (λ k. same_equation k e) o false) && same_whats year name e e) was)
      by (Some d) was = with_id d was (same_equation d e) refl

  -- ---- equivalents

  pub equivalent_same : (name : Name) (year : ℕ)
      → same_formula (formula_with_inputs old (node.Equiv name year)) (formula_with_inputs new (node.Equiv name year))
      ≡ same_input (given old (potential old year (line_gas old name))) (given new (potential new year (line_gas new name)))
  unfolding same_formula
  equivalent_same name year =
      ap (λ b. b && same_input (given old (potential old year (line_gas old name))) (given new (potential new year (line_gas new name))))
      (same_node_itself (node.Line name year))

  -- ---- totals

  pub total_changed : (c : Category) (year : ℕ) → is_node new (node.Total c year) ≡ true
      → is_changed old new (node.Total c year)
      ≡ (not (is_year_of (span old) year) || are_moved old new (λ d. stands_under d c))
  unfolding same_formula
  total_changed c year is =
      changed_is (node.Total c year) is
      ∙ ap₂ (λ (a b : Bool). not ((a && is_year_of (span old) year) && b)) (first_so (is_in_tree c) _ is)
      (sums_same year (gas_lines_at (λ d. stands_under d c) old) (gas_lines_at (λ d. stands_under d c) new))
      ∙ not_both (is_year_of (span old) year) _

  pub gross_changed : (year : ℕ) → is_node new (node.Gross year) ≡ true
      → is_changed old new (node.Gross year)
      ≡ (not (is_year_of (span old) year) || are_moved old new counts_in_gross)
  unfolding same_formula
  gross_changed year is =
      changed_is (node.Gross year) is
      ∙ ap (λ (b : Bool). not (is_year_of (span old) year && b))
      (sums_same year (gas_lines_at counts_in_gross old) (gas_lines_at counts_in_gross new))
      ∙ not_both (is_year_of (span old) year) _
