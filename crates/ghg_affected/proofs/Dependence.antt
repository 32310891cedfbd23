-- The formula of a node over inputs depends on the records that it reads.
use Rattle.std.proofs.Common.{◌≡◌, inl, inr, ℕ, zero, suc, ◌≤◌, Bool, true, false, ◌&&◌, if◌then◌else◌, nat_le, is_some, option_and_then, List, [], ◌∷◌, map, filter, Option, Some, None, refl, sym, ap, ap₂, ◌∙◌, subst, is_eq, arith}
use Rattle.std.specs.Cmp.{tied_itself}
use Rattle.std.specs.Cmp.Lexicographic.{nat_list_cmp_total}
use Rattle.std.specs.FinMap.{get}
use Rattle.std.specs.List.Sorted.{IsStrictlySortedBy}
use Rattle.std.specs.Option.{option_map_or}
use Rattle.std.specs.List.{list_any}
use Rattle.std.proofs.lemmas.Bool.Decides.{same_from_decides}
use Rattle.std.proofs.lemmas.List.Elements.{filter_agree}
use Rattle.std.proofs.lemmas.Map.Lookups.{btree_set_from_contains, exact_bytes}
use Rattle.ghg_categories.specs.declared.category.Category.{Category}
use Rattle.ghg_categories.specs.Tree.{stands_under}
use Rattle.ghg_cell.specs.declared.input.Input.{Input}
use Rattle.ghg_equations.specs.declared.eq_id.EqId.{EqId}
use Rattle.ghg_equations.specs.declared.quantity.Gas.{Gas}
use Rattle.ghg_equations.specs.Quantity.{gas_of}
use Rattle.ghg_equations.specs.Table.{Quantity, output, parameters}
use Rattle.ghg_units.specs.declared.node.Node.{Node}
use Rattle.ghg_units.specs.declared.node.Node.TheVariants as node
use Rattle.ghg_units.specs.declared.row.Binding.{Binding}
use Rattle.ghg_units.specs.declared.row.Binding.TheVariants as bound
use Rattle.ghg_units.specs.declared.row.Figure.{Figure}
use Rattle.ghg_units.specs.declared.row.NotationKey.{NotationKey}
use Rattle.ghg_units.specs.declared.row.NotationKey.TheVariants.{No, Na, Ie, Ne}
use Rattle.ghg_units.specs.Name.{potential_name}
use Rattle.ghg_definitions.specs.declared.record.Record.{Record}
use Rattle.ghg_definitions.specs.declared.record.RecordKey.{RecordKey}
use Rattle.ghg_definitions.specs.declared.record.RecordKey.TheVariants as key
use Rattle.ghg_affected.specs.Affected.{formula_with_inputs}
use Rattle.ghg_definitions.specs.Compilation.{bound_to, counts_in_gross, emits, first_year, gas_lines, gas_lines_at, is_in_tree, is_node, is_year_of, line_formula, line_gas, potential, previous}
use Rattle.ghg_definitions.specs.Data.{Data, Name, as_binding, as_category, as_figure, as_line, as_span, binding, category, figure, line, line_names, name_cmp, span}
use Rattle.ghg_definitions.specs.Formulas.{Computed, Given, Operand, Summed, Weighted, map_formula, map_operand}
use Rattle.ghg_definitions.specs.Listed.{IsListed}
use Rattle.ghg_definitions.specs.Lookups.{by_key, decay, decay_of_figure, decayed, factor, factor_key, given, input_of_figure, recorded}
use Rattle.ghg_affected.specs.Dependence.{FormulasDependOnReads, Reads, StandsBy, UntouchedAreUnchanged}
use Rattle.ghg_affected.proofs.Bools.{true_not_false}
use Rattle.ghg_definitions.proofs.Grounded.{record_listed}
use Rattle.ghg_definitions.proofs.Lines.{lines_sorted}
use Rattle.ghg_definitions.proofs.NodeLists.{record_there}
use Rattle.ghg_definitions.proofs.Keys.{equal_by}
use Rattle.ghg_definitions.proofs.Listed.{from_any, listed_any}

-- ---- factors

-- the figure under the key
figure_at : Data → Option RecordKey → Option Figure
figure_at m o = option_and_then (figure m) o

recorded_input : (m : Data) (o : Option RecordKey) → given m (recorded o) ≡ input_of_figure (figure_at m o)
unfolding figure_at
recorded_input m None = refl
recorded_input m (Some k) = refl

decayed_input : (m : Data) (o : Option RecordKey) → given m (decayed o) ≡ decay_of_figure (figure_at m o)
unfolding figure_at
decayed_input m None = refl
decayed_input m (Some k) = refl

module _ (old new : Data) (name : Name) where
  abbrev pub SameFigures : ℕ → Type 0
  SameFigures year = (start : ℕ) → start ≤ year
      → figure old (key.Factor name start) ≡ figure new (key.Factor name start)

  either_figure : (start : ℕ) (o p : Option Figure) (rest others : Option RecordKey)
      → figure old (key.Factor name start) ≡ o → figure new (key.Factor name start) ≡ p → o ≡ p
      → figure_at old rest ≡ figure_at new others
      → figure_at old (if is_some o then Some (key.Factor name start) else rest)
      ≡ figure_at new (if is_some p then Some (key.Factor name start) else others)
  unfolding figure_at
  either_figure start None None rest others e f same h = h
  either_figure start None (Some x) rest others e f same h = absurd (cc)
  either_figure start (Some x) None rest others e f same h = absurd (cc)
  either_figure start (Some x) (Some y) rest others e f same h = e ∙ same ∙ sym f

  -- the figure that is in force
  figure_same : (year : ℕ) → SameFigures year
      → figure_at old (factor_key old name year) ≡ figure_at new (factor_key new name year)
  unfolding factor_key figure_at
  figure_same zero same = either_figure zero _ _ None None refl refl (same zero (omega arith)) refl
  figure_same (suc year) same = either_figure (suc year) _ _ _ _ refl refl (same (suc year) (omega arith))
      (figure_same year (λ start le. same start (omega arith)))

  pub factor_same : (year : ℕ) → SameFigures year
      → given old (factor old name year) ≡ given new (factor new name year)
  factor_same year same = recorded_input old (factor_key old name year)
      ∙ ap input_of_figure (figure_same year same) ∙ sym (recorded_input new (factor_key new name year))

  pub decay_same : (year : ℕ) → SameFigures year
      → given old (decay old name year) ≡ given new (decay new name year)
  decay_same year same = decayed_input old (factor_key old name year)
      ∙ ap decay_of_figure (figure_same year same) ∙ sym (decayed_input new (factor_key new name year))

-- ---- lines

pub same_notation : (old new : Data) (notation : NotationKey)
    → given old (by_key notation) ≡ given new (by_key notation)
same_notation old new No = refl
same_notation old new Na = refl
same_notation old new Ie = refl
same_notation old new Ne = refl

pub same_previous : (old new : Data) (b : Bool) (k : Name) (year : ℕ)
    → map_operand (given old) (previous b k year) ≡ map_operand (given new) (previous b k year)
same_previous old new true k year = refl
same_previous old new false k year = refl

module _ (old new : Data) (name : Name) (year : ℕ)
    (same : (k : RecordKey) → Reads new (node.Line name year) k → get old k ≡ get new k) where
  abbrev first : ℕ
  first = first_year (span new)

  same_bound : (parameter : Name) (b : Option Binding) → binding new name parameter ≡ b
      → map_operand (given old) (bound_to old first year b)
      ≡ map_operand (given new) (bound_to new first year b)
  same_bound parameter None e = refl
  same_bound parameter (Some (bound.Activity other)) e =
      ap (λ o. Given (input_of_figure (as_figure o)))
      (same (key.Activity other year) (refl, record { parameter = parameter; bound = e }))
  same_bound parameter (Some (bound.Factor other)) e =
      ap Given (factor_same old new other year
      (λ start le. ap as_figure (same (key.Factor other start) (le, record { parameter = parameter; bound = inl e }))))
  same_bound parameter (Some (bound.Line k)) e = refl
  same_bound parameter (Some (bound.Prev k)) e = same_previous old new (nat_le year first) k year
  same_bound parameter (Some (bound.Sum ks)) e = refl
  same_bound parameter (Some (bound.Decay other)) e =
      ap Given (decay_same old new other year
      (λ start le. ap as_figure (same (key.Factor other start) (le, record { parameter = parameter; bound = inr e }))))
  same_bound parameter (Some (bound.Key notation)) e = ap Given (same_notation old new notation)

  same_operands : (qs : List Quantity)
      → map (map_operand (given old)) (map (λ q. bound_to old first year (binding old name q.name)) qs)
      ≡ map (map_operand (given new)) (map (λ q. bound_to new first year (binding new name q.name)) qs)
  same_operands [] = refl
  same_operands (q ∷ qs) = ap₂ (λ (x : Operand Input) (xs : List (Operand Input)). x ∷ xs)
      (ap (λ o. map_operand (given old) (bound_to old first year (as_binding o)))
      (same (key.Bind name q.name) refl) ∙ same_bound q.name (binding new name q.name) refl)
      (same_operands qs)

  same_equation : (e : Option EqId)
      → map_formula (given old) (line_formula old first name year e)
      ≡ map_formula (given new) (line_formula new first name year e)
  same_equation None = refl
  same_equation (Some e) = ap (λ (xs : List (Operand Input)). Computed e xs) (same_operands (parameters e))

  same_line : formula_with_inputs old (node.Line name year) ≡ formula_with_inputs new (node.Line name year)
  same_line =
      ap (λ o. map_formula (given old) (line_formula old (first_year (as_span o)) name year (line old name)))
      (same key.Span tt)
      ∙ ap (λ o. map_formula (given old) (line_formula old (first_year (span new)) name year (as_line o)))
      (same (key.Line name) refl)
      ∙ same_equation (line new name)

-- ---- equivalents

same_potential : (old new : Data) (name : Name) (year : ℕ)
    → ((k : RecordKey) → Reads new (node.Equiv name year) k → get old k ≡ get new k)
    → (gas : Option Gas) → line_gas new name ≡ gas
    → given old (potential old year gas) ≡ given new (potential new year gas)
same_potential old new name year same None e = refl
same_potential old new name year same (Some gas) e =
    factor_same old new (potential_name gas) year
    (λ start le. ap as_figure (same (key.Factor (potential_name gas) start)
    (le, record { gas = gas; emitted = e; named = refl })))

pub same_gas : (old new : Data) (name : Name) → get old (key.Line name) ≡ get new (key.Line name)
    → line_gas old name ≡ line_gas new name
same_gas old new name e = ap (λ o. line_gas_of (as_line o)) e
  where
    line_gas_of : Option EqId → Option Gas
    line_gas_of o = option_and_then (λ e. gas_of (output e)) o

same_equivalent : (old new : Data) (name : Name) (year : ℕ)
    → ((k : RecordKey) → Reads new (node.Equiv name year) k → get old k ≡ get new k)
    → formula_with_inputs old (node.Equiv name year) ≡ formula_with_inputs new (node.Equiv name year)
same_equivalent old new name year same =
    ap (λ g. Weighted (node.Line name year) (given old (potential old year g)))
    (same_gas old new name (same (key.Line name) refl))
    ∙ ap (λ (x : Input). Weighted (node.Line name year) x)
    (same_potential old new name year same (line_gas new name) refl)

-- ---- the lines that there are

abbrev has : Name → List Name → Bool
has z zs = list_any (λ x. is_eq (name_cmp z x)) zs

-- lists in order with the same elements are equal
pub same_lists : (xs ys : List Name) → IsStrictlySortedBy name_cmp xs → IsStrictlySortedBy name_cmp ys
    → ((z : Name) → IsListed z xs → IsListed z ys) → ((z : Name) → IsListed z ys → IsListed z xs) → xs ≡ ys
same_lists xs ys s t to back =
    btree_set_from_contains nat_list_cmp_total (record { keys = xs }) (record { keys = ys }) s t
    (λ z. same_from_decides (has z xs) (has z ys) (λ e. to z (here z xs e), λ i. there z xs (back z i)) (here z ys, there z ys))
    exact_bytes
  where
    here : (z : Name) (zs : List Name) → has z zs ≡ true → IsListed z zs
    here z zs e = let found = from_any (λ x. is_eq (name_cmp z x)) zs e in
        subst (λ x. IsListed x zs) (sym (exact_bytes z found.0 (equal_by _ found.2))) found.1

    there : (z : Name) (zs : List Name) → IsListed z zs → has z zs ≡ true
    there z zs i = listed_any (λ x. is_eq (name_cmp z x)) z zs i (ap is_eq (tied_itself nat_list_cmp_total z))

module _ (old new : Data) (same : (name : Name) → get old (key.Line name) ≡ get new (key.Line name)) where
  pub same_names : line_names old ≡ line_names new
  same_names = same_lists (line_names old) (line_names new) (lines_sorted old) (lines_sorted new)
      (λ z i. record_listed new z (sym (ap is_some (same z)) ∙ record_there old z i))
      (λ z i. record_listed old z (ap is_some (same z) ∙ record_there new z i))

  pub emitters_same : gas_lines old ≡ gas_lines new
  emitters_same =
      filter_agree (emits old) (emits new) (λ name. ap is_some (same_gas old new name (same name)))
      (line_names old)
      ∙ ap (filter (emits new)) same_names

  pub emitters_at : (test : Category → Bool) → gas_lines_at test old ≡ gas_lines_at test new
  emitters_at test =
      filter_agree (λ name. option_map_or test (category old name) false)
      (λ name. option_map_or test (category new name) false)
      (λ name. ap (λ o. option_map_or test (as_category o) false) (same name)) (gas_lines old)
      ∙ ap (filter (λ name. option_map_or test (category new name) false)) emitters_same

-- ---- the law

pub formulas_depend_on_reads : FormulasDependOnReads
formulas_depend_on_reads old new (node.Line name year) same = same_line old new name year same
formulas_depend_on_reads old new (node.Equiv name year) same = same_equivalent old new name year same
formulas_depend_on_reads old new (node.Total c year) same =
    ap (λ names. Summed (map (λ name. node.Equiv name year) names))
    (emitters_at old new (λ name. same (key.Line name) tt) (λ k. stands_under k c))
formulas_depend_on_reads old new (node.Gross year) same =
    ap (λ names. Summed (map (λ name. node.Equiv name year) names))
    (emitters_at old new (λ name. same (key.Line name) tt) counts_in_gross)

-- ---- what is not changed

pub stands_same : (old new : Data) (n : Node) → ((k : RecordKey) → StandsBy n k → get old k ≡ get new k)
    → is_node old n ≡ is_node new n
stands_same old new (node.Line name year) same =
    ap₂ (λ (o p : Option Record). is_some (as_line o) && is_year_of (as_span p) year)
    (same (key.Line name) refl) (same key.Span tt)
stands_same old new (node.Equiv name year) same =
    ap₂ (λ (g : Option Gas) (p : Option Record). is_some g && is_year_of (as_span p) year)
    (same_gas old new name (same (key.Line name) refl)) (same key.Span tt)
stands_same old new (node.Total c year) same =
    ap (λ (p : Option Record). is_in_tree c && is_year_of (as_span p) year) (same key.Span tt)
stands_same old new (node.Gross year) same =
    ap (λ (p : Option Record). is_year_of (as_span p) year) (same key.Span tt)

pub untouched_are_unchanged : UntouchedAreUnchanged
untouched_are_unchanged old new n reads stands changed = elim changed.differs [
  | inl none ↦ true_not_false (sym changed.node ∙ sym (stands_same old new n stands) ∙ none)
  | inr apart ↦ apart (formulas_depend_on_reads old new n reads)
]
