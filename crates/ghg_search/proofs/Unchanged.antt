-- What is changed is found where the records that its formula reads are gone over.
use Rattle.std.proofs.Common.{◌≡◌, ◌⊎◌, inl, inr, ℕ, true, false, ◌==◌, nat_le, is_some, List, [], ◌∷◌, map, flat_map, Option, Some, None, refl, sym, ap, ap₂, ◌∙◌, subst}
use Rattle.std.proofs.lemmas.Bool.Decides.{Decides-eqb}
use Rattle.std.specs.FinMap.{get}
use Rattle.std.specs.List.{list_any}
use Rattle.std.specs.Option.{option_map, option_map_or, option_to_list}
use Rattle.ghg_categories.specs.declared.category.Category.{Category}
use Rattle.ghg_cell.specs.declared.input.Input.{Input}
use Rattle.ghg_equations.specs.declared.eq_id.EqId.{EqId}
use Rattle.ghg_equations.specs.declared.quantity.Gas.{Gas}
use Rattle.ghg_equations.specs.Table.{Quantity, parameters}
use Rattle.ghg_units.specs.Name.{potential_name}
use Rattle.ghg_units.specs.declared.node.Node.{Node}
use Rattle.ghg_units.specs.declared.node.Node.TheVariants as node
use Rattle.ghg_units.specs.declared.row.Binding.{Binding}
use Rattle.ghg_units.specs.declared.row.Binding.TheVariants as bound
use Rattle.ghg_definitions.specs.declared.record.RecordKey.{RecordKey}
use Rattle.ghg_definitions.specs.declared.record.RecordKey.TheVariants as key
use Rattle.ghg_definitions.specs.Compilation.{bound_to, emits, first_year, is_node, is_year_of, line_formula, line_gas, potential}
use Rattle.ghg_definitions.specs.Data.{Data, Name, as_binding, as_figure, as_line, as_span, binding, line, span}
use Rattle.ghg_definitions.specs.Formulas.{Computed, Given, Operand, Weighted, map_formula, map_operand}
use Rattle.ghg_definitions.specs.Listed.{IsListed}
use Rattle.ghg_definitions.specs.Lookups.{given, input_of_figure}
use Rattle.ghg_definitions.proofs.Alike.{both, first_so}
use Rattle.ghg_definitions.proofs.Depth.{or_else}
use Rattle.ghg_definitions.proofs.Listed.{listed, listed_any, listed_flat, listed_left, listed_right, map_agree}
use Rattle.ghg_affected.specs.Affected.{formula_with_inputs}
use Rattle.ghg_affected.proofs.Affected.{is_so}
use Rattle.ghg_affected.proofs.Bools.{true_not_false}
use Rattle.ghg_affected.proofs.Dependence.{decay_same, factor_same, same_gas, same_notation, same_previous}
use Rattle.ghg_search.specs.Index.{DifferAt, HasUser, HasUsers, is_named, is_potential, named_by, names_bound}
use Rattle.ghg_data.specs.declared.year_set.YearSet.{YearSet}
use Rattle.ghg_data.specs.YearSet.{has_year}
use Rattle.ghg_definitions.specs.Nodes.{year_in}
use Rattle.ghg_search.proofs.Sources.{name_itself}
use Rattle.ghg_search.proofs.Spans.{year_of_node}
use Rattle.ghg_search.proofs.Takers.{equivalent_is}
use Rattle.ghg_search.specs.Found.{IsIn, is_found}
use Rattle.ghg_search.specs.Search.{AreEquivalentsTried, AreLinesTried, IsChange, IsLed, IsNodeIn, MayChange, MayWeigh}
use Rattle.ghg_columns.specs.declared.series.Series.TheVariants as series
use Rattle.ghg_search.specs.declared.found.Found.{Found}
use Rattle.ghg_search.specs.declared.index.Index.{Index}
use Rattle.ghg_search.specs.declared.index.Source.{Source}
use Rattle.ghg_search.specs.declared.index.Source.TheVariants as source

-- a node whose formula gives what it gave is not changed
no_change : (old new : Data) (n : Node) → (is_node new n ≡ true → is_node old n ≡ true)
    → formula_with_inputs old n ≡ formula_with_inputs new n → IsChange old new n → ⊥
no_change old new n was same e =
    let changed = is_so old new n e in
    elim changed.differs [ inl none ↦ true_not_false (sym (was changed.node) ∙ none) | inr apart ↦ apart same ]

-- ---- lines

-- the records of the line, and of what its bindings name in the year, are what they were
module _ (old new : Data) (index : Index) (has : HasUsers new index) (name : Name) (year : ℕ)
    (same : (k : RecordKey) → MayChange old new index k name year → get old k ≡ get new k) where
  same_bound : (first : ℕ) (b : Option Binding) → ((s : Source) → IsListed s (named_by b) → HasUser index s name)
      → ((s : Source) → is_named s b ≡ true → names_bound new s name ≡ true)
      → map_operand (given old) (bound_to old first year b) ≡ map_operand (given new) (bound_to new first year b)
  same_bound first None users named = refl
  same_bound first (Some (bound.Activity other)) users named =
      ap (λ o. Given (input_of_figure (as_figure o))) (same (key.Activity other year) (users (source.Activity other) (inl refl), refl))
  same_bound first (Some (bound.Factor other)) users named =
      ap Given (factor_same old new other year (λ start le. ap as_figure (same (key.Factor other start)
      (users (source.Factor other) (inl refl), named (source.Factor other) (name_itself other), le))))
  same_bound first (Some (bound.Line k)) users named = refl
  same_bound first (Some (bound.Prev k)) users named = same_previous old new (nat_le year first) k year
  same_bound first (Some (bound.Sum ks)) users named = refl
  same_bound first (Some (bound.Decay other)) users named =
      ap Given (decay_same old new other year (λ start le. ap as_figure (same (key.Factor other start)
      (users (source.Factor other) (inl refl), named (source.Factor other) (name_itself other), le))))
  same_bound first (Some (bound.Key notation)) users named = ap Given (same_notation old new notation)

  same_equation : (first : ℕ) (e : Option EqId) → line new name ≡ e
      → map_formula (given old) (line_formula old first name year e) ≡ map_formula (given new) (line_formula new first name year e)
  same_equation first None at = refl
  same_equation first (Some e) at = ap (λ (xs : List (Operand Input)). Computed e xs)
      (map_map (map_operand (given old)) (λ q. bound_to old first year (binding old name q.name)) (parameters e)
      ∙ map_agree (λ (q : Quantity). map_operand (given old) (bound_to old first year (binding old name q.name)))
      (λ q. map_operand (given new) (bound_to new first year (binding new name q.name))) (parameters e)
      (λ q i. ap (λ o. map_operand (given old) (bound_to old first year (as_binding o))) (same (key.Bind name q.name) refl)
      ∙ same_bound first (binding new name q.name) (λ s j. has name s (listed_left s _ _
      (subst (λ o. IsListed s (option_map_or (λ e. flat_map (λ q. named_by (binding new name q.name)) (parameters e)) o [])) (sym at)
      (listed_flat (λ q. named_by (binding new name q.name)) q s (parameters e) i j))))
      (λ s h. ap (λ o. option_map_or (λ e. list_any (λ q. is_named s (binding new name q.name)) (parameters e)) o false) at
      ∙ listed_any (λ q. is_named s (binding new name q.name)) q (parameters e) i h))
      ∙ sym (map_map (map_operand (given new)) (λ q. bound_to new first year (binding new name q.name)) (parameters e)))
    where
      map_map : {A B C : Type 0} (f : B → C) (g : A → B) (xs : List A) → map f (map g xs) ≡ map (λ x. f (g x)) xs
      map_map f g [] = refl
      map_map f g (x ∷ xs) = ap (λ ys. f (g x) ∷ ys) (map_map f g xs)

  first_kept : first_year (span old) ≡ first_year (span new)
  first_kept = elim (or_else (first_year (span old) == first_year (span new))) [
    | inl e ↦ (Decides-eqb (first_year (span old)) (first_year (span new))).0 e
    | inr apart ↦ ap (λ o. first_year (as_span o)) (same key.Span
        (λ e. true_not_false (sym ((Decides-eqb (first_year (span old)) (first_year (span new))).1 e) ∙ apart)))
  ]

  line_same : formula_with_inputs old (node.Line name year) ≡ formula_with_inputs new (node.Line name year)
  line_same =
      ap₂ (λ f o. map_formula (given old) (line_formula old f name year (as_line o))) first_kept (same (key.Line name) refl)
      ∙ same_equation (first_year (span new)) (line new name) refl

  -- so it is not changed
  line_unchanged : is_year_of (span old) year ≡ true → IsChange old new (node.Line name year) → ⊥
  line_unchanged was = no_change old new (node.Line name year) (λ is. both _ _
      (ap (λ o. is_some (as_line o)) (same (key.Line name) refl) ∙ first_so (is_some (line new name)) _ is) was) line_same

-- ---- equivalents

-- the records of the line, and of its gas's warming potential in the year, are what they were
module _ (old new : Data) (index : Index) (has : HasUsers new index) (name : Name) (year : ℕ)
    (same : (k : RecordKey) → MayWeigh new index k name year → get old k ≡ get new k) where
  gas_kept : line_gas old name ≡ line_gas new name
  gas_kept = same_gas old new name (same (key.Line name) refl)

  same_potential : (gas : Option Gas) → line_gas new name ≡ gas
      → given old (potential old year gas) ≡ given new (potential new year gas)
  same_potential None e = refl
  same_potential (Some gas) e =
      let factor = source.Factor (potential_name gas) in
      factor_same old new (potential_name gas) year
      (λ start le. ap as_figure (same (key.Factor (potential_name gas) start) (
        has name factor (listed_right factor _ _
            (subst (λ o. IsListed factor (option_to_list (option_map (λ g. source.Factor (potential_name g)) o))) (sym e) (inl refl))),
        ap (is_potential factor) e ∙ name_itself (potential_name gas),
        le,
      )))

  equivalent_same : formula_with_inputs old (node.Equiv name year) ≡ formula_with_inputs new (node.Equiv name year)
  equivalent_same = ap (λ g. Weighted (node.Line name year) (given old (potential old year g))) gas_kept
      ∙ ap (λ (x : Input). Weighted (node.Line name year) x) (same_potential (line_gas new name) refl)

  equivalent_unchanged : is_year_of (span old) year ≡ true → IsChange old new (node.Equiv name year) → ⊥
  equivalent_unchanged was = no_change old new (node.Equiv name year)
      (λ is. both _ _ (ap is_some gas_kept ∙ first_so (emits new name) _ is) was) equivalent_same

-- ---- all that is changed is found

module _ (old new : Data) (keys : List RecordKey) (differ : DifferAt keys old new) (index : Index) (has : HasUsers new index)
    (f : Found) (fresh kept : YearSet)
    (all : (year : ℕ) → is_year_of (span new) year ≡ true
    → ((is_year_of (span old) year ≡ true) × (has_year kept year ≡ true)) ⊎ (has_year fresh year ≡ true))
    (nodes : (n : Node) → IsNodeIn new fresh n → IsIn f n)
    (lines : (k : RecordKey) → IsListed k keys → AreLinesTried old new index kept k f)
    (equivalents : (k : RecordKey) → IsListed k keys → AreEquivalentsTried old new index kept k f)
    (totals : (top : Category) (year : ℕ) → has_year kept year ≡ true → IsChange old new (node.Total top year) → IsIn f (node.Total top year))
    (gross : (year : ℕ) → has_year kept year ≡ true → IsChange old new (node.Gross year) → IsIn f (node.Gross year)) where
  -- what is not found is not tried: so no key is about what it reads
  kept_found : (n : Node) → is_year_of (span old) (year_in n) ≡ true → has_year kept (year_in n) ≡ true → IsChange old new n
      → IsLed new f n
  kept_found (node.Line name year) was within e = elim (or_else (is_found f (series.Line name) year)) [
    | inl is ↦ inl is
    | inr off ↦ absurd (line_unchanged old new index has name year (λ k may. differ k
        (λ c. true_not_false (sym (lines k (listed keys k c) name year within may e) ∙ off))) was e)
  ]
  kept_found (node.Equiv name year) was within e = elim (or_else (is_found f (series.Line name) year)) [
    | inl is ↦ inr (node.Line name year, is, equivalent_is new name year (first_so (is_node new (node.Equiv name year)) _ e))
    | inr none ↦ elim (or_else (is_found f (series.Equivalent name) year)) [
      | inl is ↦ inl is
      | inr off ↦ absurd (equivalent_unchanged old new index has name year (λ k may. differ k
          (λ c. elim (equivalents k (listed keys k c) name year within may e) [
            | inl is ↦ true_not_false (sym is ∙ none)
            | inr is ↦ true_not_false (sym is ∙ off)
          ])) was e)
    ]
  ]
  kept_found (node.Total top year) was within e = inl (totals top year within e)
  kept_found (node.Gross year) was within e = inl (gross year within e)

  pub changed_found : (n : Node) → IsChange old new n → IsLed new f n
  changed_found n e =
      let is = first_so (is_node new n) _ e in
      elim (all (year_in n) (year_of_node new n is)) [
        | inl k ↦ kept_found n k.0 k.1 e
        | inr more ↦ inl (nodes n (is, more))
      ]
