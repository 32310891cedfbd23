-- Whether lines and equivalents are changed.
use Rattle.std.proofs.Common.{◌≡◌, ℕ, Bool, true, false, not, ◌&&◌, ◌||◌, List, [], ◌∷◌, map, is_some, Some, refl, sym, ap, ap₂, ◌∙◌}
use Rattle.std.specs.Cmp.Lexicographic.{pointwise}
use Rattle.std.specs.List.{list_any}
use Rattle.ghg_cell.specs.declared.input.Input.{Input}
use Rattle.ghg_equations.specs.declared.eq_id.EqId.{EqId}
use Rattle.ghg_equations.specs.Table.{Quantity, parameters}
use Rattle.ghg_units.specs.declared.node.Node.{Node}
use Rattle.ghg_units.specs.declared.node.Node.TheVariants as node
use Rattle.ghg_affected.specs.Affected.{is_changed}
use Rattle.ghg_affected.specs.Equalities.{same_input, same_operand}
use Rattle.ghg_affected.proofs.Bools.{never_so, true_not_false}
use Rattle.ghg_definitions.specs.Compilation.{emits, is_node, is_year_of, line_gas, potential}
use Rattle.ghg_definitions.specs.Data.{Data, Name, binding, line, span}
use Rattle.ghg_definitions.specs.Formulas.{Operand}
use Rattle.ghg_definitions.specs.Lookups.{given}
use Rattle.ghg_definitions.proofs.Alike.{both, first_so}
use Rattle.ghg_graph.proofs.Reaching.{changed_is, equivalent_same, line_changed}
use Rattle.ghg_search.specs.Changed.{given_by, had_equation}

-- ---- truth values of years

pub not_not : (b : Bool) → not (not b) ≡ b
not_not true = refl
not_not false = refl

pub and_off : (r a b : Bool) → r ≡ false → b ≡ false → r ≡ a && b
and_off r true b e off = e ∙ sym off
and_off r false b e off = e

pub and_on : (a b : Bool) → (a ≡ true → b ≡ true) → a ≡ a && b
and_on true b h = sym (h refl)
and_on false b h = refl

pub and_alike : (a b c : Bool) → (a ≡ true → b ≡ c) → a && b ≡ a && c
and_alike true b c h = h refl
and_alike false b c h = refl

pub and_more : (a b s : Bool) → (a && not b) && s ≡ a && not (b || not s)
and_more true true s = refl
and_more true false s = sym (not_not s)
and_more false b s = refl

pub and_rest : (a s d : Bool) → s ≡ a && not d → a && not s ≡ a && d
and_rest true s d e = ap not e ∙ not_not d
and_rest false s d e = refl

-- ---- lines and equivalents

some_apart : {A : Type 0} (f g : A → Operand Input) (xs : List A)
    → not (pointwise same_operand (map f xs) (map g xs)) ≡ list_any (λ x. not (same_operand (f x) (g x))) xs
some_apart f g [] = refl
some_apart f g (x ∷ xs) = by (same_operand (f x) (g x)) (some_apart f g xs)
  where
    by : (b : Bool) → not (pointwise same_operand (map f xs) (map g xs)) ≡ list_any (λ x. not (same_operand (f x) (g x))) xs
        → not (b && pointwise same_operand (map f xs) (map g xs)) ≡ (not b || list_any (λ x. not (same_operand (f x) (g x))) xs)
    by true e = e
    by false e = refl

-- what a line takes at a parameter is not what it took
abbrev pub other_at : Data → Data → Name → ℕ → Name → Bool
other_at old new name year p =
    not (same_operand (given_by old year (binding old name p)) (given_by new year (binding new name p)))

not_both : (w p : Bool) → not (w && p) ≡ (not w || not p)
not_both true p = refl
not_both false p = refl

-- the warming potential is not what it was
abbrev pub other_potential : Data → Data → Name → ℕ → Bool
other_potential old new name year =
    not (same_input (given old (potential old year (line_gas old name))) (given new (potential new year (line_gas new name))))

module _ (old new : Data) (name : Name) (year : ℕ) (before : is_year_of (span old) year ≡ true)
    (after : is_year_of (span new) year ≡ true) where
  abbrev taken : Data → EqId → List (Operand Input)
  taken m e = map (λ (q : Quantity). given_by m year (binding m name q.name)) (parameters e)

  -- a line that is there
  pub line_is_changed : (e : EqId) → Some e ≡ line new name → is_changed old new (node.Line name year)
      ≡ (not (had_equation old name e) || list_any (λ q. other_at old new name year q.name) (parameters e))
  line_is_changed e at =
      line_changed old new name year e (sym at) (both _ _ (ap is_some (sym at)) after)
      ∙ ap (λ b. not ((b && had_equation old name e) && pointwise same_operand (taken old e) (taken new e))) before
      ∙ not_both (had_equation old name e) _
      ∙ ap (λ b. not (had_equation old name e) || b)
      (some_apart (λ (q : Quantity). given_by old year (binding old name q.name)) (λ q. given_by new year (binding new name q.name)) (parameters e))

  pub equivalent_is_changed : emits new name ≡ true → (b : Bool) → b ≡ emits old name
      → is_changed old new (node.Equiv name year) ≡ not (b && not (other_potential old new name year))
  equivalent_is_changed is b e =
      changed_is old new (node.Equiv name year) (both _ _ is after)
      ∙ ap₂ (λ (a c : Bool). not (a && c)) (ap₂ (λ (a c : Bool). a && c) (sym e) before) (equivalent_same old new name year)
      ∙ by b (same_input (given old (potential old year (line_gas old name))) (given new (potential new year (line_gas new name))))
    where
      by : (b s : Bool) → not ((b && true) && s) ≡ not (b && not (not s))
      by true s = ap not (sym (not_not s))
      by false s = refl

pub none_changed : (old new : Data) (n : Node) → is_node new n ≡ false → is_changed old new n ≡ false
none_changed old new n none = never_so _ (λ e. true_not_false (sym (first_so (is_node new n) _ e) ∙ none))
