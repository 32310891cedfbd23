-- Which totals are changed.
use Rattle.std.proofs.Common.{◌≡◌, inl, inr, ◌⊎◌, ℕ, zero, suc, is_some, Option, Some, None, Bool, true, false, not, ◌||◌, refl, sym, ap, ap₂, ◌∙◌, subst}
use Rattle.ghg_categories.specs.declared.category.Category.{Category}
use Rattle.ghg_categories.specs.declared.category.Category.TheVariants as at
use Rattle.ghg_categories.specs.Tree.{is_same, parent_of, stands_under, stands_within, tree}
use Rattle.std.specs.Option.{option_map_or}
use Rattle.ghg_units.specs.declared.node.Node.{Node}
use Rattle.ghg_units.specs.declared.node.Node.TheVariants as node
use Rattle.ghg_affected.specs.Affected.{is_changed}
use Rattle.ghg_affected.proofs.Bools.{either, or_first, or_second}
use Rattle.ghg_definitions.specs.Compilation.{is_in_tree, is_node, is_year_of}
use Rattle.ghg_definitions.specs.Data.{Data, span}
use Rattle.ghg_definitions.specs.Listed.{IsListed}
use Rattle.ghg_definitions.proofs.Alike.{both, first_so}
use Rattle.ghg_definitions.proofs.Listed.{contained, from_filter, listed, listed_filter}
use Rattle.ghg_definitions.proofs.NodeLists.{category_same, tree_is}
use Rattle.ghg_graph.specs.Moves.{AreMoved, are_moved}
use Rattle.ghg_graph.specs.declared.moves.Moved.{Moved}
use Rattle.ghg_graph.proofs.Reaching.{gross_changed, total_changed}
use Rattle.ghg_search.specs.Search.{IsChange, IsTotalAbove}

module _ (old new : Data) (moved : Moved) (are : AreMoved old new moved) (year : ℕ)
    (was : is_year_of (span old) year ≡ true) (within : is_year_of (span new) year ≡ true) where
  abbrev moved_under : Category → Bool
  moved_under top = are_moved old new (λ c. stands_under c top)

  total_is : (top : Category) → IsListed top tree → is_changed old new (node.Total top year) ≡ moved_under top
  total_is top i =
      total_changed old new top year (both _ _ ((tree_is top).1 (contained tree top i)) within)
      ∙ ap (λ b. not b || moved_under top) was

  pub tops_changed : (top : Category) → IsListed top moved.tops.items → IsChange old new (node.Total top year)
  tops_changed top i =
      let from = from_filter moved_under top tree (subst (IsListed top) are.tops i) in total_is top from.0 ∙ from.1

  pub changed_tops : (top : Category) → IsChange old new (node.Total top year) → IsListed top moved.tops.items
  changed_tops top e =
      let i = listed tree top ((tree_is top).0 (first_so (is_in_tree top) _ (first_so (is_node new (node.Total top year)) _ e))) in
      subst (IsListed top) (sym are.tops) (listed_filter moved_under top tree i (sym (total_is top i) ∙ e))

  pub gross_is : is_changed old new (node.Gross year) ≡ moved.gross
  gross_is = gross_changed old new year within ∙ ap₂ (λ (a b : Bool). not a || b) was (sym are.gross)

-- ---- categories of the tree

-- all but the memo codes have a parent, or are the national total
in_tree_by : (c : Category) → is_in_tree c ≡ (is_some (parent_of c) || is_same c at.National)
in_tree_by at.National = refl
in_tree_by _ = refl

pub child_in_tree : (c p : Category) → Some p ≡ parent_of c → is_in_tree c ≡ true
child_in_tree c p e = in_tree_by c ∙ ap (λ o. is_some o || is_same c at.National) (sym e)

pub top_in_tree : (c : Category) → None ≡ parent_of c → is_same c at.National ≡ is_in_tree c
top_in_tree c e = sym (in_tree_by c ∙ ap (λ o. is_some o || is_same c at.National) (sym e))

-- ---- totals above a category

module _ (year : ℕ) where
  within_itself : (levels : ℕ) (c : Category) → stands_within levels c c ≡ true
  within_itself zero c = (category_same c c).1 refl
  within_itself (suc k) c = or_first (is_same c c) _ ((category_same c c).1 refl)

  pub above_here : (levels : ℕ) (c : Category) (b : Bool) → b ≡ is_in_tree c → (n : Node)
      → (b ≡ true) × (n ≡ node.Total c year) → IsTotalAbove levels c year n
  above_here levels c b is n h = (c, h.1, sym is ∙ h.0, within_itself levels c)

  pub above_up : (levels k : ℕ) (a p : Category) → levels ≡ suc k → Some p ≡ parent_of a → (n : Node)
      → IsTotalAbove k p year n → IsTotalAbove levels a year n
  above_up levels k a p e is n h = (
    h.0,
    h.1,
    h.2,
    subst (λ l. stands_within l a h.0 ≡ true) (sym e)
        (or_second (is_same a h.0) _ (ap (λ o. option_map_or (λ q. stands_within k q h.0) o false) (sym is) ∙ h.3)),
  )

  same_total : (a top : Category) (n : Node) → is_same a top ≡ true → n ≡ node.Total top year → n ≡ node.Total a year
  same_total a top n e is = is ∙ ap (λ c. node.Total c year) (sym ((category_same a top).0 e))

  pub from_above : (levels : ℕ) (a : Category) (n : Node) → IsTotalAbove levels a year n
      → ((n ≡ node.Total a year) × (is_in_tree a ≡ true))
      ⊎ ((k : ℕ) × (p : Category) × (levels ≡ suc k) × (parent_of a ≡ Some p) × IsTotalAbove k p year n)
  from_above zero a n h = inl (same_total a h.0 n h.3 h.1, here a h.0 h.3 h.2)
    where
      here : (a top : Category) → is_same a top ≡ true → is_in_tree top ≡ true → is_in_tree a ≡ true
      here a top e is = subst (λ c. is_in_tree c ≡ true) (sym ((category_same a top).0 e)) is
  from_above (suc k) a n h = elim (either (is_same a h.0) _ h.3) [
    | inl e ↦ inl (same_total a h.0 n e h.1, subst (λ c. is_in_tree c ≡ true) (sym ((category_same a h.0).0 e)) h.2)
    | inr on ↦ by (parent_of a) refl on
  ]
    where
      by : (o : Option Category) → parent_of a ≡ o → option_map_or (λ q. stands_within k q h.0) o false ≡ true
          → ((n ≡ node.Total a year) × (is_in_tree a ≡ true))
          ⊎ ((j : ℕ) × (p : Category) × (suc k ≡ suc j) × (parent_of a ≡ Some p) × IsTotalAbove j p year n)
      by None is on = absurd (cc)
      by (Some p) is on = inr (k, p, refl, is, (h.0, h.1, h.2, on))

pub not_above : (a p : Category) → None ≡ Some p → ⊥
not_above a p e = cc

pub same_some : (a b : Category) → Some a ≡ Some b → a ≡ b
same_some a b e = cc
