-- Up by levels, and up by parents.
use Rattle.std.proofs.Common.{◌≡◌, ◌≤◌, ℕ, zero, suc, Bool, true, false, ◌||◌, inl, inr, Option, Some, None, refl, ap, sym, ◌∙◌, subst, arith}
use Rattle.std.specs.Option.{option_map_or}
use Rattle.std.specs.Bool.{Decides}
use Rattle.std.proofs.lemmas.Slice.Eq.{bytes_eq-Decides}
use Rattle.std.proofs.lemmas.Bool.{or_cases}
use Rattle.std.proofs.lemmas.Option.{same_Some}
use Rattle.ghg_categories.specs.declared.category.Category.{Category}
use Rattle.ghg_categories.specs.declared.tree.TheConstants.{DEPTH}
use Rattle.ghg_categories.specs.Tree.{code_of, parent_of, named_in, is_same, stands_within, stands_under}
use Rattle.ghg_categories.specs.Laws.{IsUnder, itself, by_parent}
use Rattle.ghg_categories.proofs.Levels.{level, level-parent, level-le}
use Rattle.ghg_categories.proofs.Table.{named_by_code}

same_is : (c d : Category) → is_same c d ≡ true → c ≡ d
same_is c d e = let codes_are : code_of c ≡ code_of d = (bytes_eq-Decides (code_of c) (code_of d)).0 e in same_Some _ _ (sym (named_by_code c) ∙ ap named_in codes_are ∙ named_by_code d)

is_itself : (c : Category) → is_same c c ≡ true
is_itself c = (bytes_eq-Decides (code_of c) (code_of c)).1 refl

or_true : (p : Bool) → p || true ≡ true
or_true true = refl
or_true false = refl

over_parent : (n : ℕ) (c above : Category) (up : Option Category) → ((p : Category) → stands_within n p above ≡ true → IsUnder p above) → parent_of c ≡ up → option_map_or (λ p. stands_within n p above) up false ≡ true → IsUnder c above
over_parent n c above None below is e = absurd (cc)
over_parent n c above (Some p) below is e = by_parent is (below p e)

climbs : (n : ℕ) (c above : Category) → stands_within n c above ≡ true → IsUnder c above
climbs zero c above e = subst (λ (d : Category). IsUnder c d) (same_is c above e) itself
climbs (suc n) c above e = elim (or_cases (is_same c above) _ e) [ inl same ↦ subst (λ (d : Category). IsUnder c d) (same_is c above same) itself | inr up ↦ over_parent n c above (parent_of c) (λ p q. climbs n p above q) refl up ]

reached : (n : ℕ) (c above : Category) → IsUnder c above → level c ≤ n → stands_within n c above ≡ true
reached zero c _ itself h = is_itself c
reached (suc n) c _ itself h = rw (is_itself c) refl
reached zero c above (by_parent {p = p} e up) h = absurd (omega (arith, level-parent c p e))
reached (suc n) c above (by_parent {p = p} e up) h = rw (e, reached n p above up (omega (arith, level-parent c p e))) (or_true (is_same c above))

pub by_parents : (c above : Category) → Decides (stands_under c above) (IsUnder c above)
unfolding stands_under
by_parents c above = (climbs DEPTH c above, λ up. reached DEPTH c above up (level-le c))
