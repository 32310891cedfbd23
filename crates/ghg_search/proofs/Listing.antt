-- The list of what is found has the affected nodes and no other.
use Rattle.std.proofs.Common.{◌≡◌, inl, inr, ℕ, ◌<◌, true, false, List, [], Option, Some, None, refl, sym, ap, ◌∙◌, subst, arith}
use Rattle.std.specs.List.{Contains}
use Rattle.std.specs.List.Sorted.{IsStrictlySortedBy}
use Rattle.ghg_units.specs.declared.node.Node.{Node}
use Rattle.ghg_units.specs.declared.row.Span.{Span}
use Rattle.ghg_affected.specs.Affected.{IsAffected}
use Rattle.ghg_affected.proofs.Affected.{affected_is_node, is_so, itself, so_is}
use Rattle.ghg_affected.proofs.Bools.{never_so, true_not_false}
use Rattle.ghg_definitions.specs.Compilation.{is_node, is_year_of}
use Rattle.ghg_definitions.specs.Data.{Data, span}
use Rattle.ghg_definitions.specs.Listed.{IsListed}
use Rattle.ghg_definitions.specs.Nodes.{node_cmp, year_in}
use Rattle.ghg_definitions.specs.Sound.{IsWorkbook}
use Rattle.ghg_graph.proofs.YearNodes.{span_is}
use Rattle.ghg_search.specs.Found.{AreAdded, AreQueued, IsIn, ListsAffected}
use Rattle.ghg_search.specs.Search.{AreAffected, AreNodes, IsChange, IsClosed, IsLed, IsNodeIn}
use Rattle.ghg_data.specs.YearSet.{has_year}
use Rattle.ghg_search.specs.declared.found.Found.{Found}
use Rattle.ghg_data.specs.declared.year_set.YearSet.{YearSet}
use Rattle.ghg_search.proofs.Spans.{not_before, of_span_is, year_of_node}
use Rattle.ghg_search.proofs.Spreads.{all_found}
use Rattle.ghg_definitions.proofs.Listed.{listed}

-- ---- years

no_year : (m : Data) → None ≡ span m → (n : Node) → is_node m n ≡ true → ⊥
no_year m none n is = true_not_false (sym (year_of_node m n is) ∙ sym (ap (λ o. is_year_of o (year_in n)) none))

not_old : (m : Data) (n : Node) → is_year_of (span m) (year_in n) ≡ false → is_node m n ≡ false
not_old m n off = never_so _ (λ e. true_not_false (sym (year_of_node m n e) ∙ off))

year_some : (m : Data) → IsWorkbook m → (n : Node) → is_node m n ≡ true → 0 < year_in n
year_some m workbook n is = by (span m) refl (year_of_node m n is)
  where
    by : (o : Option Span) → span m ≡ o → is_year_of o (year_in n) ≡ true → 0 < year_in n
    by None at e = absurd (cc)
    by (Some s) at e =
        let late = not_before (year_in n) (of_span_is s (span_is m s workbook at) (year_in n) e) in omega (arith, late)

pub none_listed : (old new : Data) → None ≡ span new → (ns : List Node) → ns ≡ [] → ListsAffected old new ns
unfolding IsStrictlySortedBy
none_listed old new none ns e = subst (ListsAffected old new) (sym e) (record {
  order = tt;
  sound = λ n c. absurd (listed [] n c);
  complete = λ n a. absurd (no_year new none n (affected_is_node old new n a));
})

-- ---- what is found

module _ (old new : Data) (none first second seeds : Found) (fresh : YearSet)
    (first_added : AreAdded (IsNodeIn new fresh) none first) (is_new : (y : ℕ) → has_year fresh y ≡ true → is_year_of (span old) y ≡ false)
    (second_added : AreAdded (IsChange old new) first second)
    (seeds_added : AreAdded (IsChange old new) second seeds) (empty : none.queue.items ≡ []) where
  -- a node of a new year is changed
  new_changed : (n : Node) → IsNodeIn new fresh n → IsAffected old new n
  new_changed n is = itself old new n (record {
    node = is.0;
    differs = inl (not_old old n (is_new (year_in n) is.1));
  })

  -- what is queued at first is changed
  pub seeds_affected : AreAffected old new seeds
  seeds_affected n i = elim (seeds_added.only n i) [
    | inl before ↦ elim (second_added.only n before) [
      | inl on ↦ elim (first_added.only n on) [
        | inl none_on ↦ absurd (subst (IsListed none_on.0) empty none_on.1)
        | inr is ↦ new_changed n is
      ]
      | inr e ↦ itself old new n (is_so old new n e)
    ]
    | inr e ↦ itself old new n (is_so old new n e)
  ]

  pub seeds_nodes : AreNodes new seeds
  seeds_nodes n i = affected_is_node old new n (seeds_affected n i)

  module _ (all : Found) (affected : AreAffected old new seeds → AreAffected old new all) (queued : AreQueued all)
      (closed : IsClosed new all) (kept : (n : Node) → IsIn seeds n → IsIn all n)
      (changed : (n : Node) → IsChange old new n → IsLed new seeds n) (workbook : IsWorkbook new) where
    first_in : (n : Node) → IsChange old new n → IsIn all n
    first_in n e = elim (changed n e) [ inl is ↦ kept n is | inr by ↦ closed by.0 n (kept by.0 by.1) by.2 ]

    pub lists : (ns : List Node) → IsStrictlySortedBy node_cmp ns → ((n : Node) → Contains ns n → IsIn all n)
        → ((n : Node) → 0 < year_in n → IsIn all n → Contains ns n) → ListsAffected old new ns
    lists ns order only all_in = record {
      order = order;
      sound = λ n c. affected seeds_affected n (queued n (only n c));
      complete = λ n a. all_in n (year_some new workbook n (affected_is_node old new n a))
          (all_found new all closed a.first a.others n (first_in a.first (so_is old new a.first a.changed)) a.leads);
    }
