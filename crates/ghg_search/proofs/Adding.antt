-- Nodes that are added to those that are found.
use Rattle.std.proofs.Common.{◌≡◌, ◌⊎◌, inl, inr, ℕ, ◌+◌, ◌<◌, length, get_or, take, Bool, true, false, cond, not, ◌&&◌, ◌||◌, List, [], ◌∷◌, ◌++◌, is_eq, Some, refl, sym, ap, ◌∙◌, subst}
use Rattle.std.proofs.lemmas.List.{append-nil, append_assoc, get_or_default}
use Rattle.std.specs.BTreeMap.{get}
use Rattle.std.specs.Option.{option_map_or}
use Rattle.ghg_units.specs.declared.node.Node.{Node}
use Rattle.ghg_units.specs.declared.node.Node.TheVariants as node
use Rattle.ghg_categories.specs.declared.category.Category.{Category}
use Rattle.ghg_affected.proofs.Bools.{either, or_first, or_second, true_not_false}
use Rattle.ghg_data.specs.declared.year_set.YearSet.{YearSet}
use Rattle.ghg_data.specs.YearSet.{has_year}
use Rattle.ghg_definitions.specs.Data.{Data, Name}
use Rattle.ghg_definitions.specs.Nodes.{year_in}
use Rattle.ghg_definitions.proofs.Alike.{both, first_so, so_not}
use Rattle.ghg_definitions.proofs.Depth.{or_else}
use Rattle.ghg_graph.proofs.EquationParameters.{at_place}
use Rattle.ghg_definitions.specs.Listed.{IsListed}
use Rattle.ghg_definitions.proofs.Listed.{in_either, listed_left, listed_right}
use Rattle.ghg_search.specs.Found.{AreAdded, AreFound, IsEquivalentTried, IsIn, is_found}
use Rattle.ghg_search.specs.Series.{IsOf, Within}
use Rattle.ghg_columns.specs.Cells.{series_of, series_order}
use Rattle.ghg_search.specs.declared.found.Found.{Found}
use Rattle.ghg_search.specs.declared.found.Group.{Group}
use Rattle.ghg_columns.specs.declared.series.Series.{Series}
use Rattle.ghg_columns.specs.declared.series.Series.TheVariants as series
use Rattle.ghg_search.specs.Search.{AreTriedBy, IsTotalOf}
use Rattle.ghg_search.specs.declared.index.Source.{Source}
use Rattle.ghg_search.proofs.Sources.{listed_next, listed_one}
use Rattle.ghg_search.proofs.Groups.{of_node, series_itself, series_same}

pub added_none : (P : Node → Type 0) (f : Found) → AreAdded P f f
added_none P f = record {
  queued = λ q. q;
  kept = λ n is. is;
  only = λ n is. inl is;
  behind = ([], sym (append-nil f.queue.items));
}

pub added_more : (P : Node → Type 0) (a b c : Found) → AreAdded P a b → AreAdded P b c → AreAdded P a c
added_more P a b c first second = record {
  queued = λ q. second.queued (first.queued q);
  kept = λ n is. second.kept n (first.kept n is);
  only = λ n is. elim (second.only n is) [ inl on ↦ first.only n on | inr p ↦ inr p ];
  behind = (
    first.behind.0 ++ second.behind.0,
    second.behind.1 ∙ ap (λ qs. qs ++ second.behind.0) first.behind.1
        ∙ append_assoc a.queue.items first.behind.0 second.behind.0,
  );
}

pub added_weaker : (P Q : Node → Type 0) (a b : Found) → ((n : Node) → P n → Q n) → AreAdded P a b → AreAdded Q a b
added_weaker P Q a b to added = record {
  queued = added.queued;
  kept = added.kept;
  only = λ n is. elim (added.only n is) [ inl on ↦ inl on | inr p ↦ inr (to n p) ];
  behind = added.behind;
}

-- a group more
module _ (old new : Found) (s : Series) (years fresh all : YearSet)
    (updates : (q : Series) → get series_order new.years q ≡ cond (is_eq (series_order s q)) (Some all) (get series_order old.years q))
    (queued : new.queue.items ≡ old.queue.items ++ record { series = s; years = fresh } ∷ [])
    (fresh_is : (y : ℕ) → has_year fresh y ≡ has_year years y && not (is_found old s y))
    (all_is : (y : ℕ) → has_year all y ≡ has_year fresh y || is_found old s y) where
  now_is : (q : Series) (y : ℕ) → is_found new q y ≡ cond (is_eq (series_order s q)) (has_year all y) (is_found old q y)
  now_is q y = by (is_eq (series_order s q)) (updates q)
    where
      by : (b : Bool) → get series_order new.years q ≡ cond b (Some all) (get series_order old.years q)
          → is_found new q y ≡ cond b (has_year all y) (is_found old q y)
      by true e = ap (λ o. option_map_or (λ ys. has_year ys y) o false) e
      by false e = ap (λ o. option_map_or (λ ys. has_year ys y) o false) e

  here : (y : ℕ) → is_found new s y ≡ has_year all y
  here y = now_is s y ∙ ap (λ b. cond b (has_year all y) (is_found old s y)) (series_itself s)

  stays : (n : Node) → IsIn old n → IsIn new n
  stays n is = now_is (series_of n) (year_in n) ∙ by (is_eq (series_order s (series_of n))) refl
    where
      by : (b : Bool) → is_eq (series_order s (series_of n)) ≡ b
          → cond b (has_year all (year_in n)) (is_found old (series_of n) (year_in n)) ≡ true
      by true e = all_is (year_in n) ∙ or_second (has_year fresh (year_in n)) _
          (subst (λ q. is_found old q (year_in n) ≡ true) (sym (series_same s (series_of n) e)) is)
      by false e = is

  comes : (n : Node) → IsIn new n → IsIn old n ⊎ IsOf s fresh n
  comes n is = by (is_eq (series_order s (series_of n))) refl (sym (now_is (series_of n) (year_in n)) ∙ is)
    where
      by : (b : Bool) → is_eq (series_order s (series_of n)) ≡ b
          → cond b (has_year all (year_in n)) (is_found old (series_of n) (year_in n)) ≡ true → IsIn old n ⊎ IsOf s fresh n
      by true e h = elim (either (has_year fresh (year_in n)) _ (sym (all_is (year_in n)) ∙ h)) [
        | inl more ↦ inr (sym (series_same s (series_of n) e), more)
        | inr was ↦ inl (subst (λ q. is_found old q (year_in n) ≡ true) (series_same s (series_of n) e) was)
      ]
      by false e h = inl h

  added_group : AreAdded (IsOf s years) old new
  added_group = record {
    queued = λ was n is. elim (comes n is) [
      | inl before ↦ let q = was n before in
          (q.0, subst (IsListed q.0) (sym queued) (listed_left q.0 old.queue.items _ q.1), q.2)
      | inr of ↦ (
        record { series = s; years = fresh },
        subst (IsListed (record { series = s; years = fresh })) (sym queued) (listed_right _ old.queue.items _ (inl refl)),
        of,
      )
    ];
    kept = stays;
    only = λ n q. elim (in_either q.0 old.queue.items (record { series = s; years = fresh } ∷ []) (subst (IsListed q.0) queued q.1)) [
      | inl on ↦ inl (q.0, on, q.2)
      | inr j ↦ let of = subst (λ (g : Group). IsOf g.series g.years n) (listed_one _ _ j) q.2 in
          inr (of.0, first_so (has_year years (year_in n)) _ (sym (fresh_is (year_in n)) ∙ of.1))
    ];
    behind = (record { series = s; years = fresh } ∷ [], queued);
  }

  pub found_group : AreFound (IsOf s years) old new
  found_group = record {
    added = added_group;
    found = λ n of. subst (λ q. is_found new q (year_in n) ≡ true) (sym of.0) (here (year_in n) ∙ all_is (year_in n)
        ∙ elim (or_else (is_found old s (year_in n))) [
          | inl was ↦ or_second (has_year fresh (year_in n)) _ was
          | inr off ↦ or_first _ (is_found old s (year_in n)) (fresh_is (year_in n) ∙ both _ _ of.1 (so_not _ off))
        ]);
  }

-- where none is missing, all are found
pub none_missing : (f : Found) (s : Series) (years fresh : YearSet)
    → ((y : ℕ) → has_year fresh y ≡ has_year years y && not (is_found f s y)) → ((y : ℕ) → has_year fresh y ≡ false)
    → (n : Node) → IsOf s years n → IsIn f n
none_missing f s years fresh fresh_is none n of = elim (or_else (is_found f s (year_in n))) [
  | inl is ↦ subst (λ q. is_found f q (year_in n) ≡ true) (sym of.0) is
  | inr off ↦ absurd (true_not_false (sym (fresh_is (year_in n) ∙ both _ _ of.1 (so_not _ off)) ∙ none (year_in n)))
]

-- ---- totals

pub totals_next : (tops : List Category) (years : YearSet) (i : ℕ) (d : Category) (old new : Found) → i < length tops
    → ((top : Category) → IsListed top (take i tops) → (year : ℕ) → has_year years year ≡ true → IsIn old (node.Total top year))
    → ((n : Node) → IsIn old n → IsIn new n)
    → ((n : Node) → IsOf (series.Total (get_or tops i d)) years n → IsIn new n)
    → (top : Category) → IsListed top (take (i + 1) tops) → (year : ℕ) → has_year years year ≡ true → IsIn new (node.Total top year)
totals_next tops years i d old new h before kept found top j year within =
    elim (listed_next tops i (get_or tops i d) h (get_or_default tops i d (get_or tops i d) h) top j) [
      | inl k ↦ kept (node.Total top year) (before top k year within)
      | inr same ↦ found (node.Total top year) (ap (λ c. series.Total c) same, within)
    ]

pub total_of : (tops : List Category) (years : YearSet) (i : ℕ) (d : Category) → i < length tops → (n : Node)
    → IsOf (series.Total (get_or tops i d)) years n → Within years (IsTotalOf tops) n
total_of tops years i d h n of = (year_in n, of.1, (get_or tops i d, at_place tops i d h, of_node _ years n of))

-- ---- lines and equivalents

module _ (old new : Data) (f g : Found) (name : Name) (kept : (n : Node) → IsIn f n → IsIn g n) where
  pub equivalent_kept : (year : ℕ) → IsEquivalentTried old new f name year → IsEquivalentTried old new g name year
  equivalent_kept year tried e = elim (tried e) [
    | inl line ↦ inl (kept (node.Line name year) line)
    | inr is ↦ inr (kept (node.Equiv name year) is)
  ]

  pub tried_kept : (s : Source) (years : YearSet) → AreTriedBy old new s years name f → AreTriedBy old new s years name g
  tried_kept s years tried = record {
    line = λ on year h e. kept (node.Line name year) (tried.line on year h e);
    equivalent = λ on year h. equivalent_kept year (tried.equivalent on year h);
  }
