-- Years of a span.
use Rattle.std.proofs.Common.{◌≡◌, ◌⊎◌, inl, inr, ℕ, ◌+◌, ◌<◌, ◌≤◌, Bool, true, cond, not, ◌&&◌, ◌==◌, is_some, nat_le, Some, refl, sym, ap, ◌∙◌, arith, leb-true, le-leb}
use Rattle.std.proofs.lemmas.Bool.{cases_lt}
use Rattle.std.proofs.lemmas.Bool.Decides.{Decides-eqb}
use Rattle.ghg_units.specs.declared.node.Node.{Node}
use Rattle.ghg_units.specs.declared.node.Node.TheVariants as node
use Rattle.ghg_units.specs.declared.row.Span.{Span}
use Rattle.ghg_definitions.specs.Nodes.{year_in}
use Rattle.ghg_definitions.specs.Compilation.{emits, first_year, is_in_tree, is_node, is_year_of}
use Rattle.ghg_definitions.specs.Data.{Data, line, span}
use Rattle.ghg_definitions.proofs.Alike.{both, first_so, not_so, second_so, so_not}
use Rattle.ghg_definitions.proofs.Depth.{or_else}
use Rattle.ghg_affected.proofs.Bools.{never_so, true_not_false}
use Rattle.ghg_units.specs.WellFormed.{IsSpan}
use Rattle.ghg_units.specs.Year.{earliest_year, is_year, latest_year}
use Rattle.ghg_data.specs.YearSet.{has_year}
use Rattle.ghg_data.specs.declared.year_set.YearSet.{YearSet}

pub year_of_span : (s : Span) (year : ℕ) → is_year_of (Some s) year ≡ true → (s.first ≤ year) × (year ≤ s.last)
year_of_span s year e = (leb-true s.first year (first_so (nat_le s.first year) _ e), leb-true year s.last (second_so (nat_le s.first year) _ e))

pub year_of_node : (m : Data) (n : Node) → is_node m n ≡ true → is_year_of (span m) (year_in n) ≡ true
year_of_node m (node.Line name year) e = second_so (is_some (line m name)) _ e
year_of_node m (node.Equiv name year) e = second_so (emits m name) _ e
year_of_node m (node.Total top year) e = second_so (is_in_tree top) _ e
year_of_node m (node.Gross year) e = e

pub within_is : (m : Data) (s : Span) → span m ≡ Some s → (year : ℕ) → is_year_of (span m) year ≡ true
    → (s.first ≤ year) × (year ≤ s.last)
within_is m s e year is = year_of_span s year (ap (λ o. is_year_of o year) (sym e) ∙ is)

pub is_within : (m : Data) (s : Span) → span m ≡ Some s → (year : ℕ) → s.first ≤ year → year ≤ s.last
    → is_year_of (span m) year ≡ true
is_within m s e year low high = ap (λ o. is_year_of o year) e ∙ both _ _ (le-leb s.first year low) (le-leb year s.last high)

pub first_is : (m : Data) (s : Span) → span m ≡ Some s → (year : ℕ) → s.first ≤ year → first_year (span m) < year + 1
first_is m s e year low = let same : first_year (span m) ≡ s.first = ap first_year e in omega (arith, same, low)

pub year_is : (year : ℕ) → earliest_year ≤ year → year ≤ latest_year → is_year year ≡ true
year_is year low high = both _ _ (le-leb earliest_year year low) (le-leb year latest_year high)

pub of_span_is : (s : Span) → IsSpan s → (year : ℕ) → is_year_of (Some s) year ≡ true → is_year year ≡ true
of_span_is s is year e =
    let h = year_of_span s year e in
    let low : earliest_year ≤ year = omega (arith, is.0.0, h.0) in
    let high : year ≤ latest_year = omega (arith, is.1.1, h.1) in
    year_is year low high

pub not_before : (year : ℕ) → is_year year ≡ true → earliest_year ≤ year
not_before year e = leb-true earliest_year year (first_so (nat_le earliest_year year) _ e)

-- ---- a set with one year more, or without it

-- the year itself
pub at_year : (r b before : Bool) (year : ℕ) → is_year year ≡ true → r ≡ cond (is_year year && (year == year)) b before → r ≡ b
at_year r b before year is e = e ∙ ap (λ t. cond t b before) (both _ _ is ((Decides-eqb year year).1 refl))

-- any other one
pub off_year : (r b before : Bool) (y year : ℕ) → (y ≡ year → ⊥) → r ≡ cond (is_year year && (y == year)) b before → r ≡ before
off_year r b before y year apart e = elim (or_else (is_year year && (y == year))) [
  | inl on ↦ absurd (apart ((Decides-eqb y year).0 (second_so (is_year year) _ on)))
  | inr off ↦ e ∙ ap (λ t. cond t b before) off
]

-- a year of the set is the one that was put in, or was in it
pub one_or_before : (r before : Bool) (y year : ℕ) → r ≡ cond (is_year year && (y == year)) true before → r ≡ true
    → ((is_year year ≡ true) × (y ≡ year)) ⊎ (before ≡ true)
one_or_before r before y year e is = elim (or_else (is_year year && (y == year))) [
  | inl on ↦ inl (first_so (is_year year) _ on, (Decides-eqb y year).0 (second_so (is_year year) _ on))
  | inr off ↦ inr (sym (e ∙ ap (λ t. cond t true before) off) ∙ is)
]

-- ---- years one after the other

pub next_or_before : (last year y : ℕ) → y ≤ year → (y ≤ last) ⊎ ((last < y) × (y < year)) ⊎ (y ≡ year)
next_or_before last year y h = elim (cases_lt last y) [
  | inr low ↦ inl low
  | inl high ↦ elim (cases_lt y year) [
    | inl below ↦ inr (inl (high, below))
    | inr past ↦ inr (inr (omega (arith, h, past)))
  ]
]

-- ---- one of the years alone

pub only_one : (years one others at : YearSet) (year : ℕ) → has_year years year ≡ true → has_year one year ≡ true
    → ((y : ℕ) → has_year others y ≡ has_year years y && not (has_year one y))
    → ((y : ℕ) → has_year at y ≡ has_year years y && not (has_year others y)) → has_year at year ≡ true
only_one years one others at year h on others_is at_is = at_is year ∙ both _ _ h (so_not _ (never_so _ (λ e.
    true_not_false (sym on ∙ not_so _ (second_so (has_year years year) _ (sym (others_is year) ∙ e))))))
