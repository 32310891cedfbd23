-- The records of one kind and name, by their years.
use Rattle.std.proofs.Common.{◌≡◌, ℕ, ◌≤◌, Bool, true, false, cond, not, ◌&&◌, ◌==◌, Option, Some, None, IfSome, IfNone, is_some, refl, sym, ap, ◌∙◌, arith, eqb-true, eq-eqb}
use Rattle.ghg_units.specs.declared.row.Figure.{Figure}
use Rattle.ghg_equations.specs.declared.quantity.Dim.{Dim}
use Rattle.ghg_equations.specs.Quantity.{same_dim}
use Rattle.ghg_units.specs.Units.{dim_of}
use Rattle.ghg_units.specs.WellFormed.{IsYear}
use Rattle.ghg_definitions.proofs.Dims.{same_dim-itself}
use Rattle.ghg_definitions.specs.declared.record.RecordKey.{RecordKey}
use Rattle.ghg_definitions.specs.declared.record.RecordKey.TheVariants as key
use Rattle.ghg_definitions.specs.Data.{Data, as_figure, figure, first_name, kind, year_of}
use Rattle.ghg_definitions.specs.Rules.{is_alike, is_other_year, meets_other_dimension}
use Rattle.ghg_definitions.specs.Sound.{IsConsistent, IsRecord}
use Rattle.ghg_definitions.proofs.Alike.{alike_back, alike_joined, alike_of_parts, alike_parts, both, meets_false, meets_true, not_so, one_dimension, other_alike, second_so, so_not}
use Rattle.ghg_definitions.proofs.Consistent.{figure_dated}
use Rattle.ghg_definitions.specs.declared.record.Record.{Record}
use Rattle.ghg_definitions.specs.declared.record.Record.TheVariants as entry
use Rattle.std.specs.FinMap.{get}
use Rattle.std.proofs.lemmas.Bool.{and_from, and_parts, le-leb, both_ways}
use Rattle.std.proofs.lemmas.Option.{same_Some}
use Rattle.ghg_data.specs.declared.series.Series.{Series}
use Rattle.ghg_data.specs.declared.series.Series.TheVariants as series
use Rattle.ghg_data.specs.Series.{date_of, dated}
use Rattle.ghg_units.specs.Year.{is_year}
use Rattle.ghg_data.proofs.Dates.{key_of_date}

-- ---- figures of other years

turned : (y z : ℕ) → (z == y) ≡ false → (y == z) ≡ false
turned y z e = by (y == z) refl
  where
    by : (b : Bool) → (y == z) ≡ b → (y == z) ≡ false
    by true is = absurd (both_ways _ e (eq-eqb z y (sym (eqb-true _ _ is))))
    by false is = is

no_year : {P : Type 0} → IsYear 0 → P
no_year h = absurd (omega arith)

-- each figure of the name for another year stands at a date of the name's, within the years that there are
pub of_series : {m : Data} → IsConsistent m → (k q : RecordKey) (f : Figure) → figure m q ≡ Some f → is_other_year k q ≡ true
    → (t : Series) × (date_of k ≡ Some (t, year_of k)) × (q ≡ dated t (year_of q)) × IsYear (year_of q)
of_series {m} is k q f e o = by k q (figure_dated is q f e).0 (alike_parts k q (other_alike k q o))
  where
    by : (k q : RecordKey) → IsYear (year_of q) → (kind k ≡ kind q) × (first_name k ≡ first_name q) → (t : Series) × (date_of k ≡ Some (t, year_of k)) × (q ≡ dated t (year_of q)) × IsYear (year_of q)
    by k key.Span h parts = no_year h
    by k (key.Line name) h parts = no_year h
    by k (key.Bind line parameter) h parts = no_year h
    by k (key.Uncert line) h parts = no_year h
    by (key.Activity a y) (key.Activity b z) h parts = (series.Activity a, refl, ap (λ n. key.Activity n z) (sym parts.1), h)
    by (key.Factor a y) (key.Factor b z) h parts = (series.Factor a, refl, ap (λ n. key.Factor n z) (sym parts.1), h)
    by _ _ h parts = absurd (omega arith)

pub in_time : (y : ℕ) → IsYear y → is_year y ≡ true
in_time y h = and_from _ _ (le-leb 1900 y h.0) (le-leb y 2100 h.1)

-- a figure's key has a record
filled : (o : Option Record) (f : Figure) → as_figure o ≡ Some f → is_some o ≡ true
filled None f e = absurd (cc)
filled (Some r) f e = refl

date_figured : (t : Series) (y : ℕ) (r : Record) → IsRecord (dated t y) r → is_some (as_figure (Some r)) ≡ true
date_figured (series.Activity name) y (entry.Activity f) h = refl
date_figured (series.Factor name) y (entry.Factor f) h = refl
date_figured (series.Activity name) y _ h = absurd h
date_figured (series.Factor name) y _ h = absurd h

-- a record of a date has a figure
figured : {m : Data} → IsConsistent m → (t : Series) (y : ℕ) → is_some (get m (dated t y)) ≡ true → is_some (figure m (dated t y)) ≡ true
figured {m} is t y e = by (get m (dated t y)) refl e
  where
    by : (o : Option Record) → get m (dated t y) ≡ o → is_some o ≡ true → is_some (as_figure o) ≡ true
    by None at e = absurd (cc)
    by (Some r) at e = date_figured t y r (is.records (dated t y) r at)

dates_other : (t : Series) (y z : ℕ) → (z == y) ≡ false → is_other_year (dated t y) (dated t z) ≡ true
dates_other (series.Activity name) y z e = both _ _ (alike_of_parts (key.Activity name y) (key.Activity name z) refl refl) (so_not (y == z) (turned y z e))
dates_other (series.Factor name) y z e = both _ _ (alike_of_parts (key.Factor name y) (key.Factor name z) refl refl) (so_not (y == z) (turned y z e))

-- ---- the greatest of the other years, and none

no_figure : (o : Option Figure) → ((f : Figure) → o ≡ Some f → ⊥) → o ≡ None
no_figure None h = refl
no_figure (Some f) h = absurd (h f refl)

module _ {m : Data} (is : IsConsistent m) (k : RecordKey) (t : Series) (year : ℕ) (at : date_of k ≡ Some (t, year)) (years : ℕ → Bool)
    (others : (y : ℕ) → years y ≡ cond (is_year year && (y == year)) false (is_year y && is_some (get m (dated t y)))) where
  -- where the series has no other year
  pub no_other : ((y : ℕ) → y ≤ 2100 → years y ≡ false) → (q : RecordKey) → is_other_year k q ≡ true → figure m q ≡ None
  no_other none q o = no_figure (figure m q) (λ f e.
      let found = of_series is k q f e o in
      let dates : (found.0, year_of k) ≡ (t, year) = same_Some _ _ (sym found.1 ∙ at) in
      let z = year_of q in
      let key_is : q ≡ dated t z = found.2 ∙ ap (λ p. dated p.0 z) dates in
      let other : (z == year) ≡ false = turned z year (ap (λ p. p.1 == z) (sym dates) ∙ not_so _ (second_so (is_alike k q) _ o)) in
      let stands : is_year z && is_some (get m (dated t z)) ≡ true = both _ _ (in_time z found.3) (ap (λ x. is_some (get m x)) (sym key_is) ∙ filled (get m q) f e) in
      both_ways _ (none z found.3.1) (others z ∙ ap (λ b. cond (is_year year && b) false (is_year z && is_some (get m (dated t z)))) other ∙ kept (is_year year) _ ∙ stands))
    where
      kept : (b c : Bool) → cond (b && false) false c ≡ c
      kept true c = refl
      kept false c = refl

  -- where it has one
  pub some_other : (z : ℕ) → years z ≡ true → (is_some (figure m (dated t z)) ≡ true) × (is_other_year k (dated t z) ≡ true)
  some_other z e =
      let parts = stands (is_year year && (z == year)) _ (sym (others z) ∙ e) in
      let in_years = and_parts _ _ parts.1 in
      (figured is t z in_years.1, ap (λ x. is_other_year x (dated t z)) (key_of_date k t year at) ∙ dates_other t year z (other (z == year) refl parts.0 in_years.0))
    where
      stands : (b c : Bool) → cond b false c ≡ true → (b ≡ false) × (c ≡ true)
      stands true c e = absurd (cc)
      stands false c e = (refl, e)

      other : (b : Bool) → (z == year) ≡ b → is_year year && (z == year) ≡ false → is_year z ≡ true → (z == year) ≡ false
      other false is apart timely = is
      other true is apart timely = absurd (both_ways _ apart (both _ _ (ap is_year (sym (eqb-true _ _ is)) ∙ timely) is))

module _ (m : Data) (k q : RecordKey) (o : Option Figure) (e : o ≡ figure m q) (stands : is_some (figure m q) ≡ true) where
  pub answers : is_other_year k q ≡ true → IfSome o (λ f. (x : RecordKey) × (figure m x ≡ Some f) × (is_other_year k x ≡ true))
  answers other = by o e
    where
      by : (o : Option Figure) → o ≡ figure m q → IfSome o (λ f. (x : RecordKey) × (figure m x ≡ Some f) × (is_other_year k x ≡ true))
      by None e = tt
      by (Some f) e = (q, sym e, other)

  pub never_none : (P : Type 0) → IfNone o P
  never_none P = by o e
    where
      by : (o : Option Figure) → o ≡ figure m q → IfNone o P
      by None e = absurd (both_ways _ (ap is_some (sym e)) stands)
      by (Some f) e = tt

-- one figure of the name tells of all
pub meets_some : {m : Data} → IsConsistent m → (k q : RecordKey) (f : Figure) (d : Dim) → figure m q ≡ Some f → is_other_year k q ≡ true → meets_other_dimension m k d ≡ not (same_dim d (dim_of f.unit))
meets_some {m} is k q f d e o = by (meets_other_dimension m k d) refl
  where
    by : (b : Bool) → meets_other_dimension m k d ≡ b → meets_other_dimension m k d ≡ not (same_dim d (dim_of f.unit))
    by true meets =
        let other = meets_true m k d meets in
        let alike = alike_joined q k other.0 (alike_back k q (other_alike k q o)) (other_alike k other.0 other.3) in
        meets ∙ sym (so_not _ (ap (same_dim d) (one_dimension is q other.0 f other.1 e other.2 alike) ∙ other.4))
    by false none = none ∙ ap not (sym (same_dim-itself d _ (meets_false m k d none q f e o)))

pub meets_none : (m : Data) (k : RecordKey) (d : Dim) → ((q : RecordKey) → is_other_year k q ≡ true → figure m q ≡ None) → meets_other_dimension m k d ≡ false
meets_none m k d none = by (meets_other_dimension m k d) refl
  where
    apart : (o : Option Figure) (f : Figure) → o ≡ Some f → o ≡ None → ⊥
    apart o f e n = cc

    by : (b : Bool) → meets_other_dimension m k d ≡ b → meets_other_dimension m k d ≡ false
    by true meets = let other = meets_true m k d meets in absurd (apart _ other.1 other.2 (none other.0 other.3))
    by false is = is
