-- The dates of a calendar, after a change.
use Rattle.std.proofs.Common.{◌≡◌, ◌⊎◌, inl, inr, ℕ, map, slice_get, Bool, true, false, cond, ◌&&◌, ◌==◌, List, [], ◌∷◌, Option, Some, None, refl, sym, ap, ap₂, ◌∙◌, subst, eqb-true}
use Rattle.std.specs.Cmp.{IsEquivalence, eq_by_cmp_equiv}
use Rattle.std.specs.Cmp.Lexicographic.{nat_list_eq_equiv, texts_ties}
use Rattle.std.specs.Map.{lookup}
use Rattle.std.specs.Option.{option_map}
use Rattle.std.specs.Ordering.{eq_by_cmp}
use Rattle.std.specs.Str.{bytes_eq}
use Rattle.std.proofs.lemmas.Option.{same_Some, slice_get-map}
use Rattle.std.proofs.Math.Bool.{and-false}
use Rattle.ghg_definitions.specs.declared.record.RecordKey.{RecordKey}
use Rattle.ghg_definitions.specs.declared.record.RecordKey.TheVariants as key
use Rattle.ghg_definitions.specs.Data.{Name, key_cmp}
use Rattle.ghg_definitions.specs.Listed.{IsListed}
use Rattle.ghg_definitions.proofs.Keys.{equal_by, key_eq, key_ties, keys_total, names_same}
use Rattle.ghg_data.specs.contracts.series.SeriesPartialEq.TheImpl as derived
use Rattle.ghg_data.specs.declared.calendar.Calendar.{Calendar}
use Rattle.ghg_data.specs.declared.series.Series.{Series}
use Rattle.ghg_data.specs.declared.series.Series.TheVariants as series
use Rattle.ghg_data.specs.declared.year_set.YearSet.{YearSet}
use Rattle.ghg_data.specs.Calendar.{has_date, holds_year}
use Rattle.ghg_data.specs.Series.{EachHasAYear, date_of, dated, same_series}
use Rattle.ghg_units.specs.Year.{is_year}
use Rattle.ghg_data.specs.YearSet.{HasNoYear, has_year}

-- the equality that the code has
abbrev pub series_eq : Series → Series → Bool
series_eq = (derived.ghosts).eq

pub series_ties : (s t : Series) → series_eq s t ≡ same_series s t
series_ties (series.Activity a) (series.Activity b) = refl
series_ties (series.Activity a) (series.Factor b) = refl
series_ties (series.Factor a) (series.Activity b) = refl
series_ties (series.Factor a) (series.Factor b) = refl

one_name : (a b : Name) → bytes_eq a b ≡ true → a ≡ b
one_name a b e = names_same a b (equal_by _ (sym (texts_ties a b) ∙ e))

pub series_same : (s t : Series) → same_series s t ≡ true → s ≡ t
series_same (series.Activity a) (series.Activity b) e = ap series.Activity (one_name a b e)
series_same (series.Activity a) (series.Factor b) e = absurd (cc)
series_same (series.Factor a) (series.Activity b) e = absurd (cc)
series_same (series.Factor a) (series.Factor b) e = ap series.Factor (one_name a b e)

pub series_equal : (s t : Series) → series_eq s t ≡ true → s ≡ t
series_equal s t e = series_same s t (sym (series_ties s t) ∙ e)

pub series_itself : (s : Series) → same_series s s ≡ true
series_itself (series.Activity a) = nat_list_eq_equiv.refl a
series_itself (series.Factor a) = nat_list_eq_equiv.refl a

series_back : (s t : Series) → series_eq s t ≡ series_eq t s
series_back (series.Activity a) (series.Activity b) = nat_list_eq_equiv.symm a b
series_back (series.Activity a) (series.Factor b) = refl
series_back (series.Factor a) (series.Activity b) = refl
series_back (series.Factor a) (series.Factor b) = nat_list_eq_equiv.symm a b

pub series_eq_laws : IsEquivalence series_eq
series_eq_laws = record { refl = λ s. series_ties s s ∙ series_itself s; symm = series_back; congr = λ s t u e. ap (λ x. series_eq x u) (series_equal s t e) }

found : (s : Series) (es : List (Series × YearSet)) → lookup (series_eq s) es ≡ lookup (same_series s) es
found s [] = refl
found s (e ∷ es) = ap₂ (λ (b : Bool) (r : Option YearSet). cond b (Some e.1) r) (series_ties s e.0) (found s es)

-- the column that a series has
pub had_column : (es : List (Series × YearSet)) (k : Series) (o : Option YearSet) → lookup (series_eq k) es ≡ o → lookup (same_series k) es ≡ o
had_column es k o there = sym (found k es) ∙ there

-- a series that has a year is among the keys
pub date_listed : (es : List (Series × YearSet)) (s : Series) (y : ℕ) → holds_year (lookup (same_series s) es) y ≡ true → IsListed s (map (λ e. e.0) es)
date_listed [] s y e = absurd (cc)
date_listed (x ∷ es) s y e = by (same_series s x.0) refl e (date_listed es s y)
  where
    by : (b : Bool) → same_series s x.0 ≡ b → holds_year (cond b (Some x.1) (lookup (same_series s) es)) y ≡ true → (holds_year (lookup (same_series s) es) y ≡ true → IsListed s (map (λ e. e.0) es)) → (s ≡ x.0) ⊎ IsListed s (map (λ e. e.0) es)
    by true is f rest = inl (series_same s x.0 is)
    by false is f rest = inr (rest f)

-- ---- the date of a key

pub key_of_date : (k : RecordKey) (t : Series) (z : ℕ) → date_of k ≡ Some (t, z) → k ≡ dated t z
key_of_date key.Span t z e = absurd (cc)
key_of_date (key.Activity name year) t z e = ap (λ p. dated p.0 p.1) (same_Some (series.Activity name, year) (t, z) e)
key_of_date (key.Factor name start) t z e = ap (λ p. dated p.0 p.1) (same_Some (series.Factor name, start) (t, z) e)
key_of_date (key.Line name) t z e = absurd (cc)
key_of_date (key.Bind line parameter) t z e = absurd (cc)
key_of_date (key.Uncert line) t z e = absurd (cc)

dates_tie : (t s : Series) (z y : ℕ) → key_eq (dated t z) (dated s y) ≡ same_series t s && (z == y)
dates_tie (series.Activity a) (series.Activity b) z y = refl
dates_tie (series.Activity a) (series.Factor b) z y = refl
dates_tie (series.Factor a) (series.Activity b) z y = refl
dates_tie (series.Factor a) (series.Factor b) z y = refl

date_tied : (k : RecordKey) (t : Series) (z : ℕ) → date_of k ≡ Some (t, z) → (s : Series) (y : ℕ) → eq_by_cmp key_cmp (dated s y) k ≡ same_series t s && (z == y)
date_tied k t z e s y = ap (eq_by_cmp key_cmp (dated s y)) (key_of_date k t z e) ∙ (eq_by_cmp_equiv keys_total).symm (dated s y) (dated t z) ∙ sym (key_ties (dated t z) (dated s y)) ∙ dates_tie t s z y

-- ---- a series is given a column, or none

module _ (old new : List (Series × YearSet)) (k : Series) (o : Option YearSet) (given : (q : Series) → lookup (series_eq q) new ≡ cond (series_eq k q) o (lookup (series_eq q) old)) where
  then_has : (s : Series) → lookup (same_series s) new ≡ cond (same_series k s) o (lookup (same_series s) old)
  then_has s = sym (found s new) ∙ given s ∙ ap₂ (λ (b : Bool) (x : Option YearSet). cond b o x) (series_ties k s) (found s old)

  pub given_years : (has : ℕ → Bool) → ((y : ℕ) → holds_year o y ≡ has y) → (s : Series) (y : ℕ)
      → holds_year (lookup (same_series s) new) y ≡ cond (same_series k s) (has y) (holds_year (lookup (same_series s) old) y)
  given_years has holds s y = ap (λ x. holds_year x y) (then_has s) ∙ by (same_series k s)
    where
      by : (b : Bool) → holds_year (cond b o (lookup (same_series s) old)) y ≡ cond b (has y) (holds_year (lookup (same_series s) old) y)
      by true = holds y
      by false = refl

  -- each series still has a year, where a column that it is given has one
  pub each_has_a_year : ((column : YearSet) → o ≡ Some column → ¬ HasNoYear column) → EachHasAYear old → EachHasAYear new
  each_has_a_year some each s column e = by (same_series k s) (sym (then_has s) ∙ e)
    where
      by : (b : Bool) → cond b o (lookup (same_series s) old) ≡ Some column → ¬ HasNoYear column
      by true f = some column f
      by false f = each s column f

-- what a series is given has a year, where it is nothing
pub nothing_given : (column : YearSet) → None ≡ Some column → ¬ HasNoYear column
nothing_given column e = absurd (cc)

-- and where it is a column
pub column_given : (given : YearSet) → ¬ HasNoYear given → (column : YearSet) → Some given ≡ Some column → ¬ HasNoYear column
column_given given some column e = let same : given ≡ column = cc in subst (λ (c : YearSet). ¬ HasNoYear c) same some

-- the column of a series is written
module _ (old new : List (Series × YearSet)) (k : Series) (before after : YearSet) (given : (q : Series) → lookup (series_eq q) new ≡ cond (series_eq k q) (Some after) (lookup (series_eq q) old))
    (there : lookup (series_eq k) old ≡ Some before) where
  pub column_years : (z : ℕ) (present : Bool) → ((y : ℕ) → has_year after y ≡ cond (is_year z && (y == z)) present (has_year before y)) → (s : Series) (y : ℕ)
      → holds_year (lookup (same_series s) new) y ≡ cond (same_series k s) (cond (is_year z && (y == z)) present (holds_year (lookup (same_series k) old) y)) (holds_year (lookup (same_series s) old) y)
  column_years z present years =
      given_years old new k (Some after) given (λ y. cond (is_year z && (y == z)) present (holds_year (lookup (same_series k) old) y))
      (λ y. years y ∙ ap (λ o. cond (is_year z && (y == z)) present (holds_year o y)) (sym (had_column old k (Some before) there)))

  pub write_has_a_year : ¬ HasNoYear after → EachHasAYear old → EachHasAYear new
  write_has_a_year some = each_has_a_year old new k (Some after) given (column_given after some)

-- a series without a column has no years and no places
module _ (old : List (Series × YearSet)) (k : Series) (none : lookup (series_eq k) old ≡ None) where
  pub no_year : (given : ℕ → Bool) → ((y : ℕ) → given y ≡ false) → (s : Series) (y : ℕ) → holds_year (lookup (same_series s) old) y ≡ cond (same_series k s) (given y) (holds_year (lookup (same_series s) old) y)
  no_year given nothing s y = by (same_series k s) refl
    where
      by : (b : Bool) → same_series k s ≡ b → holds_year (lookup (same_series s) old) y ≡ cond b (given y) (holds_year (lookup (same_series s) old) y)
      by true is = ap (λ x. holds_year (lookup (same_series x) old) y) (sym (series_same k s is)) ∙ ap (λ o. holds_year o y) (had_column old k None none) ∙ sym (nothing y)
      by false is = refl

-- years with one more are some, where they were some
pub still_some : (before after : YearSet) (here : ℕ → Bool) → ((y : ℕ) → has_year after y ≡ cond (here y) true (has_year before y)) → ¬ HasNoYear before → ¬ HasNoYear after
still_some before after here with some none = some (λ y. by (here y) (has_year before y) (sym (with y) ∙ none y))
  where
    by : (b o : Bool) → cond b true o ≡ false → o ≡ false
    by true o e = absurd (cc)
    by false o e = e

-- what a write leaves of a series that is taken out then
pub taken_out : (old between new : List (Series × YearSet)) (k : Series) (column : YearSet) → ((q : Series) → lookup (series_eq q) between ≡ cond (series_eq k q) (Some column) (lookup (series_eq q) old))
    → ((q : Series) → lookup (series_eq q) new ≡ cond (series_eq k q) None (lookup (series_eq q) between)) → (q : Series) → lookup (series_eq q) new ≡ cond (series_eq k q) None (lookup (series_eq q) old)
taken_out old between new k column first then q = then q ∙ ap (cond (series_eq k q) None) (first q) ∙ by (series_eq k q)
  where
    by : (b : Bool) → cond b None (cond b (Some column) (lookup (series_eq q) old)) ≡ cond b None (lookup (series_eq q) old)
    by true = refl
    by false = refl

-- ---- a key is noted

same_year : (y z : ℕ) → is_year z && (y == z) ≡ is_year y && (z == y)
same_year y z = by (y == z) refl
  where
    by : (b : Bool) → (y == z) ≡ b → is_year z && (y == z) ≡ is_year y && (z == y)
    by true e = let q : y ≡ z = eqb-true _ _ e in ap (λ x. is_year x && (y == x)) (sym q) ∙ ap (λ x. is_year y && (x == y)) q
    by false e = by_other (z == y) refl
      where
        by_other : (b : Bool) → (z == y) ≡ b → is_year z && (y == z) ≡ is_year y && (z == y)
        by_other true f = let q : z ≡ y = eqb-true _ _ f in ap (λ x. is_year x && (y == x)) q ∙ ap (λ x. is_year y && (x == y)) (sym q)
        by_other false f = ap (λ b. is_year z && b) e ∙ and-false (is_year z) ∙ sym (ap (λ b. is_year y && b) f ∙ and-false (is_year y))

module _ (old : Calendar) (k : RecordKey) (present : Bool) where
  pub noted : (t : Series) (z : ℕ) → date_of k ≡ Some (t, z) → (s : Series) (y : ℕ)
      → cond (same_series t s) (cond (is_year z && (y == z)) present (has_date old t y)) (has_date old s y) ≡ cond (is_year y && eq_by_cmp key_cmp (dated s y) k) present (has_date old s y)
  noted t z e s y = by (same_series t s) refl ∙ ap (λ b. cond (is_year y && b) present (has_date old s y)) (sym (date_tied k t z e s y))
    where
      by : (b : Bool) → same_series t s ≡ b → cond b (cond (is_year z && (y == z)) present (has_date old t y)) (has_date old s y) ≡ cond (is_year y && (b && (z == y))) present (has_date old s y)
      by true is = ap (λ x. cond (is_year z && (y == z)) present (has_date old x y)) (series_same t s is) ∙ ap (λ b. cond b present (has_date old s y)) (same_year y z)
      by false is = ap (λ b. cond b present (has_date old s y)) (sym (and-false (is_year y)))

-- ---- an entry is written

pub same_value : (es : List (Series × YearSet)) (i : ℕ) (k : Series) (c d : YearSet) → slice_get es i ≡ Some (k, c) → slice_get (map (λ e. e.1) es) i ≡ Some d → c ≡ d
same_value es i k c d at value = same_Some c d (sym (ap (option_map (λ e. e.1)) at) ∙ sym (slice_get-map (λ e. e.1) es i) ∙ value)
