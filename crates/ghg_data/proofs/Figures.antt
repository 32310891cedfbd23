-- Whether all figures of a name are of a dimension, told by one of them.
use Rattle.std.proofs.Common.{◌≡◌, ◌⊎◌, inl, inr, Bool, true, false, not, ◌&&◌, ◌||◌, ◌==◌, List, [], ◌∷◌, Option, Some, None, is_some, if◌then◌else◌, refl, sym, ap, ◌∙◌, arith, eqb-true}
use Rattle.std.specs.FinMap.{entries, get}
use Rattle.std.specs.List.{cons_option, filter_map, list_all, list_any}
use Rattle.std.specs.Option.{option_map_or}
use Rattle.std.proofs.lemmas.Bool.{false_from_ne_true, not-false, or_parts, both_ways}
use Rattle.ghg_equations.specs.declared.quantity.Dim.{Dim}
use Rattle.ghg_equations.specs.Quantity.{same_dim}
use Rattle.ghg_units.specs.declared.row.Figure.{Figure}
use Rattle.ghg_units.specs.Units.{dim_of}
use Rattle.ghg_definitions.specs.declared.record.Record.{Record}
use Rattle.ghg_definitions.specs.declared.record.RecordKey.{RecordKey}
use Rattle.ghg_definitions.specs.declared.record.RecordKey.TheVariants as key
use Rattle.ghg_definitions.specs.Data.{Data, Name, as_figure, figure, year_of}
use Rattle.ghg_definitions.specs.Rules.{activities, activity_figure, are_of, factor_figure, factors, has_dimension, is_alike, is_other_year}
use Rattle.ghg_definitions.specs.Sound.{IsConsistent}
use Rattle.ghg_definitions.proofs.Alike.{alike_back, alike_joined, both, first_so, held, not_so, one_dimension, other_alike, second_so, so_not}
use Rattle.ghg_definitions.proofs.Consistent.{figure_dated}
use Rattle.ghg_definitions.proofs.Dims.{dim_same, same_dim-itself}
use Rattle.ghg_definitions.proofs.Keys.{keys_same, keys_total}
use Rattle.ghg_definitions.proofs.Members.{any_entry, entry_any}
use Rattle.ghg_data.specs.declared.series.Series.{Series}
use Rattle.ghg_data.specs.declared.series.Series.TheVariants as series
use Rattle.ghg_data.specs.Series.{dated}
use Rattle.ghg_data.specs.Settling.{figures_of, loses_dimension}

abbrev Entry : Type 0
Entry = RecordKey × Record

-- the figure of an entry that is of the key's kind and name
abbrev of_name : RecordKey → Entry → Option Figure
of_name k e = if is_alike k e.0 then as_figure (Some e.1) else None

abbrev figures : Data → RecordKey → List Figure
figures m k = filter_map (of_name k) (entries m)

-- ---- lists

same_filter_map : {A B : Type 0} (f g : A → Option B) → ((x : A) → f x ≡ g x) → (xs : List A) → filter_map f xs ≡ filter_map g xs
same_filter_map f g h [] = refl
same_filter_map f g h (x ∷ xs) = λ i. cons_option (h x i) (same_filter_map f g h xs i)

activities_are : (m : Data) (name : Name) → activities m name ≡ figures m (key.Activity name 0)
activities_are m name = same_filter_map _ _ (λ (e : Entry). by e.0 e.1) (entries m)
  where
    by : (k : RecordKey) (r : Record) → activity_figure name k r ≡ of_name (key.Activity name 0) (k, r)
    by key.Span r = refl
    by (key.Activity other year) r = refl
    by (key.Factor other start) r = refl
    by (key.Line other) r = refl
    by (key.Bind l p) r = refl
    by (key.Uncert l) r = refl

factors_are : (m : Data) (name : Name) → factors m name ≡ figures m (key.Factor name 0)
factors_are m name = same_filter_map _ _ (λ (e : Entry). by e.0 e.1) (entries m)
  where
    by : (k : RecordKey) (r : Record) → factor_figure name k r ≡ of_name (key.Factor name 0) (k, r)
    by key.Span r = refl
    by (key.Activity other year) r = refl
    by (key.Factor other start) r = refl
    by (key.Line other) r = refl
    by (key.Bind l p) r = refl
    by (key.Uncert l) r = refl

is_filled : List Figure → Bool
is_filled [] = false
is_filled (f ∷ fs) = true

none_left : {A : Type 0} (h : A → Option Figure) (xs : List A) → list_any (λ x. is_some (h x)) xs ≡ false → filter_map h xs ≡ []
none_left h [] e = refl
none_left h (x ∷ xs) e = by (h x) e (none_left h xs)
  where
    by : (o : Option Figure) → is_some o || list_any (λ x. is_some (h x)) xs ≡ false → (list_any (λ x. is_some (h x)) xs ≡ false → filter_map h xs ≡ []) → cons_option o (filter_map h xs) ≡ []
    by None e rest = rest e
    by (Some f) e rest = absurd (cc)

some_left : {A : Type 0} (h : A → Option Figure) (xs : List A) → list_any (λ x. is_some (h x)) xs ≡ true → is_filled (filter_map h xs) ≡ true
unfolding is_filled
some_left h [] e = absurd (cc)
some_left h (x ∷ xs) e = by (h x) e (some_left h xs)
  where
    by : (o : Option Figure) → is_some o || list_any (λ x. is_some (h x)) xs ≡ true → (list_any (λ x. is_some (h x)) xs ≡ true → is_filled (filter_map h xs) ≡ true) → is_filled (cons_option o (filter_map h xs)) ≡ true
    by None e rest = rest e
    by (Some f) e rest = refl

of_dim : Dim → Figure → Bool
of_dim d f = same_dim d (dim_of f.unit)

all_left : {A : Type 0} (d : Dim) (h : A → Option Figure) (xs : List A) → list_any (λ x. option_map_or (λ g. not (of_dim d g)) (h x) false) xs ≡ false → list_all (of_dim d) (filter_map h xs) ≡ true
all_left d h [] e = refl
all_left d h (x ∷ xs) e = by (h x) (or_parts _ _ e) (all_left d h xs)
  where
    by : (o : Option Figure) → (option_map_or (λ g. not (of_dim d g)) o false ≡ false) × (list_any (λ x. option_map_or (λ g. not (of_dim d g)) (h x) false) xs ≡ false) → (list_any (λ x. option_map_or (λ g. not (of_dim d g)) (h x) false) xs ≡ false → list_all (of_dim d) (filter_map h xs) ≡ true) → list_all (of_dim d) (cons_option o (filter_map h xs)) ≡ true
    by None e rest = rest e.1
    by (Some f) e rest = both _ _ (not-false _ e.0) (rest e.1)

-- ---- figures that are all of one dimension

all_of : (d other : Dim) (fs : List Figure) → list_all (of_dim d) fs ≡ true → same_dim other d ≡ true → list_all (has_dimension other) fs ≡ true
unfolding of_dim
all_of d other [] all e = refl
all_of d other (f ∷ fs) all e = both _ _ (ap (same_dim other) (sym (dim_same _ _ (first_so _ _ all))) ∙ e) (all_of d other fs (second_so (same_dim d (dim_of f.unit)) _ all) e)

one_answers : (d other : Dim) (fs : List Figure) → list_all (of_dim d) fs ≡ true → is_filled fs ≡ true → are_of other fs ≡ same_dim other d
unfolding of_dim is_filled
one_answers d other [] all filled = absurd (cc)
one_answers d other (f ∷ fs) all filled = by (same_dim other d) refl
  where
    first_is : same_dim other (dim_of f.unit) ≡ same_dim other d
    first_is = ap (same_dim other) (sym (dim_same _ _ (first_so _ _ all)))

    by : (b : Bool) → same_dim other d ≡ b → same_dim other (dim_of f.unit) && list_all (has_dimension other) fs ≡ same_dim other d
    by true e = both _ _ (first_is ∙ e) (all_of d other fs (second_so (same_dim d (dim_of f.unit)) _ all) e) ∙ sym e
    by false e = ap (λ b. b && list_all (has_dimension other) fs) (first_is ∙ e) ∙ sym e

-- ---- the figures of a name

alike_figure : (b : Bool) (o : Option Figure) (g : Figure) → (if b then o else None) ≡ Some g → (b ≡ true) × (o ≡ Some g)
alike_figure true o g e = (refl, e)
alike_figure false o g e = absurd (cc)

some_figure : (o : Option Figure) → is_some o ≡ true → (g : Figure) × (o ≡ Some g)
some_figure None e = absurd (cc)
some_figure (Some g) e = (g, refl)

differing : (d : Dim) (o : Option Figure) → option_map_or (λ g. not (of_dim d g)) o false ≡ true → (g : Figure) × (o ≡ Some g) × (of_dim d g ≡ false)
differing d None e = absurd (cc)
differing d (Some g) e = (g, refl, not_so _ e)

differs : (f g : Figure) → dim_of f.unit ≡ dim_of g.unit → of_dim (dim_of f.unit) g ≡ false → ⊥
unfolding of_dim
differs f g one e = both_ways _ e (same_dim-itself _ _ one)

module _ {m : Data} (is : IsConsistent m) (k : RecordKey) (unyeared : year_of k ≡ 0) where
  -- each figure of the name is of another year
  of_other_year : (q : RecordKey) (g : Figure) → figure m q ≡ Some g → is_alike k q ≡ true → is_other_year k q ≡ true
  of_other_year q g e a =
      let year = (figure_dated is q g e).0 in
      both _ _ a (so_not _ (false_from_ne_true (year_of k == year_of q) (λ h. let y : year_of k ≡ year_of q = eqb-true _ _ h in absurd (omega arith))))

  pub figures_empty : ((q : RecordKey) → is_other_year k q ≡ true → figure m q ≡ None) → figures m k ≡ []
  figures_empty none = none_left (of_name k) (entries m) (false_from_ne_true _ (λ h.
      let found = any_entry keys_total keys_same (λ (e : Entry). is_some (of_name k e)) m h in
      let g = some_figure (of_name k (found.0, found.1)) found.3 in
      let parts = alike_figure (is_alike k found.0) (as_figure (Some found.1)) g.0 g.1 in
      let at : figure m found.0 ≡ Some g.0 = ap as_figure found.2 ∙ parts.1 in
      apart _ g.0 at (none found.0 (of_other_year found.0 g.0 at parts.0))))
    where
      apart : (o : Option Figure) (f : Figure) → o ≡ Some f → o ≡ None → ⊥
      apart o f e n = cc

  pub figures_none : (d : Dim) → ((q : RecordKey) → is_other_year k q ≡ true → figure m q ≡ None) → are_of d (figures m k) ≡ false
  figures_none d none = ap (are_of d) (figures_empty none)

  pub figures_some : (d : Dim) (q : RecordKey) (f : Figure) → figure m q ≡ Some f → is_other_year k q ≡ true → are_of d (figures m k) ≡ same_dim d (dim_of f.unit)
  figures_some d q f e o = one_answers (dim_of f.unit) d (figures m k)
      (all_left (dim_of f.unit) (of_name k) (entries m) (false_from_ne_true _ (λ h.
      let found = any_entry keys_total keys_same (λ (e : Entry). option_map_or (λ g. not (of_dim (dim_of f.unit) g)) (of_name k e) false) m h in
      let g = differing (dim_of f.unit) (of_name k (found.0, found.1)) found.3 in
      let parts = alike_figure (is_alike k found.0) (as_figure (Some found.1)) g.0 g.1 in
      differs f g.0 (one_dimension is q found.0 f g.0 e (ap as_figure found.2 ∙ parts.1) (alike_joined q k found.0 (alike_back k q (other_alike k q o)) parts.0)) g.2)))
      (some_left (of_name k) (entries m) (let r = held (get m q) f e in
      entry_any keys_total keys_same (λ (e : Entry). is_some (of_name k e)) m q r.0 r.1
      (ap (λ b. is_some (if b then as_figure (Some r.0) else None)) (other_alike k q o) ∙ ap is_some (sym (ap as_figure r.1) ∙ e))))

  -- there are none, or there is one of another year
  pub figures_one : (figures m k ≡ []) ⊎ ((q : RecordKey) × (g : Figure) × (figure m q ≡ Some g) × (is_other_year k q ≡ true))
  figures_one = by (list_any (λ (e : Entry). is_some (of_name k e)) (entries m)) refl
    where
      by : (b : Bool) → list_any (λ (e : Entry). is_some (of_name k e)) (entries m) ≡ b → (figures m k ≡ []) ⊎ ((q : RecordKey) × (g : Figure) × (figure m q ≡ Some g) × (is_other_year k q ≡ true))
      by true h =
          let found = any_entry keys_total keys_same (λ (e : Entry). is_some (of_name k e)) m h in
          let g = some_figure (of_name k (found.0, found.1)) found.3 in
          let parts = alike_figure (is_alike k found.0) (as_figure (Some found.1)) g.0 g.1 in
          let at : figure m found.0 ≡ Some g.0 = ap as_figure found.2 ∙ parts.1 in
          inr (found.0, g.0, at, of_other_year found.0 g.0 at parts.0)
      by false h = inl (none_left (of_name k) (entries m) h)

-- ---- the figures of an activity or a factor

figures_at : (m : Data) (s : Series) → figures_of m s ≡ figures m (dated s 0)
figures_at m (series.Activity name) = activities_are m name
figures_at m (series.Factor name) = factors_are m name

undated : (s : Series) → year_of (dated s 0) ≡ 0
undated (series.Activity name) = refl
undated (series.Factor name) = refl

pub series_none : {m : Data} → IsConsistent m → (s : Series) (d : Dim) → ((q : RecordKey) → is_other_year (dated s 0) q ≡ true → figure m q ≡ None) → are_of d (figures_of m s) ≡ false
series_none {m} is s d none = ap (are_of d) (figures_at m s) ∙ figures_none is (dated s 0) (undated s) d none

pub series_some : {m : Data} → IsConsistent m → (s : Series) (d : Dim) (q : RecordKey) (f : Figure) → figure m q ≡ Some f → is_other_year (dated s 0) q ≡ true → are_of d (figures_of m s) ≡ same_dim d (dim_of f.unit)
series_some {m} is s d q f e o = ap (are_of d) (figures_at m s) ∙ figures_some is (dated s 0) (undated s) d q f e o

-- ---- names that lose their dimension

or_none : (a c : Bool) → a ≡ c → a || false ≡ c
or_none true c e = e
or_none false c e = e

or_both : (a b c : Bool) → a ≡ c → b ≡ c → a || b ≡ c
or_both true b c e f = e
or_both false b c e f = f

-- what is so of the dimension of one figure is so of any, where all are of one dimension
any_alike : (test : Dim → Bool) (d : Dim) (f : Figure) (fs : List Figure) → list_all (has_dimension d) (f ∷ fs) ≡ true → list_any (λ f. test (dim_of f.unit)) (f ∷ fs) ≡ test d
any_alike test d f [] all = or_none _ _ (ap test (sym (dim_same d (dim_of f.unit) (first_so _ _ all))))
any_alike test d f (g ∷ fs) all = or_both _ _ _ (ap test (sym (dim_same d (dim_of f.unit) (first_so _ _ all)))) (any_alike test d g fs (second_so (has_dimension d f) _ all))

any_of : (test : Dim → Bool) (d : Dim) (fs : List Figure) → are_of d fs ≡ true → list_any (λ f. test (dim_of f.unit)) fs ≡ test d
any_of test d [] all = absurd (cc)
any_of test d (f ∷ fs) all = any_alike test d f fs all

pub loses_some : {m : Data} → IsConsistent m → (n : Data) (s : Series) (q : RecordKey) (f : Figure) → figure m q ≡ Some f → is_other_year (dated s 0) q ≡ true → loses_dimension m n s ≡ not (are_of (dim_of f.unit) (figures_of n s))
loses_some {m} is n s q f at other = any_of (λ d. not (are_of d (figures_of n s))) (dim_of f.unit) (figures_of m s)
    (series_some is s (dim_of f.unit) q f at other ∙ same_dim-itself _ _ refl)

pub loses_none : {m : Data} → IsConsistent m → (n : Data) (s : Series) → ((q : RecordKey) → is_other_year (dated s 0) q ≡ true → figure m q ≡ None) → loses_dimension m n s ≡ false
loses_none {m} is n s none = ap (list_any (λ f. not (are_of (dim_of f.unit) (figures_of n s)))) (figures_at m s ∙ figures_empty is (dated s 0) (undated s) none)

pub loses_so : (m n : Data) (s : Series) (d : Dim) → are_of d (figures_of m s) ≡ true → are_of d (figures_of n s) ≡ false → loses_dimension m n s ≡ true
loses_so m n s d before after = any_of (λ e. not (are_of e (figures_of n s))) d (figures_of m s) before ∙ ap not after

-- a figure of a name that loses its dimension is changed
pub lost_figure : {m n : Data} → IsConsistent m → IsConsistent n → (s : Series) → loses_dimension m n s ≡ true
    → (q : RecordKey) × (f : Figure) × (figure m q ≡ Some f) × (is_other_year (dated s 0) q ≡ true) × (figure n q ≡ figure m q → ⊥)
lost_figure {m} {n} before now s loses = elim (figures_one before (dated s 0) (undated s)) [
  | inl none ↦ absurd (both_ways _ (ap (list_any (λ f. not (are_of (dim_of f.unit) (figures_of n s)))) (figures_at m s ∙ none)) loses)
  | inr found ↦ (
    found.0,
    found.1,
    found.2,
    found.3,
    λ kept. both_ways _ (not_so _ (sym (loses_some before n s found.0 found.1 found.2 found.3) ∙ loses))
        (series_some now s (dim_of found.1.unit) found.0 found.1 (kept ∙ found.2) found.3 ∙ same_dim-itself _ _ refl),
  )
]
