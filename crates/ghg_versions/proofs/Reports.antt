-- The values of all years, year by year.
use Rattle.std.proofs.Common.{◌≡◌, ℕ, zero, suc, ◌+◌, ◌-◌, ◌<◌, ◌≤◌, Bool, true, false, nat_le, ◌&&◌, if◌then◌else◌, List, [], ◌∷◌, ◌++◌, map, length, Option, Some, None, option_map, slice_get, arith, refl, sym, ap, ap₂, ◌∙◌}
use Rattle.std.proofs.lemmas.List.{length-map, map-append}
use Rattle.std.proofs.lemmas.Option.{slice_get-map, slice_get_past}
use Rattle.ghg_definitions.specs.Compilation.{compilation, is_year_of, years_from}
use Rattle.ghg_definitions.specs.Data.{Data, span}
use Rattle.ghg_tables.specs.declared.values.PairValue.{PairValue}
use Rattle.ghg_tables.specs.Values.{values}
use Rattle.ghg_tables.proofs.Years.{year_added}
use Rattle.ghg_units.specs.declared.row.Span.{Span}
use Rattle.ghg_versions.specs.declared.version.Report.{Report}
use Rattle.ghg_versions.specs.Desk.{values_at}
use Rattle.ghg_versions.specs.Versions.{IsReportOf}

length-years_from : (first count : ℕ) → length (years_from first count) ≡ count
length-years_from first zero = refl
length-years_from first (suc count) = omega (arith, length-years_from (first + 1) count)

module _ {X : Type 0} (f : ℕ → X) where
  year_within : (first count i : ℕ) → i < count → slice_get (map f (years_from first count)) i ≡ Some (f (first + i))
  year_within first zero i h = absurd (omega arith)
  year_within first (suc count) zero h = let here : first ≡ first + 0 = omega arith in ap (λ n. Some (f n)) here
  year_within first (suc count) (suc i) h =
      let there : first + 1 + i ≡ first + suc i = omega arith in
      year_within (first + 1) count i (omega arith) ∙ ap (λ n. Some (f n)) there

  year_past : (first count i : ℕ) → count ≤ i → slice_get (map f (years_from first count)) i ≡ None
  year_past first count i h =
      slice_get_past (map f (years_from first count)) i (omega (arith, length-map (years_from first count) f, length-years_from first count))

  -- of the years of a span
  year_of : (first last year : ℕ) (later earlier : Bool) → nat_le first year ≡ later → nat_le year last ≡ earlier
      → (if later then slice_get (map f (years_from first (last + 1 - first))) (year - first) else None)
      ≡ (if later && earlier then Some (f year) else None)
  year_of first last year false earlier l e = refl
  year_of first last year true true l e =
      let from : first ≤ year = grind (arith, l) in
      let to : year ≤ last = grind (arith, e) in
      let here : first + (year - first) ≡ year = omega arith in
      year_within first (last + 1 - first) (year - first) (omega arith) ∙ ap (λ n. Some (f n)) here
  year_of first last year true false l e =
      let from : first ≤ year = grind (arith, l) in
      let past : last < year = grind (arith, e) in
      year_past first (last + 1 - first) (year - first) (omega arith)

  -- one year more
  more_years : (first year : ℕ) (columns : List X) (column : X) → first ≤ year → columns ≡ map f (years_from first (year - first)) → column ≡ f year
      → columns ++ column ∷ [] ≡ map f (years_from first (year + 1 - first))
  more_years first year columns column h so_far here =
      ap₂ (λ (xs : List X) (x : X). xs ++ x ∷ []) so_far here ∙ sym (ap (map f) (year_added first year h) ∙ map-append f (years_from first (year - first)) (year ∷ []))

-- one more element that holds a year
pub kept_more : {V X : Type 0} (items : V → X) (f : ℕ → X) (first year : ℕ) (old new : List V) (v : V) → first ≤ year
    → map items old ≡ map f (years_from first (year - first)) → new ≡ old ++ v ∷ [] → items v ≡ f year
    → map items new ≡ map f (years_from first (year + 1 - first))
kept_more items f first year old new v h so_far added here =
    ap (map items) added ∙ map-append items old (v ∷ []) ∙ more_years f first year (map items old) (items v) h so_far here

nothing : (b : Bool) → ◌≡◌ {A = Option (List PairValue)} (if b then None else None) None
nothing true = refl
nothing false = refl

module _ (m : Data) (r : Report) where
  abbrev columns : List (List PairValue)
  columns = map (λ kept. kept.items) r.years.items

  pub reported_years : (s : Span) → span m ≡ Some s → r.first ≡ s.first
      → columns ≡ map (values m (compilation m)) (years_from s.first (s.last + 1 - s.first)) → IsReportOf m r
  unfolding values_at
  reported_years s is first same = record {
    each = λ year.
        let got = sym (slice_get-map (λ kept. kept.items) r.years.items (year - r.first)) ∙ ap (λ xs. slice_get xs (year - r.first)) same in
        ap (λ o. if nat_le r.first year then o else None) got
        ∙ ap (λ n. if nat_le n year then slice_get (map (values m (compilation m)) (years_from s.first (s.last + 1 - s.first))) (year - n) else None) first
        ∙ year_of (values m (compilation m)) s.first s.last year (nat_le s.first year) (nat_le year s.last) refl refl
        ∙ sym (ap (λ o. if is_year_of o year then Some (values m (compilation m) year) else None) is);
  }

  pub no_years : span m ≡ None → r.first ≡ 0 → r.years.items ≡ [] → IsReportOf m r
  unfolding values_at
  no_years is first none = record {
    each = λ year.
        ap (λ xs. if nat_le r.first year then option_map (λ kept. kept.items) (slice_get xs (year - r.first)) else None) none
        ∙ nothing (nat_le r.first year)
        ∙ sym (ap (λ o. if is_year_of o year then Some (values m (compilation m) year) else None) is);
  }
