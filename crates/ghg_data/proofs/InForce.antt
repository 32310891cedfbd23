-- Which record of a factor is in force, by a search in the years of its records.
use Rattle.std.proofs.Common.{◌≡◌, inl, inr, ◌≤◌, ◌<◌, ◌+◌, ◌∙◌, ℕ, Bool, true, false, ◌&&◌, Option, Some, None, MatchOption, is_some, refl, sym, subst, arith}
use Rattle.std.specs.FinMap.{get}
use Rattle.std.specs.Option.{option_map}
use Rattle.std.proofs.lemmas.Bool.{and_from as both, cases_lt, le-leb}
use Rattle.std.proofs.Math.Bool.{and-false}
use Rattle.ghg_units.specs.Year.{is_year}
use Rattle.ghg_units.specs.declared.row.Figure.{Figure}
use Rattle.ghg_definitions.specs.declared.record.Record.{Record}
use Rattle.ghg_definitions.specs.declared.record.Record.TheVariants as entry
use Rattle.ghg_definitions.specs.declared.record.RecordKey.TheVariants as key
use Rattle.ghg_definitions.specs.Data.{Data, Name, as_figure, figure}
use Rattle.ghg_definitions.specs.Lookups.{factor_key}
use Rattle.ghg_definitions.specs.Sound.{IsRecord, IsWorkbook}
use Rattle.ghg_definitions.specs.declared.record.RecordKey.{RecordKey}
use Rattle.ghg_definitions.specs.Laws.{IsFactorInForce, IsLatest}
use Rattle.ghg_data.specs.Lasting.{IsNextStart, NoneStartsBetween}
use Rattle.ghg_definitions.proofs.InForce.{factors_in_force_are_latest, latest_in_force, none_in_force}

record_starts : (name : Name) (start : ℕ) (r : Record) → IsRecord (key.Factor name start) r → is_some (as_figure (Some r)) ≡ is_year start && true
record_starts name start (entry.Factor g) h = sym (both _ _ (both _ _ (le-leb 1900 start h.1.0) (le-leb start 2100 h.1.1)) refl)
record_starts name start _ h = absurd h

none_so : (o : Option Figure) → is_some o ≡ false → o ≡ None
none_so None e = refl
none_so (Some f) e = absurd (cc)

module _ (m : Data) (w : IsWorkbook m) (name : Name) where
  -- a factor begins where it has a record, in a year that records may be of
  begins_dated : (year : ℕ) → is_some (figure m (key.Factor name year)) ≡ is_year year && is_some (get m (key.Factor name year))
  begins_dated year = by (get m (key.Factor name year)) refl
    where
      by : (o : Option Record) → get m (key.Factor name year) ≡ o → is_some (as_figure o) ≡ is_year year && is_some o
      by None e = sym (and-false (is_year year))
      by (Some r) e = record_starts name year r (w.records (key.Factor name year) r e)

  -- what a search in the factor's years finds
  pub in_force : (years : ℕ → Bool) → ((y : ℕ) → years y ≡ is_year y && is_some (get m (key.Factor name y))) → (year : ℕ) (found : Option ℕ)
      → MatchOption found ((y : ℕ) → y ≤ year → years y ≡ false) (λ s. (s ≤ year) × (years s ≡ true) × ((y : ℕ) → s < y → y ≤ year → years y ≡ false))
      → option_map (λ start. key.Factor name start) found ≡ factor_key m name year
  in_force years has year None none = sym (none_in_force m name year (λ y l. none_so _ (begins_dated y ∙ sym (has y) ∙ none y l)))
  in_force years has year (Some s) found = sym (latest_in_force m name year s (record {
    begun = found.0;
    present = begins_dated s ∙ sym (has s) ∙ found.1;
    latest = λ y a b. none_so _ (begins_dated y ∙ sym (has y) ∙ found.2 y a b);
  }))

  -- and what a search for the next one finds
  pub next_start : (years : ℕ → Bool) → ((y : ℕ) → years y ≡ is_year y && is_some (get m (key.Factor name y))) → (year : ℕ) (found : Option ℕ)
      → MatchOption found ((y : ℕ) → year < y → years y ≡ false) (λ s. (year < s) × (years s ≡ true) × ((y : ℕ) → year < y → y < s → years y ≡ false))
      → IsNextStart m name year found
  next_start years has year None none = λ y l. none_so _ (begins_dated y ∙ sym (has y) ∙ none y l)
  next_start years has year (Some s) found = (found.0, begins_dated s ∙ sym (has s) ∙ found.1, λ y a b. none_so _ (begins_dated y ∙ sym (has y) ∙ found.2 y a b))

-- the record that is in force in a year begins no later
pub begun : (m : Data) (name : Name) (now : ℕ) (o : Option RecordKey) → factor_key m name now ≡ o → (start : ℕ) → o ≡ Some (key.Factor name start) → start ≤ now
begun m name now o at start is = by (subst (IsFactorInForce m name now) (at ∙ is) (factors_in_force_are_latest m name now))
  where
    by : IsFactorInForce m name now (Some (key.Factor name start)) → start ≤ now
    by h =
        let same : h.0 ≡ start = cc (h.1) in
        (subst (IsLatest m name now) same h.2).begun

-- and it is so from its start on, until another starts
pub stays_in_force : (m : Data) (name : Name) (now : ℕ) (o : Option RecordKey) → factor_key m name now ≡ o → (start : ℕ) → o ≡ Some (key.Factor name start)
    → (last : ℕ) → NoneStartsBetween m name now (last + 1) → (year : ℕ) → start ≤ year → year ≤ last → factor_key m name year ≡ Some (key.Factor name start)
stays_in_force m name now o at start is last none year after until = by (subst (IsFactorInForce m name now) (at ∙ is) (factors_in_force_are_latest m name now))
  where
    by : IsFactorInForce m name now (Some (key.Factor name start)) → factor_key m name year ≡ Some (key.Factor name start)
    by h =
        let same : h.0 ≡ start = cc (h.1) in
        let was = subst (IsLatest m name now) same h.2 in
        latest_in_force m name year start (record {
          begun = after;
          present = was.present;
          latest = λ y a b. elim (cases_lt now y) [
            | inl later ↦ none y later (omega (arith, b, until))
            | inr not_later ↦ was.latest y a not_later
          ];
        })

-- where none is in force, none was before, and none is until one starts
pub stays_out : (m : Data) (name : Name) (now : ℕ) → factor_key m name now ≡ None → (last : ℕ) → NoneStartsBetween m name now (last + 1) → (year : ℕ) → year ≤ last → factor_key m name year ≡ None
stays_out m name now out last none year until = none_in_force m name year (λ start begun. elim (cases_lt now start) [
  | inl later ↦ none start later (omega (arith, begun, until))
  | inr not_later ↦ subst (IsFactorInForce m name now) out (factors_in_force_are_latest m name now) start not_later
])
