-- Sets of years that are made year by year.
use Rattle.std.proofs.Common.{◌≡◌, inl, inr, ℕ, ◌+◌, ◌<◌, ◌≤◌, Bool, true, false, cond, ◌&&◌, ◌==◌, Some, refl, sym, ap, ◌∙◌, subst, arith}
use Rattle.std.proofs.lemmas.Bool.{cases_lt}
use Rattle.std.proofs.lemmas.Bool.Decides.{Decides-eqb}
use Rattle.ghg_units.specs.declared.row.Span.{Span}
use Rattle.ghg_units.specs.WellFormed.{IsSpan}
use Rattle.ghg_units.specs.Year.{is_year}
use Rattle.ghg_data.specs.declared.year_set.YearSet.{YearSet}
use Rattle.ghg_search.specs.Years.{AreYears}
use Rattle.ghg_data.specs.YearSet.{has_year}
use Rattle.ghg_definitions.specs.Compilation.{is_year_of}
use Rattle.ghg_definitions.proofs.Alike.{both, first_so, second_so}
use Rattle.ghg_definitions.proofs.Depth.{or_else}
use Rattle.ghg_affected.proofs.Bools.{true_not_false}
use Rattle.ghg_search.proofs.Spans.{at_year, next_or_before, not_before, of_span_is, off_year, one_or_before, year_is, year_of_span}

-- ---- those of the years that pass a test

pub record AreFiltered (test : ℕ → Bool) (years : YearSet) (last : ℕ) (kept : YearSet) : Type 0 where
  pub only : (y : ℕ) → has_year kept y ≡ true → has_year years y && test y ≡ true
  pub all : (y : ℕ) → y ≤ last → has_year years y ≡ true → test y ≡ true → has_year kept y ≡ true

module _ (test : ℕ → Bool) (years : YearSet) where
  pub filtered_none : (kept : YearSet) → AreYears years → ((y : ℕ) → has_year kept y ≡ false) → AreFiltered test years 0 kept
  filtered_none kept are none = record {
    only = λ y h. absurd (true_not_false (sym h ∙ none y));
    all = λ y low h t. absurd (omega (arith, low, not_before y (are y h)));
  }

  pub filtered_more : (kept more : YearSet) (last year : ℕ) (b : Bool) → AreYears years
      → AreFiltered test years last kept → last < year → has_year years year ≡ true
      → ((y : ℕ) → last < y → y < year → has_year years y ≡ false) → b ≡ test year
      → ((y : ℕ) → has_year more y ≡ cond (is_year year && (y == year)) b (has_year kept y))
      → AreFiltered test years year more
  filtered_more kept more last year b are f later has gap b_is is = record {
    only = λ y h. elim (or_else (is_year year && (y == year))) [
      | inl on ↦
          let same : y ≡ year = (Decides-eqb y year).0 (second_so (is_year year) _ on) in
          both _ _ (subst (λ z. has_year years z ≡ true) (sym same) has)
          (ap test same ∙ sym b_is ∙ sym (ap (λ t. cond t b (has_year kept y)) on) ∙ sym (is y) ∙ h)
      | inr off ↦ f.only y (sym (is y ∙ ap (λ t. cond t b (has_year kept y)) off) ∙ h)
    ];
    all = λ y low h t. elim (next_or_before last year y low) [
      | inl before ↦
          let apart : y ≡ year → ⊥ = λ e. absurd (omega (arith, e, before, later)) in
          off_year _ b (has_year kept y) y year apart (is y) ∙ f.all y before h t
      | inr j ↦ elim j [
        | inl between ↦ absurd (true_not_false (sym h ∙ gap y between.0 between.1))
        | inr same ↦ subst (λ z. has_year more z ≡ true) (sym same)
            (at_year _ b (has_year kept year) year (are year has) (is year) ∙ b_is ∙ subst (λ z. test z ≡ true) same t)
      ]
    ];
  }

  pub filtered_all : (kept : YearSet) (last : ℕ) → AreFiltered test years last kept
      → ((y : ℕ) → last < y → has_year years y ≡ false) → (y : ℕ) → has_year kept y ≡ has_year years y && test y
  filtered_all kept last f none y = same_so _ _ (f.only y) (λ e.
      let h = first_so (has_year years y) _ e in
      elim (cases_lt last y) [
        | inl behind ↦ absurd (true_not_false (sym h ∙ none y behind))
        | inr before ↦ f.all y before h (second_so (has_year years y) _ e)
      ])
    where
      same_so : (a b : Bool) → (a ≡ true → b ≡ true) → (b ≡ true → a ≡ true) → a ≡ b
      same_so true b h k = sym (h refl)
      same_so false true h k = k refl
      same_so false false h k = refl

-- ---- the next years

pub record AreNext (span : Span) (years : YearSet) (last : ℕ) (next : YearSet) : Type 0 where
  pub only : (y : ℕ) → has_year next y ≡ true → (before : ℕ) × (has_year years before ≡ true) × (y ≡ before + 1) × (before < span.last)
  pub all : (y : ℕ) → y ≤ last → is_year_of (Some span) y ≡ true → has_year years y ≡ true → y < span.last
      → has_year next (y + 1) ≡ true

pub next_none : (span : Span) (years next : YearSet) → IsSpan span → ((y : ℕ) → has_year next y ≡ false) → AreNext span years 0 next
next_none span years next is none = record {
  only = λ y h. absurd (true_not_false (sym h ∙ none y));
  all = λ y low within h below. absurd (omega (arith, low, not_before y (of_span_is span is y within)));
}

pub next_more : (span : Span) (years next more : YearSet) (last year : ℕ) → IsSpan span → AreNext span years last next → last < year
    → has_year years year ≡ true → ((y : ℕ) → last < y → y < year → has_year years y ≡ false) → year < span.last
    → ((y : ℕ) → has_year more y ≡ cond (is_year (year + 1) && (y == year + 1)) true (has_year next y))
    → AreNext span years year more
next_more span years next more last year is f later has gap below are = record {
  only = λ y h. elim (one_or_before _ (has_year next y) y (year + 1) (are y) h) [
    | inl on ↦ (year, has, on.1, below)
    | inr before ↦ f.only y before
  ];
  all = λ y low within h under. elim (next_or_before last year y low) [
    | inl before ↦
        let apart : y + 1 ≡ year + 1 → ⊥ = λ e. absurd (omega (arith, e, before, later)) in
        off_year _ true (has_year next (y + 1)) (y + 1) (year + 1) apart (are (y + 1)) ∙ f.all y before within h under
    | inr j ↦ elim j [
      | inl between ↦ absurd (true_not_false (sym h ∙ gap y between.0 between.1))
      | inr same ↦
          let inside = year_of_span span y within in
          let start = not_before y (of_span_is span is y within) in
          let good : is_year (year + 1) ≡ true = year_is (year + 1) (omega (arith, start, same)) (omega (arith, below, is.1.1)) in
          subst (λ z. has_year more (z + 1) ≡ true) (sym same)
          (at_year _ true (has_year next (year + 1)) (year + 1) good (are (year + 1)))
    ]
  ];
}

-- where a later year is the last one or behind it, or there is none
pub next_all : (span : Span) (years next : YearSet) (last : ℕ) → AreNext span years last next
    → ((y : ℕ) → last < y → y < span.last → has_year years y ≡ false)
    → (y : ℕ) → is_year_of (Some span) y ≡ true → has_year years y ≡ true → y < span.last → has_year next (y + 1) ≡ true
next_all span years next last f none y within h below = elim (cases_lt last y) [
  | inr before ↦ f.all y before within h below
  | inl behind ↦ absurd (true_not_false (sym h ∙ none y behind below))
]
