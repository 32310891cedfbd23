-- Shifts of lines that are noted, one by one.
use Rattle.std.proofs.Common.{◌≡◌, inl, inr, ℕ, Bool, false, cond, ◌&&◌, ◌==◌, eq-eqb, eqb-true, true, Option, Some, None, refl, sym, ap, ap₂, ◌∙◌, subst}
use Rattle.std.specs.Option.{option_map_or}
use Rattle.ghg_categories.specs.declared.category.Category.{Category}
use Rattle.ghg_categories.specs.Tree.{is_same}
use Rattle.ghg_cell.specs.declared.input.Input.{Input}
use Rattle.ghg_units.specs.declared.node.Node.TheVariants as node
use Rattle.ghg_definitions.specs.Compilation.{compilation, is_year_of}
use Rattle.ghg_definitions.specs.Data.{Data, Name, span}
use Rattle.ghg_definitions.specs.Formulas.{Outcome}
use Rattle.ghg_definitions.specs.Trials.{or_blank}
use Rattle.ghg_definitions.proofs.Depth.{or_else}
use Rattle.ghg_shifts.specs.declared.shift.Shift.{Shift}
use Rattle.ghg_shifts.specs.declared.shifts.Shifts.{Shifts}
use Rattle.ghg_shifts.specs.Noted.{AreNoted, emitted_at, is_there, less, more, shift_at, with_line, with_line_in}
use Rattle.ghg_shifts.specs.Shifts.{input_at, shift_of}
use Rattle.ghg_shifts.proofs.Places.{IsStep}
use Rattle.ghg_shifts.proofs.Steps.{one_more_has_come, one_more_is_gone}

module _ (before after : Shifts) (year : ℕ) (at : Option Category) (f : Shift → Shift) (step : IsStep before after year at f) where
  other_year : (y : ℕ) (leaf : Category) → (year == y) ≡ false → shift_at after y leaf ≡ shift_at before y leaf
  other_year y leaf apart = step y leaf ∙ ap (λ b. cond (b && option_map_or (λ c. is_same c leaf) at false) (f (shift_at before y leaf)) (shift_at before y leaf)) apart

-- what a line gives is of account where it stands somewhere
where_it_stands : (gives is : Outcome) (year : ℕ) (stands : Option Category) (y : ℕ) (leaf : Category) (s : Shift) → ((c : Category) → stands ≡ Some c → gives ≡ is)
    → cond (is_there year stands y leaf) (more gives s) s ≡ cond (is_there year stands y leaf) (more is s) s
where_it_stands gives is year None y leaf s same = by (year == y)
  where
    by : (b : Bool) → cond (b && false) (more gives s) s ≡ cond (b && false) (more is s) s
    by true = refl
    by false = refl
where_it_stands gives is year (Some c) y leaf s same = ap (λ o. cond (is_there year (Some c) y leaf) (more o s) s) (same c refl)

module _ (before after : Shifts) (year : ℕ) (old new : Data) (gone come : ℕ → Name → Bool) (name : Name) (noted : AreNoted old new gone come before) where
  pub noted_gone : (stood : Option Category) (gave : Input) → IsStep before after year stood (less gave) → gone year name ≡ false → stood ≡ emitted_at old name
      → gave ≡ input_at (compilation old) (node.Equiv name year) → AreNoted old new (with_line_in year name gone) come after
  noted_gone stood gave step off stands gives = record {
    each = λ y on leaf. elim (or_else (year == y)) [
      | inl same ↦ subst (λ z. is_year_of (span new) z ≡ true → shift_at after z leaf ≡ shift_of old new (with_line_in year name gone z) (come z) z leaf) (eqb-true year y same) (here leaf) on
      | inr apart ↦ other_year before after year stood (less gave) step y leaf apart ∙ noted.each y on leaf
          ∙ sym (ap (λ b. shift_of old new (cond b (with_line name (gone y)) (gone y)) (come y) y leaf) apart)
    ];
  }
    where
      here : (leaf : Category) → is_year_of (span new) year ≡ true → shift_at after year leaf ≡ shift_of old new (with_line_in year name gone year) (come year) year leaf
      here leaf on =
          step year leaf
          ∙ ap (λ (s : Shift). cond (is_there year stood year leaf) (less gave s) s) (noted.each year on leaf)
          ∙ ap₂ (λ (a : Option Category) (i : Input). cond (is_there year a year leaf) (less i (shift_of old new (gone year) (come year) year leaf)) (shift_of old new (gone year) (come year) year leaf)) stands gives
          ∙ sym (one_more_is_gone old new (gone year) (come year) year name off leaf)
          ∙ sym (ap (λ b. shift_of old new (cond b (with_line name (gone year)) (gone year)) (come year) year leaf) (eq-eqb year year refl))

  pub noted_come : (stands : Option Category) (gives : Outcome) → IsStep before after year stands (more gives) → come year name ≡ false → stands ≡ emitted_at new name
      → ((leaf : Category) → stands ≡ Some leaf → gives ≡ or_blank (compilation new (node.Equiv name year))) → AreNoted old new gone (with_line_in year name come) after
  noted_come stands gives step off at is = record {
    each = λ y on leaf. elim (or_else (year == y)) [
      | inl same ↦ subst (λ z. is_year_of (span new) z ≡ true → shift_at after z leaf ≡ shift_of old new (gone z) (with_line_in year name come z) z leaf) (eqb-true year y same) (here leaf) on
      | inr apart ↦ other_year before after year stands (more gives) step y leaf apart ∙ noted.each y on leaf
          ∙ sym (ap (λ b. shift_of old new (gone y) (cond b (with_line name (come y)) (come y)) y leaf) apart)
    ];
  }
    where
      here : (leaf : Category) → is_year_of (span new) year ≡ true → shift_at after year leaf ≡ shift_of old new (gone year) (with_line_in year name come year) year leaf
      here leaf on =
          step year leaf
          ∙ ap (λ (s : Shift). cond (is_there year stands year leaf) (more gives s) s) (noted.each year on leaf)
          ∙ where_it_stands gives (or_blank (compilation new (node.Equiv name year))) year stands year leaf (shift_of old new (gone year) (come year) year leaf) is
          ∙ ap (λ (a : Option Category). cond (is_there year a year leaf) (more (or_blank (compilation new (node.Equiv name year))) (shift_of old new (gone year) (come year) year leaf)) (shift_of old new (gone year) (come year) year leaf)) at
          ∙ sym (one_more_has_come old new (gone year) (come year) year name off leaf)
          ∙ sym (ap (λ b. shift_of old new (gone year) (cond b (with_line name (come year)) (come year)) year leaf) (eq-eqb year year refl))
