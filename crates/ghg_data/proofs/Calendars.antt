-- Calendars of the records and of changes, once more is changed.
use Rattle.std.proofs.Common.{◌≡◌, ℕ, Bool, true, false, cond, not, ◌&&◌, ◌||◌, List, Option, Some, None, is_some, refl, sym, ap, ap₂, ◌∙◌}
use Rattle.std.specs.Ordering.{eq_by_cmp}
use Rattle.std.specs.Option.{is_none}
use Rattle.std.specs.Cmp.{eq_by_cmp_equiv}
use Rattle.std.specs.FinMap.{find, get}
use Rattle.std.specs.Map.{lookup}
use Rattle.ghg_definitions.proofs.Consistent.{get-with_record}
use Rattle.ghg_definitions.specs.declared.record.Record.{Record}
use Rattle.ghg_definitions.specs.declared.record.RecordKey.{RecordKey}
use Rattle.ghg_definitions.specs.Data.{Data, key_cmp}
use Rattle.ghg_definitions.specs.Rows.{with_record}
use Rattle.ghg_definitions.proofs.Entries.{found}
use Rattle.ghg_definitions.proofs.Keys.{key_eq, key_ties, keys_total}
use Rattle.ghg_data.specs.declared.calendar.Calendar.{Calendar}
use Rattle.ghg_data.specs.declared.series.Series.{Series}
use Rattle.ghg_data.specs.Calendar.{IsCalendarOf, has_date, is_put, is_taken}
use Rattle.ghg_data.specs.Series.{dated}
use Rattle.ghg_data.specs.Changes.{Change, applied}
use Rattle.ghg_units.specs.Year.{is_year}
use Rattle.ghg_data.proofs.Applied.{get-applied, over}

over_note : {A : Type 0} (passes : A → Bool) (in_time here : Bool) (x f : A) (present old : Bool) → present ≡ passes x → old ≡ in_time && passes f → cond (in_time && here) present old ≡ in_time && passes (cond here x f)
over_note passes true true x f present old p o = p
over_note passes true false x f present old p o = o
over_note passes false here x f present old p o = o

pub calendar_of : (m n : Data) → m ≡ n → (calendar : Calendar) → IsCalendarOf (λ q. is_some (get n q)) calendar → IsCalendarOf (λ q. is_some (get m q)) calendar
calendar_of m n e calendar is s y = is s y ∙ ap (λ (x : Data). is_year y && is_some (get x (dated s y))) (sym e)

-- with a key's record, or without it
module _ (m : Data) (k : RecordKey) (c : Option Record) (old new : Calendar) where
  pub record_noted : IsCalendarOf (λ q. is_some (get m q)) old → ((s : Series) (y : ℕ) → has_date new s y ≡ cond (is_year y && eq_by_cmp key_cmp (dated s y) k) (is_some c) (has_date old s y))
      → IsCalendarOf (λ q. is_some (get (with_record m k c) q)) new
  record_noted was noted s y =
      noted s y ∙ over_note is_some (is_year y) (eq_by_cmp key_cmp (dated s y) k) c (get m (dated s y)) (is_some c) (has_date old s y) refl (was s y)
      ∙ ap (λ o. is_year y && is_some o) (sym (get-with_record m k c (dated s y)))

-- what the code's map says of one more change
pub changed_at : (before kept after : List Change) (k : RecordKey) (c : Option Record) → kept ≡ before → ((q : RecordKey) → lookup (key_eq q) after ≡ cond (key_eq k q) (Some c) (lookup (key_eq q) kept))
    → (q : RecordKey) → find key_cmp q after ≡ cond (eq_by_cmp key_cmp q k) (Some c) (find key_cmp q before)
changed_at before kept after k c e updates q =
    sym (found keys_total key_eq key_ties q after) ∙ updates q
    ∙ ap₂ (λ b o. cond b (Some c) o) (key_ties k q ∙ (eq_by_cmp_equiv keys_total).symm k q) (found keys_total key_eq key_ties q kept ∙ ap (find key_cmp q) e)

-- with one more change
module _ (before after : List Change) (k : RecordKey) (c : Option Record) (old new : Calendar)
    (changed : (q : RecordKey) → find key_cmp q after ≡ cond (eq_by_cmp key_cmp q k) (Some c) (find key_cmp q before)) where
  pub put_noted : IsCalendarOf (λ q. is_put (find key_cmp q before)) old → ((s : Series) (y : ℕ) → has_date new s y ≡ cond (is_year y && eq_by_cmp key_cmp (dated s y) k) (is_some c) (has_date old s y))
      → IsCalendarOf (λ q. is_put (find key_cmp q after)) new
  put_noted was noted s y =
      noted s y ∙ over_note is_put (is_year y) (eq_by_cmp key_cmp (dated s y) k) (Some c) (find key_cmp (dated s y) before) (is_some c) (has_date old s y) (by c) (was s y)
      ∙ ap (λ o. is_year y && is_put o) (sym (changed (dated s y)))
    where
      by : (c : Option Record) → is_some c ≡ is_put (Some c)
      by None = refl
      by (Some r) = refl

  pub taken_noted : IsCalendarOf (λ q. is_taken (find key_cmp q before)) old → ((s : Series) (y : ℕ) → has_date new s y ≡ cond (is_year y && eq_by_cmp key_cmp (dated s y) k) (is_none c) (has_date old s y))
      → IsCalendarOf (λ q. is_taken (find key_cmp q after)) new
  taken_noted was noted s y =
      noted s y ∙ over_note is_taken (is_year y) (eq_by_cmp key_cmp (dated s y) k) (Some c) (find key_cmp (dated s y) before) (is_none c) (has_date old s y) (by c) (was s y)
      ∙ ap (λ o. is_year y && is_taken o) (sym (changed (dated s y)))
    where
      by : (c : Option Record) → is_none c ≡ is_taken (Some c)
      by None = refl
      by (Some r) = refl

-- a test that is told by its opposite
pub opposite : (a b : Bool) → a ≡ not b → b ≡ not a
opposite a true e = sym (ap not e)
opposite a false e = sym (ap not e)

-- the years of the records before, with those that are put and without those that are taken
pub merged : (m : Data) (cs : List Change) (q : RecordKey) (in_time : Bool) (put taken was : Bool) → put ≡ in_time && is_put (find key_cmp q cs) → taken ≡ in_time && is_taken (find key_cmp q cs) → was ≡ in_time && is_some (get m q)
    → put || (was && not taken) ≡ in_time && is_some (get (applied m cs) q)
merged m cs q in_time put taken was p t w =
    (λ i. p i || (w i && not (t i))) ∙ by in_time (find key_cmp q cs) (get m q) ∙ ap (λ o. in_time && is_some o) (sym (get-applied m cs q))
  where
    kept : (o : Option Record) → is_some o && true ≡ is_some o
    kept None = refl
    kept (Some r) = refl

    gone : (o : Option Record) → is_some o && false ≡ false
    gone None = refl
    gone (Some r) = refl

    by : (t : Bool) (f : Option (Option Record)) (g : Option Record) → (t && is_put f) || ((t && is_some g) && not (t && is_taken f)) ≡ t && is_some (over f g)
    by false f g = refl
    by true None g = kept g
    by true (Some None) g = gone g
    by true (Some (Some r)) g = refl
