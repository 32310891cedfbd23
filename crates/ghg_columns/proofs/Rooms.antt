-- Room for fresh columns, which are gone over one by one.
use Rattle.std.proofs.Common.{rules, ◌≡◌, ℕ, Bool, true, false, cond, List, ◌∷◌, length, Option, Some, None, IsSome, IsSomeAnd, Result, Ok, Err, IfOk, OnOk, refl, sym, ap, subst, ◌∙◌}
use Rattle.std.specs.BTreeMap.{BTreeMap, get, is_at}
use Rattle.std.specs.Map.{lookup}
use Rattle.std.specs.Option.{option_or}
use Rattle.std.proofs.lemmas.List.{nil_from_length}
use Rattle.std.proofs.lemmas.Option.{same_Some}
use Rattle.ghg_columns.specs.declared.cells.Cells.{Cells}
use Rattle.ghg_columns.specs.declared.column.Column.{Column}
use Rattle.ghg_columns.specs.declared.series.Series.{Series}
use Rattle.ghg_columns.specs.Cells.{Columns, HasRoomForAll, HasRoomIn, SameElsewhere, column_of, series_order, value_at, value_of_series}
use Rattle.ghg_columns.specs.Columns.{CanTake, value_in}
use Rattle.ghg_columns.proofs.Places.{series_itself, series_same}

-- ---- room is made

-- there is room for each of the fresh columns but the ones that are left
abbrev pub HasRoomBut : Cells → Columns → List (Series × Column) → Type 0
HasRoomBut cells fresh rest = (s : Series) (column : Column) → fresh s ≡ Some column → lookup (is_at (series_order s)) rest ≡ None → HasRoomIn cells s column

pub room_still : (old new : Cells) (s q : Series) (column : Column) → is_at (series_order s) q ≡ false → SameElsewhere s old new → HasRoomIn old q column → HasRoomIn new q column
room_still old new s q column apart elsewhere room = subst (λ o. IsSomeAnd o (λ kept. CanTake kept column)) (sym (elsewhere q apart)) room

pub one_more : (fresh : Columns) (old new : Cells) (s : Series) (column : Column) (rest : List (Series × Column)) → fresh s ≡ Some column → HasRoomIn new s column → SameElsewhere s old new → HasRoomBut old fresh ((s, column) ∷ rest) → HasRoomBut new fresh rest
one_more fresh old new s column rest found room elsewhere rooms q other there none = by (is_at (series_order s) q) refl
  where
    left : is_at (series_order s) q ≡ false → (b : Bool) → is_at (series_order q) s ≡ b → cond b (Some column) (lookup (is_at (series_order q)) rest) ≡ None
    left apart false off = none
    left apart true at = absurd (clash (sym (series_itself q) ∙ ap (λ t. is_at (series_order t) q) (series_same q s at) ∙ apart))
      where
        clash : ◌≡◌ {A = Bool} true false → ⊥
        clash e = cc

    by : (b : Bool) → is_at (series_order s) q ≡ b → HasRoomIn new q other
    by true at = subst (λ t. HasRoomIn new t other) (series_same s q at) (subst (HasRoomIn new s) (same_Some column other (sym found ∙ ap fresh (series_same s q at) ∙ there)) room)
    by false apart = room_still old new s q other apart elsewhere (rooms q other there (left apart (is_at (series_order q) s) refl))

-- room for one that stands in front of the others
pub room_in_front : (fresh rest : Columns) (old new : Cells) (s : Series) (column : Column) → ((q : Series) → fresh q ≡ cond (is_at (series_order s) q) (Some column) (rest q)) → HasRoomForAll old rest → HasRoomIn new s column → SameElsewhere s old new → HasRoomForAll new fresh
room_in_front fresh rest old new s column is rooms room elsewhere q other there = by (is_at (series_order s) q) refl (sym (is q) ∙ there)
  where
    by : (b : Bool) → is_at (series_order s) q ≡ b → cond b (Some column) (rest q) ≡ Some other → HasRoomIn new q other
    by true at found = subst (λ t. HasRoomIn new t other) (series_same s q at) (subst (HasRoomIn new s) (same_Some column other found) room)
    by false apart found = room_still old new s q other apart elsewhere (rooms q other found)

-- ---- fresh columns are taken over

module _ (old_fresh new_fresh : Columns) (old new : Cells) (s : Series) (column : Column) (found : old_fresh s ≡ Some column) (taken : (q : Series) → new_fresh q ≡ cond (is_at (series_order s) q) None (old_fresh q)) where
  pub values_still : ((q : Series) (y : ℕ) → value_of_series (column_of new) q y ≡ cond (is_at (series_order s) q) (option_or (value_in column y) (value_of_series (column_of old) q y)) (value_of_series (column_of old) q y)) → (q : Series) (y : ℕ) →
      option_or (value_of_series new_fresh q y) (value_of_series (column_of new) q y) ≡ option_or (value_of_series old_fresh q y) (value_of_series (column_of old) q y)
  values_still values q y = ap (λ o. option_or (value_at o y) (value_of_series (column_of new) q y)) (taken q) ∙ ap (option_or (value_at (cond (is_at (series_order s) q) None (old_fresh q)) y)) (values q y) ∙ by (is_at (series_order s) q) refl
    where
      by : (b : Bool) → is_at (series_order s) q ≡ b → option_or (value_at (cond b None (old_fresh q)) y) (cond b (option_or (value_in column y) (value_of_series (column_of old) q y)) (value_of_series (column_of old) q y)) ≡ option_or (value_of_series old_fresh q y) (value_of_series (column_of old) q y)
      by true at = ap (λ o. option_or (value_at o y) (value_of_series (column_of old) q y)) (sym found ∙ ap old_fresh (series_same s q at))
      by false apart = refl

  pub rooms_still : SameElsewhere s old new → HasRoomForAll old old_fresh → HasRoomForAll new new_fresh
  rooms_still elsewhere rooms q other there = by (is_at (series_order s) q) refl (sym (taken q) ∙ there)
    where
      by : (b : Bool) → is_at (series_order s) q ≡ b → cond b None (old_fresh q) ≡ Some other → HasRoomIn new q other
      by true at clash = absurd (cc)
      by false apart is = room_still old new s q other apart elsewhere (rooms q other is)

-- ---- once all are gone over

pub none_left : (fresh : BTreeMap Series Column) → length fresh.entries ≡ 0 → (s : Series) (y : ℕ) → value_of_series (get series_order fresh) s y ≡ None
none_left fresh none s y = ap (λ (es : List (Series × Column)). value_at (lookup (is_at (series_order s)) es) y) (nil_from_length fresh.entries none)

-- ---- what is known of a result

pub on_ok : {A E P Q : Type 0} (r : Result A E) → (P → Q) → OnOk r P → OnOk r Q
on_ok (Ok x) f p = f p
on_ok (Err e) f p = tt

pub both_ok : {A E P Q R : Type 0} (r : Result A E) → (P → Q → R) → OnOk r P → OnOk r Q → OnOk r R
both_ok (Ok x) f p q = f p q
both_ok (Err e) f p q = tt

pub if_ok : {A E : Type 0} {P Q : A → Type 0} (r : Result A E) → ((x : A) → P x → Q x) → IfOk r P → IfOk r Q
if_ok (Ok x) f p = f x p
if_ok (Err e) f p = tt

pub some_is : {A : Type 0} (o : Option A) (x : A) → o ≡ Some x → IsSome o
some_is None x is = absurd (cc)
some_is (Some y) x is = search rules
