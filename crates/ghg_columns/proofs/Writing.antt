-- The column that was written last, in front of the map.
use Rattle.std.proofs.Common.{◌≡◌, Bool, true, false, cond, Option, Some, None, refl, sym, ap, ◌∙◌}
use Rattle.std.specs.BTreeMap.{get, is_at}
use Rattle.std.specs.Option.{option_map_or}
use Rattle.ghg_columns.specs.declared.column.Column.{Column}
use Rattle.ghg_columns.specs.declared.series.Series.{Series}
use Rattle.ghg_columns.specs.declared.written.Written.{Written}
use Rattle.ghg_columns.specs.Cells.{Columns, series_order}
use Rattle.ghg_columns.specs.Written.{column_in, is_last}
use Rattle.ghg_columns.proofs.Places.{series_itself, series_same}

-- what the map has, behind a series and a column in front of it
abbrev behind : Option Series → Column → Option Column → Series → Option Column
behind last column found q = cond (option_map_or (λ t. is_at (series_order t) q) last false) (Some column) found

module _ (w : Written) where
  pub none_in_front : w.series ≡ None → (q : Series) → column_in w q ≡ get series_order w.columns q
  none_in_front none q = ap (λ t. behind t w.last (get series_order w.columns q) q) none

  pub in_front : (s : Series) → w.series ≡ Some s → (q : Series) → column_in w q ≡ cond (is_at (series_order s) q) (Some w.last) (get series_order w.columns q)
  in_front s is q = ap (λ t. behind t w.last (get series_order w.columns q) q) is

  pub is_in_front : (s : Series) → is_last w s ≡ true → column_in w s ≡ Some w.last
  is_in_front s e = ap (λ b. cond b (Some w.last) (get series_order w.columns s)) e

  pub is_behind : (s : Series) → is_last w s ≡ false → column_in w s ≡ get series_order w.columns s
  is_behind s e = ap (λ b. cond b (Some w.last) (get series_order w.columns s)) e

-- the series that is the last
pub last_is : (w : Written) (s q : Series) → is_last w s ≡ true → is_last w q ≡ is_at (series_order s) q
last_is w s q e = by w.series e
  where
    by : (o : Option Series) → option_map_or (λ t. is_at (series_order t) s) o false ≡ true → option_map_or (λ t. is_at (series_order t) q) o false ≡ is_at (series_order s) q
    by None e = absurd (cc)
    by (Some t) e = ap (λ r. is_at (series_order r) q) (series_same t s e)

-- the last column is written
pub last_written : (w : Written) (column : Column) (s : Series) → is_last w s ≡ true → (q : Series) → column_in (record w { last = column }) q ≡ cond (is_at (series_order s) q) (Some column) (column_in w q)
last_written w column s e q = by (is_last w q) (last_is w s q e)
  where
    by : (b : Bool) → b ≡ is_at (series_order s) q → cond b (Some column) (get series_order w.columns q) ≡ cond (is_at (series_order s) q) (Some column) (cond b (Some w.last) (get series_order w.columns q))
    by b is = twice b ∙ ap (λ c. cond c (Some column) (cond b (Some w.last) (get series_order w.columns q))) is
      where
        twice : (b : Bool) → cond b (Some column) (get series_order w.columns q) ≡ cond b (Some column) (cond b (Some w.last) (get series_order w.columns q))
        twice true = refl
        twice false = refl

-- a column is taken out of the map
pub others_still : (w : Written) (s : Series) (old new : Option Column) (q : Series) → is_at (series_order s) q ≡ false → new ≡ cond (is_at (series_order s) q) None old → behind w.series w.last new q ≡ behind w.series w.last old q
others_still w s old new q apart is = ap (λ o. behind w.series w.last o q) (is ∙ ap (λ b. cond b None old) apart)

pub put_behind : (old mid new : Columns) (s : Series) (column : Column) → ((q : Series) → is_at (series_order s) q ≡ false → mid q ≡ old q) → ((q : Series) → new q ≡ cond (is_at (series_order s) q) (Some column) (mid q)) → (q : Series) → new q ≡ cond (is_at (series_order s) q) (Some column) (old q)
put_behind old mid new s column others put q = put q ∙ by (is_at (series_order s) q) refl
  where
    by : (b : Bool) → is_at (series_order s) q ≡ b → cond b (Some column) (mid q) ≡ cond b (Some column) (old q)
    by true at = refl
    by false apart = others q apart

-- a column is the last in place of another, which goes into the map
module _ (old new : Written) (s : Series) (column : Column) (series_is : new.series ≡ Some s) (column_is : new.last ≡ column) (q : Series) where
  front : column_in new q ≡ cond (is_at (series_order s) q) (Some column) (get series_order new.columns q)
  front = in_front new s series_is q ∙ ap (λ c. cond (is_at (series_order s) q) (Some c) (get series_order new.columns q)) column_is

  pub put_in_front : column_in old q ≡ get series_order new.columns q → column_in new q ≡ cond (is_at (series_order s) q) (Some column) (column_in old q)
  put_in_front is = front ∙ ap (cond (is_at (series_order s) q) (Some column)) (sym is)

-- the last column is taken out, and that of its series in the map
pub others_are : (w : Written) (s : Series) → w.series ≡ Some s → (q : Series) (rest : Option Column) → rest ≡ cond (is_at (series_order s) q) None (get series_order w.columns q) → rest ≡ cond (is_at (series_order s) q) None (column_in w q)
others_are w s was q rest is = is ∙ by (is_at (series_order s) q) ∙ ap (cond (is_at (series_order s) q) None) (sym (in_front w s was q))
  where
    by : (b : Bool) → cond b None (get series_order w.columns q) ≡ cond b None (cond b (Some w.last) (get series_order w.columns q))
    by true = refl
    by false = refl

pub last_found : (w : Written) (s : Series) → w.series ≡ Some s → column_in w s ≡ Some w.last
last_found w s is = in_front w s is s ∙ ap (λ b. cond b (Some w.last) (get series_order w.columns s)) (series_itself s)
