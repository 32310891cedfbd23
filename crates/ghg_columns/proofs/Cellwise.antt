-- Columns of which one is put in place of another, or is gone.
use Rattle.std.proofs.Common.{◌≡◌, ℕ, Bool, true, false, cond, ◌&&◌, ◌==◌, Option, Some, None, Ok, refl, sym, ap, ◌∙◌}
use Rattle.std.proofs.Math.Path.{fun_ext}
use Rattle.std.specs.BTreeMap.{is_at}
use Rattle.std.specs.Option.{option_map, option_or}
use Rattle.ghg_cell.specs.declared.input.Input.{Input}
use Rattle.ghg_units.specs.declared.node.Node.{Node}
use Rattle.ghg_definitions.specs.Formulas.{Outcome}
use Rattle.ghg_definitions.specs.Nodes.{year_in}
use Rattle.ghg_columns.specs.declared.column.Column.{Column}
use Rattle.ghg_columns.specs.declared.series.Series.{Series}
use Rattle.ghg_columns.specs.Cells.{Columns, cells_in, found_in, series_of, series_order, value_at, value_of_series, with_outcome}
use Rattle.ghg_columns.proofs.Places.{same_place, series_same}

abbrev told : Option Input → Option Outcome
told = option_map Ok

pub alike : (old new : Columns) → ((s : Series) (y : ℕ) → value_of_series new s y ≡ value_of_series old s y) → cells_in new ≡ cells_in old
alike old new same = fun_ext (λ n. ap told (same (series_of n) (year_in n)))

-- those of the fresh cells come before those of the old ones
pub each_over : (fresh old new : Columns) → ((s : Series) (y : ℕ) → value_of_series new s y ≡ option_or (value_of_series fresh s y) (value_of_series old s y)) → cells_in new ≡ found_in (cells_in fresh) (cells_in old)
each_over fresh old new is = fun_ext (λ n. ap told (is (series_of n) (year_in n)) ∙ by (value_of_series fresh (series_of n) (year_in n)) (value_of_series old (series_of n) (year_in n)))
  where
    by : (o p : Option Input) → told (option_or o p) ≡ option_or (told o) (told p)
    by None p = refl
    by (Some x) p = refl

module _ (old new : Columns) (s : Series) (after : Option Column) (updates : (q : Series) → new q ≡ cond (is_at (series_order s) q) after (old q)) where
  -- what the values are in terms of what they were
  module _ (f : ℕ → Option Input → Option Input) (is : (y : ℕ) → value_at after y ≡ f y (value_at (old s) y)) where
    pub values : (q : Series) (y : ℕ) → value_of_series new q y ≡ cond (is_at (series_order s) q) (f y (value_of_series old q y)) (value_of_series old q y)
    values q y = ap (λ c. value_at c y) (updates q) ∙ by (is_at (series_order s) q) refl
      where
        by : (b : Bool) → is_at (series_order s) q ≡ b → value_at (cond b after (old q)) y ≡ cond b (f y (value_of_series old q y)) (value_of_series old q y)
        by true same = is y ∙ ap (λ t. f y (value_of_series old t y)) (series_same s q same)
        by false apart = refl

  pub as_they_were : ((y : ℕ) → value_at after y ≡ value_at (old s) y) → cells_in new ≡ cells_in old
  as_they_were is = alike old new (λ q y. values (λ y o. o) is q y ∙ by (is_at (series_order s) q) (value_of_series old q y))
    where
      by : (b : Bool) (o : Option Input) → cond b o o ≡ o
      by true o = refl
      by false o = refl

  pub one_put : (n : Node) (x : Input) → series_of n ≡ s → ((y : ℕ) → value_at after y ≡ cond (y == year_in n) (Some x) (value_at (old s) y)) → cells_in new ≡ with_outcome (cells_in old) n (Ok x)
  one_put n x of_series is = fun_ext (λ k. ap told (values (λ y o. cond (y == year_in n) (Some x) o) is (series_of k) (year_in k))
      ∙ by (is_at (series_order s) (series_of k)) (year_in k == year_in n) (value_of_series old (series_of k) (year_in k))
      ∙ sym (ap (λ b. cond b (Some (Ok x)) (cells_in old k)) (same_place s (year_in n) n of_series refl k)))
    where
      by : (a b : Bool) (o : Option Input) → told (cond a (cond b (Some x) o) o) ≡ cond (a && b) (Some (Ok x)) (told o)
      by true true o = refl
      by true false o = refl
      by false b o = refl
