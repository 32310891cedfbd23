-- The half-lives that rows name, and of which brackets are kept.
use Rattle.std.specs.Prelude.{◌≡◌, ℕ, Bool, true, ◌==◌, ◌||◌, List, Option, Some, None}
use Rattle.std.specs.List.{filter_map, list_any}
use Rattle.ghg_units.specs.declared.row.Amount.{Amount}
use Rattle.ghg_units.specs.declared.row.Amount.TheVariants as amount
use Rattle.ghg_units.specs.declared.row.Row.{Row}
use Rattle.ghg_units.specs.declared.row.RowForm.{RowForm}
use Rattle.ghg_units.specs.declared.row.RowForm.TheVariants as form

abbrev pub half_life_in : Amount → Option ℕ
half_life_in (amount.HalfLife tenths) = Some tenths
half_life_in _ = None

-- the half-life that a row names, if it names one
abbrev pub half_life_of : RowForm → Option ℕ
half_life_of (form.Factor name start (Some figure)) = half_life_in figure.amount
half_life_of _ = None

abbrev pub half_lives_of : List Row → List ℕ
half_lives_of rows = filter_map (λ row. half_life_of row.form) rows

-- the half-life is one of these
abbrev pub has : List ℕ → ℕ → Bool
has half_lives half_life = list_any (λ h. h == half_life) half_lives

-- the new ones are the old ones and these more
abbrev pub HasAlso : List ℕ → List ℕ → List ℕ → Type 0
HasAlso old new more = (h : ℕ) → has new h ≡ has old h || has more h

-- the old ones are among the new ones
abbrev pub HasStill : List ℕ → List ℕ → Type 0
HasStill old new = (h : ℕ) → has old h ≡ true → has new h ≡ true
