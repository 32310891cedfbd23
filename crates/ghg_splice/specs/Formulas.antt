-- The formulas of the techniques (2006 IPCC Guidelines, Volume 1, Chapter 5), over any arithmetic.
use Rattle.std.specs.Prelude.{ℕ, ◌-◌, List, [], ◌∷◌, length, fold, Option, None}
use Rattle.ghg_units.specs.Steps.{◌>>=◌}
use Rattle.ghg_splice.specs.declared.formulas.Base.{Base}
use Rattle.ghg_splice.specs.declared.formulas.Known.{Known}
use Rattle.ghg_splice.specs.Quantities.{Arithmetic}

-- the year t between two known ones a and b: (y_a * (b - t) + y_b * (t - a)) * 1 / (b - a)
unfoldable pub linear : {A : Type 0} → Arithmetic A → Known A → ℕ → Known A → Option A
linear m a t b = do
  first ← m.times (b.year - t) a.y
  second ← m.times (t - a.year) b.y
  both ← m.sum first second
  m.over (b.year - a.year) both

-- x over that of the first base, times the y of this base
unfoldable pub surrogate : {A : Type 0} → Arithmetic A → List (Base A) → A → Option A
surrogate m [] x = None
surrogate m (base ∷ bases) x = do
  ratio ← m.quotient x base.x
  m.product ratio base.y

-- a sum of ratios y / x, with that of one base more
abbrev pub with_ratio : {A : Type 0} → Arithmetic A → Option A → Base A → Option A
with_ratio m sum base = do
  before ← sum
  ratio ← m.quotient base.y base.x
  m.sum before ratio

-- the sum of the ratios y / x of all bases, added in their order
unfoldable pub ratio_sum : {A : Type 0} → Arithmetic A → List (Base A) → Option A
ratio_sum m [] = None
ratio_sum m (base ∷ bases) = fold (with_ratio m) (m.quotient base.y base.x) bases

-- x times the mean of the ratios y / x of all bases
unfoldable pub overlap : {A : Type 0} → Arithmetic A → List (Base A) → A → Option A
overlap m bases x = do
  sum ← ratio_sum m bases
  mean ← m.over (length bases) sum
  m.product x mean
