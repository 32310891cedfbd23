-- Expressions of equations over their parameters, which go by their places.
use Rattle.std.specs.Prelude.{ℕ}

-- a parameter, a whole number, a sum, a difference, a product, or a scaling by p over q
pub data Expression : Type 0 where
  Parameter : ℕ → Expression
  Whole : ℕ → Expression
  Sum : Expression → Expression → Expression
  Difference : Expression → Expression → Expression
  Product : Expression → Expression → Expression
  Scaled : Expression → ℕ → ℕ → Expression

infixl 60 ◌⊕◌ ◌⊖◌
infixl 70 ◌⊗◌
abbrev pub ◌⊕◌ : Expression → Expression → Expression
a ⊕ b = Sum a b

abbrev pub ◌⊖◌ : Expression → Expression → Expression
a ⊖ b = Difference a b

abbrev pub ◌⊗◌ : Expression → Expression → Expression
a ⊗ b = Product a b
