-- The bytes of a source.
use Rattle.std.specs.Prelude.{ℕ, List}

-- those that are left to be read, and those that were read
pub record SourceBytes : Type 0 where
  pub left : List ℕ
  pub taken : List ℕ
