-- What the slots of a layer hold.
use Rattle.std.specs.Prelude.{◌≡◌, ℕ, ◌<◌, Option, None, IsSomeAnd, length, slice_index_or, Vec}
use Rattle.std.specs.Global.{Global}

-- there is a slot for each place, with what the place gives
pub record AreFilled {O : Type 0} (outcome : ℕ → O → Type 0) (count : ℕ) (slots : Vec (Option O) Global)
    : Type 0 where
  pub long : length slots.items ≡ count
  pub each : (k : ℕ) → k < count → IsSomeAnd (slice_index_or slots.items k None) (outcome k)
