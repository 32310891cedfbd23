-- What is said of decay brackets alone.
use Rattle.std.specs.Prelude.{◌≡◌, ℕ, ◌≤◌, pos, ◌+ℤ◌, ◌≤ℤ◌}
use Rattle.ghg_interval.specs.Bounds.{Bounds}
use Rattle.ghg_roots.specs.Decay.{HoldsDecay, IsDecayBracket, decay_bounds}

-- The bounds for a half-life in tenths of a year are its decay bracket, and nothing else is. They hold the
-- factor of which 1024 times the power by the tenths is one, and are close.
pub record IsExactDecay (tenths : ℕ) : Type 0 where
  pub bracket : IsDecayBracket 1_024 tenths (decay_bounds tenths)
  pub only : (b : Bounds) → IsDecayBracket 1_024 tenths b → b ≡ decay_bounds tenths
  pub holds : HoldsDecay 1_024 tenths (decay_bounds tenths)
  pub width : (decay_bounds tenths).hi ≤ℤ ((decay_bounds tenths).lo +ℤ pos 1_025)

-- so it is with each half-life
abbrev pub DecayBracketsAreExact : Type 0
DecayBracketsAreExact = (tenths : ℕ) → 1 ≤ tenths → IsExactDecay tenths
