-- Numbers that a seed decides, each by the one before it.
use Rattle.std.specs.Prelude.{ℕ, zero, suc, ◌+◌, ◌*◌, ◌/◌, ◌%◌}

-- the next number
abbrev pub next : ℕ → ℕ
next x = (1103515245 * x + 12345) % 2147483648

-- what is drawn at a number
abbrev pub drawn : ℕ → ℕ
drawn x = x / 65536

-- the number after so many draws
unfoldable pub after_draws : ℕ → ℕ → ℕ
after_draws zero x = x
after_draws (suc count) x = after_draws count (next x)
