-- How many records there are after a row.
use Rattle.std.specs.Prelude.{ℕ, ◌+◌, ◌-◌}
use Rattle.ghg_units.specs.declared.row.Act.{Act}
use Rattle.ghg_units.specs.declared.row.Act.TheVariants.{Enter, Correct, Withdraw}

-- after a row that keeps the rule of presence
abbrev pub count_after : Act → ℕ → ℕ
count_after Enter n = n + 1
count_after Correct n = n
count_after Withdraw n = n - 1
