-- A workbook's lines are few.
use Rattle.std.proofs.Common.{◌≡◌, ◌≤◌, Bool, true, false, Option, Some, None, if◌then◌else◌, nat_lt, length, refl, arith}
use Rattle.std.specs.Option.{option_map_or}
use Rattle.std.proofs.lemmas.List.Sums.{count_by-le-length, length-filter}
use Rattle.ghg_categories.specs.declared.category.Category.TheVariants.{National}
use Rattle.ghg_categories.specs.Tree.{stands_under}
use Rattle.ghg_tables.specs.Sums.{emission}
use Rattle.ghg_tables.specs.Tables.{emitters}
use Rattle.std.proofs.lemmas.Bool.{ltb-false}
use Rattle.ghg_units.specs.declared.rule.Limit.{Limit}
use Rattle.ghg_units.specs.declared.rule.Limit.TheVariants.{Lines}
use Rattle.ghg_definitions.specs.Data.{Data, line_names}
use Rattle.ghg_definitions.specs.Rules.{most_lines, passed_limit}
use Rattle.ghg_definitions.specs.Sound.{IsWorkbook}

not_passed : (beyond : Bool) (rest : Option Limit) → (if beyond then Some Lines else rest) ≡ None → beyond ≡ false
not_passed true rest e = absurd (cc)
not_passed false rest e = refl

pub few_lines : (m : Data) → IsWorkbook m → length (line_names m) ≤ most_lines
unfolding passed_limit
few_lines m w = let within = not_passed (nat_lt most_lines (length (line_names m))) _ w.limits in ltb-false most_lines (length (line_names m)) within

pub few_emitters : (m : Data) → IsWorkbook m → length (emitters m) ≤ most_lines
few_emitters m w = omega (arith, few_lines m w, length-filter (λ name. option_map_or (λ k. stands_under k.0 National) (emission m name) false) (line_names m), count_by-le-length (λ name. option_map_or (λ k. stands_under k.0 National) (emission m name) false) (line_names m))
