-- The rules of a book, and then that there is no ring.
use Rattle.std.proofs.Common.{◌≡◌, ℕ, List, Option, Ok, Err, ap, ◌∙◌}
use Rattle.ghg_units.specs.declared.row.Row.{Row}
use Rattle.ghg_units.specs.declared.rule.Rule.{Rule}
use Rattle.ghg_units.specs.declared.rule.Rule.TheVariants.{Cycle}
use Rattle.ghg_definitions.specs.Data.{Data, Name}
use Rattle.ghg_definitions.specs.Rings.{IsAcyclic, IsLeastRing, ring_line}
use Rattle.ghg_definitions.specs.Rules.{after_rows, arranged, planned, without_ring}
use Rattle.ghg_definitions.specs.Sound.{IsWorkbook}
use Rattle.ghg_definitions.proofs.Rings.{no_ring_line, ring_line_is}
use Rattle.ghg_data.specs.declared.refusal.PlanRefusal.{PlanRefusal}
use Rattle.ghg_data.specs.declared.refusal.PlanRefusal.TheVariants as refusal
use Rattle.ghg_data.specs.Refusal.{IfRule}

module _ (m : Data) (rows : List Row) (rest : Option Rule) (kept_bytes : ℕ) where
  refused : (rule : Rule) → planned m rows rest kept_bytes ≡ Err rule → arranged m rows rest kept_bytes ≡ Err rule
  unfolding arranged
  refused rule is = ap (after_rows (λ n. without_ring n (ring_line n))) is

  pub all_refused : (r : PlanRefusal) → IfRule (λ rule. planned m rows rest kept_bytes ≡ Err rule) r → IfRule (λ rule. arranged m rows rest kept_bytes ≡ Err rule) r
  all_refused (refusal.Rule rule) is = refused rule is
  all_refused refusal.Memory is = tt

  module _ (n : Data) (workbook : IsWorkbook n) (is : planned m rows rest kept_bytes ≡ Ok n) where
    pub acyclic_arranged : IsAcyclic n → arranged m rows rest kept_bytes ≡ Ok n
    unfolding arranged
    acyclic_arranged acyclic = ap (after_rows (λ k. without_ring k (ring_line k))) is ∙ ap (without_ring n) (no_ring_line n workbook acyclic)

    pub ring_refused : (least : Name) (others : List Name) → IsLeastRing n least others → arranged m rows rest kept_bytes ≡ Err (Cycle least)
    unfolding arranged
    ring_refused least others ring = ap (after_rows (λ k. without_ring k (ring_line k))) is ∙ ap (without_ring n) (ring_line_is n workbook least others ring)
