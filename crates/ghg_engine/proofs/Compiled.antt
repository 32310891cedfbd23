-- What holds of outcomes that are a compilation at its nodes.
use Rattle.std.proofs.Common.{◌≡◌, true, None, sym, ap, ◌∙◌, subst}
use Rattle.std.specs.FinMap.{empty}
use Rattle.ghg_units.specs.declared.node.Node.{Node}
use Rattle.ghg_definitions.specs.declared.record.Record.{Record}
use Rattle.ghg_definitions.specs.Compilation.{compilation, is_node, overflow}
use Rattle.ghg_definitions.specs.Data.{Data, key_cmp}
use Rattle.ghg_definitions.specs.Rings.{IsAcyclic}
use Rattle.ghg_definitions.specs.Sound.{IsWorkbook}
use Rattle.ghg_definitions.specs.Trials.{Outcomes}
use Rattle.ghg_definitions.proofs.Exactness.{compilations_contain}
use Rattle.ghg_definitions.proofs.OneTrial.{overflows_break}
use Rattle.ghg_data.proofs.Empty.{is_acyclic, is_workbook}
use Rattle.ghg_columns.specs.Cells.{no_outcomes}
use Rattle.ghg_engine.specs.Compiled.{IsCompiled}
use Rattle.ghg_engine.proofs.Nothing.{nothing_found, nothing_over}

pub is_compiled : (m : Data) → IsWorkbook m → IsAcyclic m → overflow m ≡ None → (outcomes : Outcomes) → ((n : Node) → is_node m n ≡ true → outcomes n ≡ compilation m n) → IsCompiled m outcomes
is_compiled m workbook acyclic none outcomes are = record {
  workbook = workbook;
  acyclic = acyclic;
  outcomes_are = are;
  fits = overflows_break m acyclic none;
  none_over = none;
  contained = compilations_contain m workbook acyclic;
}

pub nothing_compiled : (m : Data) (cells : Outcomes) → m ≡ empty → cells ≡ no_outcomes → IsCompiled m cells
nothing_compiled m cells e f =
    subst (λ x. IsCompiled x cells) (sym e)
    (is_compiled (empty {X = Record} {R = key_cmp}) is_workbook is_acyclic nothing_over cells (λ n node. ap (λ (c : Outcomes). c n) f ∙ sym (nothing_found n)))

-- what else stands at the nodes is compiled too
pub compiled_alike : (m : Data) (outcomes others : Outcomes) → ((n : Node) → is_node m n ≡ true → others n ≡ outcomes n) → IsCompiled m outcomes → IsCompiled m others
compiled_alike m outcomes others alike is = record {
  workbook = is.workbook;
  acyclic = is.acyclic;
  outcomes_are = λ n node. alike n node ∙ is.outcomes_are n node;
  fits = is.fits;
  none_over = is.none_over;
  contained = is.contained;
}
