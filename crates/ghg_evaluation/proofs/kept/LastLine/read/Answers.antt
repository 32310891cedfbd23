use Rattle.std.proofs.Common.{◌∙◌, map, sym, ap}
use Rattle.std.specs.Option.{option_map}
use Rattle.ghg_equations.specs.Table.{Quantity}
use Rattle.ghg_definitions.specs.Data.{binding}
use Rattle.ghg_evaluation.proofs.Lines.{bindings_are}
use Rattle.ghg_evaluation.proofs.kept.LastLine.read.Goals as goal

pub returns-clause-bindings : goal.returns-clause-bindings
returns-clause-bindings g c =
    let m = g.R.Records.content c.args.records.now in
    let name = c.args.name.now in
    c.in_ok-read_bindings.ensures ∙ bindings_are m name c.params_of.result.now
    ∙ ap (map (λ (q : Quantity). binding m name q.name)) c.params_of.ensures.table

pub returns-clause-kept : goal.returns-clause-kept
returns-clause-kept g c =
    let m = g.R.Records.content c.args.records.now in
    let name = c.args.name.now in
    record {
      equation = sym c.line.ensures.equation ∙ ap (option_map (λ l. l.1)) c.unwrap-id.ensures;
      bindings_are = c.in_ok-read_bindings.ensures ∙ bindings_are m name c.params_of.result.now
          ∙ ap (map (λ (q : Quantity). binding m name q.name)) c.params_of.ensures.table;
    }
