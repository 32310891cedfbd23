use Rattle.std.proofs.Common.{◌∙◌, ap}
use Rattle.std.specs.List.{find}
use Rattle.std.specs.Option.{option_map}
use Rattle.std.specs.Str.{bytes_eq}
use Rattle.ghg_equations.specs.Table.{Quantity}
use Rattle.ghg_data.proofs.EquationParameters.{dim_seen}
use Rattle.ghg_data.proofs.bindings.dim_of_parameter.Goals as goal

pub returns : goal.returns
returns c =
    c.dim_in.ensures ∙ dim_seen c.args.parameter.now c.params_of.result.now
    ∙ ap (λ qs. option_map (λ (q : Quantity). q.dim) (find (λ q. bytes_eq q.name c.args.parameter.now) qs)) c.params_of.ensures.table
