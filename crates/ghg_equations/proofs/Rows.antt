-- What holds of each row by computation, each in a case of its own.
use Rattle.std.proofs.Common.{refl}
use Rattle.ghg_equations.specs.declared.eq_id.EqId.TheVariants.{Q10}
use Rattle.ghg_equations.specs.Laws.{EachCodeNamesItself, EachExpressionTakesItsParameters}
use Rattle.ghg_equations.specs.Table.{named}

pub named_by_code : EachCodeNamesItself
unfolding named
named_by_code Q10 = refl
named_by_code _ = refl

pub parameters_taken : EachExpressionTakesItsParameters
parameters_taken Q10 = record { each = refl; no_other = refl }
parameters_taken _ = record { each = refl; no_other = refl }
