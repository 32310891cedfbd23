-- What planning answers: edits, or why rows are not planned.
use Rattle.std.specs.Prelude.{◌≡◌, ⊤, List, Result, Ok, Err, MatchResult}
use Rattle.ghg_units.specs.declared.rule.Rule.{Rule}
use Rattle.ghg_definitions.specs.Data.{Data}
use Rattle.ghg_data.specs.declared.refusal.PlanRefusal.{PlanRefusal}
use Rattle.ghg_data.specs.declared.refusal.PlanRefusal.TheVariants as refusal
use Rattle.ghg_data.specs.Changes.{Change, applied}

-- P of the rule, if it is one
abbrev pub IfRule : (Rule → Type 0) → PlanRefusal → Type 0
IfRule P (refusal.Rule rule) = P rule
IfRule P refusal.Memory = ⊤

-- the answer is edits that make the wanted data of m, or the rule that stands in their place
abbrev pub IsPlanOf : Result Data Rule → Data → Result (List Change) PlanRefusal → Type 0
IsPlanOf wanted m answer = MatchResult answer (λ edits. wanted ≡ Ok (applied m edits))
    (IfRule (λ rule. wanted ≡ Err rule))
