use Rattle.std.proofs.Common.{◌≡◌, Bor, Option, None, Some, not, ◌&&◌, option_copied, is_some, refl, ◌∙◌, sym, ap}
use Rattle.ghg_data.proofs.Calendars.{opposite}
use Rattle.ghg_definitions.specs.Data.{line}
use Rattle.ghg_definitions.specs.Rules.{is_bound}
use Rattle.ghg_data.proofs.EquationParameters.{fault_at, uncertain_at}
use Rattle.ghg_data.proofs.bindings.is_fault.Goals as goal

copied_some : {X : Type 0} (o : Option (Bor X)) → is_some (option_copied o) ≡ is_some o
copied_some None = refl
copied_some (Some x) = refl

pub returns-in-Some : goal.returns-in-Some
returns-in-Some c =
    let m = c.args.draft.now in
    ap not (c.is_bound.ensures ∙ ap (is_bound m c.in-Some.dim) c.binding-binding.ensures)
    ∙ sym (fault_at m c.args.place.now (sym c.is_uncertainty.ensures ∙ c.if-is_uncertainty.false) (Some c.in-Some.dim) (sym c.in-Some.is ∙ c.dim_of_place.ensures))

pub returns-in-None : goal.returns-in-None
returns-in-None c =
    c.is_some.ensures ∙ sym (copied_some c.binding-binding.result) ∙ ap is_some c.binding-binding.ensures
    ∙ sym (fault_at c.args.draft.now c.args.place.now (sym c.is_uncertainty.ensures ∙ c.if-is_uncertainty.false) None (sym c.in-None.is ∙ c.dim_of_place.ensures))

pub returns-then-has_uncertainty : goal.returns-then-has_uncertainty
returns-then-has_uncertainty c =
    let m = c.args.draft.now in
    let p = c.args.place.now in
    opposite _ _ c.is_none.ensures ∙ ap (λ o. not (is_some o)) c.line.ensures ∙ ap (λ b. b && not (is_some (line m p.line))) (sym c.if-has_uncertainty.true ∙ c.has_uncertainty.ensures)
    ∙ sym (uncertain_at m p (sym c.is_uncertainty.ensures ∙ c.if-is_uncertainty.true))
