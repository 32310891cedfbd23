use Rattle.std.proofs.Common.{◌∙◌, ◌&&◌, ap, inl, inr, is_some, subst, sym}
use Rattle.ghg_definitions.specs.Data.{line, span}
use Rattle.ghg_definitions.specs.Listed.{IsListed}
use Rattle.ghg_definitions.proofs.Depth.{or_else}
use Rattle.ghg_definitions.proofs.Grounded.{line_listed}
use Rattle.ghg_affected.proofs.Bools.{true_not_false}
use Rattle.ghg_definitions.specs.Compilation.{is_year_of}
use Rattle.ghg_units.specs.declared.node.Node.TheVariants as node
use Rattle.ghg_search.proofs.Changing.{none_changed}
use Rattle.ghg_search.proofs.found.Found.try_span.Goals as goal

pub returns-clause-tried : goal.returns-clause-tried
returns-clause-tried g c = λ apart name y h.
    let old = g.R.Records.content c.args.old.now in
    let new = g.S.Records.content c.args.new.now in
    elim (or_else (is_some (line new name))) [
      | inl present ↦ c.in_ok-try_lines.ensures.tried name
          (subst (IsListed name) (sym (c.deref.ensures.value ∙ c.in_ok-lines.ensures.names)) (line_listed new name present)) y h
      | inr none ↦ λ e. absurd (true_not_false (sym e ∙ none_changed old new (node.Line name y) (ap (λ b. b && is_year_of (span new) y) none)))
    ]
