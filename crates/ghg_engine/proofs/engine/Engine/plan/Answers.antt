use Rattle.std.proofs.Common.{◌≡◌, Ok, Err, drop, sym, ap, subst}
use Rattle.ghg_units.specs.declared.rule.Rule.TheVariants.{Cycle}
use Rattle.ghg_definitions.specs.Rings.{IsAcyclic, IsLeastRing}
use Rattle.ghg_definitions.specs.Rules.{arranged}
use Rattle.ghg_definitions.specs.Sound.{IsWorkbook}
use Rattle.ghg_graph.specs.Refusal.{IfRing, IsLeastRingOf}
use Rattle.ghg_data.specs.Changes.{applied}
use Rattle.ghg_data.specs.Refusal.{IfRule}
use Rattle.ghg_engine.proofs.Arranged.{acyclic_arranged, all_refused, ring_refused}
use Rattle.ghg_engine.proofs.engine.Engine.plan.Goals as goal

-- what is said of the book is said of what contracts see
pub returns-in-Err-clause-planned : goal.returns-in-Err-clause-planned
returns-in-Err-clause-planned c =
    subst (λ m. IfRule (λ rule. arranged m c.args.rows.now c.args.rest c.args.kept_bytes ≡ Err rule) c.in-Err.refusal) (ap (λ s. s.content) c.self.view_is)
    (all_refused c.self.inside.book.content c.args.rows.now c.args.rest c.args.kept_bytes c.in-Err.refusal c.in-Err.ensures.planned)

pub returns-in-Ok-check_changed-clause-planned : goal.returns-in-Ok-check_changed-clause-planned
returns-in-Ok-check_changed-clause-planned c =
    let kept = ap (λ m. applied m c.in-Ok.edits) c.plan.ensures.kept in
    subst (λ m. arranged m c.args.rows.now c.args.rest c.args.kept_bytes ≡ Ok (applied m c.in-Ok.edits)) (ap (λ s. s.content) c.self.view_is)
    (acyclic_arranged c.self.inside.book.content c.args.rows.now c.args.rest c.args.kept_bytes (applied c.self.inside.book.content c.in-Ok.edits) (subst IsWorkbook kept c.in-Ok.ensures.ready.workbook) c.in-Ok.ensures.planned (subst IsAcyclic kept c.in-Ok-check_changed.ensures))

pub returns-in-Err-Ring-clause-planned : goal.returns-in-Err-Ring-clause-planned
returns-in-Err-Ring-clause-planned c =
    let kept = ap (λ m. applied m c.in-Ok.edits) c.plan.ensures.kept in
    let made = applied c.plan.new.self.content c.in-Ok.edits in
    let named = subst (IfRing (IsLeastRingOf made)) c.in-Err-Ring.field-0-is c.in-Err-Ring.ensures in
    let ring : IsLeastRing (applied c.self.inside.book.content c.in-Ok.edits) c.least.result (drop 1 c.in-Err-Ring.ring) = subst (λ m. IsLeastRing m c.least.result (drop 1 c.in-Err-Ring.ring)) kept (subst (IsLeastRingOf made) c.least.ensures named) in
    subst (λ m. arranged m c.args.rows.now c.args.rest c.args.kept_bytes ≡ Err (Cycle c.least.result)) (ap (λ s. s.content) c.self.view_is)
    (ring_refused c.self.inside.book.content c.args.rows.now c.args.rest c.args.kept_bytes (applied c.self.inside.book.content c.in-Ok.edits) (subst IsWorkbook kept c.in-Ok.ensures.ready.workbook) c.in-Ok.ensures.planned c.least.result (drop 1 c.in-Err-Ring.ring) ring)

pub check_changed-requires-clause-acyclic : goal.check_changed-requires-clause-acyclic
check_changed-requires-clause-acyclic c = subst IsAcyclic (sym c.plan.ensures.kept) c.self.invariant.0.acyclic
