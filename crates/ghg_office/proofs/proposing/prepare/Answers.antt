use Rattle.std.proofs.Common.{◌+◌, ◌≡◌, Err, MatchResult, Ok, OnOk, Result, arith, length, subst, sym}
use Rattle.ghg_data.specs.Changes.{applied}
use Rattle.ghg_data.specs.Refusal.{IfRule}
use Rattle.ghg_office.specs.Office.{entered}
use Rattle.ghg_office.proofs.Entered.{entered-bytes}
use Rattle.ghg_office.proofs.proposing.prepare.Goals as goal

when_ok : {A E R : Type 0} (P : A → Type 0) (Q : E → Type 0) (r : Result A E) → MatchResult r P Q → ((x : A) → P x → R) → OnOk r R
when_ok P Q (Ok x) h f = f x h
when_ok P Q (Err e) h f = tt

pub returns-clause-limit : goal.returns-clause-limit
returns-clause-limit g c = when_ok _ _ c.propose.result c.propose.ensures.entered (λ p is.
    let fits = entered-bytes _ _ _ _ is in
    omega (arith, fits, c.kept_bytes.ensures.sum))

pub returns-clause-entered : goal.returns-clause-entered
returns-clause-entered g c =
    let m = c.args.engine.now.content in
    let rows = sym c.in_ok-rows.ensures.reads.0 in
    let rest = sym c.in_ok-rows.ensures.reads.1 in
    let sum = sym c.kept_bytes.ensures.sum in
    subst (λ made. MatchResult c.propose.result (λ p. made ≡ Ok (applied m p.edits)) (IfRule (λ rule. made ≡ Err rule)))
    (sym (λ i. entered m (record { rows = rows i; rest = rest i }) (sum i + length c.args.body.now))) c.propose.ensures.entered
