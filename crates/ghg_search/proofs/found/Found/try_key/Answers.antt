use Rattle.std.proofs.Common.{subst, sym}
use Rattle.ghg_units.specs.declared.node.Node.TheVariants as node
use Rattle.ghg_definitions.specs.Listed.{IsListed}
use Rattle.ghg_search.specs.Found.{IsLineTried}
use Rattle.ghg_search.specs.Search.{IsChange, MayChange, MayWeigh}
use Rattle.ghg_search.proofs.Adding.{added_more}
use Rattle.ghg_search.proofs.found.Found.try_key.Goals as goal

pub returns-in_ok-try_users-in-Factor-clause-lines : goal.returns-in_ok-try_users-in-Factor-clause-lines
returns-in_ok-try_users-in-Factor-clause-lines g c = λ name y h may.
    let old = g.R.Records.content c.args.old.now in
    let new = g.S.Records.content c.args.new.now in
    let by = subst (λ k. MayChange old new c.args.index.now k name y) c.in-Factor.is may in
    (c.in_ok-try_users-in-Factor.ensures.tried name (subst (IsListed name) (sym c.users-users-in-Factor.ensures) by.0)).line
    by.1 y (c.years_from.ensures.all y h by.2)

pub returns-in_ok-try_users-in-Factor-clause-equivalents : goal.returns-in_ok-try_users-in-Factor-clause-equivalents
returns-in_ok-try_users-in-Factor-clause-equivalents g c = λ name y h may.
    let by = subst (λ k. MayWeigh (g.S.Records.content c.args.new.now) c.args.index.now k name y) c.in-Factor.is may in
    (c.in_ok-try_users-in-Factor.ensures.tried name (subst (IsListed name) (sym c.users-users-in-Factor.ensures) by.0)).equivalent
    by.1 y (c.years_from.ensures.all y h by.2)

pub returns-in_ok-try_equivalent-in-Line-clause-added : goal.returns-in_ok-try_equivalent-in-Line-clause-added
returns-in_ok-try_equivalent-in-Line-clause-added g c =
    added_more (IsChange (g.R.Records.content c.args.old.now) (g.S.Records.content c.args.new.now)) _ _ _
    c.in_ok-try_line-in-Line.ensures.added c.in_ok-try_equivalent-in-Line.ensures.added

pub returns-in_ok-try_equivalent-in-Line-clause-lines : goal.returns-in_ok-try_equivalent-in-Line-clause-lines
returns-in_ok-try_equivalent-in-Line-clause-lines g c = λ name y h may e.
    let old = g.R.Records.content c.args.old.now in
    let new = g.S.Records.content c.args.new.now in
    let same = subst (λ k. MayChange old new c.args.index.now k name y) c.in-Line.is may in
    c.in_ok-try_equivalent-in-Line.ensures.added.kept (node.Line name y)
    (subst (λ n. IsLineTried old new c.try_line.new.self n y) (sym same) (c.in_ok-try_line-in-Line.ensures.tried y h) e)
