use Rattle.ghg_keeper.proofs.Files.{attaches_from}
use Rattle.ghg_keeper.proofs.file.attached.Goals as goal

pub returns-clause-from : goal.returns-clause-from
returns-clause-from g c = attaches_from g.S.Store c.args.connection _ _ c.over-keeper.ensures.connection c.over-keeper.ensures.attached c.in_ok-attach.ensures.attached
    (λ referred. let refused = (c.in_ok-attach.ensures.referred referred).1 in cc) c.in_ok-attach.ensures.rows c.in_ok-attach.ensures.told c.in_ok-attach.ensures.safe (c.in_ok-attach.ensures.runs c.over-keeper.ensures.attached)
