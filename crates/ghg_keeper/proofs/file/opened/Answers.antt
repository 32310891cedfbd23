use Rattle.sqlite_wal.specs.Files.{image_at}
use Rattle.ghg_keeper.proofs.Files.{begins, ok_then, tells_found}
use Rattle.ghg_keeper.proofs.file.opened.Goals as goal

pub returns-in-Ok-clause-opened : goal.returns-in-Ok-clause-opened
returns-in-Ok-clause-opened g c =
    ok_then c.attached.result (begins (image_at g.S.Start) c.in-Ok.connection c.in-Ok.ensures.opened c.in-Ok.ensures.found) c.attached.ensures.from

pub returns-in-Ok-clause-found : goal.returns-in-Ok-clause-found
returns-in-Ok-clause-found g c =
    ok_then c.attached.result (λ keeper at. tells_found (image_at g.S.Start) keeper (begins (image_at g.S.Start) c.in-Ok.connection c.in-Ok.ensures.opened c.in-Ok.ensures.found keeper at))
    c.attached.ensures.from
