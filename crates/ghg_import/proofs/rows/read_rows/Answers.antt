use Rattle.std.proofs.Common.{rules, IfOk}
use Rattle.ghg_import.specs.Reading.{reading_of}
use Rattle.ghg_import.specs.Told.{Tells}
use Rattle.ghg_import.proofs.Formed.{told_formed}
use Rattle.ghg_import.proofs.rows.read_rows.Goals as goal

pub returns-clause-keeps : goal.returns-clause-keeps
unfolding reading_of
returns-clause-keeps c =
    let reads : IfOk c.rows_under_header.result (λ rows. Tells rows (reading_of c.args.body.now)) = search rules in told_formed c.rows_under_header.result c.args.body.now reads
