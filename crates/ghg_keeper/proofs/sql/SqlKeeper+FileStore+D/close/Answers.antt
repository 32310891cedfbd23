use Rattle.ghg_keeper.proofs.sql.SqlKeeper+FileStore+D.close.Goals as goal

pub returns-clause-failed : goal.returns-clause-failed
returns-clause-failed g c = rw (c.into_connection.ensures) at c.close_files.ensures.err
