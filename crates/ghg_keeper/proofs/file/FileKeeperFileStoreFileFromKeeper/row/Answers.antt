use Rattle.ghg_keeper.proofs.file.FileKeeperFileStoreFileFromKeeper.row.Goals as goal

pub returns-clause-passed : goal.returns-clause-passed
returns-clause-passed g c = rw (c.in-Some.is, c.passed-2.ensures.store, c.passed-2.ensures.answer)
    (c.row-answer.ensures.unattached, (c.row-answer.ensures.row, c.row-answer.ensures.keeps))

pub returns-clause-handed_on : goal.returns-clause-handed_on
returns-clause-handed_on g c = rw (c.in-Some.is, c.passed-2.ensures.store, c.passed-2.ensures.answer) (c.row-answer.ensures.safe, c.row-answer.ensures.reads, c.row-answer.ensures.cause)
