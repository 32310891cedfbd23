use Rattle.ghg_keeper.proofs.file.FileKeeperFileStoreFileFromKeeper.count.Goals as goal

pub returns-clause-passed : goal.returns-clause-passed
returns-clause-passed g c = rw (c.in-Some.is, c.passed-2.ensures.store, c.passed-2.ensures.answer)
    (c.count-answer.ensures.unattached, (c.count-answer.ensures.count, c.count-answer.ensures.keeps))

pub returns-clause-handed_on : goal.returns-clause-handed_on
returns-clause-handed_on g c = rw (c.in-Some.is, c.passed-2.ensures.store, c.passed-2.ensures.answer) (c.count-answer.ensures.safe, c.count-answer.ensures.reads, c.count-answer.ensures.cause)
