use Rattle.ghg_keeper.proofs.file.FileKeeperFileStoreFileFromKeeper.append.Goals as goal

pub returns-clause-passed : goal.returns-clause-passed
returns-clause-passed g c = rw (c.in-Some.is, c.passed-2.ensures.store, c.passed-2.ensures.answer)
    (c.append-answer.ensures.unattached, (c.append-answer.ensures.ok, c.append-answer.ensures.number, c.append-answer.ensures.err))

pub returns-clause-handed_on : goal.returns-clause-handed_on
returns-clause-handed_on g c = rw (c.in-Some.is, c.passed-2.ensures.store, c.passed-2.ensures.answer) (c.append-answer.ensures.safe, c.append-answer.ensures.runs, c.append-answer.ensures.cause)
