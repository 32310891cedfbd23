use Rattle.ghg_splice.proofs.Held.{held_in}
use Rattle.ghg_splice.proofs.splicing.splice.Goals as goal

pub returns-in-Ok-clause-holds : goal.returns-in-Ok-clause-holds
returns-in-Ok-clause-holds c = held_in c.args.method c.args.body.now

pub returns-in-Err-Refusal-clause-holds : goal.returns-in-Err-Refusal-clause-holds
returns-in-Err-Refusal-clause-holds c = held_in c.args.method c.args.body.now

pub returns-in-Err-Memory-clause-holds : goal.returns-in-Err-Memory-clause-holds
returns-in-Err-Memory-clause-holds c = held_in c.args.method c.args.body.now
