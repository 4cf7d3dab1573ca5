use Rattle.std.proofs.Common.{Ok, Err}
use Rattle.cp_dispatch.proofs.Living.{lives_answer, lives_none}
use Rattle.cp_dispatch.proofs.answers.answer_badly.Goals as goal

pub returns-in_err-outcome-clause-lives : goal.returns-in_err-outcome-clause-lives
returns-in_err-outcome-clause-lives c = lives_none c.args.connection.now

pub returns-in-Ok-clause-done : goal.returns-in-Ok-clause-done
returns-in-Ok-clause-done c = record { result = Ok _; memory = tt; acts = rw c.in_ok-outcome.ensures at c.in-Ok.ensures }

pub returns-in-Ok-clause-lives : goal.returns-in-Ok-clause-lives
returns-in-Ok-clause-lives c = lives_answer c.args.connection.now c.answer.new.self c.args.origin _ c.answer.result c.answer.ensures

pub returns-in-OutOfMemory-clause-lives : goal.returns-in-OutOfMemory-clause-lives
returns-in-OutOfMemory-clause-lives c = lives_answer c.args.connection.now c.answer.new.self c.args.origin _ c.answer.result c.answer.ensures

pub returns-in_default-clause-done : goal.returns-in_default-clause-done
returns-in_default-clause-done c = record { result = Err c.in-Err.fault; memory = c.in_default.not-OutOfMemory; acts = rw c.in_ok-outcome.ensures at c.in-Err.ensures }

pub returns-in_default-clause-lives : goal.returns-in_default-clause-lives
returns-in_default-clause-lives c = lives_answer c.args.connection.now c.answer.new.self c.args.origin _ c.answer.result c.answer.ensures
