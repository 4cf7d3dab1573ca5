use Rattle.std.proofs.Common.{Err}
use Rattle.cp_dispatch.proofs.Living.{lives_finish}
use Rattle.cp_dispatch.proofs.answers.finish.Goals as goal

pub returns-in-Ok-clause-lives : goal.returns-in-Ok-clause-lives
returns-in-Ok-clause-lives c = lives_finish c.args.connection.now c.finish.new.self c.args.question c.finish.result c.finish.ensures

pub returns-in-OutOfMemory-clause-lives : goal.returns-in-OutOfMemory-clause-lives
returns-in-OutOfMemory-clause-lives c = lives_finish c.args.connection.now c.finish.new.self c.args.question c.finish.result c.finish.ensures

pub returns-in_default : goal.returns-in_default
returns-in_default c = record {
  done = record { result = Err c.in-Err.fault; memory = c.in_default.not-OutOfMemory; acts = c.in-Err.ensures };
  lives = lives_finish c.args.connection.now c.finish.new.self c.args.question c.finish.result c.finish.ensures;
}
