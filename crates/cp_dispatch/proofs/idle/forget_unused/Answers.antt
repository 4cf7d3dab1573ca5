use Rattle.cp_dispatch.specs.Dropping.{went, stays}
use Rattle.cp_dispatch.proofs.Living.{lives_forget}
use Rattle.cp_dispatch.proofs.idle.forget_unused.Goals as goal

pub returns-in-Ok-clause-done : goal.returns-in-Ok-clause-done
returns-in-Ok-clause-done c = went c.forget.new.self c.in-Ok.ensures

pub returns-in-Ok-clause-lives : goal.returns-in-Ok-clause-lives
returns-in-Ok-clause-lives c = lives_forget c.args.connection.now c.forget.new.self c.args.id c.forget.result c.forget.ensures

pub returns-in-OutOfMemory-clause-lives : goal.returns-in-OutOfMemory-clause-lives
returns-in-OutOfMemory-clause-lives c = lives_forget c.args.connection.now c.forget.new.self c.args.id c.forget.result c.forget.ensures

pub returns-in_default : goal.returns-in_default
returns-in_default c = record {
  done = stays c.in-Err.fault c.forget.new.self c.in_default.not-OutOfMemory c.in-Err.ensures;
  lives = lives_forget c.args.connection.now c.forget.new.self c.args.id c.forget.result c.forget.ensures;
}
