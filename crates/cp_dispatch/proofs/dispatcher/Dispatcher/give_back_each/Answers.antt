use Rattle.cp_dispatch.proofs.Living.{lives_none}
use Rattle.cp_dispatch.proofs.dispatcher.Dispatcher.give_back_each.Goals as goal

pub returns-then-not-are_counted-clause-lives : goal.returns-then-not-are_counted-clause-lives
returns-then-not-are_counted-clause-lives c = lives_none c.args.connection.now

pub returns-in_err-imports-clause-lives : goal.returns-in_err-imports-clause-lives
returns-in_err-imports-clause-lives c = lives_none c.args.connection.now
