use Rattle.std.proofs.Common.{refl}
use Rattle.cp_dispatch.specs.WorkOf.{work_of}
use Rattle.cp_dispatch.proofs.Living.{lives_none}
use Rattle.cp_dispatch.proofs.Working.{after_ok}
use Rattle.cp_dispatch.proofs.dispatcher.Dispatcher.reply.Goals as goal

pub returns-in_err-give_up-in-Now-clause-lives : goal.returns-in_err-give_up-in-Now-clause-lives
returns-in_err-give_up-in-Now-clause-lives g c = lives_none c.args.connection.now

pub returns-in_ok-give_up-in-Now-clause-done : goal.returns-in_ok-give_up-in-Now-clause-done
returns-in_ok-give_up-in-Now-clause-done g c =
    after_ok c.answer.result c.answer.ensures.done
    (λ answers. rw c.in-Now.is (work_of c.give_up.new.self c.args.connection.now, c.answer.new.connection, c.in_ok-give_up-in-Now.ensures c.args.connection.now, rw c.meant.ensures at answers, refl))

pub returns-in-Later-clause-done : goal.returns-in-Later-clause-done
returns-in-Later-clause-done g c = after_ok c.put_off.result c.put_off.ensures (λ put. rw c.in-Later.is (put c.args.connection.now))

pub returns-in-Later-clause-lives : goal.returns-in-Later-clause-lives
returns-in-Later-clause-lives g c = lives_none c.args.connection.now
