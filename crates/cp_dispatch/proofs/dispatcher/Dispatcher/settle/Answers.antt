use Rattle.std.proofs.Common.{refl}
use Rattle.cp_dispatch.specs.Calling.{gives_none}
use Rattle.cp_dispatch.specs.WorkOf.{work_of}
use Rattle.cp_dispatch.proofs.Living.{lives_none}
use Rattle.cp_dispatch.proofs.Working.{settles_stranger, settles_awaited}
use Rattle.cp_dispatch.proofs.dispatcher.Dispatcher.settle.Goals as goal

pub returns-in_default-clause-done : goal.returns-in_default-clause-done
returns-in_default-clause-done g c = rw c.in_default.is gives_none

pub returns-in_default-clause-lives : goal.returns-in_default-clause-lives
returns-in_default-clause-lives g c = lives_none c.args.connection.now

pub returns-in_default-take_awaited-clause-done : goal.returns-in_default-take_awaited-clause-done
returns-in_default-take_awaited-clause-done g c =
    settles_stranger _ _ _ c.args.settled c.in-Some.settled c.in-Some.is (rw c.in_default-take_awaited.is at c.take_awaited.ensures c.args.connection.now)

pub returns-in_default-take_awaited-clause-lives : goal.returns-in_default-take_awaited-clause-lives
returns-in_default-take_awaited-clause-lives g c = lives_none c.args.connection.now

pub returns-in_err-give_up-clause-lives : goal.returns-in_err-give_up-clause-lives
returns-in_err-give_up-clause-lives g c = lives_none c.args.connection.now

pub returns-clause-done : goal.returns-clause-done
returns-clause-done g c =
    settles_awaited _ (work_of c.args.self.now c.args.connection.now) (work_of c.take_awaited.new.self c.args.connection.now) c.args.settled c.in-Some.settled c.in-Some-take_awaited.origin c.answer.new.connection
    (work_of c.give_up.new.self c.args.connection.now) c.in-Some.is (c.in-Some-take_awaited.ensures c.args.connection.now)
    (c.in_ok-give_up.ensures c.args.connection.now) (rw c.meant-outcome.ensures at c.in_ok-answer.ensures.done) refl
