use Rattle.cp_dispatch.specs.WorkOf.{work_of}
use Rattle.cp_dispatch.proofs.Living.{lives_none, lives_both}
use Rattle.cp_dispatch.proofs.Working.{hands_to_user, hands_to_object, after_ok}
use Rattle.cp_dispatch.proofs.dispatcher.Dispatcher.hand_back.Goals as goal

pub returns-in_default-clause-done : goal.returns-in_default-clause-done
returns-in_default-clause-done g c =
    after_ok c.note_outcome.result c.note_outcome.ensures (λ noted. hands_to_user (work_of c.args.self.now c.args.connection.now) (work_of c.take_asked.new.self c.args.connection.now)
    c.args.question c.args.outcome (rw c.in_default.is at (c.take_asked.ensures c.args.connection.now)) (noted c.args.connection.now))

pub returns-in_default-clause-lives : goal.returns-in_default-clause-lives
returns-in_default-clause-lives g c = lives_none c.args.connection.now

pub returns-clause-done : goal.returns-clause-done
returns-clause-done g c =
    after_ok c.make_calls.result c.make_calls.ensures.done (λ calls. hands_to_object (work_of c.args.self.now c.args.connection.now)
    (work_of c.take_asked.new.self c.args.connection.now) c.args.question c.args.outcome c.in-Some.owner c.finish.new.connection
    (rw c.in-Some.is at (c.take_asked.ensures c.args.connection.now)) c.in_ok-finish.ensures.done (c.in_ok-on_response.ensures c.finish.new.connection) calls)

pub returns-clause-lives : goal.returns-clause-lives
returns-clause-lives g c = lives_both c.finish.ensures.lives c.make_calls.ensures.lives
