use Rattle.cp_dispatch.proofs.Living.{lives_none}
use Rattle.cp_dispatch.proofs.Working.{after_ok}
use Rattle.std.proofs.Common.{refl}
use Rattle.cp_dispatch.proofs.dispatcher.Dispatcher.handle.Goals as goal

pub returns-in-Delivered-clause-done : goal.returns-in-Delivered-clause-done
returns-in-Delivered-clause-done g c = after_ok c.take_call.result c.take_call.ensures.done (λ done. rw c.in-Delivered.is (rw c.of_whole.ensures at done))

pub returns-in-Settled-clause-done : goal.returns-in-Settled-clause-done
returns-in-Settled-clause-done g c = after_ok c.hand_back.result c.hand_back.ensures.done (λ back. rw c.in-Settled.is back)

pub returns-in-Closed-clause-done : goal.returns-in-Closed-clause-done
returns-in-Closed-clause-done g c = after_ok c.note.result c.note.ensures (λ noted. rw c.in-Closed.is (noted _, refl))

pub returns-in-Closed-clause-lives : goal.returns-in-Closed-clause-lives
returns-in-Closed-clause-lives g c = lives_none c.args.connection.now
