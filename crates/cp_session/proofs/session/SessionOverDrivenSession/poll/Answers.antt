use Rattle.std.proofs.Common.{refl}
use Rattle.cp_session.specs.Doing.{rests, polls}
use Rattle.cp_session.specs.State.{state_of}
use Rattle.cp_session.proofs.Deciding.{after_ok, on_err}
use Rattle.cp_session.proofs.session.SessionOverDrivenSession.poll.Goals as goal

pub returns-then-not-has_more-clause-polls : goal.returns-then-not-has_more-clause-polls
returns-then-not-has_more-clause-polls g c = rests (c.if-not-has_more.ensures.none refl) refl

pub returns-clause-polls : goal.returns-clause-polls
returns-clause-polls g c =
    after_ok c.work_on-polled.result c.work_on-polled.ensures.works
    (λ worked. polls (state_of c.work_on-polled.new.self) (c.if-not-has_more.ensures.more refl) worked c.settle.ensures)

pub returns-clause-runs_out : goal.returns-clause-runs_out
returns-clause-runs_out g c =
    on_err c.work_on-polled.result c.work_on-polled.ensures.unworked
    (λ unworked. record { has_more = c.if-not-has_more.ensures.more refl; mid = state_of c.work_on-polled.new.self; unworked = unworked; settles = c.settle.ensures })
