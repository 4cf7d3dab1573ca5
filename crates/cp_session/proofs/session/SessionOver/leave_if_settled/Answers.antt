use Rattle.std.proofs.Common.{refl, ap}
use Rattle.cp_session.specs.Doing.{stays, leaves}
use Rattle.cp_session.specs.State.{state_of, with_progress}
use Rattle.cp_session.proofs.session.SessionOver.leave_if_settled.Goals as goal

pub returns-then-not-is_settled : goal.returns-then-not-is_settled
returns-then-not-is_settled g c = stays (c.if-not-is_settled.ensures.unsettled refl) refl

pub returns : goal.returns
returns g c = leaves (c.if-not-is_settled.ensures.settled refl) (ap (λ p. with_progress (state_of c.args.self.now) p) c.leave.ensures)
