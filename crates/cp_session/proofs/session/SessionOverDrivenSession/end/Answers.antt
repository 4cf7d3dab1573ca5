use Rattle.std.proofs.Common.{refl, ap}
use Rattle.std.proofs.lemmas.Bool.{false≢true}
use Rattle.cp_session.specs.Doing.{finishes, is_known}
use Rattle.cp_session.specs.State.{state_of, with_progress}
use Rattle.cp_session.proofs.Deciding.{after_ok, if_err}
use Rattle.cp_session.proofs.session.SessionOverDrivenSession.end.Goals as goal

pub returns-then-not-is_serving-clause-ends : goal.returns-then-not-is_serving-clause-ends
returns-then-not-is_serving-clause-ends g c =
    is_known (with_progress (state_of c.args.self.now) c.end_again.new.self) (λ serves. false≢true (c.if-not-is_serving.ensures.1 serves))
    (ap (λ p. with_progress (state_of c.args.self.now) p) c.end_again.ensures) c.settle.ensures

pub returns-clause-ends : goal.returns-clause-ends
returns-clause-ends g c =
    after_ok c.end_bytes-ended.result c.end_bytes-ended.ensures.finishes
    (λ done. finishes (state_of c.end_bytes-ended.new.self) (c.if-not-is_serving.ensures.0 refl) done c.settle-2.ensures)

pub returns-clause-cut : goal.returns-clause-cut
returns-clause-cut g c =
    if_err c.end_bytes-ended.result c.end_bytes-ended.ensures.unfinished
    (λ fault cut. record { serves = c.if-not-is_serving.ensures.0 refl; mid = state_of c.end_bytes-ended.new.self; unfinished = cut; settles = c.settle-2.ensures })
