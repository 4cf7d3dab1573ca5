use Rattle.std.proofs.Common.{ap, subst}
use Rattle.cp_session.specs.Doing.{Settles}
use Rattle.cp_session.specs.State.{state_of, with_progress}
use Rattle.cp_session.proofs.session.SessionOverDrivenSession.close.Goals as goal

pub returns : goal.returns
returns g c = subst (λ p. Settles g.H.ObjectTable.table (with_progress (state_of c.args.self.now) p) c.args.now (state_of c.settle.new.self)) c.close.ensures c.settle.ensures
