use Rattle.cp_relay.proofs.Filtering.{closes_for}
use Rattle.cp_relay.proofs.filter.Filter.next.Goals as goal

pub returns-in-Err-clause-stopped : goal.returns-in-Err-clause-stopped
returns-in-Err-clause-stopped c = closes_for c.in-Err.fault c.args.guard.now c.pass.new.guard c.args.self.now c.pass.new.self c.args.piece.now c.if-guard.false c.in-Err.ensures.stopped
