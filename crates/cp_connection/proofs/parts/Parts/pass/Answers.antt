use Rattle.cp_connection.proofs.Results.{after_err}
use Rattle.cp_connection.proofs.Settling.{may_stays}
use Rattle.cp_connection.proofs.parts.Parts.pass.Goals as goal

pub returns-in-ToPeer-clause-grown : goal.returns-in-ToPeer-clause-grown
returns-in-ToPeer-clause-grown c = after_err c.send.result c.send.ensures.same (λ stays. may_stays c.args.self.now c.send.new.self stays)
