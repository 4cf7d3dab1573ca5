use Rattle.cp_connection.proofs.Settling.{may_vat}
use Rattle.cp_connection.proofs.parts.Parts.give_to_vat.Goals as goal

pub returns-in-Err-clause-grown : goal.returns-in-Err-clause-grown
returns-in-Err-clause-grown c = may_vat c.args.self.now c.receive.new.self
