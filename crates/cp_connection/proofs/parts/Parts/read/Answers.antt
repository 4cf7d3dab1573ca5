use Rattle.std.proofs.Common.{refl}
use Rattle.cp_connection.proofs.parts.Parts.read.Goals as goal

pub returns-in-Err-clause-refused : goal.returns-in-Err-clause-refused
returns-in-Err-clause-refused c =
    rw (c.fail.ensures.fails, c.fail.ensures.same, c.unreadable.ensures) (record { refusal = c.in-Err.refusal; none = c.in-Err.ensures.refused; told = refl; same = refl })

pub returns-clause-counted : goal.returns-clause-counted
returns-clause-counted c = record { bytes = c.saturating_add-self.ensures; messages = c.saturating_add-self-2.ensures; same = refl }
