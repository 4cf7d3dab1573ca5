use Rattle.std.proofs.Common.{refl}
use Rattle.cp_connection.proofs.connection.Connection.reuse.Goals as goal

pub returns : goal.returns
returns c = rw (← c.self.view_is, c.reuse.ensures.stays) refl
