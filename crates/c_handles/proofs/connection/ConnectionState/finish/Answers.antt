-- `finish` does what the call of the connection does.
use Rattle.std.proofs.Common.{refl}
use Rattle.c_handles.proofs.connection.ConnectionState.finish.Goals as goal

pub returns : goal.returns
returns c = record { given = c.finish.result; acts = c.finish.ensures; result_is = c.told.ensures; changes = refl }
