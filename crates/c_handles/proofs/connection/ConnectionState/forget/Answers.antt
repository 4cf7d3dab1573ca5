-- `forget` does what the call of the connection does.
use Rattle.std.proofs.Common.{refl}
use Rattle.c_handles.proofs.connection.ConnectionState.forget.Goals as goal

pub returns : goal.returns
returns c = record { given = c.forget.result; acts = c.forget.ensures; result_is = c.told.ensures; changes = refl }
