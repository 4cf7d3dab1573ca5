-- `call` does what the call of the connection does, or nothing where an argument names nothing.
use Rattle.std.proofs.Common.{inl, inr, refl}
use Rattle.c_handles.proofs.connection.ConnectionState.call.Goals as goal

pub returns-in-Ok : goal.returns-in-Ok
returns-in-Ok c = inl (_, c.in-Ok.ensures.asked, record { given = c.call.result; acts = c.call.ensures; result_is = c.told.ensures; changes = refl })

pub returns-in-Err : goal.returns-in-Err
returns-in-Err c = inr (c.in-Err.fault, c.in-Err.ensures.refused, refl, refl)
