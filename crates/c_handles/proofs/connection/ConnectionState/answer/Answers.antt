-- `answer` does what the call of the connection does, or nothing where an argument names nothing.
use Rattle.std.proofs.Common.{inl, inr, refl}
use Rattle.c_handles.proofs.connection.ConnectionState.answer.Goals as goal

pub returns-in-Ok : goal.returns-in-Ok
returns-in-Ok c = inl (_, c.in-Ok.ensures.held, record { given = c.answer.result; acts = c.answer.ensures; result_is = c.told.ensures; changes = refl })

pub returns-in-Err : goal.returns-in-Err
returns-in-Err c = inr (c.in-Err.fault, c.in-Err.ensures.refused, refl, refl)
