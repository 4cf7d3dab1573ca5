-- `receive` says what the connection says.
use Rattle.std.proofs.Common.{refl}
use Rattle.c_handles.proofs.connection.ConnectionState.receive.Goals as goal

pub returns-in-Err : goal.returns-in-Err
returns-in-Err c = (c.in-Err.fault, c.in-Err.ensures.unreceived.0, c.in-Err.ensures.unreceived.1, c.fault_of.ensures, refl)
