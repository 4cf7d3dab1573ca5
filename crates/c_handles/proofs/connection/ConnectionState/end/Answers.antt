-- `end` says what the connection says.
use Rattle.std.proofs.Common.{refl}
use Rattle.c_handles.proofs.connection.ConnectionState.end.Goals as goal

pub returns-in-Err : goal.returns-in-Err
returns-in-Err c = (c.in-Err.fault, c.in-Err.ensures.cut, c.fault_of.ensures, refl)
