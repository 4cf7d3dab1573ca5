-- `jd_connection_receive` says what the connection took.
use Rattle.jamdrosek_c.proofs.Placing.{does_through}
use Rattle.jamdrosek_c.proofs.connection.jd_connection_receive.Goals as goal

pub returns-in-Some : goal.returns-in-Some
returns-in-Some c =
    does_through _ _ _ _ _ _ _ _ c.take.ensures.took c.in-Some.is c.deref_mut.ensures.value c.put.ensures (c.receive-count.result, c.receive-count.ensures, c.tell_count.ensures)
