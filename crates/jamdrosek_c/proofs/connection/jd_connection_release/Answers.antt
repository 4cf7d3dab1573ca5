-- `jd_connection_release` says what the connection gave back.
use Rattle.jamdrosek_c.proofs.Placing.{does_through}
use Rattle.jamdrosek_c.proofs.connection.jd_connection_release.Goals as goal

pub returns-in-Some : goal.returns-in-Some
returns-in-Some c =
    does_through _ _ _ _ _ _ _ _ c.take.ensures.took c.in-Some.is c.deref_mut.ensures.value c.put.ensures (c.release-done.result, c.release-done.ensures, c.tell_bytes.ensures)
