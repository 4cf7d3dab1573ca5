use Rattle.std.proofs.Common.{sym}
use Rattle.cp_client.proofs.Streaming.{is_full}
use Rattle.cp_client.proofs.call_window.CallWindow.make_room.Goals as goal

pub returns-in-Some-clause-full : goal.returns-in-Some-clause-full
returns-in-Some-clause-full g c = is_full g.S.DrivenSession.table _ _ _ _ _ _ (sym c.in-Some.ensures) c.end_oldest.ensures.unended
