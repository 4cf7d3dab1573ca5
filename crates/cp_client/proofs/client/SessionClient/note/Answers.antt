use Rattle.std.proofs.Common.{refl, ap}
use Rattle.cp_client.specs.ConversationOf.{seen}
use Rattle.cp_client.specs.Telling.{begins, goes_on}
use Rattle.cp_client.proofs.Telling.{fewer_left}
use Rattle.cp_client.proofs.client.SessionClient.note.Goals as goal

pub noting-init : goal.noting-init
noting-init g c = begins

pub noting-smaller : goal.noting-smaller
noting-smaller g c = fewer_left _ (g.S.DrivenSession.state c.poll_event.new.self) _ c.in-Some.event c.in-Some.ensures (ap (λ s. s.session) c.note_one.ensures)

pub noting-preserved : goal.noting-preserved
noting-preserved g c = goes_on c.in-Some.event (g.S.DrivenSession.state c.poll_event.new.self) c.noting.invariant c.in-Some.ensures c.note_one.ensures

pub returns : goal.returns
returns g c = record { heard = seen g.S.DrivenSession.state g.R.Read.remaining g.W.Write.contents c.noting.self; hears = c.noting.invariant; last = c.in_default.ensures; same = refl }
