use Rattle.cp_client.specs.ConversationOf.{seen}
use Rattle.cp_client.specs.Telling.{Hears}
use Rattle.cp_client.proofs.Telling.{events_left}
use Rattle.cp_client.proofs.client.SessionClient.note.Given as goal

-- what was told so far is known
abbrev pub invariant-noting : goal.invariant-noting
invariant-noting g l = Hears (seen g.S.DrivenSession.state g.R.Read.remaining g.W.Write.contents l.fn.self) (seen g.S.DrivenSession.state g.R.Read.remaining g.W.Write.contents l.self)

abbrev pub decreases-noting : goal.decreases-noting
decreases-noting g l = events_left (g.S.DrivenSession.state l.self.session)
