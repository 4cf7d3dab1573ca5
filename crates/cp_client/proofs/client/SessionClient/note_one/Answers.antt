use Rattle.std.proofs.Common.{ap}
use Rattle.cp_client.specs.ConversationOf.{seen}
use Rattle.cp_client.specs.Conversation.{Asked}
use Rattle.cp_client.proofs.client.SessionClient.note_one.Goals as goal

pub returns-in-Outcome : goal.returns-in-Outcome
returns-in-Outcome g c =
    rw c.in-Outcome.is (ap (λ (t : Asked). record (seen g.S.DrivenSession.state g.R.Read.remaining g.W.Write.contents c.args.self.now) { asked = t }) c.come.ensures)
