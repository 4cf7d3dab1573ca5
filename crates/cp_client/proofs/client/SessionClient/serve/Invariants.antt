use Rattle.cp_client.specs.ConversationOf.{seen}
use Rattle.cp_client.specs.Waits.{Serves}
use Rattle.cp_client.proofs.client.SessionClient.serve.Given as goal

-- the client went on
abbrev pub invariant-loop : goal.invariant-loop
invariant-loop g l = Serves g.S.DrivenSession.table (seen g.S.DrivenSession.state g.R.Read.remaining g.W.Write.contents l.fn.self) (seen g.S.DrivenSession.state g.R.Read.remaining g.W.Write.contents l.self)
