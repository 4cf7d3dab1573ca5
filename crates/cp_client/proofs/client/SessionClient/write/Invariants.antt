use Rattle.std.proofs.Common.{length}
use Rattle.cp_session.specs.State.{link_of}
use Rattle.cp_client.specs.ConversationOf.{seen}
use Rattle.cp_client.specs.Writing.{WritesOn}
use Rattle.cp_client.proofs.client.SessionClient.write.Given as goal

-- some was written
abbrev pub invariant-writing : goal.invariant-writing
invariant-writing g l = WritesOn g.S.DrivenSession.table (seen g.S.DrivenSession.state g.R.Read.remaining g.W.Write.contents l.fn.self) (seen g.S.DrivenSession.state g.R.Read.remaining g.W.Write.contents l.self)

abbrev pub decreases-writing : goal.decreases-writing
decreases-writing g l = length (link_of (g.S.DrivenSession.state l.self.session)).unwritten
