use Rattle.cp_client.specs.ConversationOf.{seen}
use Rattle.cp_client.specs.AnyOf.{AreAwaited}
use Rattle.cp_client.specs.Waits.{GoesWhile}
use Rattle.cp_client.proofs.client.SessionClient.wait_any.Given as goal

-- the client went on while no outcome had come
abbrev pub invariant-loop : goal.invariant-loop
invariant-loop g l =
    GoesWhile g.S.DrivenSession.table (AreAwaited l.fn.questions) (seen g.S.DrivenSession.state g.R.Read.remaining g.W.Write.contents l.fn.self) (seen g.S.DrivenSession.state g.R.Read.remaining g.W.Write.contents l.self)
