use Rattle.cp_client.specs.ConversationOf.{seen}
use Rattle.cp_client.specs.Waits.{GoesWhile, IsAwaited}
use Rattle.cp_client.proofs.client.SessionClient.wait.Given as goal

-- the client went on while the outcome hadn't come
abbrev pub invariant-loop : goal.invariant-loop
invariant-loop g l =
    GoesWhile g.S.DrivenSession.table (IsAwaited l.fn.question.number) (seen g.S.DrivenSession.state g.R.Read.remaining g.W.Write.contents l.fn.self) (seen g.S.DrivenSession.state g.R.Read.remaining g.W.Write.contents l.self)
