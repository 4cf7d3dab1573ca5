use Rattle.std.proofs.Common.{take}
use Rattle.cp_client.specs.ConversationOf.{seen}
use Rattle.cp_client.specs.AnyOf.{AreAwaited}
use Rattle.cp_client.specs.Telling.{Knows}
use Rattle.cp_client.proofs.client.SessionClient.take_any.Given as goal

-- all is known, and no outcome of those that were looked at has come
abbrev pub invariant-loop-question : goal.invariant-loop-question
invariant-loop-question g l =
    let at = seen g.S.DrivenSession.state g.R.Read.remaining g.W.Write.contents in
    Knows (at l.fn.self) (at l.self) × AreAwaited (take l.question-index l.questions) (at l.self)
