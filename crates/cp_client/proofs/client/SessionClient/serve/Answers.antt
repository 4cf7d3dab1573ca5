use Rattle.std.proofs.Common.{refl}
use Rattle.cp_client.specs.ConversationOf.{seen}
use Rattle.cp_client.specs.Waits.{begins, steps, halted, overran}
use Rattle.cp_client.proofs.client.SessionClient.serve.Goals as goal

pub loop-init : goal.loop-init
loop-init g c = begins

pub loop-preserved : goal.loop-preserved
loop-preserved g c = steps c.loop.invariant c.note.ensures tt c.in-Ok.ensures.steps

pub returns-in-Err-Ended-clause-serves : goal.returns-in-Err-Ended-clause-serves
returns-in-Err-Ended-clause-serves g c =
    let fails = rw c.in-Err-Ended.field-0-is at c.in-Err-Ended.ensures.fails in
    halted (seen g.S.DrivenSession.state g.R.Read.remaining g.W.Write.contents c.loop.self) (seen g.S.DrivenSession.state g.R.Read.remaining g.W.Write.contents c.note.new.self) c.loop.invariant c.note.ensures
    fails

pub returns-in-Err-clause-stops : goal.returns-in-Err-clause-stops
returns-in-Err-clause-stops g c =
    halted (seen g.S.DrivenSession.state g.R.Read.remaining g.W.Write.contents c.loop.self) (seen g.S.DrivenSession.state g.R.Read.remaining g.W.Write.contents c.note.new.self) c.loop.invariant c.note.ensures
    c.in-Err.ensures.fails

pub returns-clause-stops : goal.returns-clause-stops
returns-clause-stops g c = overran c.loop.invariant refl
