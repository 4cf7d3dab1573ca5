use Rattle.std.proofs.Common.{List, ℕ, refl, ap, subst}
use Rattle.cp_session.specs.Doing.{IsUntaken, Receives}
use Rattle.cp_client.specs.ConversationOf.{seen}
use Rattle.cp_client.specs.Reading.{takes, refuses}
use Rattle.cp_client.proofs.client.SessionClient.take.Goals as goal

pub returns-in-Ok : goal.returns-in-Ok
returns-in-Ok g c =
    takes c.in-Ok.count
    (subst (λ (l : List ℕ). Receives g.S.DrivenSession.table (g.S.DrivenSession.state c.args.self.now.session) l 0 c.in-Ok.count (g.S.DrivenSession.state c.receive.new.self)) c.bytes.ensures c.in-Ok.ensures.receives)
    (ap (λ (l : List ℕ). record (seen g.S.DrivenSession.state g.R.Read.remaining g.W.Write.contents (record c.args.self.now { session = c.receive.new.self })) { left = l }) c.took.ensures)

pub returns-in-Err : goal.returns-in-Err
returns-in-Err g c =
    refuses c.in-Err.field-0
    (subst (λ (l : List ℕ). IsUntaken g.S.DrivenSession.table (g.S.DrivenSession.state c.args.self.now.session) l 0 c.in-Err.field-0 (g.S.DrivenSession.state c.receive.new.self)) c.bytes.ensures c.in-Err.ensures.untaken) refl
