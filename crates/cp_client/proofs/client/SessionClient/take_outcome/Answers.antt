use Rattle.std.proofs.Common.{refl}
use Rattle.cp_client.specs.ConversationOf.{seen}
use Rattle.cp_client.proofs.Looking.{looks_if, not_asked_if}
use Rattle.cp_client.proofs.client.SessionClient.take_outcome.Goals as goal

pub returns-clause-looks : goal.returns-clause-looks
returns-clause-looks g c =
    let at = seen g.S.DrivenSession.state g.R.Read.remaining g.W.Write.contents in
    looks_if (at c.args.self.now) (at c.note.new.self) c.args.question.number c.take.new.self.asked c.take.result c.note.ensures c.take.ensures.taken

pub returns-clause-not_asked : goal.returns-clause-not_asked
returns-clause-not_asked g c =
    let at = seen g.S.DrivenSession.state g.R.Read.remaining g.W.Write.contents in
    not_asked_if (at c.args.self.now) (at c.note.new.self) c.args.question.number c.note.new.self.questions c.take.new.self c.take.result refl c.note.ensures c.take.ensures.unknown
    c.take.ensures.same
