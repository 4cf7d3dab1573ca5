use Rattle.std.proofs.Common.{subst}
use Rattle.cp_frame.specs.Reader.{Reader, KeepsLittle}
use Rattle.cp_frame.proofs.Readers.{keeps_little}
use Rattle.cp_frame.proofs.reader.FrameReader.held.Goals as goal

pub returns-clause-little : goal.returns-clause-little
returns-clause-little c =
    let r = c.self.inside in
    subst (λ (v : Reader). KeepsLittle v) c.self.view_is (keeps_little r.stream.mode r.stream.limits r.status r.stream.rest c.self.invariant)
