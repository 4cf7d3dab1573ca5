use Rattle.std.proofs.Common.{arith}
use Rattle.cp_frame.proofs.Opened.{length_rest}
use Rattle.cp_frame.proofs.rest.Rest.taken.Goals as goal

pub returns-in-Plain-clause-taken : goal.returns-in-Plain-clause-taken
returns-in-Plain-clause-taken c =
    let r = c.args.self.now in
    rw c.in-Plain.is (omega (arith, length_rest r.frame, c.kept_words.ensures, c.len.ensures))
