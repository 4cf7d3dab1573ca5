use Rattle.std.proofs.Common.{arith}
use Rattle.std.proofs.lemmas.Result.{err_from_is_err_and}
use Rattle.cp_packed.proofs.Bytes.{bytes_by}
use Rattle.cp_frame.proofs.Following.{fault_there}
use Rattle.cp_frame.proofs.stream.OpenStream.take_byte.Goals as goal

pub returns-in_err-take_byte-clause-fault : goal.returns-in_err-take_byte-clause-fault
returns-in_err-take_byte-clause-fault c =
    let left = c.args.left.now in
    let p = err_from_is_err_and c.from_residual.result c.from_residual.ensures.1 in
    rw (p.1, p.2) (fault_there c.args.self.now.limits c.args.self.now.rest left c.in_err-take_byte.field-0.0 c.requires.some (bytes_by left (λ j. omega (arith, c.type_inv.left j))) c.in_err-take_byte.ensures.fault)
