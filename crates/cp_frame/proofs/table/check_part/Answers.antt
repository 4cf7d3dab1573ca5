use Rattle.std.proofs.Common.{arith}
use Rattle.std.proofs.lemmas.Result.{err_from_is_err_and}
use Rattle.cp_frame.proofs.Tables.{part_fault, part_little}
use Rattle.cp_frame.proofs.table.check_part.Goals as goal

pub returns-in_err-judge-clause-fault : goal.returns-in_err-judge-clause-fault
returns-in_err-judge-clause-fault c =
    let p = err_from_is_err_and c.from_residual.result c.from_residual.ensures.1 in
    rw (p.1, p.2) (part_fault c.args.limits c.args.table.now c.args.part.now c.read_u32.result c.in_err-judge.field-0.0 (omega (arith, c.read_u32.ensures, c.type_inv.part 0, c.type_inv.part 1, c.type_inv.part 2, c.type_inv.part 3)) c.if-part-ge4.true c.requires.short c.read_u32.ensures c.in_err-judge.ensures.fault)

pub returns-in_ok-judge-clause-little : goal.returns-in_ok-judge-clause-little
returns-in_ok-judge-clause-little c = part_little c.args.limits c.args.table.now c.args.part.now c.read_u32.result (omega (arith, c.read_u32.ensures, c.type_inv.part 0, c.type_inv.part 1, c.type_inv.part 2, c.type_inv.part 3)) c.if-part-ge4.true c.requires.short c.read_u32.ensures c.in_ok-judge.ensures.little
