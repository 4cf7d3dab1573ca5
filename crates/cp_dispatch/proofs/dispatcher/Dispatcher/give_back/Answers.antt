use Rattle.std.proofs.Common.{ℕ, refl, ap, arith}
use Rattle.std.proofs.lemmas.Result.{err_from_is_err_and}
use Rattle.cp_tables.specs.Table.{Table}
use Rattle.cp_dispatch.specs.Work.{leaves_it, is_last, is_unreleased}
use Rattle.cp_dispatch.specs.WorkOf.{work_of}
use Rattle.cp_dispatch.proofs.dispatcher.Dispatcher.give_back.Goals as goal

pub returns-then-is_held : goal.returns-then-is_held
returns-then-is_held c =
    leaves_it (omega (arith, c.if-given-gt1.false, c.of-given.ensures)) (omega (arith, c.if-is_held.true, c.of-is_held.ensures)) (c.leave.ensures c.args.connection.now)

pub returns-in_err-release : goal.returns-in_err-release
returns-in_err-release c =
    let p = err_from_is_err_and c.from_residual.result c.from_residual.ensures.1 in
    rw (p.1, p.2)
    (is_unreleased _ c.release.new.self (omega (arith, c.if-given-gt1.false, c.of-given.ensures)) (omega (arith, c.if-is_held.false, c.of-is_held.ensures)) c.in_err-release.ensures refl refl)

pub returns : goal.returns
returns c =
    is_last c.release.new.self (omega (arith, c.if-given-gt1.false, c.of-given.ensures)) (omega (arith, c.if-is_held.false, c.of-is_held.ensures)) c.in_ok-release.ensures refl
    (ap (λ (given : Table ℕ). record (work_of c.args.self.now c.release.new.self) { given = given }) c.lower-2.ensures.lowered)
