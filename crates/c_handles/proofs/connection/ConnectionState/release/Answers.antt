-- `release` gives back one hold, and has the connection release the last.
use Rattle.std.proofs.Common.{Err, Ok, arith, ap, refl}
use Rattle.c_handles.specs.Connection.{holds_more, is_last, is_refused}
use Rattle.c_handles.proofs.connection.ConnectionState.release.Goals as goal

pub returns-then-of-gt1 : goal.returns-then-of-gt1
returns-then-of-gt1 c = holds_more tt (omega (arith, c.if-of-gt1.true, c.of.ensures)) refl (ap (λ t. record c.args.self.now { holds = record { counts = t } }) c.lower.ensures)

pub returns-in-Ok : goal.returns-in-Ok
returns-in-Ok c =
    is_last tt (record c.args.self.now { connection = c.release.new.self }) (omega (arith, c.if-of-gt1.false, c.of.ensures))
    (record { given = Ok tt; acts = c.in-Ok.ensures; result_is = refl; changes = refl }) refl
    (ap (λ t. record c.args.self.now { connection = c.release.new.self; holds = record { counts = t } }) c.lower-in-Ok.ensures)

pub returns-in-Err : goal.returns-in-Err
returns-in-Err c =
    is_refused c.fault_of.result (omega (arith, c.if-of-gt1.false, c.of.ensures))
    (record { given = Err c.in-Err.fault; acts = c.in-Err.ensures; result_is = ap (λ f. Err f) c.fault_of.ensures; changes = refl }) refl
