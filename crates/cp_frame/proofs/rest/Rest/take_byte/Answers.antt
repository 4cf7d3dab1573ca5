use Rattle.std.proofs.Common.{inr}
use Rattle.std.proofs.lemmas.Result.{err_from_is_err_and, IfErr-weaker}
use Rattle.cp_frame.proofs.Taken.{fault_of_words, pending_taken, fault_after}
use Rattle.cp_frame.proofs.rest.Rest.take_byte.Goals as goal

pub returns-in_err-push_byte-clause-fault : goal.returns-in_err-push_byte-clause-fault
returns-in_err-push_byte-clause-fault c =
    let p = err_from_is_err_and c.from_residual.result c.from_residual.ensures.1 in
    rw (p.1, p.2) (fault_of_words c.args.limits c.args.self.now c.args.byte c.in_err-push_byte.field-0.0 c.requires c.ranges.byte.fits c.in_err-push_byte.ensures.fault)

pub check-requires-clause-pending : goal.check-requires-clause-pending
check-requires-clause-pending c = pending_taken c.args.limits c.args.self.now c.push_byte.new.self c.args.byte c.requires c.ranges.byte.fits c.in_ok-push_byte.ensures.takes

pub returns-clause-fault : goal.returns-clause-fault
returns-clause-fault c =
    IfErr-weaker c.check.result _ _ (λ fault k. inr (fault_after c.args.limits c.args.self.now c.push_byte.new.self c.args.byte fault c.requires c.ranges.byte.fits c.in_ok-push_byte.ensures.takes k)) c.check.ensures.fault
