use Rattle.std.proofs.Common.{◌++◌, replicate}
use Rattle.std.proofs.lemmas.Result.{err_from_is_err_and}
use Rattle.cp_packed.specs.Words.{bytes_of}
use Rattle.cp_frame.specs.Parts.{rest_of}
use Rattle.cp_frame.proofs.Ends.{complete_of}
use Rattle.cp_frame.proofs.Pushes.{run_past, run_fault, run_goes_on}
use Rattle.cp_frame.proofs.frame.OpenFrame.push_run.Goals as goal

pub returns-then-is_complete-clause-fault : goal.returns-then-is_complete-clause-fault
returns-then-is_complete-clause-fault c =
    let whole = c.is_complete.ensures.0 c.if-is_complete.true in
    run_past c.args.limits c.pushing.self (rest_of c.args.self.now ++ bytes_of (replicate c.args.run.count c.args.run.word)) c.pushing.left c.args.run.word
    (complete_of c.args.limits c.pushing.self c.pushing.invariant.begun whole.0 whole.1) c.pushing-test.true c.pushing.invariant.rest

pub returns-in_err-push-clause-fault : goal.returns-in_err-push-clause-fault
returns-in_err-push-clause-fault c =
    let p = err_from_is_err_and c.from_residual.result c.from_residual.ensures.1 in
    rw (p.1, p.2) (run_fault c.args.limits c.pushing.self (rest_of c.args.self.now ++ bytes_of (replicate c.args.run.count c.args.run.word)) c.pushing.left c.args.run.word c.in_err-push.field-0.0
    c.pushing-test.true c.pushing.invariant.rest c.in_err-push.ensures.fault)

pub pushing-preserved : goal.pushing-preserved
pushing-preserved c = record {
  begun = c.in_ok-push.ensures.begun;
  no_part = c.in_ok-push.ensures.no_part;
  rest = run_goes_on c.pushing.self c.push.new.self (rest_of c.args.self.now ++ bytes_of (replicate c.args.run.count c.args.run.word)) c.pushing.left c.args.run.word
      c.pushing-test.true c.pushing.invariant.rest c.in_ok-push.ensures.rest;
}
