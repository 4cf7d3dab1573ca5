use Rattle.cp_vat.proofs.vat.Vat.act.Goals as goal

pub returns-in-Receive-clause-step : goal.returns-in-Receive-clause-step
returns-in-Receive-clause-step c = rw (c.in-Receive.is, c.nothing.ensures.0, c.nothing.ensures.1) c.receive.ensures.step

pub returns-in-Receive-clause-writable : goal.returns-in-Receive-clause-writable
returns-in-Receive-clause-writable c = rw c.nothing.ensures.1 c.receive.ensures.writable

pub returns-in-Bootstrap-clause-step : goal.returns-in-Bootstrap-clause-step
returns-in-Bootstrap-clause-step c = rw (c.in-Bootstrap.is, c.question.ensures.0, c.question.ensures.1) c.bootstrap.ensures.step

pub returns-in-Bootstrap-clause-writable : goal.returns-in-Bootstrap-clause-writable
returns-in-Bootstrap-clause-writable c = rw c.question.ensures.1 c.bootstrap.ensures.writable

pub returns-in-Call-clause-step : goal.returns-in-Call-clause-step
returns-in-Call-clause-step c = rw (c.in-Call.is, c.question-in-Call.ensures.0, c.question-in-Call.ensures.1) c.call.ensures.step

pub returns-in-Call-clause-writable : goal.returns-in-Call-clause-writable
returns-in-Call-clause-writable c = rw c.question-in-Call.ensures.1 c.call.ensures.writable

pub returns-in-Answer-clause-step : goal.returns-in-Answer-clause-step
returns-in-Answer-clause-step c = rw (c.in-Answer.is, c.nothing-in-Answer.ensures.0, c.nothing-in-Answer.ensures.1) c.answer.ensures.step

pub returns-in-Answer-clause-writable : goal.returns-in-Answer-clause-writable
returns-in-Answer-clause-writable c = rw c.nothing-in-Answer.ensures.1 c.answer.ensures.writable

pub returns-in-Promise-clause-step : goal.returns-in-Promise-clause-step
returns-in-Promise-clause-step c = rw (c.in-Promise.is, c.promise-in-Promise.ensures.0, c.promise-in-Promise.ensures.1) c.promise.ensures.step

pub returns-in-Promise-clause-writable : goal.returns-in-Promise-clause-writable
returns-in-Promise-clause-writable c = rw c.promise-in-Promise.ensures.1 c.promise.ensures.writable

pub returns-in-Resolve-clause-step : goal.returns-in-Resolve-clause-step
returns-in-Resolve-clause-step c = rw (c.in-Resolve.is, c.nothing-in-Resolve.ensures.0, c.nothing-in-Resolve.ensures.1) c.resolve.ensures.step

pub returns-in-Resolve-clause-writable : goal.returns-in-Resolve-clause-writable
returns-in-Resolve-clause-writable c = rw c.nothing-in-Resolve.ensures.1 c.resolve.ensures.writable

pub returns-in-Finish-clause-step : goal.returns-in-Finish-clause-step
returns-in-Finish-clause-step c = rw (c.in-Finish.is, c.nothing-in-Finish.ensures.0, c.nothing-in-Finish.ensures.1) c.finish.ensures.step

pub returns-in-Finish-clause-writable : goal.returns-in-Finish-clause-writable
returns-in-Finish-clause-writable c = rw c.nothing-in-Finish.ensures.1 c.finish.ensures.writable

pub returns-in-Release-clause-step : goal.returns-in-Release-clause-step
returns-in-Release-clause-step c = rw (c.in-Release.is, c.nothing-in-Release.ensures.0, c.nothing-in-Release.ensures.1) c.release.ensures.step

pub returns-in-Release-clause-writable : goal.returns-in-Release-clause-writable
returns-in-Release-clause-writable c = rw c.nothing-in-Release.ensures.1 c.release.ensures.writable

pub returns-in-Forget-clause-step : goal.returns-in-Forget-clause-step
returns-in-Forget-clause-step c = rw (c.in-Forget.is, c.nothing-in-Forget.ensures.0, c.nothing-in-Forget.ensures.1) c.forget.ensures.step

pub returns-in-Forget-clause-writable : goal.returns-in-Forget-clause-writable
returns-in-Forget-clause-writable c = rw c.nothing-in-Forget.ensures.1 c.forget.ensures.writable

pub returns-in-Idle-clause-step : goal.returns-in-Idle-clause-step
returns-in-Idle-clause-step c = rw (c.in-Idle.is, c.idle-in-Idle.ensures.0, c.idle-in-Idle.ensures.1) c.idle.ensures.step

pub returns-in-Idle-clause-writable : goal.returns-in-Idle-clause-writable
returns-in-Idle-clause-writable c = rw c.idle-in-Idle.ensures.1 c.idle.ensures.writable
