use Rattle.std.proofs.Common.{false, true, refl, inl}
use Rattle.std.proofs.lemmas.Result.{err_from_is_err_and}
use Rattle.cp_serve.specs.Output.{device}
use Rattle.cp_serve.proofs.Ending.{closes_none, closes_more, ends_there, ends_closed, ends_within, why_unended}
use Rattle.cp_serve.proofs.Reaching.{not_some}
use Rattle.cp_serve.proofs.serving.Server.end_all.Goals as goal

pub loop-init : goal.loop-init
loop-init g c = λ first rests out. closes_none first _ _ _ rests out

pub returns-then-has_ended-clause-ends : goal.returns-then-has_ended-clause-ends
returns-then-has_ended-clause-ends g c = λ first rests out. ends_closed first c.args.self.now _ _ c.loop.self _ _ (c.loop.invariant first rests out) (c.if-has_ended.ensures.0 refl)

pub returns-in_err-gave-clause-stopped : goal.returns-in_err-gave-clause-stopped
returns-in_err-gave-clause-stopped g c =
    let p = err_from_is_err_and c.from_residual.result c.from_residual.ensures.1 in
    rw (p.1, p.2) (λ first rests out. (ends_there first _ _ _ c.loop.self _ _ (c.loop.invariant first rests out), tt))

pub returns-in_err-write-clause-stopped : goal.returns-in_err-write-clause-stopped
returns-in_err-write-clause-stopped g c =
    let p = err_from_is_err_and c.from_residual-in_err-write.result c.from_residual-in_err-write.ensures.1 in
    let is_open = not_some _ false c.if-has_ended.ensures refl in
    let before = device g.W.Write.contents c.args.to.now in
    let to = device g.W.Write.contents c.loop.to in
    let after = device g.W.Write.contents c.write.new.to in
    let broken = c.in_err-write.ensures.broken in
    rw (p.1, p.2, c.in_err-write.ensures.device.1) (λ first rests out.
    let h = c.loop.invariant first rests out in (
      ends_within first c.args.self.now _ before c.loop.self c.round.new.self c.in_ok-gave.gave to h is_open c.in_ok-gave.ensures.done c.in_ok-gave.ensures.ready after broken.sent broken.left broken.splits broken.passes.appends,
      why_unended first c.args.self.now _ before c.loop.self _ to after h broken.failed,
    ))

pub returns-then-not-gave-clause-ends : goal.returns-then-not-gave-clause-ends
returns-then-not-gave-clause-ends g c =
    let is_open = not_some _ false c.if-has_ended.ensures refl in
    let before = device g.W.Write.contents c.args.to.now in
    let to = device g.W.Write.contents c.loop.to in
    let after = device g.W.Write.contents c.write.new.to in
    let sent = c.in_ok-write.ensures.sent in
    λ first rests out. (
      c.in_ok-gave.gave,
      closes_more first c.args.self.now _ before c.loop.self c.round.new.self c.in_ok-gave.gave to (c.loop.invariant first rests out) is_open c.in_ok-gave.ensures.done c.in_ok-gave.ensures.ready c.write.new.self after
          c.in_ok-write.ensures.written c.in_ok-write.ensures.same sent.0.appends sent.1,
      inl c.if-not-gave.true,
    )

pub loop-preserved : goal.loop-preserved
loop-preserved g c =
    let is_open = not_some _ false c.if-has_ended.ensures refl in
    let before = device g.W.Write.contents c.args.to.now in
    let to = device g.W.Write.contents c.loop.to in
    let after = device g.W.Write.contents c.write.new.to in
    let sent = c.in_ok-write.ensures.sent in
    let round = rw c.if-not-gave.false at c.in_ok-gave.ensures.done in
    λ first rests out.
    closes_more first c.args.self.now _ before c.loop.self c.round.new.self true to (c.loop.invariant first rests out) is_open round c.in_ok-gave.ensures.ready c.write.new.self after
    c.in_ok-write.ensures.written c.in_ok-write.ensures.same sent.0.appends sent.1

pub returns-clause-stopped : goal.returns-clause-stopped
returns-clause-stopped g c = λ first rests out. (ends_there first _ _ _ c.loop.self _ _ (c.loop.invariant first rests out), tt)
