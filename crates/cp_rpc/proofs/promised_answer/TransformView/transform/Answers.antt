use Rattle.std.proofs.Common.{refl, ◌∙◌}
use Rattle.std.proofs.lemmas.List.{take_more, take_all}
use Rattle.cp_messages.specs.declared.promised_answer.Op.TheVariants as ops
use Rattle.cp_rpc.proofs.promised_answer.TransformView.transform.Goals as goal

pub loop-i-preserved : goal.loop-i-preserved
loop-i-preserved g c =
    rw (c.in_ok-push.ensures.items, take_more c.args.self.now c.loop-i.i ops.Noop (rw c.len-count.ensures at c.loop-i-test.true), c.loop-i.invariant, c.op.ensures ops.Noop) refl

pub op-requires : goal.op-requires
op-requires g c = rw (← c.len-count.ensures) c.loop-i-test.true

pub returns : goal.returns
returns g c = c.new.ensures ∙ c.loop-i.invariant ∙ take_all c.loop-i.i c.args.self.now (rw c.len-count.ensures at c.loop-i-test.false)
