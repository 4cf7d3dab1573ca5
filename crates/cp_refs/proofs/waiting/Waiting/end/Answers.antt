use Rattle.cp_refs.proofs.Queueing.{queued-ended, ends-moved}
use Rattle.cp_refs.specs.Queues.{key_of}
use Rattle.cp_refs.proofs.waiting.Waiting.end.Goals as goal

pub invariant_of-self : goal.invariant_of-self
invariant_of-self c = rw (c.in_err-end_queue.ensures.err, c.in_err-end_queue.ensures.ended_err) c.self.invariant

pub invariant_of-self-2 : goal.invariant_of-self-2
invariant_of-self-2 c =
    rw (c.in_ok-end_queue.ensures.gone, c.gate_key.ensures) (queued-ended c.self.inside.calls c.self.inside.queues c.self.inside.ended c.self.invariant (key_of c.args.gate.now) c.end_queue.new.ended (rw c.gate_key.ensures at c.in_ok-end_queue.ensures.moved))

pub returns-clause-ended : goal.returns-clause-ended
returns-clause-ended c =
    rw (← c.self.view_is) (ends-moved c.self.inside.calls c.self.inside.queues c.self.inside.ended c.self.invariant c.args.gate.now c.end_queue.new.ended (rw c.gate_key.ensures at c.in_ok-end_queue.ensures.moved))
