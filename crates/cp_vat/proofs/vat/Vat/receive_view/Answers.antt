use Rattle.cp_rpc.specs.Viewed.{viewed}
use Rattle.cp_vat_machine.specs.Step.{was_closed}
use Rattle.cp_vat_machine.specs.declared.event.Event.TheVariants as events
use Rattle.cp_vat_state.specs.StateOf.{state_of}
use Rattle.cp_vat.proofs.Stepping.{message_steps, message_stays, message_within, message_writes}
use Rattle.cp_vat.proofs.vat.Vat.receive_view.Goals as goal

pub returns-then-self-clause-step : goal.returns-then-self-clause-step
returns-then-self-clause-step c = was_closed (events.Receive (viewed c.args.message)) (rw (← c.self.view_is) c.if-self.true)

pub returns-clause-step : goal.returns-clause-step
returns-clause-step c =
    rw (← c.self.view_is)
    (message_steps (viewed c.args.message) (state_of c.self.inside.core) (state_of c.receive-done.new.core) (state_of c.end_message.new.core) c.receive-done.result c.new-effects.result.items c.receive-done.new.effects.items c.end_message.result c.new-effects.ensures.items c.if-self.false c.receive-done.ensures c.end_message.ensures)

pub returns-then-self-clause-writable : goal.returns-then-self-clause-writable
returns-then-self-clause-writable c = tt

pub returns-clause-writable : goal.returns-clause-writable
returns-clause-writable c = message_writes (viewed c.args.message) (state_of c.self.inside.core) (state_of c.receive-done.new.core) (state_of c.end_message.new.core) c.receive-done.result c.new-effects.result.items c.receive-done.new.effects.items c.end_message.result c.new-effects.ensures.items c.self.invariant c.if-self.false c.receive-done.ensures c.end_message.ensures

pub invariant_of-self : goal.invariant_of-self
invariant_of-self c = message_stays (viewed c.args.message) (state_of c.self.inside.core) (state_of c.receive-done.new.core) (state_of c.end_message.new.core) c.receive-done.result c.new-effects.result.items c.receive-done.new.effects.items c.end_message.result c.new-effects.ensures.items c.self.invariant c.if-self.false c.receive-done.ensures c.end_message.ensures

pub end_message-requires : goal.end_message-requires
end_message-requires c =
    message_within (viewed c.args.message) (state_of c.self.inside.core) (state_of c.receive-done.new.core) c.receive-done.result c.new-effects.result.items c.receive-done.new.effects.items c.self.invariant.0 c.if-self.false c.receive-done.ensures

pub receive-done-requires : goal.receive-done-requires
receive-done-requires c = c.self.invariant.0 c.if-self.false
