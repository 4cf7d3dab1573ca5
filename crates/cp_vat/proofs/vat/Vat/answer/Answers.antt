use Rattle.cp_vat_machine.specs.Step.{was_closed}
use Rattle.cp_vat_machine.specs.declared.event.Event.TheVariants as events
use Rattle.cp_vat_machine.specs.declared.event.Value.TheVariants as values
use Rattle.cp_vat_state.specs.StateOf.{state_of}
use Rattle.cp_vat.proofs.Stepping.{call_steps, call_stays, call_within, call_writes}
use Rattle.cp_vat.proofs.vat.Vat.answer.Goals as goal

pub returns-then-self-clause-step : goal.returns-then-self-clause-step
returns-then-self-clause-step c = was_closed (events.Answer c.args.origin c.args.outcome) (rw (← c.self.view_is) c.if-self.true)

pub returns-clause-step : goal.returns-clause-step
returns-clause-step c =
    rw (← c.self.view_is)
    (call_steps (λ _. values.Nothing) (events.Answer c.args.origin c.args.outcome) (state_of c.self.inside.core) (state_of c.answer-done.new.core) (state_of c.end_call.new.core) c.answer-done.result c.new-effects.result.items c.answer-done.new.effects.items c.end_call.result c.new-effects.ensures.items c.if-self.false c.answer-done.ensures c.end_call.ensures)

pub returns-then-self-clause-writable : goal.returns-then-self-clause-writable
returns-then-self-clause-writable c = tt

pub returns-clause-writable : goal.returns-clause-writable
returns-clause-writable c = call_writes (λ _. values.Nothing) (events.Answer c.args.origin c.args.outcome) (state_of c.self.inside.core) (state_of c.answer-done.new.core) (state_of c.end_call.new.core) c.answer-done.result c.new-effects.result.items c.answer-done.new.effects.items c.end_call.result c.new-effects.ensures.items c.self.invariant c.if-self.false c.answer-done.ensures c.end_call.ensures

pub invariant_of-self : goal.invariant_of-self
invariant_of-self c = call_stays (λ _. values.Nothing) (events.Answer c.args.origin c.args.outcome) (state_of c.self.inside.core) (state_of c.answer-done.new.core) (state_of c.end_call.new.core) c.answer-done.result c.new-effects.result.items c.answer-done.new.effects.items c.end_call.result c.new-effects.ensures.items c.self.invariant c.if-self.false c.answer-done.ensures c.end_call.ensures

pub end_call-requires : goal.end_call-requires
end_call-requires c = call_within (λ _. values.Nothing) (events.Answer c.args.origin c.args.outcome) (state_of c.self.inside.core) (state_of c.answer-done.new.core) c.answer-done.result c.new-effects.result.items c.answer-done.new.effects.items c.self.invariant.0 c.if-self.false c.answer-done.ensures

pub answer-done-requires : goal.answer-done-requires
answer-done-requires c = c.self.invariant.0 c.if-self.false
