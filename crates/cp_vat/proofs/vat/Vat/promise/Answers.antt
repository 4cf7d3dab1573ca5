use Rattle.std.proofs.Common.{refl, []}
use Rattle.cp_vat_machine.specs.Step.{was_closed}
use Rattle.cp_vat_machine.specs.declared.event.Event.TheVariants as events
use Rattle.cp_vat_machine.specs.declared.event.Value.TheVariants as values
use Rattle.cp_vat_state.specs.StateOf.{state_of}
use Rattle.cp_vat.proofs.Stepping.{call_steps, call_stays, call_within, call_writes}
use Rattle.cp_vat.proofs.vat.Vat.promise.Goals as goal

pub returns-then-self-clause-step : goal.returns-then-self-clause-step
returns-then-self-clause-step c = was_closed events.Promise (rw (← c.self.view_is) c.if-self.true)

pub returns-clause-step : goal.returns-clause-step
returns-clause-step c =
    rw (← c.self.view_is)
    (call_steps (λ p. values.Promise p) events.Promise (state_of c.self.inside.core) (state_of c.promise-done.new.core) (state_of c.end_call.new.core) c.promise-done.result [] [] c.end_call.result refl c.if-self.false c.promise-done.ensures (rw c.new-effects.ensures.items at c.end_call.ensures))

pub returns-then-self-clause-writable : goal.returns-then-self-clause-writable
returns-then-self-clause-writable c = tt

pub returns-clause-writable : goal.returns-clause-writable
returns-clause-writable c = call_writes (λ p. values.Promise p) events.Promise (state_of c.self.inside.core) (state_of c.promise-done.new.core) (state_of c.end_call.new.core) c.promise-done.result [] [] c.end_call.result refl c.self.invariant c.if-self.false c.promise-done.ensures (rw c.new-effects.ensures.items at c.end_call.ensures)

pub invariant_of-self : goal.invariant_of-self
invariant_of-self c = call_stays (λ p. values.Promise p) events.Promise (state_of c.self.inside.core) (state_of c.promise-done.new.core) (state_of c.end_call.new.core) c.promise-done.result [] [] c.end_call.result refl c.self.invariant c.if-self.false c.promise-done.ensures (rw c.new-effects.ensures.items at c.end_call.ensures)

pub end_call-requires : goal.end_call-requires
end_call-requires c = call_within (λ p. values.Promise p) events.Promise (state_of c.self.inside.core) (state_of c.promise-done.new.core) c.promise-done.result [] [] c.self.invariant.0 c.if-self.false c.promise-done.ensures
