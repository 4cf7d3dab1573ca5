use Rattle.cp_rpc.specs.Viewed.{viewed}
use Rattle.cp_vat_machine.specs.Step.{was_closed}
use Rattle.cp_vat_machine.specs.declared.event.Event.TheVariants as events
use Rattle.cp_vat_state.specs.StateOf.{state_of}
use Rattle.cp_vat.proofs.Lending.{lending_steps, lending_stays, lending_within, lending_writes}
use Rattle.cp_vat.proofs.vat.Vat.receive_lending.Goals as goal

pub returns-then-self-clause-step : goal.returns-then-self-clause-step
returns-then-self-clause-step c = was_closed (events.Receive (viewed c.args.message)) (rw (← c.self.view_is) c.if-self.true)

pub returns-clause-step : goal.returns-clause-step
returns-clause-step c =
    rw (← c.self.view_is)
    (lending_steps (viewed c.args.message) (state_of c.self.inside.core) (state_of c.receive_lending-done.new.core) (state_of c.end_lending.new.core) c.receive_lending-done.result c.new-effects.result.items c.receive_lending-done.new.effects.items c.end_lending.result c.new-effects.ensures.items c.if-self.false c.receive_lending-done.ensures c.end_lending.ensures)

pub returns-then-self-clause-writable : goal.returns-then-self-clause-writable
returns-then-self-clause-writable c = tt

pub returns-clause-writable : goal.returns-clause-writable
returns-clause-writable c = lending_writes (viewed c.args.message) (state_of c.self.inside.core) (state_of c.receive_lending-done.new.core) (state_of c.end_lending.new.core) c.receive_lending-done.result c.new-effects.result.items c.receive_lending-done.new.effects.items c.end_lending.result c.new-effects.ensures.items c.self.invariant c.if-self.false c.receive_lending-done.ensures c.end_lending.ensures

pub invariant_of-self : goal.invariant_of-self
invariant_of-self c = lending_stays (viewed c.args.message) (state_of c.self.inside.core) (state_of c.receive_lending-done.new.core) (state_of c.end_lending.new.core) c.receive_lending-done.result c.new-effects.result.items c.receive_lending-done.new.effects.items c.end_lending.result c.new-effects.ensures.items c.self.invariant c.if-self.false c.receive_lending-done.ensures c.end_lending.ensures

pub end_lending-requires : goal.end_lending-requires
end_lending-requires c =
    lending_within (viewed c.args.message) (state_of c.self.inside.core) (state_of c.receive_lending-done.new.core) c.receive_lending-done.result c.new-effects.result.items c.receive_lending-done.new.effects.items c.self.invariant.0 c.if-self.false c.receive_lending-done.ensures

pub receive_lending-done-requires : goal.receive_lending-done-requires
receive_lending-done-requires c = c.self.invariant.0 c.if-self.false
