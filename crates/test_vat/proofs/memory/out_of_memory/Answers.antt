use Rattle.std.specs.Prelude.{refl, None}
use Rattle.cp_vat_machine.specs.State.{State, new_state}
use Rattle.cp_vat_machine.specs.Resolving.{closed}
use Rattle.cp_vat_machine.specs.Step.{ran_out, was_closed}
use Rattle.cp_vat_machine.specs.declared.event.Event.TheVariants as events
use Rattle.test_vat.proofs.memory.out_of_memory.Goals as goal

pub returns : goal.returns
returns c = let last : State = closed (new_state None) in (last, (last, ran_out events.Promise refl refl, (last, was_closed events.Idle refl, refl)))
