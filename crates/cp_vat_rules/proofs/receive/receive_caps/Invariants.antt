use Rattle.std.proofs.Common.{drop, List, Result}
use Rattle.cp_refs.specs.declared.cap.Cap.{Cap}
use Rattle.cp_vat_machine.specs.State.{State}
use Rattle.cp_vat_machine.specs.Receiving.{ReceivesCaps}
use Rattle.cp_vat_machine.specs.declared.fault.PeerFault.{PeerFault}
use Rattle.cp_vat_state.specs.StateOf.{state_of}
use Rattle.cp_vat_rules.proofs.Saying.{before}
use Rattle.cp_vat_rules.proofs.receive.receive_caps.Given as goal

-- what the rest gives after what was taken in, the whole table gives
abbrev pub invariant-loop-descriptor : goal.invariant-loop-descriptor
invariant-loop-descriptor l =
    (out : Result (List Cap × State) PeerFault) → ReceivesCaps (state_of l.core) (drop l.descriptor-index l.table) out → ReceivesCaps (state_of l.initial.core) l.table (before l.caps.items out)
