-- Faults of a connection, as C has them.
use Rattle.std.specs.Prelude.{Result, Ok, Err}
use Rattle.cp_vat_machine.specs.declared.fault.VatFault.TheVariants as vats
use Rattle.cp_connection.specs.declared.fault.ConnectionFault.{ConnectionFault}
use Rattle.cp_connection.specs.declared.fault.ConnectionFault.TheVariants as connections
use Rattle.cp_frame.specs.declared.fault.FrameFault.TheVariants as frames
use Rattle.cp_stream.specs.declared.fault.Refusal.TheVariants as refusals
use Rattle.c_handles.specs.declared.code.CallFault.{CallFault}
use Rattle.c_handles.specs.declared.code.CallFault.TheVariants as faults

-- the fault of a connection
abbrev pub fault_of : ConnectionFault → CallFault
fault_of (connections.Unreadable at refusal) = faults.Refused refusal
fault_of connections.Closed = faults.Ended
fault_of connections.OutOfMemory = faults.Vat vats.OutOfMemory
fault_of (connections.Refused fault) = faults.Vat fault

-- F6: memory ran out
abbrev pub no_memory : CallFault
no_memory = faults.Refused (refusals.Frame frames.OutOfMemory)

module _ {A : Type 0} where
  -- what a call gives, its fault as C has it
  abbrev pub told : Result A ConnectionFault → Result A CallFault
  told (Ok x) = Ok x
  told (Err fault) = Err (fault_of fault)
