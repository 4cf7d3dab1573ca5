-- What the caller of a failed call may do, in the words of rpc.capnp's Exception. (rpc.capnp: "Exception".)
use Rattle.cp_messages.specs.declared.exception.ExceptionKind.{ExceptionKind}
use Rattle.cp_messages.specs.declared.exception.ExceptionKind.TheVariants as kinds
use Rattle.cp_vat_machine.specs.Kinds as vats
use Rattle.cp_connection.specs.declared.fault.ConnectionFault.{ConnectionFault}
use Rattle.cp_connection.specs.declared.fault.ConnectionFault.TheVariants as faults

-- a connection that ended may be made anew, and any other call is refused as the vat says
abbrev pub kind_of : ConnectionFault → ExceptionKind
kind_of (faults.Unreadable at refusal) = kinds.Disconnected
kind_of faults.Closed = kinds.Disconnected
kind_of faults.OutOfMemory = kinds.Overloaded
kind_of (faults.Refused fault) = vats.kind_of fault
