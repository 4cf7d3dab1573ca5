-- What the caller of a failed call may do, in the words of rpc.capnp's Exception. (rpc.capnp: "Exception".)
use Rattle.cp_messages.specs.declared.exception.ExceptionKind.{ExceptionKind}
use Rattle.cp_messages.specs.declared.exception.ExceptionKind.TheVariants as kinds
use Rattle.cp_vat_machine.specs.declared.fault.VatFault.{VatFault}
use Rattle.cp_vat_machine.specs.declared.fault.VatFault.TheVariants as faults

-- more room may be there later, and a closed vat's peer may be connected to anew
abbrev pub kind_of : VatFault → ExceptionKind
kind_of faults.Full = kinds.Overloaded
kind_of faults.OutOfMemory = kinds.Overloaded
kind_of faults.Closed = kinds.Disconnected
kind_of other = kinds.Failed
