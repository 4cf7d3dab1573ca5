-- What the caller of a failed call may do, in the words of rpc.capnp's Exception. (rpc.capnp: "Exception".)
use Rattle.cp_frame.specs.declared.fault.FrameFault.TheVariants as frames
use Rattle.cp_reading.specs.declared.fault.TreeFault.TheVariants as trees
use Rattle.cp_tree.specs.declared.fault.WriteFault.TheVariants as writes
use Rattle.cp_messages.specs.declared.fault.SchemaFault.TheVariants as schemas
use Rattle.cp_messages.specs.declared.exception.ExceptionKind.{ExceptionKind}
use Rattle.cp_messages.specs.declared.exception.ExceptionKind.TheVariants as kinds
use Rattle.cp_stream.specs.declared.fault.Refusal.{Refusal}
use Rattle.cp_stream.specs.declared.fault.Refusal.TheVariants as refusals
use Rattle.cp_stream.specs.declared.fault.StreamFault.{StreamFault}
use Rattle.cp_stream.specs.declared.fault.StreamFault.TheVariants as faults

-- there may be memory later, and the same bytes are refused again
abbrev pub kind_of_refusal : Refusal → ExceptionKind
kind_of_refusal (refusals.Frame frames.OutOfMemory) = kinds.Overloaded
kind_of_refusal (refusals.Tree trees.OutOfMemory) = kinds.Overloaded
kind_of_refusal (refusals.Schema schemas.OutOfMemory) = kinds.Overloaded
kind_of_refusal (refusals.Write writes.OutOfMemory) = kinds.Overloaded
kind_of_refusal other = kinds.Failed

-- a device that failed may be opened anew
abbrev pub kind_of : StreamFault → ExceptionKind
kind_of (faults.Refused at refusal) = kind_of_refusal refusal
kind_of (faults.Device error) = kinds.Disconnected
