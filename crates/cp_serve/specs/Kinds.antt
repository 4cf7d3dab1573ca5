-- What the caller of a failed call may do, in the words of rpc.capnp's Exception. (rpc.capnp: "Exception".)
use Rattle.cp_messages.specs.declared.exception.ExceptionKind.{ExceptionKind}
use Rattle.cp_messages.specs.declared.exception.ExceptionKind.TheVariants as kinds
use Rattle.cp_stream.specs.Kinds as streams
use Rattle.cp_serve.specs.declared.fault.ServeFault.{ServeFault}
use Rattle.cp_serve.specs.declared.fault.ServeFault.TheVariants as faults

-- as the stream says, and there may be memory later
abbrev pub kind_of : ServeFault → ExceptionKind
kind_of (faults.Stream fault) = streams.kind_of fault
kind_of faults.OutOfMemory = kinds.Overloaded
