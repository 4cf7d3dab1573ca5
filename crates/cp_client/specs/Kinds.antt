-- What the caller of a failed call may do, in the words of rpc.capnp's Exception. (rpc.capnp: "Exception".)
use Rattle.cp_messages.specs.declared.exception.ExceptionKind.{ExceptionKind}
use Rattle.cp_messages.specs.declared.exception.ExceptionKind.TheVariants as kinds
use Rattle.cp_connection.specs.Kinds as connections
use Rattle.cp_client.specs.declared.fault.ClientFault.{ClientFault}
use Rattle.cp_client.specs.declared.fault.ClientFault.TheVariants as faults

-- a peer whose messages end, or whose device fails, may be connected to anew
abbrev pub kind_of : ClientFault → ExceptionKind
kind_of (faults.Device error) = kinds.Disconnected
kind_of faults.Ended = kinds.Disconnected
kind_of faults.NotAsked = kinds.Failed
kind_of faults.TooLong = kinds.Failed
kind_of faults.OtherSession = kinds.Failed
kind_of (faults.Connection fault) = connections.kind_of fault
