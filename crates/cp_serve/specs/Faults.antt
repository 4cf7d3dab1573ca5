-- What a fault of a connection is to a server.
use Rattle.cp_stream.specs.declared.fault.StreamFault.TheVariants as streams
use Rattle.cp_connection.specs.declared.fault.ConnectionFault.{ConnectionFault}
use Rattle.cp_connection.specs.declared.fault.ConnectionFault.TheVariants as connections
use Rattle.cp_serve.specs.declared.fault.ServeFault.{ServeFault}
use Rattle.cp_serve.specs.declared.fault.ServeFault.TheVariants as faults

-- Bytes that can't be read are the stream's fault. An open connection meets no other fault but that memory ran out.
abbrev pub fault_of : ConnectionFault → ServeFault
fault_of (connections.Unreadable at refusal) = faults.Stream (streams.Refused at refusal)
fault_of other = faults.OutOfMemory
