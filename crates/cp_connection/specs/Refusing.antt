-- What a refusal of a vat is to a connection.
use Rattle.cp_vat_machine.specs.declared.fault.VatFault.{VatFault}
use Rattle.cp_vat_machine.specs.declared.fault.VatFault.TheVariants as refusals
use Rattle.cp_connection.specs.declared.fault.ConnectionFault.{ConnectionFault}
use Rattle.cp_connection.specs.declared.fault.ConnectionFault.TheVariants as faults

-- an allocation failure ends the connection, and anything else refuses the call
abbrev pub refusal_of : VatFault → ConnectionFault
refusal_of refusals.OutOfMemory = faults.OutOfMemory
refusal_of fault = faults.Refused fault
