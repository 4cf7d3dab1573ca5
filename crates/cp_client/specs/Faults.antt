-- Faults of drafts, as faults of a client.
use Rattle.cp_builder.specs.declared.fault.BuildError.{BuildError}
use Rattle.cp_builder.specs.declared.fault.BuildError.TheVariants as drafts
use Rattle.cp_connection.specs.declared.fault.ConnectionFault.TheVariants.{OutOfMemory}
use Rattle.cp_interfaces.specs.declared.naming_error.NamingError.{NamingError}
use Rattle.cp_interfaces.specs.declared.naming_error.NamingError.TheVariants as naming_errors
use Rattle.cp_client.specs.declared.fault.ClientFault.{ClientFault}
use Rattle.cp_client.specs.declared.fault.ClientFault.TheVariants as client_faults

-- why params aren't named
abbrev pub of_naming : NamingError → ClientFault
of_naming naming_errors.TooLong = client_faults.TooLong
of_naming naming_errors.OtherSession = client_faults.OtherSession
of_naming naming_errors.OutOfMemory = client_faults.Connection OutOfMemory

-- what is too long for a message, or that memory ran out, which a client says as its connection does
abbrev pub of_draft : BuildError → ClientFault
of_draft drafts.TooLong = client_faults.TooLong
of_draft drafts.OutOfMemory = client_faults.Connection OutOfMemory
