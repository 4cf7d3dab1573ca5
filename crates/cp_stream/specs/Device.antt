-- What is kept of an error of a device.
use Rattle.std.specs.Prelude.{None}
use Rattle.std.specs.IoError.{error_kind, raw_os_error}
use Rattle.std.specs.declared.io.Error.{Error}
use Rattle.std.specs.declared.io.ErrorKind.{ErrorKind}
use Rattle.cp_stream.specs.declared.device.DeviceError.{DeviceError}

-- an error's kind, and its number
abbrev pub of_error : Error → DeviceError
of_error error = record { kind = error_kind error; code = raw_os_error error }

-- a kind, of which the system has no number
abbrev pub of_kind : ErrorKind → DeviceError
of_kind kind = record { kind = kind; code = None }
