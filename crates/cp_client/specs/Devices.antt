-- The devices of a client.
use Rattle.std.specs.Prelude.{◌≡◌, ℕ, List, Option}
use Rattle.std.specs.Io.KnownBytes.{Keeps}
use Rattle.cp_connection.specs.declared.fault.ConnectionFault.TheVariants as faults
use Rattle.cp_stream.specs.Read.{FailedOnce}
use Rattle.cp_stream.specs.Tap.{inner_of, failures_of}
use Rattle.cp_stream.specs.declared.tap.Tap.{Tap}
use Rattle.cp_client.specs.declared.fault.ClientFault.{ClientFault}
use Rattle.cp_client.specs.declared.fault.ClientFault.TheVariants as client_faults

-- A reader or a writer, by its bytes where they are known and by how many of its calls failed.
pub record Device : Type 0 where
  pub bytes : Option (List ℕ)
  pub failures : ℕ

-- the device after a tap
abbrev pub device : {T : Type 0} → (T → Option (List ℕ)) → Tap T → Device
device known tap = record { bytes = known (inner_of tap); failures = failures_of tap }

-- a device of which no call failed
abbrev pub fresh : Option (List ℕ) → Device
fresh bytes = record { bytes = bytes; failures = 0 }

-- the most bytes that a buffer holds that is kept for later pieces: 64 KiB
abbrev pub most_kept : ℕ
most_kept = 65536

-- why nothing was read: a call of the reader failed, or memory ran out
abbrev pub IsUnread : ClientFault → Device → Device → Type 0
IsUnread (client_faults.Device error) old new = FailedOnce old.failures new.failures × Keeps old.bytes new.bytes
IsUnread (client_faults.Connection faults.OutOfMemory) old new = new ≡ old
IsUnread fault old new = ⊥
