-- How a client writes.
use Rattle.std.specs.Prelude.{◌≡◌, ℕ, [], take}
use Rattle.std.specs.Io.KnownBytes.{Appends}
use Rattle.cp_objects.specs.ObjectTable.{ObjectTableKind}
use Rattle.cp_session.specs.Doing.{Writes}
use Rattle.cp_session.specs.State.{link_of}
use Rattle.cp_stream.specs.Read.{FailedOnce}
use Rattle.cp_stream.specs.declared.device.DeviceError.{DeviceError}
use Rattle.cp_client.specs.declared.fault.ClientFault.{ClientFault}
use Rattle.cp_client.specs.declared.fault.ClientFault.TheVariants as client_faults
use Rattle.cp_client.specs.Conversation.{Conversation}

module _ {H : Type 0} where
  -- A call of the writer failed, with this fault. No byte was written by it.
  pub record WriteFailed (old : Conversation H) (fault : ClientFault) (new : Conversation H) : Type 0 where
    pub error : DeviceError
    pub is : fault ≡ client_faults.Device error
    pub failed : FailedOnce old.to.failures new.to.failures
    pub appended : Appends old.to.bytes new.to.bytes []
    pub same : new ≡ record old { to = new.to }

  -- the writer was flushed, of which its contract says that it took no byte, and no call of it failed
  pub record FlushesWriter (old new : Conversation H) : Type 0 where
    pub none_failed : new.to.failures ≡ old.to.failures
    pub appended : Appends old.to.bytes new.to.bytes []
    pub same : new ≡ record old { to = new.to }

-- Of objects of one table.
module _ {H : Type 0} (table : ObjectTableKind H) where
  -- the writer took this many of the bytes that wait to be written, and the session was told so
  pub record WritesSome (old : Conversation H) (count : ℕ) (new : Conversation H) : Type 0 where
    pub writes : Writes table old.session count 0 new.session
    pub appended : Appends old.to.bytes new.to.bytes (take count (link_of old.session).unwritten)
    pub none_failed : new.to.failures ≡ old.to.failures
    pub same : new ≡ record old { session = new.session; to = new.to }

  -- bytes were written, some after others
  pub data WritesOn (old : Conversation H) : Conversation H → Type 0 where
    begins : WritesOn old old
    goes_on : {mid new : Conversation H} (count : ℕ) → WritesOn old mid → WritesSome mid count new → WritesOn old new

  -- All that was to go out was written, and then the writer was flushed. Nothing else was done.
  pub record Flushes (old new : Conversation H) : Type 0 where
    pub written : Conversation H
    pub writes : WritesOn old written
    pub all_written : (link_of written.session).unwritten ≡ []
    pub flushes : FlushesWriter written new

  -- Some was written, and then a call of the writer failed.
  pub record WritesPart (old : Conversation H) (fault : ClientFault) (new : Conversation H) : Type 0 where
    pub written : Conversation H
    pub writes : WritesOn old written
    pub fails : WriteFailed written fault new
