-- How a client takes what its peer sent.
use Rattle.std.specs.Prelude.{◌≡◌, ◌≢◌, ◌⊎◌, ℕ, Bool, true, false, [], drop, Some, None}
use Rattle.std.specs.Io.KnownBytes.{Consumes, IsAtEnd}
use Rattle.cp_connection.specs.declared.fault.ConnectionFault.{ConnectionFault}
use Rattle.cp_objects.specs.ObjectTable.{ObjectTableKind}
use Rattle.cp_session.specs.Doing.{EndsBytes, EndsCut, IsUntaken, MayTake, Receives, fault_of}
use Rattle.cp_session.specs.Progress.{IsDraining}
use Rattle.cp_session.specs.State.{State}
use Rattle.cp_client.specs.declared.fault.ClientFault.{ClientFault}
use Rattle.cp_client.specs.declared.fault.ClientFault.TheVariants as client_faults
use Rattle.cp_client.specs.Conversation.{Conversation}
use Rattle.cp_client.specs.Devices.{IsUnread}

module _ {H : Type 0} where
  -- bytes of the peer are taken, or dropped
  abbrev pub TakesBytes : State H → Type 0
  TakesBytes session = IsDraining session.progress.phase ⊎ MayTake session

  -- bytes of the peer are taken, and there was no fault
  pub record IsOpen (session : State H) : Type 0 where
    pub no_fault : fault_of session ≡ None
    pub takes : TakesBytes session

  -- why no byte more is taken: there was a fault; or there was none, and the peer's bytes ended
  pub data IsClosed (session : State H) (fault : ClientFault) : Type 0 where
    by_fault : (f : ConnectionFault) → fault_of session ≡ Some f → fault ≡ client_faults.Connection f → IsClosed session fault
    by_end : fault_of session ≡ None → (TakesBytes session → ⊥) → fault ≡ client_faults.Ended → IsClosed session fault

  -- a piece was read
  pub record ReadsPiece (old new : Conversation H) : Type 0 where
    pub none_left : old.left ≡ []
    pub consumed : Consumes old.from.bytes new.from.bytes new.left
    pub none_failed : new.from.failures ≡ old.from.failures
    pub same : new ≡ record old { left = new.left; from = new.from }

  -- There are bytes: some were left, or a piece was read. Or there is none: the reader is at its end.
  pub data Reads (old : Conversation H) (some : Bool) (new : Conversation H) : Type 0 where
    has_some : old.left ≢ [] → some ≡ true → new ≡ old → Reads old some new
    reads : ReadsPiece old new → some ≡ true → new.left ≢ [] → Reads old some new
    has_none : ReadsPiece old new → some ≡ false → new.left ≡ [] → IsAtEnd new.from.bytes → Reads old some new

  -- why no piece is read, where none is left: a call of the reader failed; or memory ran out
  pub record ReadFailed (old : Conversation H) (fault : ClientFault) (new : Conversation H) : Type 0 where
    pub none_left : old.left ≡ []
    pub unread : IsUnread fault old.from new.from
    pub same : new ≡ record old { from = new.from }

-- Of objects of one table.
module _ {H : Type 0} (table : ObjectTableKind H) where
  -- The bytes that were read are given to the session, which takes some of them; or it takes none for a fault of its own.
  pub data Takes (old new : Conversation H) : Type 0 where
    takes : (count : ℕ) → Receives table old.session old.left 0 count new.session → new ≡ record old { session = new.session; left = drop count old.left } → Takes old new
    refuses : (fault : ConnectionFault) → IsUntaken table old.session old.left 0 fault new.session → new ≡ record old { session = new.session } → Takes old new

  -- The session is told that the peer's bytes ended: well, or with a fault of its own.
  pub record Ends (old new : Conversation H) : Type 0 where
    pub ends : EndsBytes table old.session 0 new.session ⊎ ((fault : ConnectionFault) × EndsCut table old.session 0 fault new.session)
    pub same : new ≡ record old { session = new.session }

  -- bytes of the peer were taken, up to the end of a message, or of those that were read; or they ended
  pub data GoesOn (old new : Conversation H) : Type 0 where
    goes_on : (mid : Conversation H) → IsOpen old.session → Reads old true mid → Takes mid new → GoesOn old new
    ends : (mid : Conversation H) → IsOpen old.session → Reads old false mid → Ends mid new → GoesOn old new

-- why none was: the session takes none, or none was read
pub data Halts {H : Type 0} (old : Conversation H) (fault : ClientFault) (new : Conversation H) : Type 0 where
  closed : IsClosed old.session fault → new ≡ old → Halts old fault new
  unread : IsOpen old.session → ReadFailed old fault new → Halts old fault new
