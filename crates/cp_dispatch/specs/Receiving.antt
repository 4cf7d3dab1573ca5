-- What bytes of the peer do to a connection and its objects.
use Rattle.std.specs.Prelude.{◌≡◌, ◌↔◌, ℕ, Bool, true, List, Option, Some, None}
use Rattle.cp_frame.specs.Reader.{taken_of}
use Rattle.cp_vat.specs.declared.borrowed_call.BorrowedCall.{BorrowedCall}
use Rattle.cp_connection.specs.declared.fault.ConnectionFault.{ConnectionFault}
use Rattle.cp_connection.specs.declared.fault.ConnectionFault.TheVariants as faults
use Rattle.cp_connection.specs.declared.event.ConnectionEvent.{ConnectionEvent}
use Rattle.cp_connection.specs.declared.event.ConnectionEvent.TheVariants as happenings
use Rattle.cp_connection.specs.Finishing.{ReceivesNaming}
use Rattle.cp_connection.specs.Lending.{delivered}
use Rattle.cp_connection.specs.Link.{Link}
use Rattle.cp_connection.specs.Receiving as connection
use Rattle.cp_objects.specs.ObjectTable.{ObjectTableKind}
use Rattle.cp_servants.specs.Requests.{request_of}
use Rattle.cp_dispatch.specs.declared.incoming.IncomingCall.{IncomingCall}
use Rattle.cp_dispatch.specs.Rounds.{Handles, WorksOff}
use Rattle.cp_dispatch.specs.Canceling.{Cancels, answer_given_up}
use Rattle.cp_dispatch.specs.Work.{Work, Lives}

-- a call that comes, as one that was delivered
abbrev pub delivered_by : IncomingCall → ConnectionEvent
delivered_by call = happenings.Delivered call.object call.origin call.ticket (request_of call.request)

module _ {H : Type 0} (table : ObjectTableKind H) where
  -- The connection took the first bytes of a piece, and it is said whether a frame ended with them. What then happened was worked off. Where the message was a
  -- Finish of an answer that is owed, its object was told. Nothing else was done with the connection.
  abbrev pub Receives : Work → List ℕ → ℕ → Bool → Work → H → H → Type 0
  Receives old piece count has_ended new objects others =
      (link : Link) × (finished : Option ℕ) × (mid : Work) × (between : H) × ReceivesNaming old.link piece count finished link
      × ((has_ended ≡ true) ↔ (taken_of link.reading ≡ 0)) × WorksOff table (record old { link = link }) mid objects between
      × Cancels table (answer_given_up finished) mid new between others × Lives link new.link

  -- a call that is lent is done as one that was delivered, if there is one
  abbrev pub HandlesLent : Option BorrowedCall → Work → Work → H → H → Type 0
  HandlesLent (Some lent) old new objects others = Handles table (delivered lent) old new objects others
  HandlesLent None old new objects others = (new ≡ old) × (others ≡ objects)

-- Why a piece isn't taken to the end of a message and what follows of it: it isn't received, and no object was called; or memory ran out for what follows.
pub data IsCutShort {H : Type 0} (old : Link) (piece : List ℕ) (fault : ConnectionFault) (new : Link) (objects others : H) : Type 0 where
  is_unreceived : (taken : List ℕ) → connection.IsUnreceived old piece taken fault new → others ≡ objects → IsCutShort old piece fault new objects others
  ran_out : (count : ℕ) (mid : Link) → connection.Receives old piece count mid → Lives mid new → fault ≡ faults.OutOfMemory → IsCutShort old piece fault new objects others
