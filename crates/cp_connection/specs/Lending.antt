-- Calls of the peer that are lent out of their frames.
use Rattle.std.specs.Prelude.{◌≡◌, ℕ, List, Option, Some, None, Ok}
use Rattle.cp_vat_machine.specs.declared.event.Event.{Event}
use Rattle.cp_vat_machine.specs.declared.event.Value.TheVariants as values
use Rattle.cp_vat.specs.Lending.{asked_by}
use Rattle.cp_vat.specs.declared.borrowed_call.BorrowedCall.{BorrowedCall}
use Rattle.cp_connection.specs.declared.event.ConnectionEvent.{ConnectionEvent}
use Rattle.cp_connection.specs.declared.event.ConnectionEvent.TheVariants as happenings
use Rattle.cp_connection.specs.Link.{Link}
use Rattle.cp_connection.specs.Doing.{Does}
use Rattle.cp_connection.specs.Finishing.{ReceivesNaming}
use Rattle.cp_connection.specs.Receiving.{HandsOut}

-- a call that is lent is delivered
abbrev pub delivered : BorrowedCall → ConnectionEvent
delivered lent = happenings.Delivered lent.object lent.origin lent.ticket (asked_by lent)

-- If a call is lent, it is handed out: it happened first of what wasn't taken.
abbrev pub HandsLent : Link → Option BorrowedCall → Link → Type 0
HandsLent old (Some lent) new = HandsOut old (Some (delivered lent)) new
HandsLent old None new = new ≡ old

-- bytes were taken, as they are where nothing is lent, and then the call that is lent is handed out, if there is one
abbrev pub ReceivesLending : Link → List ℕ → ℕ → Option BorrowedCall → Option ℕ → Link → Type 0
ReceivesLending old piece count lent finished new = (mid : Link) × ReceivesNaming old piece count finished mid × HandsLent mid lent new

-- The vat did an event, and then the call that is lent is handed out, if there is one. No public clause names this.
abbrev pub DoesLending : Link → Event → Option BorrowedCall → Link → Type 0
DoesLending old event lent new = (mid : Link) × Does old event (Ok values.Nothing) mid × HandsLent mid lent new
