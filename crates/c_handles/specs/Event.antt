-- What happened on a connection, as numbers.
use Rattle.std.specs.Prelude.{◌≡◌, ℕ, Bool, true, false, if◌then◌else◌, List, [], length, Option, None, Some}
use Rattle.cp_tree.specs.Node.{Node}
use Rattle.cp_messages.specs.Written.{kind_number}
use Rattle.cp_refs.specs.declared.cap.Cap.{Cap}
use Rattle.cp_refs.specs.declared.call.Origin.{Origin}
use Rattle.cp_refs.specs.declared.call.Origin.TheVariants as origins
use Rattle.cp_refs.specs.declared.outcome.Outcome.{Outcome}
use Rattle.cp_refs.specs.declared.outcome.Outcome.TheVariants as outcomes
use Rattle.cp_vat_machine.specs.declared.effect.Reason.{Reason}
use Rattle.cp_vat_machine.specs.declared.effect.Reason.TheVariants as reasons
use Rattle.cp_vat_machine.specs.declared.fault.PeerFault.{PeerFault}
use Rattle.cp_vat_machine.specs.declared.fault.PeerFault.TheVariants as peers
use Rattle.cp_connection.specs.declared.event.ConnectionEvent.{ConnectionEvent}
use Rattle.cp_connection.specs.declared.event.ConnectionEvent.TheVariants as happenings
use Rattle.c_handles.specs.declared.event.OriginNumbers.{OriginNumbers}
use Rattle.c_handles.specs.declared.event.EventNumbers.{EventNumbers}

-- whom an answer is for
abbrev pub origin_numbers : Origin → OriginNumbers
origin_numbers (origins.Answer number) = record { is_own = false; number = number }
origin_numbers (origins.Own number) = record { is_own = true; number = number }

abbrev pub origin_of : OriginNumbers → Origin
origin_of n = if n.is_own then origins.Own n.number else origins.Answer n.number

-- nothing happened
abbrev pub nothing : EventNumbers
nothing = record {
  kind = 0;
  object = 0;
  origin = record { is_own = false; number = 0 };
  ticket = 0;
  interface = 0;
  method = 0;
  question = 0;
  outcome = 0;
  exception = 0;
  caps = 0;
}

-- n of the fault Pn
abbrev pub fault_number : PeerFault → ℕ
fault_number peers.QuestionInUse = 1
fault_number peers.UnknownQuestion = 2
fault_number peers.UnknownAnswer = 3
fault_number peers.UnknownExport = 4
fault_number peers.ReleaseTooLarge = 5
fault_number peers.NotAnOpenPromise = 6
fault_number peers.DisembargoTarget = 7
fault_number peers.UnknownEmbargo = 8
fault_number peers.PayloadTooLarge = 9
fault_number peers.TableFull = 10
fault_number peers.EchoTooLarge = 11
fault_number peers.PeerLacksLevelOne = 12

-- what a question came to
abbrev pub outcome_numbers : Outcome → EventNumbers
outcome_numbers (outcomes.Results content table) = record nothing { caps = length table }
outcome_numbers (outcomes.Failed exception) = record nothing { outcome = 1; exception = kind_number exception.kind }
outcome_numbers outcomes.Canceled = record nothing { outcome = 2 }

-- why a connection is closing
abbrev pub closing_numbers : Reason → EventNumbers
closing_numbers (reasons.Peer exception) = record nothing { kind = 3; exception = kind_number exception.kind }
closing_numbers (reasons.Fault fault) = record nothing { kind = 3; outcome = fault_number fault }

-- the numbers of what happened
abbrev pub numbers_of : Option ConnectionEvent → EventNumbers
numbers_of None = nothing
numbers_of (Some (happenings.Delivered object origin ticket call)) =
    record nothing { kind = 1; object = object; origin = origin_numbers origin; ticket = ticket; interface = call.interface; method = call.method; caps = length call.caps }
numbers_of (Some (happenings.Settled question outcome)) = record (outcome_numbers outcome) { kind = 2; question = question }
numbers_of (Some (happenings.Closed reason)) = closing_numbers reason

-- the content of an event's params or results
abbrev pub content_of : Option ConnectionEvent → Option Node
content_of (Some (happenings.Delivered object origin ticket call)) = Some call.content
content_of (Some (happenings.Settled question (outcomes.Results content table))) = Some content
content_of other = None

-- their capability table
abbrev pub table_of : Option ConnectionEvent → List Cap
table_of (Some (happenings.Delivered object origin ticket call)) = call.caps
table_of (Some (happenings.Settled question (outcomes.Results content table))) = table
table_of other = []

-- the reason of an event's exception: that of a question, or that of the peer's Abort
abbrev pub reason_of : Option ConnectionEvent → Option (List ℕ)
reason_of (Some (happenings.Settled question (outcomes.Failed exception))) = Some exception.reason
reason_of (Some (happenings.Closed (reasons.Peer exception))) = Some exception.reason
reason_of other = None
