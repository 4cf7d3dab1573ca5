-- How calls leave a vat. (rpc.capnp: "Call".)
use Rattle.std.specs.Prelude.{ℕ, List, [], ◌∷◌, ◌++◌, flat_map, Option, Some, None}
use Rattle.std.specs.FinMap.{get}
use Rattle.cp_tables.specs.declared.exchange.Exchange.{Exchange}
use Rattle.cp_messages.specs.declared.target.Target.{Target}
use Rattle.cp_messages.specs.declared.target.Target.TheVariants as targets
use Rattle.cp_messages.specs.declared.message.Message.TheVariants as messages
use Rattle.cp_refs.specs.declared.call.Origin.{Origin}
use Rattle.cp_refs.specs.declared.call.Origin.TheVariants as origins
use Rattle.cp_refs.specs.declared.outcome.Outcome.{Outcome}
use Rattle.cp_refs.specs.declared.outcome.Outcome.TheVariants as outcomes
use Rattle.cp_refs.specs.declared.route.Route.{Route}
use Rattle.cp_refs.specs.declared.route.Route.TheVariants as routes
use Rattle.cp_vat_machine.specs.State.{State, Over}
use Rattle.cp_vat_machine.specs.Receiving.{path_of}
use Rattle.cp_vat_machine.specs.Trace.{Cause, goes, Turn}
use Rattle.cp_vat_machine.specs.Ports.{Entry, entry_of}
use Rattle.cp_vat_machine.specs.declared.effect.Effect.{Effect}
use Rattle.cp_vat_machine.specs.declared.effect.Effect.TheVariants as effects
use Rattle.cp_vat_machine.specs.declared.entry.QuestionEntry.{QuestionEntry}

-- An exit: the call with this ticket goes by this route, which isn't to wait.
pub record Exit : Type 0 where
  pub ticket : ℕ
  pub route : Route

abbrev pub to_target : ℕ → Target → List Exit
to_target ticket (targets.ImportedCap i) = record { ticket = ticket; route = routes.Import i } ∷ []
to_target ticket (targets.PromisedAnswer answer) = record { ticket = ticket; route = routes.Pipe answer.question_id (path_of answer.transform) } ∷ []
to_target ticket (targets.Unknown n) = []

-- a Call is sent for the ticket that its question keeps
abbrev pub sent_for : Option ℕ → Target → List Exit
sent_for None target = []
sent_for (Some ticket) target = to_target ticket target

abbrev pub sent_under : Option (Exchange QuestionEntry) → Target → List Exit
sent_under None target = []
sent_under (Some entry) target = sent_for entry.kept.ticket target

-- a Deliver is an exit, and so is a Call that was sent for a ticket
abbrev pub exit_by : State → Effect → List Exit
exit_by s (effects.Deliver k origin ticket request) = record { ticket = ticket; route = routes.Deliver k } ∷ []
exit_by s (effects.Send (messages.Call c)) = sent_under (get s.entries.questions c.question_id) c.target
exit_by s other = []

-- what was given to a call's origin so far in this event
abbrev pub given_to : Over → Origin → Option Outcome
given_to over (origins.Answer a) = get over.answers a
given_to over (origins.Own q) = get over.questions q

-- the call that a turn is about, by its ticket and its origin: the one that enters, or the waiting one that goes
abbrev pub entering : Option Entry → Option (ℕ × Origin)
entering None = None
entering (Some entry) = Some (entry.ticket, entry.origin)

abbrev pub subject_by : Turn → Cause → Option (ℕ × Origin)
subject_by turn (goes call) = Some (call.ticket, call.origin)
subject_by turn other = entering (entry_of turn)

abbrev pub subject_of : Turn → Option (ℕ × Origin)
subject_of turn = subject_by turn turn.cause

-- a failure: its origin is given an exception
abbrev pub failure_by : ℕ → Option Outcome → List Exit
failure_by ticket (Some (outcomes.Failed x)) = record { ticket = ticket; route = routes.Fail x } ∷ []
failure_by ticket other = []

abbrev pub failure_of : Turn → Option (ℕ × Origin) → List Exit
failure_of turn None = []
failure_of turn (Some (ticket, origin)) = failure_by ticket (given_to turn.after.waiting.over origin)

-- a call that was neither delivered nor sent may have failed
abbrev pub or_failure : List Exit → List Exit → List Exit
or_failure [] failure = failure
or_failure (exit ∷ exits) failure = exit ∷ exits

-- the exits of a turn, in the order of its effects
abbrev pub exits_in : Turn → List Exit
exits_in turn = or_failure (flat_map (exit_by turn.after) turn.effects) (failure_of turn (subject_of turn))

-- the exits of all these turns, in order
abbrev pub exits_of : List Turn → List Exit
exits_of [] = []
exits_of (turn ∷ past) = exits_of past ++ exits_in turn
