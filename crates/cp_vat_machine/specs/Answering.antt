-- What a vat does when a Bootstrap, a Call or a Finish comes. (rpc.capnp: "Bootstrap", "Call", "Finish".)
use Rattle.std.specs.Prelude.{◌≡◌, ℕ, ◌+◌, not, ◌&&◌, false, Bool, if◌then◌else◌, List, [], ◌∷◌, ◌++◌, Option, Some, None, is_some, is_none, Result, Ok, Err}
use Rattle.std.specs.FinMap.{get, insert, remove}
use Rattle.cp_tree.specs.Node.{cap}
use Rattle.cp_tables.specs.Exchange.{new_exchange, with_stage}
use Rattle.cp_tables.specs.declared.counted.Counted.{Counted}
use Rattle.cp_tables.specs.declared.exchange.Exchange.{Exchange}
use Rattle.cp_tables.specs.declared.exchange.Stage.{Stage}
use Rattle.cp_tables.specs.declared.exchange.Stage.TheVariants as stages
use Rattle.cp_messages.specs.declared.call.Call.{Call}
use Rattle.cp_messages.specs.declared.small.Finish.{Finish}
use Rattle.cp_messages.specs.declared.target.Target.{Target}
use Rattle.cp_messages.specs.declared.target.Target.TheVariants as targets
use Rattle.cp_refs.specs.At.{cap_at}
use Rattle.cp_refs.specs.declared.cap.Cap.{Cap}
use Rattle.cp_refs.specs.declared.cap.Cap.TheVariants as caps
use Rattle.cp_refs.specs.declared.call.Origin.TheVariants as origins
use Rattle.cp_refs.specs.declared.outcome.Outcome.{Outcome}
use Rattle.cp_refs.specs.declared.outcome.Outcome.TheVariants as outcomes
use Rattle.cp_refs.specs.declared.route.Gate.TheVariants as gates
use Rattle.cp_refs.specs.declared.route.Route.TheVariants as routes
use Rattle.cp_vat_machine.specs.State.{State, with_exports, with_answers}
use Rattle.cp_vat_machine.specs.Then.{Done, Then, fault_if, Unless}
use Rattle.cp_vat_machine.specs.Capacity.{has_capacity, has_ticket}
use Rattle.cp_vat_machine.specs.Receiving.{answer_of, path_of, ReceivesCaps, release_exports}
use Rattle.cp_vat_machine.specs.Give.{GiveAnswer}
use Rattle.cp_vat_machine.specs.Go.{PendingCall, Go, GoTo}
use Rattle.cp_vat_machine.specs.Texts.{no_bootstrap}
use Rattle.cp_vat_machine.specs.declared.entry.AnswerEntry.{AnswerEntry}
use Rattle.cp_vat_machine.specs.declared.fault.PeerFault.{PeerFault}
use Rattle.cp_vat_machine.specs.declared.fault.PeerFault.TheVariants as faults

-- an answer is kept from now on, of a call with this ticket or of a Bootstrap
abbrev pub with_answer : State → ℕ → Option ℕ → State
with_answer s a ticket =
    record s {
      values = record s.values { answers = insert s.values.answers a None };
      entries =
          record s.entries {
            answers = insert s.entries.answers a (new_exchange (record { ticket = ticket; is_delivered = false; mentions = []; tied = [] }));
          };
    }

-- what a Bootstrap is answered with
abbrev pub bootstrap_outcome : Option ℕ → Outcome
bootstrap_outcome (Some k) = outcomes.Results (cap 0) (caps.Object k ∷ [])
bootstrap_outcome None = outcomes.Failed no_bootstrap

-- the answer under this number is kept
abbrev pub is_answering : State → ℕ → Bool
is_answering s a = is_some (get s.entries.answers a)

-- A Bootstrap is answered at once.
abbrev pub OnBootstrap : State → ℕ → Result Done PeerFault → Type 0
OnBootstrap old a out =
    Unless
    (fault_if (is_answering old a) faults.QuestionInUse ++ fault_if (not (has_capacity old.entries.answers)) faults.TableFull)
    (GiveAnswer (with_answer old a None) a (bootstrap_outcome old.bootstrap))
    out

-- a target that the peer may name: an export, or an answer that it hasn't finished
abbrev pub target_faults : State → Target → List PeerFault
target_faults s (targets.ImportedCap e) = fault_if (is_none (get s.counts.exports e)) faults.UnknownExport
target_faults s (targets.PromisedAnswer answer) = fault_if (is_none (answer_of s answer.question_id)) faults.UnknownAnswer
target_faults s (targets.Unknown n) = []

-- a call on an export takes the route of what was exported
abbrev pub GoToExport : State → PendingCall → Option (Counted Cap) → Result Done PeerFault → Type 0
GoToExport old call None out = ⊥
GoToExport old call (Some entry) out = GoTo old call entry.kept out

-- a call on an answer waits until it is given, and takes the route of what it gave at the path
abbrev pub GoToAnswer : State → PendingCall → ℕ → List ℕ → Option (Option Outcome) → Result Done PeerFault → Type 0
GoToAnswer old call a path None out = ⊥
GoToAnswer old call a path (Some None) out = Go old call (routes.Wait (gates.Answer a path)) out
GoToAnswer old call a path (Some (Some outcome)) out = GoTo old call (cap_at outcome path) out

abbrev pub GoToTarget : State → PendingCall → Target → Result Done PeerFault → Type 0
GoToTarget old call (targets.ImportedCap e) out = GoToExport old call (get old.counts.exports e) out
GoToTarget old call (targets.PromisedAnswer answer) out =
    GoToAnswer old call answer.question_id (path_of answer.transform) (answer_of old answer.question_id) out
GoToTarget old call (targets.Unknown n) out = ⊥

-- the peer's call, with what its capability table was taken in as
abbrev pub peer_call : State → Call → List Cap → PendingCall
peer_call s c table =
    record {
      ticket = s.next_ticket;
      origin = origins.Answer c.question_id;
      request = record { interface = c.interface_id; method = c.method_id; content = c.params.content; caps = table };
    }

-- an answer and a ticket for the call
abbrev pub entered : State → ℕ → State
entered s a = record (with_answer s a (Some s.next_ticket)) { next_ticket = s.next_ticket + 1 }

abbrev pub call_faults : State → Call → List PeerFault
call_faults s c =
    fault_if (is_answering s c.question_id) faults.QuestionInUse
    ++ target_faults s c.target
    ++ fault_if (not (has_capacity s.entries.answers && has_ticket s)) faults.TableFull

-- A Call's capability table is taken in, it opens an answer and has the next ticket, and goes by its target's route.
abbrev pub OnCall : State → Call → Result Done PeerFault → Type 0
OnCall old c out =
    Unless
    (call_faults old c)
    (Then (ReceivesCaps old c.params.cap_table) (λ taken. GoToTarget (entered taken.1 c.question_id) (peer_call taken.1 c taken.0) c.target))
    out

-- A Finish of an answer: one that was given is gone, and the exports that its results named are lowered if the peer asks for it. One that
-- isn't given stays until it is.
abbrev pub without_answer : State → ℕ → State
without_answer s a =
    record s {
      values = record s.values { answers = remove s.values.answers a };
      entries = record s.entries { answers = remove s.entries.answers a };
    }

abbrev pub AtStage : State → Finish → AnswerEntry → Stage → Result Done PeerFault → Type 0
AtStage old f kept stages.Open out = out ≡ Ok ([], with_answers old (with_stage old.entries.answers f.question_id stages.Finished))
AtStage old f kept stages.Returned out =
    Then
    (λ exports. exports ≡ (if f.release_result_caps then release_exports old.counts.exports kept.mentions else Ok old.counts.exports))
    (λ exports out. out ≡ Ok ([], without_answer (with_exports old exports) f.question_id))
    out
AtStage old f kept stages.Finished out = out ≡ Err faults.UnknownAnswer

abbrev pub FinishedBy : State → Finish → Option (Exchange AnswerEntry) → Result Done PeerFault → Type 0
FinishedBy old f None out = out ≡ Err faults.UnknownAnswer
FinishedBy old f (Some entry) out = AtStage old f entry.kept entry.stage out

abbrev pub OnFinish : State → Finish → Result Done PeerFault → Type 0
OnFinish old f out = FinishedBy old f (get old.entries.answers f.question_id) out
