-- What goes to a peer for what a method did of a call.
use Rattle.std.specs.Prelude.{◌≡◌, ℕ, List, if◌then◌else◌, Option, Some, None, Result, Ok, Err, IfSome}
use Rattle.cp_tree.specs.Node.{Node}
use Rattle.cp_messages.specs.declared.exception.Exception.{Exception}
use Rattle.cp_refs.specs.declared.cap.Cap.{Cap}
use Rattle.cp_refs.specs.declared.outcome.Outcome.{Outcome}
use Rattle.cp_refs.specs.declared.outcome.Outcome.TheVariants as outcomes
use Rattle.cp_servants.specs.declared.servant.Reply.{Reply}
use Rattle.cp_servants.specs.declared.servant.Reply.TheVariants as replies
use Rattle.cp_objects.specs.Context.{ContextState, answering}
use Rattle.cp_objects.specs.declared.later.LaterCall.{LaterCall}
use Rattle.cp_objects.specs.declared.reference_error.ReferenceError.{ReferenceError}
use Rattle.cp_objects.specs.declared.reference_error.ReferenceError.TheVariants as errors
use Rattle.cp_interfaces.specs.declared.fault.MethodFault.{MethodFault}
use Rattle.cp_interfaces.specs.Dispatch.{Method}
use Rattle.cp_interfaces.specs.Replies.{exception_for, given_up, of_reference, refusal_of}
use Rattle.cp_interfaces.specs.Tables.{Named, are_of}
use Rattle.cp_interfaces.specs.declared.service_call.ServiceCall.{ServiceCall}

-- the outcome of a call of this session with these results; none if they name capabilities of another
abbrev pub outcome_for : ℕ → Node → Named → Result Outcome ReferenceError
outcome_for session content table = if are_of session table.session then Ok (outcomes.Results content table.caps) else Err errors.OtherSession

-- what goes to the peer for these results, or for what is wrong with them
abbrev pub reply_with : List Cap → List ℕ → Result Outcome ReferenceError → Option Reply
reply_with named keeps (Ok outcome) = Some (replies.Now outcome (given_up keeps named))
reply_with named keeps (Err fault) = refusal_of named (of_reference fault)

-- What goes to the peer for a call that its method left so, and returned this. Nothing where memory ran out.
abbrev pub reply_for : {P R : Type 0} → (R → Node) → (R → Named) → List Cap → ServiceCall P R → Result (Unit {0}) MethodFault → Option Reply
reply_for content names named call (Ok done) =
    if call.is_later then Some replies.Later else reply_with named call.keeps.items (outcome_for call.of.now.session (content call.results) (names call.results))
reply_for content names named call (Err fault) = refusal_of named fault

-- A method left a call so, and returned this: its relation holds of what goes to the peer for that. Nothing is said where memory ran out.
abbrev pub Answers : {S P R : Type 0} → (P → Node) → (R → Node) → (R → Named) → Method S
    → S → ServiceCall P R → ServiceCall P R → Result (Unit {0}) MethodFault → S → Type 0
Answers params content names method old before after done new =
    IfSome (reply_for content names before.of.now.request.caps after done) (λ reply. method old before.of.now (params before.params) reply new)

-- a call that is answered later comes to these results
abbrev pub answered : {M : Type 0} → LaterCall → Node → Named → ContextState M → ContextState M
answered call content table place = answering call (outcomes.Results content table.caps) place

-- it fails with an exception, if there is one
abbrev pub failed_with : {M : Type 0} → LaterCall → Option Exception → ContextState M → Option (ContextState M)
failed_with call None place = None
failed_with call (Some exception) place = Some (answering call (outcomes.Failed exception) place)

-- It fails with the exception of this fault.
abbrev pub IsFailed : {M : Type 0} → LaterCall → MethodFault → ContextState M → ContextState M → Type 0
IsFailed call fault old new = failed_with call (exception_for fault) old ≡ Some new
