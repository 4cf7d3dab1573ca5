-- What a call of the application does. (rpc.capnp: "Call", "Disembargo".)
use Rattle.std.specs.Prelude.{◌≡◌, ℕ, ◌+◌, ltb, not, ◌&&◌, true, false, Bool, cond, List, [], ◌∷◌, ◌++◌, Option, Some, None, Result, Ok, Err}
use Rattle.std.specs.List.{list_any, list_all}
use Rattle.std.specs.FinMap.{get, insert, len}
use Rattle.cp_tables.specs.Exchange.{new_exchange}
use Rattle.cp_messages.specs.declared.target.Target.{Target}
use Rattle.cp_messages.specs.declared.target.Target.TheVariants as targets
use Rattle.cp_messages.specs.declared.disembargo.DisembargoContext.TheVariants as contexts
use Rattle.cp_messages.specs.declared.message.Message.TheVariants as messages
use Rattle.cp_refs.specs.At.{cap_at}
use Rattle.cp_refs.specs.Values.{ValueMaps}
use Rattle.cp_refs.specs.declared.cap.Cap.{Cap}
use Rattle.cp_refs.specs.declared.cap.Cap.TheVariants as caps
use Rattle.cp_refs.specs.declared.call.Origin.TheVariants as origins
use Rattle.cp_refs.specs.declared.call.Request.{Request}
use Rattle.cp_refs.specs.declared.outcome.Outcome.{Outcome}
use Rattle.cp_refs.specs.declared.route.Gate.TheVariants as gates
use Rattle.cp_refs.specs.declared.route.Route.TheVariants as routes
use Rattle.cp_refs.specs.declared.values.QuestionState.{QuestionState}
use Rattle.cp_refs.specs.declared.values.QuestionKind.{QuestionKind}
use Rattle.cp_refs.specs.declared.values.QuestionKind.TheVariants as kinds
use Rattle.cp_vat_machine.specs.State.{State}
use Rattle.cp_vat_machine.specs.Then.{Done, Then, fault_if, Unless, OrFull}
use Rattle.cp_vat_machine.specs.Capacity.{has_capacity, has_ticket, Fresh, cap_fits, request_fits}
use Rattle.cp_vat_machine.specs.Writing.{promised}
use Rattle.cp_vat_machine.specs.Go.{PendingCall, held_at, Go, GoTo}
use Rattle.cp_vat_machine.specs.InUse.{has_question, has_promise, has_import, is_local_path}
use Rattle.cp_vat_machine.specs.declared.effect.Effect.{Effect}
use Rattle.cp_vat_machine.specs.declared.effect.Effect.TheVariants as effects
use Rattle.cp_vat_machine.specs.declared.event.Value.{Value}
use Rattle.cp_vat_machine.specs.declared.event.Value.TheVariants as values
use Rattle.cp_vat_machine.specs.declared.fault.PeerFault.{PeerFault}
use Rattle.cp_vat_machine.specs.declared.fault.PeerFault.TheVariants as faults
use Rattle.cp_vat_machine.specs.declared.fault.VatFault.{VatFault}
use Rattle.cp_vat_machine.specs.declared.fault.VatFault.TheVariants as refusals

-- What a call of the application names: an import or a question's path is a reference, which is open on the wire or came to something. Anything
-- else is called as it is, also the path of an open local question.
pub data Standing : Type 0 where
  plain : Standing
  on_wire : Standing
  came_to : Cap → Standing

abbrev pub import_reference : Option (Option Cap) → Standing
import_reference (Some None) = on_wire
import_reference (Some (Some value)) = came_to value
import_reference None = plain

abbrev pub path_reference : List ℕ → QuestionKind → Option Outcome → Standing
path_reference path kinds.Wire None = on_wire
path_reference path kinds.Local None = plain
path_reference path kind (Some outcome) = came_to (cap_at outcome path)

abbrev pub question_reference : List ℕ → Option QuestionState → Standing
question_reference path None = plain
question_reference path (Some question) = path_reference path question.kind question.outcome

abbrev pub reference_of : ValueMaps → Cap → Standing
reference_of values (caps.Import i) = import_reference (get values.imports i)
reference_of values (caps.Pipelined q path) = question_reference path (get values.questions q)
reference_of values other = plain

-- a question of the application's, with the next ticket
abbrev pub asked : State → ℕ → QuestionKind → Option ℕ → Bool → State
asked s q kind ticket is_sent =
    record s {
      values = record s.values { questions = insert s.values.questions q (record { kind = kind; outcome = None }) };
      entries =
          record s.entries {
            questions =
                insert s.entries.questions q (new_exchange (record { forwards = None; ticket = ticket; is_sent = is_sent; is_delivered = false; mentions = [] }));
          };
    }

abbrev pub called : State → ℕ → QuestionKind → State
called s q kind = record (asked s q kind (Some s.next_ticket) false) { next_ticket = s.next_ticket + 1 }

-- the application's call
abbrev pub own_call : State → ℕ → Request → PendingCall
own_call s q request = record { ticket = s.next_ticket; origin = origins.Own q; request = request }

-- the mark of a reference, and its embargo
abbrev pub mark_of : State → Cap → Option (Option ℕ)
mark_of s (caps.Import i) = get s.marks.imports i
mark_of s (caps.Pipelined q path) = get s.marks.paths (q ∷ path)
mark_of s other = None

-- the reference is marked, with its embargo or none
abbrev pub with_mark : State → Cap → Option ℕ → State
with_mark s (caps.Import i) embargo = record s { marks = record s.marks { imports = insert s.marks.imports i embargo } }
with_mark s (caps.Pipelined q path) embargo = record s { marks = record s.marks { paths = insert s.marks.paths (q ∷ path) embargo } }
with_mark s other embargo = s

-- the mark of an import fits, and so do 65,536 marked paths
abbrev pub has_mark_capacity : State → Cap → Bool
has_mark_capacity s (caps.Pipelined q path) = ltb (len s.marks.paths) 65536
has_mark_capacity s other = true

-- a reference that is called is marked from then on
abbrev pub marked : State → Cap → Option (Option ℕ) → Result State PeerFault
marked s cap (Some embargo) = Ok s
marked s cap None = cond (has_mark_capacity s cap) (Ok (with_mark s cap None)) (Err faults.TableFull)

-- the reference as the peer knows it (a reference is an import or a question's path)
abbrev pub old_target : Cap → Target
old_target (caps.Pipelined q path) = targets.PromisedAnswer (promised q path)
old_target (caps.Import i) = targets.ImportedCap i
old_target other = targets.ImportedCap 0

abbrev pub disembargo_of : ℕ → Cap → Effect
disembargo_of n cap = effects.Send (messages.Disembargo (record { context = contexts.SenderLoopback n; target = old_target cap }))

-- The call is the first after those that were sent on the reference: a Disembargo follows them, and the call waits for its echo.
abbrev pub FirstEmbargoed : State → PendingCall → Cap → Cap → Result Done PeerFault → Type 0
FirstEmbargoed old call cap value out =
    Then
    (Fresh old.marks.embargoes)
    (λ n out.
    out
    ≡ Ok (
      disembargo_of n cap ∷ [],
      held_at
          (with_mark (record old { marks = record old.marks { embargoes = insert old.marks.embargoes n value } }) cap (Some n))
          call
          (gates.Embargo n),
    ))
    out

-- A reference came to something of this end. Unmarked, its value's route is taken; marked, calls wait until those that were sent on it came back.
abbrev pub GoBack : State → PendingCall → Cap → Cap → Option (Option ℕ) → Result Done PeerFault → Type 0
GoBack old call cap value None out = GoTo old call value out
GoBack old call cap value (Some None) out = FirstEmbargoed old call cap value out
GoBack old call cap value (Some (Some n)) out = Go old call (routes.Wait (gates.Embargo n)) out

-- A reference that came to this: the value of an import goes to the peer, null and what fails fail, an object and a promise are of this end.
abbrev pub GoByValue : State → ℕ → Request → Cap → Cap → Result Done PeerFault → Type 0
GoByValue old q request cap (caps.Import j) out = Go (called old q kinds.Wire) (own_call old q request) (routes.Import j) out
GoByValue old q request cap (caps.Object k) out =
    GoBack (called old q kinds.Local) (own_call old q request) cap (caps.Object k) (mark_of old cap) out
GoByValue old q request cap (caps.Promise p) out =
    GoBack (called old q kinds.Local) (own_call old q request) cap (caps.Promise p) (mark_of old cap) out
GoByValue old q request cap value out = GoTo (called old q kinds.Local) (own_call old q request) value out

-- The application's call. One on a reference that is open on the wire is sent, and marks it.
abbrev pub GoFrom : State → ℕ → Request → Cap → Standing → Result Done PeerFault → Type 0
GoFrom old q request cap plain out = GoTo (called old q kinds.Local) (own_call old q request) cap out
GoFrom old q request cap on_wire out =
    Then (λ mid. mid ≡ marked (called old q kinds.Wire) cap (mark_of old cap)) (λ mid. GoTo mid (own_call old q request) cap) out
GoFrom old q request cap (came_to value) out = GoByValue old q request cap value out

-- what a call of the application does: its value, its effects and the state that it leaves
abbrev pub OwnDone : Type 0
OwnDone = Value × List Effect × State

-- the call opens a question under any number that is free, and goes
abbrev pub Opens : State → Cap → Request → Result OwnDone PeerFault → Type 0
Opens old cap request out =
    Then
    (Fresh old.entries.questions)
    (λ q.
    Then (GoFrom old q request cap (reference_of old.values cap)) (λ done out. out ≡ Ok (values.Question q, done.0, done.1)))
    out

-- a test that doesn't hold of all
abbrev pub not_all : (Cap → Bool) → List Cap → Bool
not_all test table = not (list_all test table)

-- what a call is refused for, before full tables on its route are looked at
abbrev pub call_refusals : State → Cap → Request → List VatFault
call_refusals s cap request =
    fault_if (not_all (has_question s) (cap ∷ request.caps)) refusals.UnknownQuestion
    ++ fault_if (not_all (has_promise s) (cap ∷ request.caps)) refusals.UnknownPromise
    ++ fault_if (list_any (is_local_path s) request.caps) refusals.Unsettled
    ++ fault_if (not (cap_fits cap && request_fits request)) refusals.TooLarge
    ++ fault_if (not (has_capacity s.entries.questions && has_ticket s)) refusals.Full
    ++ fault_if (not_all (has_import s) (cap ∷ request.caps)) refusals.UnknownImport

abbrev pub DoCall : State → Cap → Request → Result OwnDone VatFault → Type 0
DoCall old cap request out = Unless (call_refusals old cap request) (OrFull (Opens old cap request)) out
