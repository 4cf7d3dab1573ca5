-- The calls on a reference that are under way between two vats. (rpc.capnp: "Call", "Resolve", "Disembargo".)
use Rattle.std.specs.Prelude.{◌≡◌, ◌⊎◌, ℕ, ◌==◌, Bool, true, false, List, [], ◌∷◌, ◌++◌, flat_map, filter, Option, Some, None, IfSome, IsTrue}
use Rattle.std.specs.List.{list_any, AllByRecursion}
use Rattle.std.specs.FinMap.{get}
use Rattle.cp_messages.specs.declared.target.Target.TheVariants as targets
use Rattle.cp_messages.specs.declared.descriptor.Descriptor.{Descriptor}
use Rattle.cp_messages.specs.declared.descriptor.Descriptor.TheVariants as descriptors
use Rattle.cp_messages.specs.declared.message.Message.{Message}
use Rattle.cp_messages.specs.declared.message.Message.TheVariants as messages
use Rattle.cp_refs.specs.Route.{Routes}
use Rattle.cp_refs.specs.declared.cap.Cap.{Cap}
use Rattle.cp_refs.specs.declared.cap.Cap.TheVariants as caps
use Rattle.cp_refs.specs.declared.call.WaitingCall.{WaitingCall}
use Rattle.cp_refs.specs.declared.call.Origin.{Origin}
use Rattle.cp_refs.specs.declared.call.Origin.TheVariants as origins
use Rattle.cp_refs.specs.declared.outcome.Outcome.{Outcome}
use Rattle.cp_refs.specs.declared.route.Gate.{Gate}
use Rattle.cp_refs.specs.declared.route.Gate.TheVariants as gates
use Rattle.cp_refs.specs.declared.route.Route.TheVariants as routes
use Rattle.cp_vat_machine.specs.State.{State, gave}
use Rattle.cp_vat_machine.specs.InUse.{waiting_calls, is_question_here}
use Rattle.cp_vat_machine.specs.Writing.{ResolvesTo, IsExport}
use Rattle.cp_vat_machine.specs.Calling.{mark_of, on_wire, came_to, reference_of, old_target}
use Rattle.cp_vat_machine.specs.Calling as calling
use Rattle.cp_vat_pair_laws.specs.Ledger.{opens}
use Rattle.cp_vat_pair_laws.specs.Accounts.{is_finish_noted}
use Rattle.cp_vat_pair_laws.specs.VatPair.{End}
use Rattle.cp_vat_pair_laws.specs.Lane.{Reference, import_, path_to, cap_of, CameTo, own_ticket, stands_for, is_among, Delivery, tickets_of}
use Rattle.cp_vat_pair_laws.specs.Naming.{path_returned, resolved_as, place_of, is_loop, is_echo}

-- the made tickets among these
abbrev pub of_lane : List ℕ → List ℕ → List ℕ
of_lane made tickets = filter (λ ticket. is_among ticket made) tickets

-- the own calls that messages bear: a Call there, and one that comes back forwarded
abbrev pub sent_for : State → Message → List ℕ
sent_for here (messages.Call c) = own_ticket (get here.entries.questions c.question_id)
sent_for here other = []

abbrev pub forwarded_for : State → State → Message → List ℕ
forwarded_for here there (messages.Call c) = stands_for here there c.question_id
forwarded_for here there other = []

-- the own calls that waiting calls are: those that wait there, and those that wait here
abbrev pub waits_for : State → Origin → List ℕ
waits_for here (origins.Answer a) = own_ticket (get here.entries.questions a)
waits_for here (origins.Own q) = []

abbrev pub waits_as : WaitingCall → Origin → List ℕ
waits_as call (origins.Own q) = call.ticket ∷ []
waits_as call (origins.Answer a) = []

-- the own call that a waiting call of the peer's stands for
abbrev pub stands_as : State → State → Origin → List ℕ
stands_as here there (origins.Answer a) = stands_for here there a
stands_as here there (origins.Own q) = []

-- What is under way of the calls made on a reference, each list in order: on the way back, waiting at the other vat, on the way there, waiting here.
abbrev pub back : End → End → List ℕ → List ℕ
back here there made = of_lane made (flat_map (forwarded_for here.vat there.vat) here.inbox)

abbrev pub waits : End → End → List ℕ → List ℕ
waits here there made = of_lane made (flat_map (λ call. waits_for here.vat call.origin) (waiting_calls there.vat))

abbrev pub on_way : End → End → List ℕ → List ℕ
on_way here there made = of_lane made (flat_map (sent_for here.vat) there.inbox)

abbrev pub waits_here : End → List ℕ → List ℕ
waits_here here made = of_lane made (flat_map (λ call. waits_as call call.origin) (waiting_calls here.vat))

-- Made is what was delivered, then what is on the way back, waits there, is on the way there, and waits here.
abbrev pub IsWhole : End → End → List ℕ → List Delivery → Type 0
IsWhole here there made delivered =
    made ≡ tickets_of delivered ++ back here there made ++ waits here there made ++ on_way here there made ++ waits_here here made

-- the calls of a lane that these messages bear, there and back
abbrev pub sent_in : State → List ℕ → List Message → List ℕ
sent_in here made messages = of_lane made (flat_map (sent_for here) messages)

abbrev pub back_in : State → State → List ℕ → List Message → List ℕ
back_in here there made messages = of_lane made (flat_map (forwarded_for here there) messages)

-- Each of its calls that waits there, or here, is at such a gate.
abbrev pub AllWait : End → End → List ℕ → (Gate → Type 0) → Type 0
AllWait here there made At =
    (ticket : ℕ) (call : WaitingCall) → get there.vat.waiting.calls ticket ≡ Some call → of_lane made (waits_for here.vat call.origin) ≡ [] ⊎ At call.gate

abbrev pub AllWaitHere : End → List ℕ → (Gate → Type 0) → Type 0
AllWaitHere here made At =
    (ticket : ℕ) (call : WaitingCall) → get here.vat.waiting.calls ticket ≡ Some call → of_lane made (waits_as call call.origin) ≡ [] ⊎ At call.gate

-- No waiting call of the peer's stands for one of them: those that come back are delivered at once.
abbrev pub NoneHeld : End → End → List ℕ → Type 0
NoneHeld here there made =
    (ticket : ℕ) (call : WaitingCall) → get here.vat.waiting.calls ticket ≡ Some call → of_lane made (stands_as here.vat there.vat call.origin) ≡ []

-- a gate that is over, and leads to this import; or gave this object
abbrev pub LeadsBack : State → ℕ → Gate → Type 0
LeadsBack s e gate = (cap : Cap) × (gave s.waiting.over gate ≡ Some cap) × Routes s.values cap (routes.Import e)

abbrev pub GaveObject : State → ℕ → Gate → Type 0
GaveObject s k gate = gave s.waiting.over gate ≡ Some (caps.Object k)

-- Calls on the way back go to this export.
abbrev pub GoesTo : ℕ → Message → Type 0
GoesTo e (messages.Call c) = c.target ≡ targets.ImportedCap e
GoesTo e other = ⊥

abbrev pub GoBackTo : End → End → List ℕ → ℕ → Type 0
GoBackTo here there made e = AllByRecursion (λ m. of_lane made (forwarded_for here.vat there.vat m) ≡ [] ⊎ GoesTo e m) here.inbox

-- Calls on the way there have the reference's own target.
abbrev pub HasTarget : Reference → Message → Type 0
HasTarget ref (messages.Call c) = c.target ≡ old_target (cap_of ref)
HasTarget ref other = ⊥

abbrev pub HaveTarget : End → End → Reference → List ℕ → Type 0
HaveTarget here there ref made = AllByRecursion (λ m. of_lane made (sent_for here.vat m) ≡ [] ⊎ HasTarget ref m) there.inbox

-- Calls were delivered at the object that the reference came to, and none before it came to one.
abbrev pub AreDelivered : calling.Standing → List Delivery → Type 0
AreDelivered (came_to (caps.Object k)) delivered = AllByRecursion (λ delivery. delivery.object ≡ k) delivered
AreDelivered other delivered = delivered ≡ []

-- The only message of a kind on the way, with those before it and those after it.
pub record IsOnly (inbox : List Message) (is : Message → Bool) (before : List Message) (m : Message) (after : List Message) : Type 0 where
  pub all : inbox ≡ before ++ m ∷ after
  pub it : is m ≡ true
  pub none_before : list_any is before ≡ false
  pub none_after : list_any is after ≡ false

-- a message that opens a reference there, and one that reports what it came to
abbrev pub opens_place : Reference → Message → Bool
opens_place (import_ i) m = false
opens_place (path_to q path) m = opens q m

abbrev pub tells : Reference → Message → Bool
tells (import_ i) (messages.Resolve r) = r.promise_id == i
tells (path_to q path) (messages.Return r) = r.answer_id == q
tells ref other = false

abbrev pub told_by : Reference → Message → Option Descriptor
told_by (import_ i) (messages.Resolve r) = resolved_as r.resolution
told_by (path_to q path) (messages.Return r) = path_returned path r.returned
told_by ref other = None

-- the gate of the place that the other vat has for a reference, while it is open
abbrev pub IsOpenPlace : State → Reference → Gate → Type 0
IsOpenPlace there (import_ i) gate = (p : ℕ) × IsExport there i (caps.Promise p) × (get there.values.promises p ≡ Some None) × (gate ≡ gates.Promise p)
IsOpenPlace there (path_to q path) gate = (get there.values.answers q ≡ Some None) × (gate ≡ gates.Answer q path)

-- the place was settled
abbrev pub IsClosedPlace : State → Reference → Type 0
IsClosedPlace there (import_ i) = (p : ℕ) × (value : Cap) × IsExport there i (caps.Promise p) × (get there.values.promises p ≡ Some (Some value))
IsClosedPlace there (path_to q path) = (outcome : Outcome) × (get there.values.answers q ≡ Some (Some outcome))

-- the place comes to this import of the other vat
abbrev pub EndsAt : State → Option Cap → ℕ → Type 0
EndsAt there None e = ⊥
EndsAt there (Some place) e = ResolvesTo there.values place (caps.Import e)

-- There is no such reference yet, nor a place for it.
abbrev pub IsAbsent : State → State → Reference → Type 0
IsAbsent here there (import_ i) = (get here.values.imports i ≡ None) × (get there.counts.exports i ≡ None)
IsAbsent here there (path_to q path) = get here.values.questions q ≡ None

-- It came to nothing yet: it is open on the wire, or an import that isn't held and on which no call was made.
abbrev pub IsUnheld : State → Reference → List ℕ → Type 0
IsUnheld s (import_ i) made = (get s.values.imports i ≡ None) × (made ≡ [])
IsUnheld s (path_to q path) made = ⊥

abbrev pub IsYet : State → Reference → List ℕ → Type 0
IsYet s ref made = (reference_of s.values (cap_of ref) ≡ on_wire) ⊎ IsUnheld s ref made

-- it is marked exactly if calls were made on it
abbrev pub IsMarkedIf : List ℕ → Option (Option ℕ) → Type 0
IsMarkedIf [] mark = mark ≡ None
IsMarkedIf (ticket ∷ made) mark = mark ≡ Some None

-- a path of a local question that is open, with its gate
abbrev pub IsLocalOpen : State → Reference → Gate → Type 0
IsLocalOpen s (import_ i) gate = ⊥
IsLocalOpen s (path_to q path) gate = IsTrue (is_question_here (get s.values.questions q)) × (gate ≡ gates.Question q path)

-- The vat has no such reference, and no call was made.
pub record Absent (here there : End) (ref : Reference) (made : List ℕ) : Type 0 where
  pub none : IsAbsent here.vat there.vat ref
  pub unmade : made ≡ []

-- Its question's Call or Bootstrap is on the way: all are after that.
pub record Unopened (here there : End) (ref : Reference) (made : List ℕ) : Type 0 where
  pub open_ : reference_of here.vat.values (cap_of ref) ≡ on_wire
  pub before : List Message
  pub opening : Message
  pub after : List Message
  pub only : IsOnly there.inbox (opens_place ref) before opening after
  pub sent_after : sent_in here.vat made (before ++ opening ∷ []) ≡ []
  pub mark : IsMarkedIf made (mark_of here.vat (cap_of ref))
  pub untold : list_any (tells ref) here.inbox ≡ false
  pub no_back : back here there made ≡ []
  pub no_waits : waits here there made ≡ []
  pub none_here : waits_here here made ≡ []

-- Its place is open: they wait there at the place's own gate, and then are on the way there.
pub record Unsettled (here there : End) (ref : Reference) (made : List ℕ) : Type 0 where
  pub yet : IsYet here.vat ref made
  pub gate : Gate
  pub open_ : IsOpenPlace there.vat ref gate
  pub waiting : AllWait here there made (λ g. g ≡ gate)
  pub mark : IsMarkedIf made (mark_of here.vat (cap_of ref))
  pub untold : list_any (tells ref) here.inbox ≡ false
  pub no_back : back here there made ≡ []
  pub none_here : waits_here here made ≡ []

-- A Return or a Resolve on the way reports an object of its vat: those on the way back are after it and go to that export, as those go that wait there.
pub record Told (here there : End) (ref : Reference) (made : List ℕ) : Type 0 where
  pub yet : IsYet here.vat ref made
  pub object : ℕ
  pub number : ℕ
  pub is_export : IsExport here.vat number (caps.Object object)
  pub ends : EndsAt there.vat (place_of there.vat ref) number
  pub before : List Message
  pub telling : Message
  pub after : List Message
  pub only : IsOnly here.inbox (tells ref) before telling after
  pub says : told_by ref telling ≡ Some (descriptors.ReceiverHosted number)
  pub back_after : back_in here.vat there.vat made before ≡ []
  pub goes_back : GoBackTo here there made number
  pub waiting : AllWait here there made (LeadsBack there.vat number)
  pub mark : IsMarkedIf made (mark_of here.vat (cap_of ref))
  pub none_here : waits_here here made ≡ []

-- It came to an object of its vat and isn't marked: nothing is under way, but for calls here whose gate gave that object.
pub record Free (here there : End) (ref : Reference) (made : List ℕ) : Type 0 where
  pub object : ℕ
  pub came : CameTo here.vat ref (caps.Object object)
  pub mark : mark_of here.vat (cap_of ref) ≡ None
  pub no_back : back here there made ≡ []
  pub no_waits : waits here there made ≡ []
  pub no_way : on_way here there made ≡ []
  pub waiting : AllWaitHere here made (GaveObject here.vat object)

-- It came to an object whose export is the number at which the other vat's place ends, and calls on the way back go to that export.
pub record ComesBack (here there : End) (ref : Reference) (made : List ℕ) : Type 0 where
  pub object : ℕ
  pub number : ℕ
  pub came : CameTo here.vat ref (caps.Object object)
  pub is_export : IsExport here.vat number (caps.Object object)
  pub ends : EndsAt there.vat (place_of there.vat ref) number
  pub goes_back : GoBackTo here there made number
  pub no_waits : waits here there made ≡ []

-- It is marked: nothing waits.
pub record Marked (here there : End) (ref : Reference) (made : List ℕ) : Type 0 where
  pub comes : ComesBack here there ref made
  pub mark : mark_of here.vat (cap_of ref) ≡ Some None
  pub none_here : waits_here here made ≡ []

-- Its Disembargo is on the way there: the others wait here, and after it there is none.
pub record Embargoed (here there : End) (ref : Reference) (made : List ℕ) : Type 0 where
  pub comes : ComesBack here there ref made
  pub embargo : ℕ
  pub mark : mark_of here.vat (cap_of ref) ≡ Some (Some embargo)
  pub before : List Message
  pub loop : Message
  pub after : List Message
  pub only : IsOnly there.inbox (is_loop embargo) before loop after
  pub sent_before : sent_in here.vat made after ≡ []
  pub no_echo : list_any (is_echo embargo) here.inbox ≡ false
  pub waiting : AllWaitHere here made (λ g. g ≡ gates.Embargo embargo)

-- Its echo is on the way back: none is on the way there, and none after the echo.
pub record Echoed (here there : End) (ref : Reference) (made : List ℕ) : Type 0 where
  pub comes : ComesBack here there ref made
  pub embargo : ℕ
  pub mark : mark_of here.vat (cap_of ref) ≡ Some (Some embargo)
  pub before : List Message
  pub echo : Message
  pub after : List Message
  pub only : IsOnly here.inbox (is_echo embargo) before echo after
  pub back_before : back_in here.vat there.vat made after ≡ []
  pub no_loop : list_any (is_loop embargo) there.inbox ≡ false
  pub no_way : on_way here there made ≡ []
  pub waiting : AllWaitHere here made (λ g. g ≡ gates.Embargo embargo)

-- A path of a local question that is open: all wait here at the question.
pub record LocalOpen (here there : End) (ref : Reference) (made : List ℕ) : Type 0 where
  pub gate : Gate
  pub open_ : IsLocalOpen here.vat ref gate
  pub waiting : AllWaitHere here made (λ g. g ≡ gate)
  pub no_back : back here there made ≡ []
  pub no_waits : waits here there made ≡ []
  pub no_way : on_way here there made ≡ []

pub data Phase (here there : End) (ref : Reference) (made : List ℕ) : Type 0 where
  absent : Absent here there ref made → Phase here there ref made
  unopened : Unopened here there ref made → Phase here there ref made
  unsettled : Unsettled here there ref made → Phase here there ref made
  told : Told here there ref made → Phase here there ref made
  free : Free here there ref made → Phase here there ref made
  marked : Marked here there ref made → Phase here there ref made
  embargoed : Embargoed here there ref made → Phase here there ref made
  echoed : Echoed here there ref made → Phase here there ref made
  local_open : LocalOpen here there ref made → Phase here there ref made

-- It came to something else than an object of its vat.
abbrev pub IsObject : Cap → Type 0
IsObject (caps.Object k) = Unit {0}
IsObject other = ⊥

abbrev pub CameToOther : State → Reference → Type 0
CameToOther s ref = (value : Cap) × CameTo s ref value × (IsObject value → ⊥)

-- It came to nothing yet, its place was settled, and the message on the way that reports it reports something else.
abbrev pub IsOther : State → Option Descriptor → Type 0
IsOther s (Some (descriptors.ReceiverHosted e)) = (cap : Cap) × IsExport s e cap × (IsObject cap → ⊥)
IsOther s other = Unit {0}

pub record ToldOther (here there : End) (ref : Reference) (made : List ℕ) : Type 0 where
  pub yet : IsYet here.vat ref made
  pub closed : IsClosedPlace there.vat ref
  pub before : List Message
  pub telling : Message
  pub after : List Message
  pub only : IsOnly here.inbox (tells ref) before telling after
  pub says : IsOther here.vat (told_by ref telling)

-- It came to nothing yet, and is an object of the other vat's, which no message reports to be anything else.
abbrev pub IsHostedThere : State → Reference → Type 0
IsHostedThere there (import_ i) = (k : ℕ) × IsExport there i (caps.Object k)
IsHostedThere there (path_to q path) = ⊥

pub record HostedThere (here there : End) (ref : Reference) (made : List ℕ) : Type 0 where
  pub yet : IsYet here.vat ref made
  pub hosted : IsHostedThere there.vat ref
  pub untold : list_any (tells ref) here.inbox ≡ false

-- Either is so from then on.
pub data IsElsewhere (here there : End) (ref : Reference) (made : List ℕ) : Type 0 where
  came_to_other : CameToOther here.vat ref → IsElsewhere here there ref made
  told_other : ToldOther here there ref made → IsElsewhere here there ref made
  hosted_there : HostedThere here there ref made → IsElsewhere here there ref made

-- The calls made on a reference are whole, under way as its phase says, and delivered where it leads.
pub record InLane (here there : End) (ref : Reference) (made : List ℕ) (delivered : List Delivery) : Type 0 where
  pub whole : IsWhole here there made delivered
  pub targets : HaveTarget here there ref made
  pub none_held : NoneHeld here there made
  pub delivered_ : AreDelivered (reference_of here.vat.values (cap_of ref)) delivered
  pub phase : Phase here there ref made

-- What holds of the calls made and delivered on a reference, where nothing is finished or released: they are whole, each by its phase, or the
-- reference is elsewhere.
abbrev pub LaneHolds : End → End → Reference → List ℕ → List Delivery → Type 0
LaneHolds here there ref made delivered = IsElsewhere here there ref made ⊎ InLane here there ref made delivered

-- What holds of an end where no application finishes, releases or forgets: no question is finished before its Return, and no message to it releases or gives up.
abbrev pub gives_up : Message → Bool
gives_up (messages.Release r) = true
gives_up (messages.Finish f) = f.release_result_caps
gives_up other = false

pub record IsQuiet (here : End) : Type 0 where
  pub questions : (q : ℕ) → IfSome (get here.vat.entries.questions q) (λ entry. is_finish_noted entry.stage ≡ false)
  pub inbox : list_any gives_up here.inbox ≡ false
