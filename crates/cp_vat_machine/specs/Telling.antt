-- What is given in a turn, and how it is reported. (rpc.capnp: "Return", "Finish", "CapDescriptor".)
-- An outcome is reported in the very turn in which it is given. A promise that is settled later is still named as a promise there.
use Rattle.std.specs.Prelude.{◌≡◌, ◌⊎◌, ℕ, zero, suc, Bool, true, false, List, [], ◌∷◌, filter, Option, Some, None}
use Rattle.std.specs.List.{Contains, AllZip}
use Rattle.std.specs.FinMap.{get}
use Rattle.cp_tables.specs.declared.exchange.Exchange.{Exchange}
use Rattle.cp_tables.specs.declared.exchange.Stage.{Stage}
use Rattle.cp_tables.specs.declared.exchange.Stage.TheVariants as stages
use Rattle.cp_messages.specs.declared.descriptor.Descriptor.{Descriptor}
use Rattle.cp_messages.specs.declared.descriptor.Descriptor.TheVariants as descriptors
use Rattle.cp_messages.specs.declared.exception.Exception.{Exception}
use Rattle.cp_messages.specs.declared.message.Message.{Message}
use Rattle.cp_messages.specs.declared.message.Message.TheVariants as messages
use Rattle.cp_messages.specs.declared.returned.Return.{Return}
use Rattle.cp_messages.specs.declared.returned.Returned.{Returned}
use Rattle.cp_messages.specs.declared.returned.Returned.TheVariants as returns
use Rattle.cp_refs.specs.At.{cap_at}
use Rattle.cp_refs.specs.Route.{Way, ends, leads, missing, way}
use Rattle.cp_refs.specs.Values.{ValueMaps}
use Rattle.cp_refs.specs.declared.cap.Cap.{Cap}
use Rattle.cp_refs.specs.declared.cap.Cap.TheVariants as caps
use Rattle.cp_refs.specs.declared.call.Origin.{Origin}
use Rattle.cp_refs.specs.declared.call.Origin.TheVariants as origins
use Rattle.cp_refs.specs.declared.outcome.Outcome.{Outcome}
use Rattle.cp_refs.specs.declared.outcome.Outcome.TheVariants as outcomes
use Rattle.cp_refs.specs.declared.route.Route.{Route}
use Rattle.cp_refs.specs.declared.route.Route.TheVariants as routes
use Rattle.cp_vat_machine.specs.Writing.{IsExport, promised}
use Rattle.cp_vat_machine.specs.Receiving.{path_of, answer_of}
use Rattle.cp_vat_machine.specs.Give.{return_of}
use Rattle.cp_vat_machine.specs.Supported.{is_supported}
use Rattle.cp_vat_machine.specs.Answering.{bootstrap_outcome}
use Rattle.cp_vat_machine.specs.Doing.{is_settled}
use Rattle.cp_vat_machine.specs.Trace.{Cause, own_part, Turn}
use Rattle.cp_vat_machine.specs.Exits.{Exit, exits_in, subject_of}
use Rattle.cp_vat_machine.specs.declared.effect.Effect.{Effect}
use Rattle.cp_vat_machine.specs.declared.effect.Effect.TheVariants as effects
use Rattle.cp_vat_machine.specs.declared.entry.AnswerEntry.{AnswerEntry}
use Rattle.cp_vat_machine.specs.declared.entry.QuestionEntry.{QuestionEntry}
use Rattle.cp_vat_machine.specs.declared.event.Event.TheVariants as events

-- finished, and without its outcome
abbrev pub is_finished : Stage → Bool
is_finished stages.Finished = true
is_finished other = false

-- an outcome, and whom it is given to
pub record Fulfillment : Type 0 where
  pub origin : Origin
  pub outcome : Outcome

-- A receiverAnswer of an answer that wasn't given is a new promise, which is tied to it while it is open.
abbrev pub IsNewPromise : Turn → ℕ → List ℕ → ℕ → Type 0
IsNewPromise turn a path p =
    (get turn.before.values.promises p ≡ None)
    × (get turn.after.values.promises p ≡ Some None
    → (entry : Exchange AnswerEntry) × (get turn.after.entries.answers a ≡ Some entry) × Contains entry.kept.tied (record { promise = p; path = path }))

abbrev pub TakenAnswer : Turn → ℕ → List ℕ → Option (Option Outcome) → Cap → Type 0
TakenAnswer turn a path None cap = ⊥
TakenAnswer turn a path (Some (Some outcome)) cap = cap ≡ cap_at outcome path
TakenAnswer turn a path (Some None) cap = (p : ℕ) × (cap ≡ caps.Promise p) × IsNewPromise turn a path p

-- the capability that a descriptor of the peer's is taken in as
abbrev pub TakenAs : Turn → Descriptor → Cap → Type 0
TakenAs turn descriptors.None cap = cap ≡ caps.None
TakenAs turn (descriptors.SenderHosted i) cap = cap ≡ caps.Import i
TakenAs turn (descriptors.SenderPromise i) cap = cap ≡ caps.Import i
TakenAs turn (descriptors.ReceiverHosted e) cap = IsExport turn.before e cap
TakenAs turn (descriptors.ReceiverAnswer answer) cap =
    TakenAnswer turn answer.question_id (path_of answer.transform) (answer_of turn.before answer.question_id) cap
TakenAs turn (descriptors.ThirdPartyHosted t) cap = ⊥
TakenAs turn (descriptors.Unknown n) cap = ⊥

-- the descriptor is a receiverAnswer of an answer that wasn't given, and is taken in as this promise
abbrev pub IsTiedAs : Turn → Descriptor → Cap → ℕ → Type 0
IsTiedAs turn (descriptors.ReceiverAnswer answer) cap p = (answer_of turn.before answer.question_id ≡ Some None) × (cap ≡ caps.Promise p)
IsTiedAs turn other cap p = ⊥

-- Each receiverAnswer of an answer that wasn't given has a promise of its own: no later one is taken in as the same.
abbrev pub EachHasItsOwn : Turn → List Descriptor → List Cap → Type 0
EachHasItsOwn turn (d ∷ table) (cap ∷ taken) = ((p : ℕ) → IsTiedAs turn d cap p → AllZip (λ later c. ¬ (IsTiedAs turn later c p)) table taken) × EachHasItsOwn turn table taken
EachHasItsOwn turn table taken = Unit {0}

-- the outcome that a Return of the peer's bears
abbrev pub Brings : Turn → Returned → Outcome → Type 0
Brings turn (returns.Results p) outcome =
    (table : List Cap) × (outcome ≡ outcomes.Results p.content table) × AllZip (TakenAs turn) p.cap_table table × EachHasItsOwn turn p.cap_table table
Brings turn (returns.Exception x) outcome = outcome ≡ outcomes.Failed x
Brings turn returns.Canceled outcome = outcome ≡ outcomes.Canceled
Brings turn other outcome = ⊥

-- the origin of a question: the application's own, or the call of the peer's that it forwards
abbrev pub asked_for : ℕ → Option ℕ → Origin
asked_for q None = origins.Own q
asked_for q (Some a) = origins.Answer a

-- A Return gives its question's origin what it bears, unless the application finished the question.
abbrev pub ReturnGives : Turn → Return → QuestionEntry → Stage → Option Fulfillment → Type 0
ReturnGives turn r kept stages.Open fulfillment =
    (outcome : Outcome) × (fulfillment ≡ Some (record { origin = asked_for r.answer_id kept.forwards; outcome = outcome })) × Brings turn r.returned outcome
ReturnGives turn r kept other fulfillment = fulfillment ≡ None

abbrev pub AskedGives : Turn → Return → Option (Exchange QuestionEntry) → Option Fulfillment → Type 0
AskedGives turn r None fulfillment = ⊥
AskedGives turn r (Some entry) fulfillment = ReturnGives turn r entry.kept entry.stage fulfillment

-- a call that fails gives its origin the exception
abbrev pub failed_by : Route → Origin → Option Fulfillment
failed_by (routes.Fail x) origin = Some (record { origin = origin; outcome = outcomes.Failed x })
failed_by other origin = None

abbrev pub failed_with : List Exit → Option (ℕ × Origin) → Option Fulfillment
failed_with (exit ∷ []) (Some (ticket, origin)) = failed_by exit.route origin
failed_with exits subject = None

abbrev pub failed_in : Turn → Option Fulfillment
failed_in turn = failed_with (exits_in turn) (subject_of turn)

-- What is given in a turn: what a Bootstrap is answered with, what the Return of a question bears, what `answer` hands in, and the exception with
-- which a call fails. A message that isn't supported gives nothing.
abbrev pub MessageGives : Turn → Message → Option Fulfillment → Type 0
MessageGives turn (messages.Bootstrap b) fulfillment = fulfillment ≡ Some (record { origin = origins.Answer b.question_id; outcome = bootstrap_outcome turn.before.bootstrap })
MessageGives turn (messages.Return r) fulfillment = AskedGives turn r (get turn.before.entries.questions r.answer_id) fulfillment
MessageGives turn other fulfillment = fulfillment ≡ failed_in turn

abbrev pub SupportedGives : Bool → Turn → Message → Option Fulfillment → Type 0
SupportedGives true turn m fulfillment = MessageGives turn m fulfillment
SupportedGives false turn m fulfillment = fulfillment ≡ None

abbrev pub CauseGives : Turn → Cause → Option Fulfillment → Type 0
CauseGives turn (own_part (events.Receive m) value) fulfillment = SupportedGives (is_supported m) turn m fulfillment
CauseGives turn (own_part (events.Answer origin outcome) value) fulfillment = fulfillment ≡ Some (record { origin = origin; outcome = outcome })
CauseGives turn other fulfillment = fulfillment ≡ failed_in turn

abbrev pub Gives : Turn → Option Fulfillment → Type 0
Gives turn fulfillment = CauseGives turn turn.cause fulfillment

-- A capability leads to another one if that is on its way.
abbrev pub LeadsBy : (Cap → Type 0) → Way → Type 0
LeadsBy Next (leads next) = Next next
LeadsBy Next (ends route) = ⊥
LeadsBy Next missing = ⊥

abbrev pub LeadsWithin : ℕ → ValueMaps → Cap → Cap → Type 0
LeadsWithin zero values c last = c ≡ last
LeadsWithin (suc n) values c last = LeadsBy (λ next. LeadsWithin n values next last) (way values c)

abbrev pub LeadsTo : ValueMaps → Cap → Cap → Type 0
LeadsTo values c last = (n : ℕ) × LeadsWithin n values c last

-- A descriptor that is sent stands for a capability if it names what that leads to; a promise only while it is open.
abbrev pub StandsFor : Turn → Descriptor → Cap → Type 0
StandsFor turn descriptors.None cap = LeadsTo turn.before.values cap caps.None ⊎ ((x : Exception) × LeadsTo turn.before.values cap (caps.Broken x))
StandsFor turn (descriptors.SenderHosted e) cap = (k : ℕ) × IsExport turn.after e (caps.Object k) × LeadsTo turn.before.values cap (caps.Object k)
StandsFor turn (descriptors.SenderPromise e) cap =
    (p : ℕ) × IsExport turn.after e (caps.Promise p) × LeadsTo turn.before.values cap (caps.Promise p) × (is_settled (get turn.before.values.promises p) ≡ false)
StandsFor turn (descriptors.ReceiverHosted i) cap = LeadsTo turn.before.values cap (caps.Import i)
StandsFor turn (descriptors.ReceiverAnswer answer) cap =
    (q : ℕ) × (path : List ℕ) × (answer ≡ promised q path) × LeadsTo turn.before.values cap (caps.Pipelined q path)
StandsFor turn (descriptors.ThirdPartyHosted t) cap = ⊥
StandsFor turn (descriptors.Unknown n) cap = ⊥

-- what is returned bears an outcome
abbrev pub Bears : Turn → Returned → Outcome → Type 0
Bears turn returned (outcomes.Results content table) =
    (named : List Descriptor) × (returned ≡ returns.Results (record { content = content; cap_table = named })) × AllZip (StandsFor turn) named table
Bears turn returned (outcomes.Failed x) = returned ≡ returns.Exception x
Bears turn returned outcomes.Canceled = returned ≡ returns.Canceled

-- the effects that report an outcome
abbrev pub is_telling : Effect → Bool
is_telling (effects.Send (messages.Return r)) = true
is_telling (effects.Settled q outcome) = true
is_telling other = false

-- a Finish came, or was called, before this turn
abbrev pub was_finished : {X : Type 0} → Option (Exchange X) → Bool
was_finished None = false
was_finished (Some entry) = is_finished entry.stage

-- An answer is reported by a Return of its number that bears it, or says that it was canceled where a Finish came before. An own question is reported by a
-- Settled of its number that bears it, unless it was finished.
abbrev pub AnswerTold : Turn → ℕ → Outcome → Bool → List Effect → Type 0
AnswerTold turn a outcome true told = told ≡ return_of a returns.Canceled ∷ []
AnswerTold turn a outcome false told = (returned : Returned) × (told ≡ return_of a returned ∷ []) × Bears turn returned outcome

abbrev pub QuestionTold : ℕ → Outcome → Bool → List Effect → Type 0
QuestionTold q outcome true told = told ≡ []
QuestionTold q outcome false told = told ≡ effects.Settled q outcome ∷ []

abbrev pub OriginTold : Turn → Origin → Outcome → List Effect → Type 0
OriginTold turn (origins.Answer a) outcome told = AnswerTold turn a outcome (was_finished (get turn.before.entries.answers a)) told
OriginTold turn (origins.Own q) outcome told = QuestionTold q outcome (was_finished (get turn.before.entries.questions q)) told

abbrev pub FulfillmentTold : Turn → Option Fulfillment → List Effect → Type 0
FulfillmentTold turn None told = told ≡ []
FulfillmentTold turn (Some fulfillment) told = OriginTold turn fulfillment.origin fulfillment.outcome told

-- What is given in a turn is reported in it, once, and nothing else is.
abbrev pub TellsItsFulfillment : Turn → Type 0
TellsItsFulfillment turn = (fulfillment : Option Fulfillment) × Gives turn fulfillment × FulfillmentTold turn fulfillment (filter is_telling turn.effects)
