-- Sizes of what a vat keeps and sends. (rpc.capnp: "Message", "Payload".)
use Rattle.std.specs.Prelude.{◌≡◌, ℕ, true, false, List, [], ◌∷◌, Option, IfSome, Result}
use Rattle.std.specs.FinMap.{get}
use Rattle.cp_tables.specs.Table.{Table}
use Rattle.cp_tables.specs.declared.counted.Counted.{Counted}
use Rattle.cp_messages.specs.Written.{message_written}
use Rattle.cp_messages.specs.declared.message.Message.{Message}
use Rattle.cp_refs.specs.Values.{ValueMaps}
use Rattle.cp_refs.specs.declared.cap.Cap.{Cap}
use Rattle.cp_refs.specs.declared.call.WaitingCall.{WaitingCall}
use Rattle.cp_refs.specs.declared.call.Request.{Request}
use Rattle.cp_refs.specs.declared.outcome.Outcome.{Outcome}
use Rattle.cp_vat_machine.specs.State.{State, Over, new_state}
use Rattle.cp_vat_machine.specs.Capacity.{cap_fits, outcome_fits, request_fits}
use Rattle.cp_vat_machine.specs.Run.{Moment, Steps}
use Rattle.cp_vat_machine.specs.Step.{Step, echo_fits}
use Rattle.cp_vat_machine.specs.declared.effect.Effect.{Effect}
use Rattle.cp_vat_machine.specs.declared.effect.Effect.TheVariants as effects
use Rattle.cp_vat_machine.specs.declared.event.Event.{Event}
use Rattle.cp_vat_machine.specs.declared.event.Value.{Value}
use Rattle.cp_vat_machine.specs.declared.fault.VatFault.{VatFault}

-- a capability, an outcome and a request within the sizes that those of an application must have
abbrev pub CapFits : Cap → Type 0
CapFits c = cap_fits c ≡ true

abbrev pub OutcomeFits : Outcome → Type 0
OutcomeFits o = outcome_fits o ≡ true

abbrev pub RequestFits : Request → Type 0
RequestFits r = request_fits r ≡ true

-- each entry of a table is so
abbrev pub AllOf : {X : Type 0} → (X → Type 0) → Table X → Type 0
AllOf P table = (k : ℕ) → IfSome (get table k) P

-- what promises, imports, answers and questions came to is within these sizes
pub record ValuesFit (v : ValueMaps) : Type 0 where
  pub promises : AllOf (λ value. IfSome value CapFits) v.promises
  pub imports : AllOf (λ value. IfSome value CapFits) v.imports
  pub answers : AllOf (λ outcome. IfSome outcome OutcomeFits) v.answers
  pub questions : AllOf (λ question. IfSome question.outcome OutcomeFits) v.questions

-- so is what the gates gave that ended
pub record OverFits (o : Over) : Type 0 where
  pub answers : AllOf OutcomeFits o.answers
  pub promises : AllOf CapFits o.promises
  pub questions : AllOf OutcomeFits o.questions
  pub embargoes : AllOf CapFits o.embargoes

-- So are exported capabilities, calls that wait, and what embargoes lead to.
pub record AreKept (values : ValueMaps) (exports : Table (Counted Cap)) (calls : Table WaitingCall) (over : Over) (embargoes : Table Cap) : Type 0 where
  pub values_fit : ValuesFit values
  pub exports_fit : AllOf (λ entry. CapFits entry.kept) exports
  pub calls_fit : AllOf (λ call. RequestFits call.request) calls
  pub over_fits : OverFits over
  pub embargoes_fit : AllOf CapFits embargoes

-- all that a vat keeps is within these sizes
abbrev pub Fits : State → Type 0
Fits s = AreKept s.values s.counts.exports s.waiting.calls s.waiting.over s.marks.embargoes

-- a message can be written: its tree nests 64 deep at most, and costs 8,388,608 at most
abbrev pub IsWritable : Message → Type 0
IsWritable m = echo_fits (message_written m) ≡ true

abbrev pub IsWritten : Effect → Type 0
IsWritten (effects.Send m) = IsWritable m
IsWritten other = Unit {0}

-- each message that is sent can be written
abbrev pub AreWritable : List Effect → Type 0
AreWritable [] = Unit {0}
AreWritable (effect ∷ more) = IsWritten effect × AreWritable more

-- while a vat is open what it keeps is within the sizes
abbrev pub FitsOpen : State → Type 0
FitsOpen s = s.is_closed ≡ false → Fits s

-- At each step of a vat that keeps what is within the sizes each message that is sent can be written, and so the vat goes on.
abbrev pub StepsWrite : Type 0
StepsWrite =
    (old new : State) (event : Event) (result : Result Value VatFault) (effects : List Effect) → FitsOpen old → Step old event result effects new
    → AreWritable effects × FitsOpen new

-- all that was sent in these steps can be written
abbrev pub AllWritable : List Moment → Type 0
AllWritable [] = Unit {0}
AllWritable (moment ∷ more) = AreWritable moment.effects × AllWritable more

-- each message that a vat ever sends can be written
abbrev pub RunsWrite : Type 0
RunsWrite = (bootstrap : Option ℕ) (history : List Moment) (last : State) → Steps (new_state bootstrap) history last → AllWritable history
