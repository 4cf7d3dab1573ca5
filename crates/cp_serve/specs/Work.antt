-- A vat, with what is still to be done for it.
use Rattle.std.specs.Prelude.{◌≡◌, ◌≢◌, ℕ, List, [], ◌∷◌, ◌++◌, Option, Result, Ok, Err}
use Rattle.std.specs.FinMap.{insert}
use Rattle.cp_tables.specs.Table.{Table}
use Rattle.cp_messages.specs.declared.message.Message.{Message}
use Rattle.cp_refs.specs.declared.call.Origin.{Origin}
use Rattle.cp_refs.specs.declared.outcome.Outcome.{Outcome}
use Rattle.cp_vat_machine.specs.State.{State}
use Rattle.cp_vat_machine.specs.Step.{Step}
use Rattle.cp_vat_machine.specs.declared.effect.Effect.{Effect}
use Rattle.cp_vat_machine.specs.declared.effect.Reason.{Reason}
use Rattle.cp_vat_machine.specs.declared.event.Event.{Event}
use Rattle.cp_vat_machine.specs.declared.event.Event.TheVariants as events
use Rattle.cp_vat_machine.specs.declared.event.Value.{Value}
use Rattle.cp_vat_machine.specs.declared.event.Value.TheVariants as values
use Rattle.cp_vat_machine.specs.declared.fault.VatFault.{VatFault}
use Rattle.cp_vat_machine.specs.declared.fault.VatFault.TheVariants as refusals
use Rattle.cp_servants.specs.declared.servant.Reply.{Reply}
use Rattle.cp_servants.specs.declared.servant.Reply.TheVariants as replies
use Rattle.cp_servants.specs.Outcomes.{bad_outcome}

-- The vat, its effects that are still to be worked off, the calls whose objects answer later, by their tickets, the imports that objects gave up, the
-- messages that are still to be written, and why the vat closed.
pub record Work : Type 0 where
  pub vat : State
  pub effects : List Effect
  pub awaited : Table Origin
  pub given_up : List ℕ
  pub sent : List Message
  pub closed : Option Reason

-- the vat did an event, and its effects go after those that are still to be worked off
abbrev pub Did : Work → State → List Effect → Work → Type 0
Did old vat effects new = new ≡ record old { vat = vat; effects = old.effects ++ effects }

-- An outcome that is refused gives way to an exception, unless the vat closed.
abbrev pub IsReplaced : VatFault → Type 0
IsReplaced fault = (fault ≢ refusals.Closed) × (fault ≢ refusals.OutOfMemory)

-- memory sufficed
abbrev pub HadMemory : Result Value VatFault → Type 0
HadMemory (Ok value) = Unit {0}
HadMemory (Err fault) = fault ≢ refusals.OutOfMemory

-- The vat did an event, whatever it answered, but that memory ran out.
pub record IsDone (old : Work) (event : Event) (new : Work) : Type 0 where
  pub result : Result Value VatFault
  pub effects : List Effect
  pub vat : State
  pub step : Step old.vat event result effects vat
  pub memory : HadMemory result
  pub did : Did old vat effects new

-- A call is answered: with its outcome; or not any more, as the vat closed; or, where that outcome is refused, with an exception, if that isn't refused too.
pub data Answers (old : Work) (origin : Origin) (outcome : Outcome) (new : Work) : Type 0 where
  is_taken : (vat : State) (effects : List Effect) → Step old.vat (events.Answer origin outcome) (Ok values.Nothing) effects vat → Did old vat effects new → Answers old origin outcome new
  was_closed : (vat : State) → Step old.vat (events.Answer origin outcome) (Err refusals.Closed) [] vat → new ≡ record old { vat = vat } → Answers old origin outcome new
  is_replaced : (fault : VatFault) (mid : State) → IsReplaced fault → Step old.vat (events.Answer origin outcome) (Err fault) [] mid
      → IsDone (record old { vat = mid }) (events.Answer origin bad_outcome) new → Answers old origin outcome new

-- What follows an object's answer to a call: at once the call is answered, and the imports that the object gives up are noted; later it is awaited.
abbrev pub Replies : Work → Origin → ℕ → Reply → Work → Type 0
Replies old origin ticket (replies.Now outcome gives_up) new = Answers (record old { given_up = old.given_up ++ gives_up }) origin outcome new
Replies old origin ticket replies.Later new = new ≡ record old { awaited = insert old.awaited ticket origin }

-- An import that was given up is tried: it is released; or it is still in use, and stays; or it isn't held any more, and is dropped.
pub data Tries (old : Work) (i : ℕ) (new : Work) : Type 0 where
  is_released : (vat : State) (effects : List Effect) → Step old.vat (events.Release i) (Ok values.Nothing) effects vat → Did old vat effects new → Tries old i new
  is_used : (vat : State) → Step old.vat (events.Release i) (Err refusals.InUse) [] vat → new ≡ record old { vat = vat; given_up = old.given_up ++ i ∷ [] } → Tries old i new
  is_dropped : (fault : VatFault) (vat : State) → fault ≢ refusals.InUse → fault ≢ refusals.OutOfMemory → Step old.vat (events.Release i) (Err fault) [] vat
      → new ≡ record old { vat = vat } → Tries old i new

-- imports are tried one after another
abbrev pub TriesEach : Work → List ℕ → Work → Type 0
TriesEach old [] new = new ≡ old
TriesEach old (i ∷ more) new = (mid : Work) × Tries old i mid × TriesEach mid more new

-- all imports that were given up are tried, and those that are still in use stay
abbrev pub Releases : Work → Work → Type 0
Releases old new = TriesEach (record old { given_up = [] }) old.given_up new
