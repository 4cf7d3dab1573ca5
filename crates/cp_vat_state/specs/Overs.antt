-- The gates that ended in this event, and the calls that wait at them.
use Rattle.std.specs.Prelude.{◌≡◌, ℕ, ◌≤◌, ◌<◌, Bool, false, [], Option, Some, None, is_some, IfSome}
use Rattle.std.specs.FinMap.{get, insert}
use Rattle.std.specs.FinSet.{contains}
use Rattle.cp_tables.specs.Table.{Table}
use Rattle.cp_refs.specs.Waiting.{Waits}
use Rattle.cp_refs.specs.declared.cap.Cap.{Cap}
use Rattle.cp_refs.specs.declared.call.WaitingCall.{WaitingCall}
use Rattle.cp_refs.specs.declared.route.Gate.{Gate}
use Rattle.cp_refs.specs.declared.route.Gate.TheVariants as gates
use Rattle.cp_vat_machine.specs.State.{Over, Waiting, gave}
use Rattle.cp_vat_state.specs.declared.gates.Fulfillment.{Fulfillment}
use Rattle.cp_vat_state.specs.declared.gates.Fulfillment.TheVariants as gifts
use Rattle.cp_vat_state.specs.declared.overs.EarlierGates.{EarlierGates}
use Rattle.cp_vat_state.specs.declared.overs.Overs.{Overs}

-- the gate that ends, at no path
abbrev pub gate_of : Fulfillment → Gate
gate_of (gifts.Answer a outcome) = gates.Answer a []
gate_of (gifts.Promise p value) = gates.Promise p
gate_of (gifts.Question q outcome) = gates.Question q []
gate_of (gifts.Embargo n cap) = gates.Embargo n

-- a gate at no path
abbrev pub bare_gate : Gate → Gate
bare_gate (gates.Answer a path) = gates.Answer a []
bare_gate (gates.Promise p) = gates.Promise p
bare_gate (gates.Question q path) = gates.Question q []
bare_gate (gates.Embargo n) = gates.Embargo n

-- the gates that ended, with one more
abbrev pub over_with : Over → Fulfillment → Over
over_with over (gifts.Answer a outcome) = record over { answers = insert over.answers a outcome }
over_with over (gifts.Promise p value) = record over { promises = insert over.promises p value }
over_with over (gifts.Question q outcome) = record over { questions = insert over.questions q outcome }
over_with over (gifts.Embargo n cap) = record over { embargoes = insert over.embargoes n cap }

-- the gates that ended: the earlier ones, and the last one if there is one
abbrev pub earlier_of : EarlierGates → Over
earlier_of e = record { answers = e.answers; promises = e.promises; questions = e.questions; embargoes = e.embargoes }

abbrev pub with_last : Over → Option Fulfillment → Over
with_last over None = over
with_last over (Some fulfillment) = over_with over fulfillment

abbrev pub over_of : Overs → Over
over_of o = with_last (earlier_of o.earlier) o.last

-- there is a call, and its gate ended
abbrev pub ended_at : Over → Option WaitingCall → Bool
ended_at over None = false
ended_at over (Some call) = is_some (gave over call.gate)

-- the tickets of ended gates are those of the calls whose gate gave something
abbrev pub AreOver : Waits → Over → Type 0
AreOver waits over = (ticket : ℕ) → contains waits.ended ticket ≡ ended_at over (get waits.calls ticket)

-- each call that waits has a ticket that was given
abbrev pub AreBelow : Table WaitingCall → ℕ → Type 0
AreBelow calls next_ticket = (ticket : ℕ) → IfSome (get calls ticket) (λ call. ticket < next_ticket)

-- The calls have tickets that were given, and those that may leave are those whose gate gave something, unless a change was torn.
pub record AreGates (calls : Waits) (over : Over) (next_ticket : ℕ) (is_torn : Bool) : Type 0 where
  pub below : AreBelow calls.calls next_ticket
  pub whole : is_torn ≡ false → AreOver calls over

-- no call's gate has ended
abbrev pub NoneOverIn : Waiting → Type 0
NoneOverIn w = (ticket : ℕ) → IfSome (get w.calls ticket) (λ call. gave w.over call.gate ≡ None)

-- of the calls whose gate has ended, this one has the lowest ticket, and its gate gave that capability
pub record IsNextIn (w : Waiting) (call : WaitingCall) (cap : Cap) : Type 0 where
  pub waits : get w.calls call.ticket ≡ Some call
  pub ended : gave w.over call.gate ≡ Some cap
  pub lowest : (ticket : ℕ) (other : WaitingCall) (given : Cap) → get w.calls ticket ≡ Some other → gave w.over other.gate ≡ Some given → call.ticket ≤ ticket
