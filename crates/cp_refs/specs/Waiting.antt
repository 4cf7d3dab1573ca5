-- The calls that wait. (rpc.capnp: "Call.target", "Disembargo".)
use Rattle.std.specs.Prelude.{◌≡◌, refl, ℕ, ◌≤◌, ◌==◌, ◌||◌, Bool, false, Option, Some, None, IsTrue}
use Rattle.std.specs.Ordering.{nat_cmp}
use Rattle.std.specs.FinMap.{get, remove}
use Rattle.std.specs.FinMap as map
use Rattle.std.specs.FinSet.{FinSet}
use Rattle.std.specs.FinSet as set
use Rattle.cp_tables.specs.Table.{Table}
use Rattle.std.specs.Coded.{Coded, code_by, coded×, coded_ℕ}
use Rattle.cp_refs.specs.declared.call.WaitingCall.{WaitingCall}
use Rattle.cp_refs.specs.contracts.call.WaitingCall as held
use Rattle.cp_refs.specs.declared.route.Gate.{Gate}
use Rattle.cp_refs.specs.declared.route.Gate.TheVariants as gates

-- The calls that wait, one set, by their tickets; and the tickets of those whose gate was ended.
pub record Waits : Type 0 where
  pub calls : Table WaitingCall
  pub ended : FinSet nat_cmp

-- they are one gate, at whatever paths
abbrev pub is_same_gate : Gate → Gate → Bool
is_same_gate (gates.Answer a path) (gates.Answer b other) = a == b
is_same_gate (gates.Promise p) (gates.Promise q) = p == q
is_same_gate (gates.Question p path) (gates.Question q other) = p == q
is_same_gate (gates.Embargo e) (gates.Embargo f) = e == f
is_same_gate gate other = false

-- there is a call and it waits at this gate
abbrev pub waits_at : Gate → Option WaitingCall → Bool
waits_at gate None = false
waits_at gate (Some call) = is_same_gate gate call.gate

-- A gate ends: from now on the calls that wait at it are among those whose gate was ended.
pub record Ends (old : Waits) (gate : Gate) (new : Waits) : Type 0 where
  pub calls : new.calls ≡ old.calls
  pub ended : (ticket : ℕ) → set.contains new.ended ticket ≡ (set.contains old.ended ticket || waits_at gate (get old.calls ticket))

-- A call leaves: of those whose gate was ended, the one with the lowest ticket.
pub record Leaves (old : Waits) (call : WaitingCall) (new : Waits) : Type 0 where
  pub waited : get old.calls call.ticket ≡ Some call
  pub was_ended : IsTrue (set.contains old.ended call.ticket)
  pub lowest : (ticket : ℕ) → IsTrue (set.contains old.ended ticket) → call.ticket ≤ ticket
  pub rest : new ≡ record { calls = remove old.calls call.ticket; ended = set.remove old.ended call.ticket }

-- they are stored as the two parts
abbrev pub waits_code : Coded Waits
waits_code = code_by (Table WaitingCall × FinSet nat_cmp) (coded× (map.code coded_ℕ held.the_row.coded) (set.code coded_ℕ)) (λ w. (w.calls, w.ended)) (λ parts. record { calls = parts.0; ended = parts.1 }) (λ _. refl)
