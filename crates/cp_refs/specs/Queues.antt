-- Queues of waiting calls.
use Rattle.std.specs.Prelude.{◌≡◌, ℕ, ◌+◌, ◌*◌, ◌==◌, ◌&&◌, not, Bool, false, Option, Some, None, IsSome, IsTrue, IfSome}
use Rattle.std.specs.Option.{option_map_or}
use Rattle.std.specs.Ordering.{nat_cmp}
use Rattle.std.specs.FinMap.{get}
use Rattle.std.specs.FinSet.{FinSet, contains, empty}
use Rattle.cp_tables.specs.Table.{Table}
use Rattle.cp_refs.specs.declared.call.WaitingCall.{WaitingCall}
use Rattle.cp_refs.specs.declared.route.Gate.{Gate}
use Rattle.cp_refs.specs.declared.route.Gate.TheVariants as gates

-- the number of a gate, whatever its path
abbrev pub key_of : Gate → ℕ
key_of (gates.Answer a path) = 4 * a
key_of (gates.Promise p) = 4 * p + 1
key_of (gates.Question q path) = 4 * q + 2
key_of (gates.Embargo e) = 4 * e + 3

-- there is a call, and it waits at the gate of this number
abbrev pub stands_at : ℕ → Option WaitingCall → Bool
stands_at key None = false
stands_at key (Some call) = key_of call.gate == key

-- the queue of this number
abbrev pub queue_of : Table (FinSet nat_cmp) → ℕ → FinSet nat_cmp
queue_of queues key = option_map_or (λ queue. queue) (get queues key) empty

-- the ticket is in the queue of this number
abbrev pub is_queued : Table (FinSet nat_cmp) → ℕ → ℕ → Bool
is_queued queues key ticket = contains (queue_of queues key) ticket

-- Each call is kept under its ticket. Those whose gate was ended are calls that wait, and each other one is in its gate's queue.
pub record AreQueued (calls : Table WaitingCall) (queues : Table (FinSet nat_cmp)) (ended : FinSet nat_cmp) : Type 0 where
  pub ticketed : (ticket : ℕ) → IfSome (get calls ticket) (λ call. call.ticket ≡ ticket)
  pub waited : (ticket : ℕ) → IsTrue (contains ended ticket) → IsSome (get calls ticket)
  pub queued : (key : ℕ) (ticket : ℕ) → is_queued queues key ticket ≡ (stands_at key (get calls ticket) && not (contains ended ticket))
