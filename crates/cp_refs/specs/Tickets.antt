-- Tickets in a heap.
use Rattle.std.specs.Prelude.{ℕ, ◌≤◌, ◌==◌, if◌then◌else◌, List, map}
use Rattle.std.specs.Ordering.{nat_cmp}
use Rattle.std.specs.BinaryHeap.{IsHeap}
use Rattle.std.specs.List.{sum_by}
use Rattle.std.specs.declared.cmp.Reverse.{Reverse}

-- the tickets of a heap whose least is at the top
abbrev pub tickets_of : List (Reverse ℕ) → List ℕ
tickets_of items = map (λ r. r.0) items

-- how often a ticket is in a list
abbrev pub times : ℕ → List ℕ → ℕ
times t ts = sum_by (λ k. if k == t then 1 else 0) ts

-- they are a heap, and each is in it once
abbrev pub AreTickets : List (Reverse ℕ) → Type 0
AreTickets items = IsHeap (λ x y. nat_cmp y.0 x.0) items × ((t : ℕ) → times t (tickets_of items) ≤ 1)
