-- The laws of two vats: calls come in order, and counts agree.
use Rattle.std.specs.Prelude.{◌≡◌, ℕ, List, ◌++◌, Option}
use Rattle.std.specs.List.{AllByRecursion}
use Rattle.cp_tables.specs.Counted.{count_of}
use Rattle.cp_refs.specs.declared.cap.Cap.TheVariants as caps
use Rattle.cp_vat_pair_laws.specs.VatPair.{VatPair, Side, end_of, new_pair, Move, Moves, last_of, AreOpen, AreQuiet}
use Rattle.cp_vat_pair_laws.specs.Owed.{owed}
use Rattle.cp_vat_pair_laws.specs.Lane.{Reference, CameTo, made, Delivery, delivered_on, tickets_of, AreStill}

-- the one list is a beginning of the other
abbrev pub IsBeginning : List ℕ → List ℕ → Type 0
IsBeginning front all = (rest : List ℕ) × (all ≡ front ++ rest)

-- The calls made on a reference that came to object k are delivered there in the order in which they were made, each once; and all of them are
-- where no message is on the way.
pub record AreInOrder (tickets : List ℕ) (deliveries : List Delivery) (k : ℕ) (last : VatPair) : Type 0 where
  pub begins : IsBeginning (tickets_of deliveries) tickets
  pub whole : AreQuiet last → tickets_of deliveries ≡ tickets
  pub there : AllByRecursion (λ delivery. delivery.object ≡ k) deliveries

-- Order over both vats. (rpc.capnp: "Disembargo", "Call" on promises.) Of every list of moves in which neither vat was closed and no application
-- finished, released or forgot: where the value of a reference is an object of the vat that holds it, its calls are in order.
abbrev pub LaneOrder : Type 0
LaneOrder =
    (one other : Option ℕ) (moves : List Move) → Moves (new_pair one other) moves → AreOpen (last_of (new_pair one other) moves) → AreStill moves
    → (side : Side) (ref : Reference) (k : ℕ) → CameTo (end_of (last_of (new_pair one other) moves) side).vat ref (caps.Object k)
    → AreInOrder (made (new_pair one other) side ref moves) (delivered_on (new_pair one other) side ref moves) k (last_of (new_pair one other) moves)

-- Counts over both vats. (rpc.capnp: "Release", "Finish".) Of every list of moves in which neither vat was closed: each export's count is what it
-- is owed, and a number without an export is owed nothing.
abbrev pub CountsAgree : Type 0
CountsAgree =
    (one other : Option ℕ) (moves : List Move) → Moves (new_pair one other) moves → AreOpen (last_of (new_pair one other) moves)
    → (side : Side) (e : ℕ) → count_of (end_of (last_of (new_pair one other) moves) side).vat.counts.exports e ≡ owed (last_of (new_pair one other) moves) side e
