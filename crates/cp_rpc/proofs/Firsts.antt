-- The first fault of a list's parts.
use Rattle.std.proofs.Common.{◌≡◌, ℕ, zero, suc, ◌<◌, List, [], ◌∷◌, ◌++◌, length, take, get_or, Some, arith}
use Rattle.std.specs.Prelude.{flat_map}
use Rattle.cp_rpc.specs.Answers.{first_of}
use Rattle.cp_messages.proofs.Nones.{none-left, none-right}
use Rattle.cp_messages.specs.declared.fault.SchemaFault.{SchemaFault}

pub first-left : (xs ys : List SchemaFault) (e : SchemaFault) → first_of xs ≡ Some e → first_of (xs ++ ys) ≡ Some e
first-left [] ys e h = cc
first-left (x ∷ xs) ys e h = h

-- where no part has a fault, this one has none
pub part-none : {X : Type 0} (f : X → List SchemaFault) (xs : List X) (i : ℕ) (d : X) → i < length xs → flat_map f xs ≡ [] → f (get_or xs i d) ≡ []
part-none f [] i d h n = absurd (omega arith)
part-none f (x ∷ xs) zero d h n = none-left (f x) (flat_map f xs) n
part-none f (x ∷ xs) (suc i) d h n = part-none f xs i d (omega arith) (none-right (f x) (flat_map f xs) n)

-- the first fault of a part is that of all, where the parts before it have none
pub part-first : {X : Type 0} (f : X → List SchemaFault) (xs : List X) (i : ℕ) (d : X) (e : SchemaFault) → i < length xs → flat_map f (take i xs) ≡ [] → first_of (f (get_or xs i d)) ≡ Some e
    → first_of (flat_map f xs) ≡ Some e
part-first f [] i d e h n t = absurd (omega arith)
part-first f (x ∷ xs) zero d e h n t = first-left (f x) (flat_map f xs) e t
part-first f (x ∷ xs) (suc i) d e h n t =
    rw (none-left (f x) (flat_map f (take i xs)) n) (part-first f xs i d e (omega arith) (none-right (f x) (flat_map f (take i xs)) n) t)

-- a fault that was told is no absence of faults
pub none-first : (xs : List SchemaFault) (e : SchemaFault) → xs ≡ [] → first_of xs ≡ Some e → ⊥
none-first [] e n h = cc
none-first (x ∷ xs) e n h = cc
