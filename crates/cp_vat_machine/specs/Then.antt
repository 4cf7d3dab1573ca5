-- How relations that may meet a fault follow one another.
use Rattle.std.specs.Prelude.{◌≡◌, Bool, if◌then◌else◌, List, [], ◌∷◌, ◌++◌, Result, Ok, Err}
use Rattle.cp_vat_machine.specs.State.{State}
use Rattle.cp_vat_machine.specs.declared.effect.Effect.{Effect}
use Rattle.cp_vat_machine.specs.declared.fault.PeerFault.{PeerFault}
use Rattle.cp_vat_machine.specs.declared.fault.VatFault.{VatFault}
use Rattle.cp_vat_machine.specs.declared.fault.VatFault.TheVariants as refusals

-- what a rule does: its effects and the state that it leaves
abbrev pub Done : Type 0
Done = List Effect × State

module _ {A B F : Type 0} where
  -- what follows a result: after a fault nothing does, and the fault is the answer
  abbrev pub After : (A → Result B F → Type 0) → Result A F → Result B F → Type 0
  After next (Ok x) out = next x out
  After next (Err fault) out = out ≡ Err fault

  -- first the one, and then, with what it gave, the other
  abbrev pub Then : (Result A F → Type 0) → (A → Result B F → Type 0) → Result B F → Type 0
  Then First next out = (first : Result A F) × First first × After next first out

-- the fault, where this holds
abbrev pub fault_if : {F : Type 0} → Bool → F → List F
fault_if holds fault = if holds then (fault ∷ []) else []

-- the first of these faults is the answer, and without one the rule's
abbrev pub Unless : {A F : Type 0} → List F → (Result A F → Type 0) → Result A F → Type 0
Unless [] Rule out = Rule out
Unless (fault ∷ faults) Rule out = out ≡ Err fault

-- this, with its effects after others
abbrev pub after : List Effect → Done → Done
after effects done = (effects ++ done.0, done.1)

-- one after another, each from the state that the one before left
abbrev pub Each : {A B : Type 0} → (State → A → Result (B × State) PeerFault → Type 0) → State → List A → Result (List B × State) PeerFault → Type 0
Each Rule old [] out = out ≡ Ok ([], old)
Each Rule old (x ∷ xs) out = Then (Rule old x) (λ first. Then (Each Rule first.1 xs) (λ rest out. out ≡ Ok (first.0 ∷ rest.0, rest.1))) out

-- what a call of the application is refused for where a table is full
abbrev pub refused_full : {A : Type 0} → Result A PeerFault → Result A VatFault
refused_full (Ok x) = Ok x
refused_full (Err fault) = Err refusals.Full

-- the rule, where a full table refuses a call of the application
abbrev pub OrFull : {A : Type 0} → (Result A PeerFault → Type 0) → Result A VatFault → Type 0
OrFull {A} Rule out = (result : Result A PeerFault) × Rule result × (out ≡ refused_full result)
