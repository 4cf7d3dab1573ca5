-- Rules taken apart.
use Rattle.std.proofs.Common.{◌≡◌, Bool, true, false, true≢false, List, [], ◌∷◌, Result, Ok, Err, ap}
use Rattle.cp_vat_machine.specs.Then.{Then, Unless, OrFull}
use Rattle.cp_vat_machine.specs.declared.fault.PeerFault.{PeerFault}

abbrev is_ok : {X F : Type 0} → Result X F → Bool
is_ok (Ok x) = true
is_ok (Err fault) = false

pub ok_out : {X F : Type 0} {fault : F} {Y : Type 0} {x : X} → Ok x ≡ Err fault → Y
ok_out e = absurd (true≢false (ap is_ok e))

abbrev ok_or_else : {X F : Type 0} → X → Result X F → X
ok_or_else x (Ok y) = y
ok_or_else x (Err fault) = x

pub ok_in : {X F : Type 0} (x y : X) → ◌≡◌ {A = Result X F} (Ok x) (Ok y) → x ≡ y
ok_in x y e = ap (ok_or_else x) e

pub then_out : {A B F : Type 0} (First : Result A F → Type 0) (next : A → Result B F → Type 0) (x : B) → Then First next (Ok x) → (a : A) × First (Ok a) × next a (Ok x)
then_out First next x (Ok a, f, n) = (a, f, n)
then_out First next x (Err fault, f, n) = ok_out n

pub unless_out : {A F : Type 0} (faults : List F) (Rule : Result A F → Type 0) (x : A) → Unless faults Rule (Ok x) → (faults ≡ []) × Rule (Ok x)
unless_out [] Rule x r = (λ i. [], r)
unless_out (fault ∷ faults) Rule x r = ok_out r

pub or_full_out : {A : Type 0} (Rule : Result A PeerFault → Type 0) (x : A) → OrFull Rule (Ok x) → Rule (Ok x)
or_full_out Rule x (Ok y, r, is) = rw (ok_in x y is) r
or_full_out Rule x (Err fault, r, is) = ok_out is
