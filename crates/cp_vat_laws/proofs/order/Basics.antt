-- Options and numbers taken apart.
use Rattle.std.specs.Prelude.{◌≡◌, ◌≢◌, ℕ, ◌==◌, true, false, Option, Some, None, IfSome}
use Rattle.std.proofs.Common.{arith}
use Rattle.std.proofs.lemmas.Bool.Decides.{nat_tests}
use Rattle.cp_vat_machine.proofs.Basics.{some_out, none_out}

pub there_is : {X : Type 0} (P : X → Type 0) (o : Option X) (x : X) → o ≡ Some x → IfSome o P → P x
there_is P None x e h = none_out e
there_is P (Some y) x e h = rw (← some_out e) h

pub are_equal : (a b : ℕ) → a ≡ b → (a == b) ≡ true
are_equal a b e = grind (arith, nat_tests)

pub are_other : (a b : ℕ) → a ≢ b → (a == b) ≡ false
are_other a b n = grind (arith, nat_tests)
