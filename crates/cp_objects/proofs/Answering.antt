-- What follows from a fact of a success, and from a test.
use Rattle.std.proofs.Common.{◌≡◌, ◌↔◌, ◌∙◌, Bool, false, IsTrue, Option, Some, None, IsSome, Result, Ok, Err, IfOk, OnOk, refl, sym}
use Rattle.std.proofs.lemmas.Bool.{false≢true}

pub if_ok : {T E : Type 0} {P Q : T → Type 0} (r : Result T E) → IfOk r P → ((x : T) → P x → Q x) → IfOk r Q
if_ok (Ok x) h f = f x h
if_ok (Err e) h f = tt

pub after_ok : {T E : Type 0} {P Q : Type 0} (r : Result T E) → OnOk r P → (P → Q) → OnOk r Q
after_ok (Ok x) h f = f h
after_ok (Err e) h f = h

-- what isn't there by a test is none
pub not_some : {X : Type 0} (o : Option X) (b : Bool) → (IsTrue b ↔ IsSome o) → b ≡ false → o ≡ None
not_some None b h e = refl
not_some (Some x) b h e = absurd (false≢true (sym e ∙ h.1 refl))

-- what follows from two facts of a success
pub both_ok : {T E : Type 0} {P Q R : Type 0} (r : Result T E) → OnOk r P → OnOk r Q → (P → Q → R) → OnOk r R
both_ok (Ok x) p q f = f p q
both_ok (Err e) p q f = p
