-- What follows of a result, whichever it is.
use Rattle.std.proofs.Common.{ℕ, ◌≡◌, ◌==◌, ◌<◌, ◌⊎◌, Bool, true, false, Result, Ok, Err, IfOk, IfErr, OnOk, OnErr, inl, inr, arith}
use Rattle.std.proofs.lemmas.Bool.Decides.{nat_tests}

-- of what a call gives, what follows of four clauses at a success
pub all_ok : {T E : Type 0} {P Q : Type 0} {S U V : T → Type 0} (r : Result T E) → OnOk r P → OnOk r Q → IfOk r S → IfOk r U
    → ((x : T) → P → Q → S x → U x → V x) → IfOk r V
all_ok (Ok x) h k s u f = f x h k s u
all_ok (Err e) h k s u f = tt

-- it was done, or it failed
pub done_or_failed : {T E : Type 0} {P Q : Type 0} (r : Result T E) → OnOk r P → OnErr r Q → P ⊎ Q
done_or_failed (Ok x) h k = inl h
done_or_failed (Err e) h k = inr k

pub done_or_fault : {T E : Type 0} {P : Type 0} {Q : E → Type 0} (r : Result T E) → OnOk r P → IfErr r Q → P ⊎ ((e : E) × Q e)
done_or_fault (Ok x) h k = inl h
done_or_fault (Err e) h k = inr (e, k)

-- a number that isn't 0 is above it
pub some_unless : (n : ℕ) → (n ≡ 0 → ⊥) → 0 < n
some_unless n h = omega (arith, h)

-- the same, by a test of it
pub some_by : (n : ℕ) (none : Bool) → none ≡ (n == 0) → none ≡ false → 0 < n
some_by n none is some = grind (arith, nat_tests)

pub none_by : (n : ℕ) (none : Bool) → none ≡ (n == 0) → none ≡ true → n ≡ 0
none_by n none is so = grind (arith, nat_tests)
