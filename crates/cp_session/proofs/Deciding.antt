-- What follows of a test, and of what a call gave.
use Rattle.std.proofs.Common.{◌≡◌, ◌==◌, ◌<◌, ◌≤◌, ◌↔◌, ◌⊎◌, ◌||◌, ℕ, Bool, true, false, IsTrue, nat_lt, Result, Ok, Err, IfOk, IfErr, OnOk, OnErr, inl, inr, refl, arith}
use Rattle.std.proofs.lemmas.Bool.{false≢true}
use Rattle.std.proofs.lemmas.Bool.Decides.{nat_tests}
use Rattle.cp_session.specs.Search.{from_then}

-- what follows from a fact of a success
pub after_ok : {T E : Type 0} {P Q : Type 0} (r : Result T E) → OnOk r P → (P → Q) → OnOk r Q
after_ok (Ok x) h f = f h
after_ok (Err e) h f = tt

pub if_ok : {T E : Type 0} {P Q : T → Type 0} (r : Result T E) → IfOk r P → ((x : T) → P x → Q x) → IfOk r Q
if_ok (Ok x) h f = f x h
if_ok (Err e) h f = tt

-- what is so whatever the fault is
pub err_so : {T E : Type 0} {P : Type 0} (r : Result T E) → P → OnErr r P
err_so (Ok x) p = tt
err_so (Err e) p = p

-- what follows from a fact of a failure
pub if_err : {T E : Type 0} {P Q : E → Type 0} (r : Result T E) → IfErr r P → ((e : E) → P e → Q e) → IfErr r Q
if_err (Ok x) h f = tt
if_err (Err e) h f = f e h

pub on_err : {T E : Type 0} {P Q : Type 0} (r : Result T E) → OnErr r P → (P → Q) → OnErr r Q
on_err (Ok x) h f = tt
on_err (Err e) h f = f h

-- from when on imports are sought again
pub sought : (n i i2 p p2 m m2 : ℕ) → n ≡ from_then i p m → i ≡ i2 → p ≡ p2 → m ≡ m2 → n ≡ from_then i2 p2 m2
sought n i i2 p p2 m m2 e a b c = rw (← a, ← b, ← c) e

-- one of two things, where the first isn't so
pub either_second : {P Q : Type 0} (b : Bool) → (P → ⊥) → (IsTrue b ↔ Q) → IsTrue b ↔ (P ⊎ Q)
either_second {P = P} {Q = Q} b not h = (λ t. inr (h.0 t), λ s. the_second s)
  where
    the_second : P ⊎ Q → IsTrue b
    the_second (inl p) = absurd (not p)
    the_second (inr q) = h.1 q

-- a number that isn't 0 is more
pub more_than_none : (b : Bool) (n : ℕ) → b ≡ (n == 0) → b ≡ false → 0 < n
more_than_none b n is not = grind (arith, nat_tests)

-- one of three things is so, by a test of each
pub is_one : (a b c : Bool) → (a ≡ true) ⊎ ((b ≡ true) ⊎ (c ≡ true)) → (a || (b || c)) ≡ true
is_one true b c h = refl
is_one false true c h = refl
is_one false false true h = refl
is_one false false false (inl e) = absurd (false≢true e)
is_one false false false (inr (inl e)) = absurd (false≢true e)
is_one false false false (inr (inr e)) = absurd (false≢true e)

pub is_none : (a b c : Bool) → ((a ≡ true) ⊎ ((b ≡ true) ⊎ (c ≡ true)) → ⊥) → (a || (b || c)) ≡ false
is_none true b c h = absurd (h (inl refl))
is_none false true c h = absurd (h (inr (inl refl)))
is_none false false true h = absurd (h (inr (inr refl)))
is_none false false false h = refl

-- whether a number is less, by a test
pub is_less : (a b : ℕ) → a < b → IsTrue (nat_lt a b)
is_less a b h = grind (arith, nat_tests)

pub less_by : (a b : ℕ) → IsTrue (nat_lt a b) → a < b
less_by a b h = grind (arith, nat_tests)

-- whether one of two numbers is less, or another is more than none, where the first is so and where it isn't
pub by_first : (a a2 b b2 : ℕ) {Q : Type 0} → a < b → a ≡ a2 → b ≡ b2 → IsTrue (nat_lt a b) ↔ ((a2 < b2) ⊎ Q)
by_first a a2 b b2 less e f = (λ t. inl (rw (← e, ← f) less), λ s. is_less a b less)

pub by_second : (a a2 b b2 n n2 : ℕ) → b ≤ a → a ≡ a2 → b ≡ b2 → n ≡ n2 → IsTrue (nat_lt 0 n) ↔ ((a2 < b2) ⊎ (0 < n2))
by_second a a2 b b2 n n2 more e f g = (λ t. inr (rw (← g) (less_by 0 n t)), λ s. is_less 0 n (some s))
  where
    some : (a2 < b2) ⊎ (0 < n2) → 0 < n
    some (inl less) = absurd (omega (arith, more, e, f, less))
    some (inr q) = rw g q

-- the order of two numbers that aren't ordered so
pub less_unless : (a b : ℕ) → (a ≤ b → ⊥) → b < a
less_unless a b h = omega arith
