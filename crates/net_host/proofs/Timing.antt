-- What follows of a test of a time.
use Rattle.std.proofs.Common.{◌≡◌, ◌≤◌, ◌↔◌, ◌∙◌, ◌==◌, ℕ, min, Bool, false, IsTrue, Option, Some, None, refl, sym, ap, subst, arith}
use Rattle.std.proofs.lemmas.Bool.{eq-eqb, eqb-true, false≢true}
use Rattle.cp_session.specs.Progress.{earlier}
use Rattle.net_host.specs.Timing.{ComesBy, IsNoLonger}

pub same_some : (a b : ℕ) → Some a ≡ Some b → a ≡ b
same_some a b e = grind (arith, e)

-- a time comes by this one, or none is there
pub comes_at : (time : Option ℕ) (at first : ℕ) (b : Bool) → Some first ≡ time → (IsTrue b ↔ (first ≤ at)) → IsTrue b ↔ ComesBy at time
comes_at time at first b there by = (
  λ t. (first, sym there, by.0 t),
  λ comes. by.1 (subst (λ d. d ≤ at) (same_some comes.0 first (sym comes.1 ∙ sym there)) comes.2),
)

pub comes_none : (time : Option ℕ) (at : ℕ) → None ≡ time → IsTrue false ↔ ComesBy at time
comes_none time at none = (λ t. absurd (false≢true t), λ comes. absurd (grind (arith, none, comes.1)))

-- a time didn't come by this one where it is the one that was tested
pub not_come : (time : Option ℕ) (now at : ℕ) → (ComesBy now time → IsTrue false) → now ≡ at → ComesBy at time → ⊥
not_come time now at test same comes = false≢true (test (subst (λ x. ComesBy x time) (sym same) comes))

-- a time is this one, or none is there
pub is_at : (time : Option ℕ) (at last : ℕ) (b : Bool) → b ≡ (last == at) → Some last ≡ time → IsTrue b ↔ (time ≡ Some at)
is_at time at last b is there = (
  λ t. sym there ∙ ap (λ x. Some x) (eqb-true last at (sym is ∙ t)),
  λ same. is ∙ eq-eqb last at (same_some last at (there ∙ same)),
)

pub is_none : (time : Option ℕ) (at : ℕ) → None ≡ time → IsTrue false ↔ (time ≡ Some at)
is_none time at none = (λ t. absurd (false≢true t), λ same. absurd (grind (arith, none, same)))

-- the earlier of two times comes no later than one of them
pub no_longer : (one other : Option ℕ) → IsNoLonger (earlier one other) one
no_longer None other = λ longest none. absurd (grind (arith, none))
no_longer (Some first) None = λ longest same. (first, refl, omega (arith, same_some first longest same))
no_longer (Some first) (Some second) = λ longest same. (min first second, refl, omega (arith, same_some first longest same))
