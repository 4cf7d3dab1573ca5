-- What is done through a box is done to the object in it.
use Rattle.std.proofs.Common.{◌≡◌, ◌⊎◌, Option, None, Result, Ok, Err, IfOk, OnOk, refl, ap, ◌∙◌, subst, inl, inr}
use Rattle.std.specs.declared.dyn_box.DynBox.{DynBox}

-- a box as it was, but that its table and what is in it are these
abbrev pub holding : {I Z : Type 0} {F : I → Type 0} → DynBox I Z F → (k : I) → F k → DynBox I Z F
holding b k value = record { ptr = b.ptr; vtable = k; alloc = b.alloc; value = value }

-- what is said of the object in a box
pub boxed_now : {I : Type 0} {F : I → Type 0} (P : (k : I) → F k → Type 0) {p q : (k : I) × F k} → p ≡ q → P p.0 p.1 → P q.0 q.1
boxed_now {I} {F} P same holds = subst (λ (r : (k : I) × F k). P r.0 r.1) same holds

module _ {I Z : Type 0} {F : I → Type 0} (b : DynBox I Z F) where
  pub boxed : (P : (k : I) → F k → F k → Type 0) {p q : (k : I) × F k} → p ≡ q → (w : F p.0) → P p.0 p.1 w → (v : F q.0) × (holding b p.0 w ≡ holding b q.0 v) × P q.0 q.1 v
  boxed P {p} {q} same w holds =
      subst (λ (r : (k : I) × F k). (v : F r.0) × (holding b p.0 w ≡ holding b r.0 v) × P r.0 r.1 v) same (w, refl, holds)

  -- what a success gives
  pub boxed_ok : {T E : Type 0} (P : (k : I) → F k → T → F k → Type 0) (r : Result T E) {p q : (k : I) × F k} → p ≡ q → (w : F p.0) → IfOk r (λ t. P p.0 p.1 t w)
      → IfOk r (λ t. (v : F q.0) × (holding b p.0 w ≡ holding b q.0 v) × P q.0 q.1 t v)
  boxed_ok P (Ok t) same w holds = boxed (λ k old new. P k old t new) same w holds
  boxed_ok P (Err e) same w holds = tt

  -- it is as it was
  same_box : {p q : (k : I) × F k} → p ≡ q → (w : F p.0) → w ≡ p.1 → holding b p.0 w ≡ holding b q.0 q.1
  same_box {p} {q} same w is = ap (λ (v : F p.0). holding b p.0 v) is ∙ ap (λ (r : (k : I) × F k). holding b r.0 r.1) same

  -- what is asked, or nothing is
  pub boxed_next_calls : {T E : Type 0} (P : (k : I) → F k → Option T → F k → Type 0) (r : Result (Option T) E) {p q : (k : I) × F k} → p ≡ q → (w : F p.0)
      → IfOk r (λ t. P p.0 p.1 t w ⊎ ((t ≡ None) × (w ≡ p.1)))
      → IfOk r (λ t. ((v : F q.0) × (holding b p.0 w ≡ holding b q.0 v) × P q.0 q.1 t v) ⊎ ((t ≡ None) × (holding b p.0 w ≡ holding b q.0 q.1)))
  boxed_next_calls P (Ok t) same w (inl holds) = inl (boxed (λ k old new. P k old t new) same w holds)
  boxed_next_calls P (Ok t) same w (inr none) = inr (none.0, same_box same w none.1)
  boxed_next_calls P (Err e) same w holds = tt

  -- what is told, or nothing changes
  pub boxed_on_response : {T E : Type 0} (P : (k : I) → F k → F k → Type 0) (r : Result T E) {p q : (k : I) × F k} → p ≡ q → (w : F p.0) → OnOk r (P p.0 p.1 w ⊎ (w ≡ p.1))
      → OnOk r (((v : F q.0) × (holding b p.0 w ≡ holding b q.0 v) × P q.0 q.1 v) ⊎ (holding b p.0 w ≡ holding b q.0 q.1))
  boxed_on_response P (Ok t) same w (inl holds) = inl (boxed P same w holds)
  boxed_on_response P (Ok t) same w (inr is) = inr (same_box same w is)
  boxed_on_response P (Err e) same w holds = tt
