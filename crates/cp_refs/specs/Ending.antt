-- Ways that end.
use Rattle.std.specs.Prelude.{◌≡◌, ℕ, zero, suc, Bool, true, false, refl}
use mathlib.Core.HLevel.{Σ_prop_path}
use mathlib.Core.Path.{sym, ap}
use mathlib.Core.Bool.{true≢false, Bool-set}
use Rattle.cp_refs.specs.Route.{Way, ends, leads, missing, way}
use Rattle.cp_refs.specs.Values.{ValueMaps}
use Rattle.cp_refs.specs.declared.cap.Cap.{Cap}

-- whether a way ends here
abbrev pub is_end : Way → Bool
is_end (ends route) = true
is_end (leads c) = false
is_end missing = false

-- whether a way leads on to a capability of which this holds
abbrev pub is_led : (Cap → Bool) → Way → Bool
is_led holds (ends route) = false
is_led holds (leads c) = holds c
is_led holds missing = false

-- whether the way of a capability ends after exactly this many others
abbrev pub ends_after : ℕ → ValueMaps → Cap → Bool
ends_after zero values c = is_end (way values c)
ends_after (suc n) values c = is_led (λ next. ends_after n values next) (way values c)

-- the way of a capability ends
abbrev pub Ending : ValueMaps → Cap → Type 0
Ending values c = (n : ℕ) × (ends_after n values c ≡ true)

-- a way doesn't both end here and lead on
not_both : (holds : Cap → Bool) (w : Way) → is_end w ≡ true → is_led holds w ≡ true → ⊥
not_both holds (ends route) e f = true≢false (sym f)
not_both holds (leads c) e f = true≢false (sym e)
not_both holds missing e f = true≢false (sym e)

-- if two things hold of where a way leads on, they do so of one capability
both_led : {Z : Type 0} (f g : Cap → Bool) (w : Way) → ((c : Cap) → f c ≡ true → g c ≡ true → Z) → is_led f w ≡ true → is_led g w ≡ true → Z
both_led f g (ends route) k a b = absurd (true≢false (sym a))
both_led f g (leads c) k a b = k c a b
both_led f g missing k a b = absurd (true≢false (sym a))

-- a way ends only once
pub ends_once : (m n : ℕ) (values : ValueMaps) (c : Cap) → ends_after m values c ≡ true → ends_after n values c ≡ true → m ≡ n
ends_once zero zero values c a b = refl
ends_once zero (suc n) values c a b = absurd (not_both (λ next. ends_after n values next) (way values c) a b)
ends_once (suc m) zero values c a b = absurd (not_both (λ next. ends_after m values next) (way values c) b a)
ends_once (suc m) (suc n) values c a b =
    both_led (λ next. ends_after m values next) (λ next. ends_after n values next) (way values c) (λ next x y. ap suc (ends_once m n values next x y)) a b

-- so there is one proof at most that it ends
pub Ending-prop : (values : ValueMaps) (c : Cap) → IsProp (Ending values c)
Ending-prop values c (m, a) (n, b) = Σ_prop_path (λ k. Bool-set (ends_after k values c) true) (ends_once m n values c a b)
