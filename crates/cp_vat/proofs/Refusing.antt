-- Calls of the application that are refused, and what a capability comes to.
use Rattle.std.proofs.Common.{◌≡◌, Bool, true, false, true≢false, ℕ, zero, suc, List, Option, Some, None, Result, Err, refl, sym, ap, ◌∙◌}
use Rattle.cp_refs.specs.Route.{Way, ends, leads, missing, way}
use Rattle.cp_refs.specs.Values.{ValueMaps}
use Rattle.cp_refs.specs.declared.cap.Cap.{Cap}
use Rattle.cp_vat_machine.specs.State.{State}
use Rattle.cp_vat_machine.specs.Writing.{end_by, end_within, ResolvesTo}
use Rattle.cp_vat_machine.specs.Calling.{OwnDone}
use Rattle.cp_vat_machine.specs.declared.effect.Effect.{Effect}
use Rattle.cp_vat_machine.specs.declared.event.Value.{Value}
use Rattle.cp_vat_machine.specs.declared.fault.VatFault.{VatFault}
use Rattle.cp_vat_machine.specs.declared.fault.VatFault.TheVariants as refusals
use Rattle.cp_vat.specs.Stepping.{Calls}

-- a call that is refused changes nothing
pub calls_refused : {A : Type 0} (Rule : Result OwnDone VatFault → Type 0) (value : A → Value) (old : State) (fault : VatFault) (before after : List Effect) → Rule (Err fault) → Calls Rule value old (Err fault) before after old
calls_refused Rule value old refusals.UnknownQuestion before after met = (met, refl)
calls_refused Rule value old refusals.UnknownPromise before after met = (met, refl)
calls_refused Rule value old refusals.AlreadyResolved before after met = (met, refl)
calls_refused Rule value old refusals.PromiseCycle before after met = (met, refl)
calls_refused Rule value old refusals.Unsettled before after met = (met, refl)
calls_refused Rule value old refusals.InUse before after met = (met, refl)
calls_refused Rule value old refusals.TooLarge before after met = (met, refl)
calls_refused Rule value old refusals.Full before after met = (met, refl)
calls_refused Rule value old refusals.Closed before after met = (met, refl)
calls_refused Rule value old refusals.OutOfMemory before after met = tt
calls_refused Rule value old refusals.UnknownImport before after met = (met, refl)

abbrev or_else : Cap → Option Cap → Cap
or_else c None = c
or_else c (Some x) = x

abbrev is_there : Option Cap → Bool
is_there None = false
is_there (Some x) = true

same_some : (x y z : Cap) → Some x ≡ Some y → Some x ≡ Some z → y ≡ z
same_some x y z first second = sym (ap (or_else x) first) ∙ ap (or_else x) second

none_some : (x : Cap) → None ≡ Some x → ⊥
none_some x e = true≢false (sym (ap is_there e))

module _ (values : ValueMaps) where
  by_once : (n m : ℕ) (c a b : Cap) (w : Way) → ((d : Cap) → end_within n values d ≡ Some a → end_within m values d ≡ Some b → a ≡ b) → end_by (λ d. end_within n values d) c w ≡ Some a → end_by (λ d. end_within m values d) c w ≡ Some b → a ≡ b
  by_once n m c a b (ends route) on first second = same_some c a b first second
  by_once n m c a b (leads d) on first second = on d first second
  by_once n m c a b missing on first second = absurd (none_some a first)

  within_once : (n m : ℕ) (c a b : Cap) → end_within n values c ≡ Some a → end_within m values c ≡ Some b → a ≡ b
  within_once zero m c a b first second = absurd (none_some a first)
  within_once (suc n) zero c a b first second = absurd (none_some b second)
  within_once (suc n) (suc m) c a b first second = by_once n m c a b (way values c) (λ d. within_once n m d a b) first second

  -- a capability comes to one thing
  pub comes_once : (c a b : Cap) → ResolvesTo values c a → ResolvesTo values c b → a ≡ b
  comes_once c a b first second = within_once first.0 second.0 c a b first.1 second.1
