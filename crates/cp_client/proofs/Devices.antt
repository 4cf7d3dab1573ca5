-- What devices keep, and what a tap counts.
use Rattle.std.proofs.Common.{◌≡◌, ◌∙◌, ℕ, List, [], Option, Ok, ap, refl, zero, suc, arith}
use Rattle.std.specs.Io.KnownBytes.{Appends, Keeps}
use Rattle.std.proofs.KnownBytes.{Appends-nil, Appends-kept}
use Rattle.cp_stream.specs.Read.{FailedOnce}
use Rattle.cp_stream.specs.Tap.{CountsWrite, inner_of, failures_of}
use Rattle.cp_stream.specs.declared.tap.Tap.{Tap}
use Rattle.cp_client.specs.Devices.{Device, device, fresh}

-- a device keeps what it holds
pub appends_kept : (a b : Option (List ℕ)) → Keeps a b → Appends a b []
appends_kept a b keeps = Appends-kept a a b [] (Appends-nil a) keeps

abbrev made : Option (List ℕ) → ℕ → Device
made bytes failures = record { bytes = bytes; failures = failures }

-- a device of which no call failed
pub fresh_device : {T : Type 0} (known : T → Option (List ℕ)) (tap : Tap T) (inner : T) → inner_of tap ≡ inner → failures_of tap ≡ 0 → device known tap ≡ fresh (known inner)
fresh_device {T = T} known tap inner is none = ap (λ (x : T). made (known x) (failures_of tap)) is ∙ ap (λ (n : ℕ). made (known inner) n) none

-- a write that took bytes didn't fail
pub wrote_some : {T : Type 0} (old new : Tap T) (count : ℕ) → CountsWrite {T = T} {E = Unit {0}} old new (Ok count) → (count ≡ 0 → ⊥) → failures_of new ≡ failures_of old
wrote_some old new zero h some = absurd (some refl)
wrote_some old new (suc n) h some = h.failures

-- a write that took none did
pub wrote_none : {T : Type 0} (old new : Tap T) (count : ℕ) → CountsWrite {T = T} {E = Unit {0}} old new (Ok count) → count ≡ 0 → FailedOnce (failures_of old) (failures_of new)
wrote_none old new zero h none = h.failures
wrote_none old new (suc n) h none = absurd (suc-not-zero none)
  where
    suc-not-zero : {n : ℕ} → suc n ≡ 0 → ⊥
    suc-not-zero e = omega (arith, e)
