-- Capabilities and calls, with the sessions that they are of.
use Rattle.std.specs.Prelude.{◌≡◌, ◌↔◌, ℕ, ◌==◌, ◌&&◌, ◌||◌, Bool, true, false, if◌then◌else◌, Result, Ok, Err}
use Rattle.cp_refs.specs.declared.call.Request.{Request}
use Rattle.cp_refs.specs.declared.cap.Cap.{Cap}
use Rattle.cp_refs.specs.declared.cap.Cap.TheVariants as caps
use Rattle.cp_servants.specs.declared.servant.OutgoingCall.{OutgoingCall}
use Rattle.cp_objects.specs.declared.reference_error.ReferenceError.{ReferenceError}
use Rattle.cp_objects.specs.declared.reference_error.ReferenceError.TheVariants as errors
use Rattle.cp_objects.specs.declared.session_call.SessionCall.{SessionCall}
use Rattle.cp_objects.specs.declared.session_cap.SessionCap.{SessionCap}

-- a capability that is null or broken means the same in each session
abbrev pub means_same : Cap → Bool
means_same caps.None = true
means_same (caps.Broken exception) = true
means_same other = false

-- this session takes it
abbrev pub is_of : ℕ → SessionCap → Bool
is_of session c = c.session == session || means_same c.cap

-- it takes both
abbrev pub are_of : ℕ → SessionCap → SessionCap → Bool
are_of session c d = is_of session c && is_of session d

-- the capability, if this session takes it
abbrev pub cap_for : ℕ → SessionCap → Result Cap ReferenceError
cap_for session c = if is_of session c then Ok c.cap else Err errors.OtherSession

-- a call of it
abbrev pub calling : SessionCap → Request → ℕ → SessionCall
calling target request call_id = record { session = target.session; call = record { cap = target.cap; request = request; call_id = call_id } }

-- a call, if this session makes it
abbrev pub call_for : ℕ → SessionCall → Result OutgoingCall ReferenceError
call_for session c = if c.session == session then Ok c.call else Err errors.OtherSession

-- A reference is refused exactly if this isn't so.
abbrev pub IsTakenIf : {A : Type 0} → Bool → Result A ReferenceError → Type 0
IsTakenIf own result = (result ≡ Err errors.OtherSession) ↔ (own ≡ false)
