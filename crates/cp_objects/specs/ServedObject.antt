-- What objects do that may make others.
use Rattle.std.specs.Prelude.{◌≡◌, ◌⊎◌, ℕ, Bool, Option}
use Rattle.cp_refs.specs.declared.call.Request.{Request}
use Rattle.cp_refs.specs.declared.outcome.Outcome.{Outcome}
use Rattle.cp_servants.specs.declared.servant.OutgoingCall.{OutgoingCall}
use Rattle.cp_servants.specs.declared.servant.Reply.{Reply}
use Rattle.cp_servants.specs.declared.servant.Settled.{Settled}
use Rattle.cp_objects.specs.Context.{ContextState}

-- What objects of one kind do when they are called, polled, asked for a call, or told an outcome or their end: to themselves, and by their context before and
-- after. And what they say of whether a further poll may give more, though nothing more comes.
pub record ServedObjectKind (A M : Type 0) : Type 1 where
  pub takes : A → ℕ → Request → ContextState M → Reply → ContextState M → A → Type 0
  pub polls : A → ContextState M → Option Settled → ContextState M → A → Type 0
  pub next_calls : A → ContextState M → Option OutgoingCall → ContextState M → A → Type 0
  pub on_response : A → ℕ → Outcome → ContextState M → ContextState M → A → Type 0
  pub on_cancel : A → ℕ → ContextState M → ContextState M → A → Type 0
  pub ends : A → ContextState M → ContextState M → A → Type 0
  pub says_more : Bool → A → Type 0

-- of objects of any kind nothing is said
abbrev pub any_served_object : {A M : Type 0} → ServedObjectKind A M
any_served_object = record {
  takes = λ old ticket request before reply after new. Unit {0};
  polls = λ old before settled after new. Unit {0};
  next_calls = λ old before next_call after new. Unit {0};
  on_response = λ old call_id outcome before after new. Unit {0};
  on_cancel = λ old ticket before after new. Unit {0};
  ends = λ old before after new. Unit {0};
  says_more = λ more object. Unit {0};
}

-- An object was told its end, as its kind says; or it is as it was, and did nothing.
abbrev pub Ends : {A M : Type 0} → ServedObjectKind A M → A → ContextState M → ContextState M → A → Type 0
Ends kind old before after new = kind.ends old before after new ⊎ ((after ≡ before) × (new ≡ old))
