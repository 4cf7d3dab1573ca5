-- What objects of interfaces do that may make others.
use Rattle.std.specs.Prelude.{◌≡◌, ◌⊎◌, ℕ, Option, None}
use Rattle.cp_refs.specs.declared.outcome.Outcome.{Outcome}
use Rattle.cp_servants.specs.declared.servant.OutgoingCall.{OutgoingCall}
use Rattle.cp_servants.specs.declared.servant.Reply.{Reply}
use Rattle.cp_servants.specs.declared.servant.Settled.{Settled}
use Rattle.cp_objects.specs.Context.{ContextState, context_of}
use Rattle.cp_objects.specs.ServedObject.{ServedObjectKind}
use Rattle.cp_objects.specs.declared.context.Context.{Context}
use Rattle.cp_refs.specs.declared.call.Request.{Request}
use Rattle.cp_servants.specs.declared.request.RequestView.{RequestView}
use Rattle.cp_interfaces.specs.declared.call.MethodCall.{MethodCall}

-- An object, and where it is while it does something. What methods do is said of both, as cp_interfaces says it of objects that make none.
pub record At (S M : Type 0) : Type 0 where
  pub object : S
  pub place : ContextState M

abbrev pub at : {S M : Type 0} → S → Context M → At S M
at object context = record { object = object; place = context_of context }

module _ {S M : Type 0} (kind : ServedObjectKind S M) where
  -- An object was polled, and gave what its kind says; or it gives nothing, and all is as it was.
  abbrev pub Polls : At S M → Option Settled → At S M → Type 0
  Polls old given new = kind.polls old.object old.place given new.place new.object ⊎ ((given ≡ None) × (new ≡ old))

  -- An object said which call it makes next, as its kind says; or it makes none, and all is as it was.
  abbrev pub NextCalls : At S M → Option OutgoingCall → At S M → Type 0
  NextCalls old next_call new = kind.next_calls old.object old.place next_call new.place new.object ⊎ ((next_call ≡ None) × (new ≡ old))

  -- An object was told what its call of this number came to, as its kind says; or all is as it was.
  abbrev pub OnResponse : At S M → ℕ → Outcome → At S M → Type 0
  OnResponse old call_id outcome new = kind.on_response old.object call_id outcome old.place new.place new.object ⊎ (new ≡ old)

  -- An object was told that the call of this ticket was given up, as its kind says; or all is as it was.
  abbrev pub OnCancel : At S M → ℕ → At S M → Type 0
  OnCancel old ticket new = kind.on_cancel old.object ticket old.place new.place new.object ⊎ (new ≡ old)

  -- An object was told its end, as its kind says; or all is as it was.
  abbrev pub HasEnd : At S M → At S M → Type 0
  HasEnd old new = kind.ends old.object old.place new.place new.object ⊎ (new ≡ old)

-- a call, as methods get it
abbrev pub call_of : ℕ → ℕ → Request → MethodCall
call_of session ticket request = record {
  ticket = ticket;
  session = session;
  request = record { interface = request.interface; method = request.method; content = request.content; caps = request.caps };
}

-- the kind of objects to which a call does this, and which do besides what their own kind says
abbrev pub taking : {S M : Type 0} → (At S M → MethodCall → Reply → At S M → Type 0) → ServedObjectKind S M → ServedObjectKind S M
taking takes kind = record kind {
  takes = λ old ticket request before reply after new.
      takes (record { object = old; place = before }) (call_of before.this.session ticket request) reply (record { object = new; place = after });
  polls = λ old before given after new. Polls kind (record { object = old; place = before }) given (record { object = new; place = after });
  next_calls = λ old before next_call after new. NextCalls kind (record { object = old; place = before }) next_call (record { object = new; place = after });
  on_response = λ old call_id outcome before after new.
      OnResponse kind (record { object = old; place = before }) call_id outcome (record { object = new; place = after });
  on_cancel = λ old ticket before after new. OnCancel kind (record { object = old; place = before }) ticket (record { object = new; place = after });
  ends = λ old before after new. HasEnd kind (record { object = old; place = before }) (record { object = new; place = after });
}
