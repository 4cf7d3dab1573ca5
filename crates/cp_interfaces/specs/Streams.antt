-- What objects do of whose methods some have `-> stream` for their results.
use Rattle.std.specs.Prelude.{◌≡◌, ℕ, ◌==◌, ◌&&◌, ◌||◌, Bool, true, false, Option, Some, None}
use Rattle.cp_messages.specs.declared.exception.Exception.{Exception}
use Rattle.cp_refs.specs.declared.call.Request.{Request}
use Rattle.cp_refs.specs.declared.outcome.Outcome.{Outcome}
use Rattle.cp_refs.specs.declared.outcome.Outcome.TheVariants as outcomes
use Rattle.cp_servants.specs.declared.servant.Reply.{Reply}
use Rattle.cp_servants.specs.declared.servant.Reply.TheVariants as replies
use Rattle.cp_objects.specs.Context.{ContextState}
use Rattle.cp_objects.specs.ServedObject.{ServedObjectKind}
use Rattle.cp_interfaces.specs.Replies.{failing}

-- no method is one
abbrev pub no_streams : ℕ → ℕ → Bool
no_streams interface method = false

-- that of this number of this interface is one too
abbrev pub with_stream : ℕ → ℕ → (ℕ → ℕ → Bool) → ℕ → ℕ → Bool
with_stream i m streams interface method = ((interface == i) && (method == m)) || streams interface method

-- the exception with which a call failed, if it did
abbrev pub failure_of : Outcome → Option Exception
failure_of (outcomes.Results content caps) = None
failure_of (outcomes.Failed exception) = Some exception
failure_of outcomes.Canceled = None

-- the exception by which a call breaks its object: that with which a call of a stream failed at once, if it did
abbrev pub broken_by : Bool → Reply → Option Exception
broken_by false reply = None
broken_by true (replies.Now outcome gives_up) = failure_of outcome
broken_by true replies.Later = None

-- Of objects that are seen so, and are broken by the exception of a call of a stream, once one failed.
module _ {A S M : Type 0} (seen : A → S) (broken : A → Option Exception) (streams : ℕ → ℕ → Bool) (kind : ServedObjectKind S M) where
  -- A call is taken as the object's kind says, and one of a stream that fails breaks the object. Where it was broken the call fails likewise, and nothing else is
  -- done.
  abbrev pub TakesUnless : Option Exception → A → ℕ → Request → ContextState M → Reply → ContextState M → A → Type 0
  TakesUnless None old ticket request before reply after new =
      kind.takes (seen old) ticket request before reply after (seen new)
      × (broken new ≡ broken_by (streams request.interface request.method) reply)
  TakesUnless (Some exception) old ticket request before reply after new =
      (failing request.caps (Some exception) ≡ Some reply) × (after ≡ before) × (new ≡ old)

  -- the kind of objects that do what their kind says, but take no calls once they are broken; nothing else than a call breaks one
  abbrev pub until_broken : ServedObjectKind A M
  until_broken = record {
    takes = λ old ticket request before reply after new. TakesUnless (broken old) old ticket request before reply after new;
    polls = λ old before given after new. kind.polls (seen old) before given after (seen new) × (broken new ≡ broken old);
    next_calls = λ old before next_call after new. kind.next_calls (seen old) before next_call after (seen new) × (broken new ≡ broken old);
    on_response = λ old call_id outcome before after new.
        kind.on_response (seen old) call_id outcome before after (seen new) × (broken new ≡ broken old);
    on_cancel = λ old ticket before after new. kind.on_cancel (seen old) ticket before after (seen new) × (broken new ≡ broken old);
    ends = λ old before after new. kind.ends (seen old) before after (seen new) × (broken new ≡ broken old);
    says_more = λ more object. kind.says_more more (seen object);
  }
