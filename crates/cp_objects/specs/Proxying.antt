-- What stands for another session's capability.
use Rattle.std.specs.Prelude.{◌≡◌, ℕ, ◌+◌, ◌-◌, ◌^◌, ◌<◌, ◌≤◌, min, List, [], ◌∷◌, Option, Some, None, codes}
use Rattle.std.specs.FinMap.{get, insert, remove, entries}
use Rattle.std.specs.FinMap as map
use Rattle.cp_tables.specs.Table.{Table}
use Rattle.cp_messages.specs.declared.exception.Exception.{Exception}
use Rattle.cp_messages.specs.declared.exception.ExceptionKind.TheVariants as kinds
use Rattle.cp_refs.specs.declared.cap.Cap.{Cap}
use Rattle.cp_refs.specs.declared.cap.Cap.TheVariants as caps
use Rattle.cp_refs.specs.declared.call.Request.{Request}
use Rattle.cp_refs.specs.declared.outcome.Outcome.{Outcome}
use Rattle.cp_refs.specs.declared.outcome.Outcome.TheVariants as outcomes
use Rattle.cp_refs.specs.At.{failed}
use Rattle.cp_refs.specs.Memory.{counted, request_memory}
use Rattle.cp_servants.specs.declared.servant.Reply.{Reply}
use Rattle.cp_servants.specs.declared.servant.Reply.TheVariants as replies
use Rattle.cp_servants.specs.declared.servant.Settled.{Settled}
use Rattle.cp_servants.specs.Outcomes.{exception_of, named_imports}
use Rattle.cp_objects.specs.declared.context.ObjectEffect.TheVariants as effects
use Rattle.cp_objects.specs.declared.letters.Caller.{Caller}
use Rattle.cp_objects.specs.declared.letters.ForwardedCall.{ForwardedCall}
use Rattle.cp_objects.specs.declared.letters.LetterBody.{LetterBody}
use Rattle.cp_objects.specs.declared.letters.LetterBody.TheVariants as bodies
use Rattle.cp_objects.specs.declared.letters.SharedOutcome.{SharedOutcome}
use Rattle.cp_objects.specs.declared.letters.SharedOutcome.TheVariants as shared
use Rattle.cp_objects.specs.declared.shared_cap.LentCap.{LentCap}
use Rattle.cp_objects.specs.Context.{ContextState, caps_here, hereby_each, shared_each, sharing_each, with_effect}

-- what it stands for, and the bytes of its calls that aren't answered, by their tickets
pub record ProxyState : Type 0 where
  pub target : LentCap
  pub pending : Table ℕ

-- the bytes of open calls of a session past which no more are taken
abbrev pub most : ℕ
most = 16777216

-- one that stands for this, and was called by nobody
abbrev pub new_proxy : LentCap → ProxyState
new_proxy target = record { target = target; pending = map.empty }

-- its call of this ticket isn't open any more
abbrev pub closing : ℕ → ProxyState → ProxyState
closing ticket proxy = record proxy { pending = remove proxy.pending ticket }

-- a call comes to this, and gives up nothing
abbrev pub settled_so : ℕ → Outcome → Settled
settled_so ticket outcome = record { ticket = ticket; outcome = outcome; gives_up = [] }

-- the exception of a broken capability
abbrev pub broken_of : Cap → Option Exception
broken_of (caps.Broken exception) = Some exception
broken_of other = None

-- a call fails at once, and what it named is given up
abbrev pub failing : Exception → Request → Reply
failing exception request = replies.Now (outcomes.Failed exception) (named_imports request.caps)

module _ {M : Type 0} where
  -- a letter goes to the session that it stands for
  abbrev pub posting : LentCap → LetterBody → ContextState M → ContextState M
  posting target body place = with_effect place (effects.Post (record { to = target.session; body = body }))

  -- so many bytes more of calls to other sessions are open
  abbrev pub charging : ℕ → ContextState M → ContextState M
  charging bytes place = record place { forwarded = min (place.forwarded + bytes) (2 ^ 64 - 1) }

  -- so many fewer are, if it was open
  abbrev pub discharging : Option ℕ → ContextState M → ContextState M
  discharging None place = place
  discharging (Some bytes) place = record place { forwarded = place.forwarded - bytes }

  -- who is told what its call of this ticket comes to
  abbrev pub caller_of : ℕ → ContextState M → Caller
  caller_of ticket place = record { proxy = place.this; ticket = ticket }

  -- a call of it, with these capabilities, as it goes there
  abbrev pub forwarded_call : LentCap → ℕ → Request → List LentCap → ContextState M → ForwardedCall
  forwarded_call target ticket request caps place = record {
    target = target;
    interface = request.interface;
    method = request.method;
    content = request.content;
    caps = caps;
    caller = caller_of ticket place;
  }

  -- it goes there, and its bytes are charged
  abbrev pub sending_on : LentCap → ℕ → Request → List LentCap → ContextState M → ContextState M
  sending_on target ticket request caps place =
      posting target (bodies.Call (forwarded_call target ticket request caps place)) (charging (counted (request_memory request)) place)

  -- its capabilities are shared before
  abbrev pub forwarding : LentCap → ℕ → Request → ContextState M → ContextState M
  forwarding target ticket request place = sending_on target ticket request (shared_each request.caps place) (sharing_each request.caps place)

  -- A call of one that stands for a broken capability fails so. Where too much is open it fails as overloaded. Else it goes to the other session.
  pub data Takes (old : ProxyState) (ticket : ℕ) (request : Request) (before : ContextState M) (reply : Reply) (after : ContextState M) (new : ProxyState) : Type 0 where
    is_broken : (exception : Exception) → broken_of old.target.cap ≡ Some exception → reply ≡ failing exception request → after ≡ before → new ≡ old
        → Takes old ticket request before reply after new
    is_overloaded : broken_of old.target.cap ≡ None → most ≤ before.forwarded → reply ≡ failing (exception_of kinds.Overloaded (codes "too many calls are open")) request
        → after ≡ before → new ≡ old → Takes old ticket request before reply after new
    forwards : broken_of old.target.cap ≡ None → before.forwarded < most → reply ≡ replies.Later → after ≡ forwarding old.target ticket request before
        → new ≡ record old { pending = insert old.pending ticket (counted (request_memory request)) } → Takes old ticket request before reply after new

  -- what a call came to, as this session names it
  abbrev pub outcome_here : SharedOutcome → ContextState M → Outcome
  outcome_here (shared.Results content table) place = outcomes.Results content (caps_here table place)
  outcome_here (shared.Failed exception) place = outcomes.Failed exception
  outcome_here shared.Disconnected place = outcomes.Failed (exception_of kinds.Disconnected (codes "the object's connection ended"))

  abbrev pub naming_outcome : SharedOutcome → ContextState M → ContextState M
  naming_outcome (shared.Results content table) place = hereby_each table place
  naming_outcome other place = place

  abbrev pub settling_here : ℕ → SharedOutcome → ContextState M → ContextState M
  settling_here ticket outcome place = with_effect (naming_outcome outcome place) (effects.Settle (settled_so ticket (outcome_here outcome place)))

  -- an open call comes to this
  abbrev pub answering : ℕ → SharedOutcome → Option ℕ → ContextState M → ContextState M
  answering ticket outcome None place = place
  answering ticket outcome (Some bytes) place = settling_here ticket outcome (discharging (Some bytes) place)

  -- It is told what a call came to in the other session. Nothing is done where that was given up.
  abbrev pub TakesLetter : LetterBody → ProxyState → ContextState M → ContextState M → ProxyState → Type 0
  TakesLetter (bodies.Answer object ticket outcome) old before after new = (after ≡ answering ticket outcome (get old.pending ticket) before) × (new ≡ closing ticket old)
  TakesLetter other old before after new = (after ≡ before) × (new ≡ old)

  -- the other session is told that nobody waits for a call any more
  abbrev pub giving_up_call : LentCap → ℕ → ContextState M → ContextState M
  giving_up_call target ticket place = posting target (bodies.Cancel (caller_of ticket place)) place

  -- An open call was given up: the other session is told so, and it comes to an exception, which nobody takes. Any other is answered.
  abbrev pub canceling_one : LentCap → ℕ → ContextState M → ContextState M
  canceling_one target ticket place = with_effect (giving_up_call target ticket place) (effects.Settle (settled_so ticket (outcomes.Failed (failed (codes "canceled")))))

  abbrev pub canceling : LentCap → ℕ → Option ℕ → ContextState M → ContextState M
  canceling target ticket None place = place
  canceling target ticket (Some bytes) place = canceling_one target ticket (discharging (Some bytes) place)

  -- as it goes, each open call is given up
  abbrev pub giving_up_each : LentCap → List (ℕ × ℕ) → ContextState M → ContextState M
  giving_up_each target [] place = place
  giving_up_each target (entry ∷ more) place = giving_up_each target more (giving_up_call target entry.0 (discharging (Some entry.1) place))

  -- and then the other session is told that it is gone
  abbrev pub leaving : ProxyState → ContextState M → ContextState M
  leaving proxy place = posting proxy.target (bodies.Dropped proxy.target.key) (giving_up_each proxy.target (entries proxy.pending) place)
