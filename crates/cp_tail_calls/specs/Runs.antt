-- What tail calls did, one thing after another.
use Rattle.std.specs.Prelude.{◌≡◌, ℕ, not, Bool, true, false, List, [], ◌∷◌, Option, Some}
use Rattle.std.specs.List.{AllByRecursion}
use Rattle.cp_tables.specs.declared.exchange.Stage.{Stage}
use Rattle.cp_messages.specs.declared.call.Call.{Call}
use Rattle.cp_messages.specs.declared.descriptor.Descriptor.TheVariants as descriptors
use Rattle.cp_messages.specs.declared.message.Message.{Message}
use Rattle.cp_messages.specs.declared.message.Message.TheVariants as messages
use Rattle.cp_messages.specs.declared.resolve.Resolution.{Resolution}
use Rattle.cp_messages.specs.declared.resolve.Resolution.TheVariants as resolutions
use Rattle.cp_tail_calls.specs.declared.forwarding.ForwardedMessage.{ForwardedMessage}
use Rattle.cp_tail_calls.specs.declared.forwarding.Trigger.{Trigger}
use Rattle.cp_tail_calls.specs.Receiving.{is_to_sender, received}
use Rattle.cp_tail_calls.specs.Sending.{next_of, sent}
use Rattle.cp_tail_calls.specs.Tails.{Tails, none}

-- A message of the peer's came, and the vat got this; the vat sent a message by this trigger, and the peer got this; or this was passed on. With what came
-- and what was passed on is what the vat acts on, and the stages of its questions then.
pub data Turn : Type 0 where
  came : (Call → Bool) → (ℕ → Option Stage) → Message → Option Message → Turn
  went : Trigger → Message → Option Message → Turn
  passed : (ℕ → Option Stage) → ForwardedMessage → Turn

abbrev pub TakesTurn : Tails → Turn → Tails → Type 0
TakesTurn old (came acts_on stage m on) new = received acts_on stage old m ≡ (on, new)
TakesTurn old (went trigger m on) new = sent old trigger m ≡ (on, new)
TakesTurn old (passed stage first) new = next_of stage old old.owed ≡ (Some first, new)

-- all that was done of tail calls, the newest first
abbrev pub Did : List Turn → Tails → Type 0
Did [] last = last ≡ none
Did (turn ∷ past) last = (mid : Tails) × Did past mid × TakesTurn mid turn last

-- a message that is no call with results to its sender
abbrev pub is_plain : Message → Bool
is_plain (messages.Call c) = not (is_to_sender c.send_results_to)
is_plain other = true

-- a message that is no Resolve to no capability
abbrev pub is_value : Resolution → Bool
is_value (resolutions.Cap descriptors.None) = false
is_value other = true

abbrev pub is_resolved : Message → Bool
is_resolved (messages.Resolve r) = is_value r.resolution
is_resolved other = true

-- no such message came or went, and those that did were passed on unchanged
abbrev pub IsPlain : Turn → Type 0
IsPlain (came acts_on stage m on) = is_plain m ≡ true
IsPlain (went trigger m on) = is_resolved m ≡ true
IsPlain (passed stage first) = Unit {0}

abbrev pub IsUnchanged : Turn → Type 0
IsUnchanged (came acts_on stage m on) = on ≡ Some m
IsUnchanged (went trigger m on) = on ≡ Some m
IsUnchanged (passed stage first) = ⊥

-- Without a call with results to its sender, and without a promise that came to no capability, nothing is kept, changed or passed on besides.
abbrev pub PlainTurns : Type 0
PlainTurns = (past : List Turn) (last : Tails) → AllByRecursion IsPlain past → Did past last → (last ≡ none) × AllByRecursion IsUnchanged past
