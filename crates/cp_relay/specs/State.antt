-- What a guard knows of a connection's questions, and what is broken by one that it refused.
use Rattle.std.specs.Prelude.{ℕ, nat_lt, ◌+◌, ◌-◌, ◌^◌, ◌<◌, Bool, true, false, if◌then◌else◌, Option, Some, None, map}
use Rattle.std.specs.Option.{is_some}
use Rattle.std.specs.FinMap.{get, insert, remove}
use Rattle.cp_tables.specs.Table.{Table}
use Rattle.cp_messages.specs.declared.call.Call.{Call}
use Rattle.cp_messages.specs.declared.payload.Payload.{Payload}
use Rattle.cp_messages.specs.declared.target.Target.{Target}
use Rattle.cp_messages.specs.declared.target.Target.TheVariants as targets
use Rattle.cp_messages.specs.declared.descriptor.Descriptor.{Descriptor}
use Rattle.cp_messages.specs.declared.descriptor.Descriptor.TheVariants as descriptors
use Rattle.cp_relay.specs.declared.rules.Rules.{Rules}
use Rattle.cp_relay.specs.declared.rules.CallLimits.{CallLimits}
use Rattle.cp_relay.specs.declared.state.GuardState.{GuardState}
use Rattle.cp_relay.specs.declared.ruling.Cause.{Cause}
use Rattle.cp_relay.specs.declared.ruling.Cause.TheVariants as causes
use Rattle.cp_relay.specs.Rules.{may_call, may_call_on, follows}
use Rattle.cp_relay.specs.References.{marks_of}

-- the questions that were refused and aren't finished, by their numbers, each with the reason
abbrev pub Refused : Type 0
Refused = Table Cause

-- what is sent to a promise of a refused question is broken, for that question's reason
abbrev pub target_cause : Refused → Target → Option Cause
target_cause refused (targets.PromisedAnswer answer) = get refused answer.question_id
target_cause refused (targets.ImportedCap id) = None
target_cause refused (targets.Unknown number) = None

-- so is a capability that a refused question promised
abbrev pub descriptor_cause : Refused → Descriptor → Option Cause
descriptor_cause refused (descriptors.ReceiverAnswer answer) = get refused answer.question_id
descriptor_cause refused other = None

abbrev pub is_broken : Refused → Descriptor → Bool
is_broken refused descriptor = is_some (descriptor_cause refused descriptor)

-- none in the place of a broken capability
abbrev pub without_broken : Refused → Descriptor → Descriptor
without_broken refused descriptor = if is_broken refused descriptor then descriptors.None else descriptor

abbrev pub payload_without : Refused → Payload → Payload
payload_without refused payload = record payload { cap_table = map (without_broken refused) payload.cap_table }

-- the limit that one more question would pass
abbrev pub limit_cause : CallLimits → GuardState → Option Cause
limit_cause limits s =
    if nat_lt s.under_way limits.under_way then (if nat_lt s.opened limits.a_second then None else Some causes.TooFast) else Some causes.TooMany

-- the first of two reasons
abbrev pub first_of : Option Cause → Option Cause → Option Cause
first_of (Some cause) other = Some cause
first_of None other = other

-- the call may go to what has these marks, and not to what the caller wasn't given
abbrev pub may_reach : Rules → Call → Option ℕ → Bool
may_reach rules call (Some marks) = may_call_on rules marks call.interface_id call.method_id
may_reach rules call None = false

-- The rules allow a call: its method; and where there is a rule on what calls gave, to what it goes to. What is broken isn't judged by that.
abbrev pub may_go : Rules → GuardState → Call → Bool
may_go rules s call =
    if follows rules then (if is_some (target_cause s.refused call.target) then true else may_reach rules call (marks_of s.references.callee call.target))
    else may_call rules call.interface_id call.method_id

-- Why a call is refused: it isn't allowed; or what it is sent to is broken; or a limit is met.
abbrev pub call_cause : Rules → GuardState → Call → Option Cause
call_cause rules s call =
    if may_go rules s call
    then first_of (target_cause s.refused call.target) (limit_cause rules.limits s)
    else Some (causes.NotAllowed call.interface_id call.method_id)

-- The state can count one more question.
pub record CountsOneMore (s : GuardState) : Type 0 where
  pub under_way : s.under_way + 1 < 2 ^ 32
  pub opened : s.opened + 1 < 2 ^ 32

-- one more question is under way
abbrev pub with_one_more : GuardState → GuardState
with_one_more s = record s { under_way = s.under_way + 1; opened = s.opened + 1 }

-- one fewer is
abbrev pub with_one_fewer : GuardState → GuardState
with_one_fewer s = record s { under_way = s.under_way - 1 }

-- a question is refused, up to its Finish
abbrev pub with_refused : GuardState → ℕ → Cause → GuardState
with_refused s question cause = record s { refused = insert s.refused question cause; unfinished = s.unfinished + 1 }

-- a question that was refused is finished, and its number may be used again
abbrev pub with_finished : GuardState → ℕ → GuardState
with_finished s question = record s { refused = remove s.refused question; unfinished = s.unfinished - 1 }
