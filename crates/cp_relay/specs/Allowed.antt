-- Which messages of the caller may go: what a guard lets go is one of these.
use Rattle.std.specs.Prelude.{◌≡◌, true, false, None}
use Rattle.std.specs.List.{list_any}
use Rattle.std.specs.FinMap.{get}
use Rattle.cp_messages.specs.declared.returned.Returned.{Returned}
use Rattle.cp_messages.specs.declared.returned.Returned.TheVariants as returns
use Rattle.cp_messages.specs.declared.resolve.Resolution.{Resolution}
use Rattle.cp_messages.specs.declared.resolve.Resolution.TheVariants as resolutions
use Rattle.cp_messages.specs.declared.payload.Payload.{Payload}
use Rattle.cp_messages.specs.declared.call.Call.{Call}
use Rattle.cp_messages.specs.declared.message.Message.{Message}
use Rattle.cp_messages.specs.declared.message.Message.TheVariants as messages
use Rattle.cp_relay.specs.declared.rules.Rules.{Rules}
use Rattle.cp_relay.specs.declared.state.GuardState.{GuardState}
use Rattle.cp_relay.specs.declared.ruling.Ruling.{Ruling}
use Rattle.cp_relay.specs.declared.ruling.Ruling.TheVariants as rulings
use Rattle.cp_relay.specs.Rules.{follows}
use Rattle.cp_relay.specs.Followed.{followed_from}
use Rattle.cp_relay.specs.State.{Refused, may_go, is_broken, target_cause, descriptor_cause, limit_cause}
use Rattle.cp_relay.specs.Judged.{judged}

-- no capability of a payload is one that a refused question promised
abbrev pub HasNoBroken : Refused → Payload → Type 0
HasNoBroken refused payload = list_any (is_broken refused) payload.cap_table ≡ false

-- A call may go: the rules allow it, and it names no question that was refused.
pub record IsAllowedCall (rules : Rules) (s : GuardState) (call : Call) : Type 0 where
  pub method : may_go rules s call ≡ true
  pub number : get s.refused call.question_id ≡ None
  pub target : target_cause s.refused call.target ≡ None
  pub params : HasNoBroken s.refused call.params

-- what is returned names no question that was refused
abbrev pub IsAllowedReturn : Refused → Returned → Type 0
IsAllowedReturn refused (returns.Results payload) = HasNoBroken refused payload
IsAllowedReturn refused (returns.TakeFromOtherQuestion question) = get refused question ≡ None
IsAllowedReturn refused other = Unit {0}

-- nor does what a promise becomes
abbrev pub IsAllowedResolution : Refused → Resolution → Type 0
IsAllowedResolution refused (resolutions.Cap descriptor) = descriptor_cause refused descriptor ≡ None
IsAllowedResolution refused other = Unit {0}

-- a message may go
abbrev pub IsAllowed : Rules → GuardState → Message → Type 0
IsAllowed rules s (messages.Call call) = IsAllowedCall rules s call
IsAllowed rules s (messages.Bootstrap bootstrap) = get s.refused bootstrap.question_id ≡ None
IsAllowed rules s (messages.Finish finish) = get s.refused finish.question_id ≡ None
IsAllowed rules s (messages.Return r) = IsAllowedReturn s.refused r.returned
IsAllowed rules s (messages.Resolve r) = IsAllowedResolution s.refused r.resolution
IsAllowed rules s (messages.Disembargo d) = target_cause s.refused d.target ≡ None
IsAllowed rules s other = Unit {0}

-- what is kept of a message closes nothing; without a rule on what calls gave nothing is kept
abbrev pub IsKept : Rules → GuardState → Message → Type 0
IsKept rules s m = follows rules ≡ true → (followed_from false rules s.references m).breach ≡ None

-- the second message goes where the first came
abbrev pub Goes : Ruling → Message → Message → Type 0
Goes rulings.Passes came goes = goes ≡ came
Goes (rulings.Changes changed) came goes = goes ≡ changed
Goes (rulings.Answers answer) came goes = ⊥
Goes rulings.Drops came goes = ⊥
Goes (rulings.Closes breach) came goes = ⊥

-- whatever the caller sends, what goes is allowed
abbrev pub OnlyAllowed : Type 0
OnlyAllowed = (rules : Rules) (s : GuardState) (came goes : Message) → Goes (judged rules s came).ruling came goes → IsAllowed rules s goes

-- and what is allowed goes as it came, unless a limit is met, or what is kept of it closes the connection
abbrev pub AllowedPass : Type 0
AllowedPass = (rules : Rules) (s : GuardState) (m : Message) → IsAllowed rules s m → limit_cause rules.limits s ≡ None → IsKept rules s m → (judged rules s m).ruling ≡ rulings.Passes
