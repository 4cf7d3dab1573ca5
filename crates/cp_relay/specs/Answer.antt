-- What a caller whose question is refused gets.
use Rattle.std.specs.Prelude.{ℕ, Bool, true, if◌then◌else◌, List, [], ◌++◌, codes}
use Rattle.cp_messages.specs.declared.exception.Exception.{Exception}
use Rattle.cp_messages.specs.declared.exception.ExceptionKind.{ExceptionKind}
use Rattle.cp_messages.specs.declared.exception.ExceptionKind.TheVariants as kinds
use Rattle.cp_messages.specs.declared.returned.Returned.TheVariants as returns
use Rattle.cp_messages.specs.declared.message.Message.{Message}
use Rattle.cp_messages.specs.declared.message.Message.TheVariants as messages
use Rattle.cp_relay.specs.declared.rules.Rules.{Rules}
use Rattle.cp_relay.specs.declared.ruling.Cause.{Cause}
use Rattle.cp_relay.specs.declared.ruling.Cause.TheVariants as causes
use Rattle.cp_relay.specs.Rules.{name_of}

-- a call that isn't allowed has failed, and one too many meets an overload
abbrev pub kind_of : Cause → ExceptionKind
kind_of (causes.NotAllowed i m) = kinds.Failed
kind_of causes.TooMany = kinds.Overloaded
kind_of causes.TooFast = kinds.Overloaded

-- the reason names the method that isn't allowed
abbrev pub reason_of : Rules → Cause → List ℕ
reason_of rules (causes.NotAllowed i m) = codes "not allowed: " ++ name_of i m rules.names.items
reason_of rules causes.TooMany = codes "too many calls"
reason_of rules causes.TooFast = codes "too many calls a second"

-- the exception that says why a question is refused
abbrev pub exception_of : Rules → Cause → Exception
exception_of rules cause = record { kind = kind_of cause; reason = reason_of rules cause; trace = [] }

-- The Return of a question that is refused. What the params would have lent is released. Results that are asked for elsewhere are said to be there.
abbrev pub answer_of : Rules → ℕ → Bool → Cause → Message
answer_of rules question elsewhere cause = messages.Return (record {
  answer_id = question;
  release_param_caps = true;
  returned = if elsewhere then returns.ResultsSentElsewhere else returns.Exception (exception_of rules cause);
})
