-- Which messages the rules of a relay let go.
use Rattle.std.specs.Prelude.{◌≡◌, ◌⊎◌, ℕ, ◌==◌, ◌&&◌, Bool, true, if◌then◌else◌, not, Some}
use Rattle.std.specs.List.{list_any}
use Rattle.cp_messages.specs.declared.message.Message.{Message}
use Rattle.cp_messages.specs.declared.message.Message.TheVariants as messages
use Rattle.cp_relay.specs.Relay.{Relay, EndsInside}
use Rattle.cp_relay.specs.declared.fault.RelayFault.{RelayFault}
use Rattle.c_handles.specs.declared.method.MethodNumbers.{MethodNumbers}
use Rattle.c_handles.specs.declared.method.MethodRules.{MethodRules}

-- these are the numbers of method m of interface i
abbrev pub is_method : ℕ → ℕ → MethodNumbers → Bool
is_method i m numbers = (numbers.interface == i) && (numbers.method == m)

-- A method may be called: it is one of those that the rules name, where these alone may be, and else none of them.
abbrev pub may_call : MethodRules → ℕ → ℕ → Bool
may_call rules i m = if rules.only then list_any (is_method i m) rules.methods.items else not (list_any (is_method i m) rules.methods.items)

-- a message may go, unless it calls a method that may not be called
abbrev pub may_go : MethodRules → Message → Bool
may_go rules (messages.Call call) = may_call rules call.interface_id call.method_id
may_go rules other = true

-- what rules say of a message; they don't change
abbrev pub passes : MethodRules → Message → Bool → MethodRules → Type 0
passes old message may new = (may ≡ may_go old message) × (new ≡ old)

-- the stream of a relay ended inside a frame, or the relay had stopped before
abbrev pub HasEnded : Relay → Relay → RelayFault → Type 0
HasEnded old new fault = EndsInside old new fault ⊎ ((old.fault ≡ Some fault) × (new ≡ old))
