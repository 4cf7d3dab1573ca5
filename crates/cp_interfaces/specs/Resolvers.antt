-- What objects of interfaces do of promises.
use Rattle.std.specs.Prelude.{◌≡◌, Option, Some, None}
use Rattle.cp_messages.specs.declared.exception.Exception.{Exception}
use Rattle.cp_refs.specs.declared.cap.Cap.{Cap}
use Rattle.cp_refs.specs.declared.cap.Cap.TheVariants as caps
use Rattle.cp_objects.specs.Context.{ContextState, next_number, with_effect, with_promise}
use Rattle.cp_objects.specs.declared.context.ObjectEffect.TheVariants as effects
use Rattle.cp_objects.specs.declared.resolver.Resolver.{Resolver}
use Rattle.cp_objects.specs.declared.session_cap.SessionCap.{SessionCap}
use Rattle.cp_interfaces.specs.declared.fault.MethodFault.{MethodFault}
use Rattle.cp_interfaces.specs.Replies.{exception_for}

-- the capability of a promise
abbrev pub promised_by : Resolver → SessionCap
promised_by resolver = record { session = resolver.session; cap = caps.Object resolver.number }

module _ {M : Type 0} where
  -- An object made a promise, which this resolves.
  abbrev pub Promises : Resolver → ContextState M → ContextState M → Type 0
  Promises resolver old new = (resolver ≡ record { session = old.this.session; number = next_number old }) × (new ≡ with_promise old)

  -- what it promised comes to this
  abbrev pub resolved : Resolver → Cap → ContextState M → ContextState M
  resolved resolver value place = with_effect place (effects.Resolve resolver.number value)

  -- what it promised comes to this exception, if there is one
  abbrev pub broken : Resolver → Option Exception → ContextState M → Option (ContextState M)
  broken resolver None place = None
  broken resolver (Some exception) place = Some (resolved resolver (caps.Broken exception) place)

  -- Calls of what it promised fail with the exception of this fault.
  abbrev pub Fails : Resolver → MethodFault → ContextState M → ContextState M → Type 0
  Fails resolver fault old new = broken resolver (exception_for fault) old ≡ Some new
