-- What a method does for a call, and what a call comes to that no method takes.
use Rattle.std.specs.Prelude.{◌≡◌, ◌≢◌, ℕ, List, [], ◌∷◌, Some, Result, Ok, Err}
use Rattle.cp_tree.specs.Node.{Node}
use Rattle.cp_fields.specs.Pointers.{struct_field}
use Rattle.cp_fields.specs.declared.kind.WrongKind.{WrongKind}
use Rattle.cp_servants.specs.declared.servant.Reply.{Reply}
use Rattle.cp_interfaces.specs.declared.call.MethodCall.{MethodCall}
use Rattle.cp_interfaces.specs.declared.fault.MethodFault.{MethodFault}
use Rattle.cp_interfaces.specs.declared.fault.MethodFault.TheVariants as faults
use Rattle.cp_interfaces.specs.Replies.{failing, no_method, refusal_of}

-- What a method makes of an object, a call, its params, the reply that goes to the peer, and the object then.
abbrev pub Method : Type 0 → Type 1
Method S = S → MethodCall → Node → Reply → S → Type 0

-- what a method may do of which the object says nothing
abbrev pub Anything : {S : Type 0} → Method S
Anything old call params reply new = Unit {0}

-- a call of none of these interfaces
abbrev pub IsElsewhere : List ℕ → MethodCall → Type 0
IsElsewhere [] call = Unit {0}
IsElsewhere (interface ∷ more) call = (call.request.interface ≢ interface) × IsElsewhere more call

-- the object is as it was, and this fault goes to the peer
abbrev pub Fails : {S : Type 0} → MethodFault → S → MethodCall → Reply → S → Type 0
Fails fault old call reply new = (refusal_of call.request.caps fault ≡ Some reply) × (new ≡ old)

-- a call that no method takes of the interface of this title is answered unimplemented, and the object is as it was
abbrev pub Refuses : {S : Type 0} → List ℕ → S → MethodCall → Reply → S → Type 0
Refuses title old call reply new =
    (failing call.request.caps (Some (no_method title call.request.interface call.request.method)) ≡ Some reply) × (new ≡ old)

-- a call with these params was passed on to a method; params that are no struct fail it
abbrev pub PassesTo : {S : Type 0} → Method S → S → MethodCall → Result Node WrongKind → Reply → S → Type 0
PassesTo method old call (Ok params) reply new = method old call params reply new
PassesTo method old call (Err fault) reply new = Fails (faults.WrongKind fault) old call reply new

-- a call was passed on to a method
abbrev pub Passes : {S : Type 0} → Method S → S → MethodCall → Reply → S → Type 0
Passes method old call reply new = PassesTo method old call (struct_field call.request.content) reply new
