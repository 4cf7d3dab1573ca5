-- What calls of `page` of notebook.capnp lead to.
use Rattle.std.specs.Prelude.{◌≡◌, ◌≤◌, ◌∷◌, [], codes}
use Rattle.cp_interfaces.specs.Dispatch.{Anything, IsElsewhere, Method, Passes, Refuses}
use Rattle.cp_interfaces.specs.declared.call.MethodCall.{MethodCall}
use Rattle.cp_servants.specs.declared.servant.Reply.{Reply}

-- What a call of each method leads to.
pub record PageKind (S : Type 0) : Type 1 where
  pub on_read : Method S

-- Of objects that don't say it nothing is known.
abbrev pub any_page : {S : Type 0} → PageKind S
any_page = record {
  on_read = Anything;
}

-- A call of one of these methods does this to an object, by its number.
pub record PageMethodTakes {S : Type 0} (kind : PageKind S) (old : S) (call : MethodCall) (reply : Reply) (new : S) : Type 0 where
  pub on_read : call.request.method ≡ 0 → Passes kind.on_read old call reply new
  pub past : 1 ≤ call.request.method → Refuses (codes "Page") old call reply new

-- A call does this to an object, by its interface.
pub record PageTakes {S : Type 0}
    (page_kind : PageKind S)
    (old : S) (call : MethodCall) (reply : Reply) (new : S) : Type 0 where
  pub of_page : call.request.interface ≡ 0xd22af05f2861ac0c → PageMethodTakes page_kind old call reply new
  pub elsewhere : IsElsewhere (0xd22af05f2861ac0c ∷ []) call → Refuses (codes "Page") old call reply new
