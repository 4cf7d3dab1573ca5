-- What calls of `watcher` of notebook.capnp lead to.
use Rattle.std.specs.Prelude.{◌≡◌, ◌≤◌, ◌∷◌, [], codes}
use Rattle.cp_interfaces.specs.Dispatch.{Anything, IsElsewhere, Method, Passes, Refuses}
use Rattle.cp_interfaces.specs.declared.call.MethodCall.{MethodCall}
use Rattle.cp_servants.specs.declared.servant.Reply.{Reply}

-- What a call of each method leads to.
pub record WatcherKind (S : Type 0) : Type 1 where
  pub on_added : Method S

-- Of objects that don't say it nothing is known.
abbrev pub any_watcher : {S : Type 0} → WatcherKind S
any_watcher = record {
  on_added = Anything;
}

-- A call of one of these methods does this to an object, by its number.
pub record WatcherMethodTakes {S : Type 0} (kind : WatcherKind S) (old : S) (call : MethodCall) (reply : Reply) (new : S) : Type 0 where
  pub on_added : call.request.method ≡ 0 → Passes kind.on_added old call reply new
  pub past : 1 ≤ call.request.method → Refuses (codes "Watcher") old call reply new

-- A call does this to an object, by its interface.
pub record WatcherTakes {S : Type 0}
    (watcher_kind : WatcherKind S)
    (old : S) (call : MethodCall) (reply : Reply) (new : S) : Type 0 where
  pub of_watcher : call.request.interface ≡ 0x80a0c5d36bb2c9a2 → WatcherMethodTakes watcher_kind old call reply new
  pub elsewhere : IsElsewhere (0x80a0c5d36bb2c9a2 ∷ []) call → Refuses (codes "Watcher") old call reply new
