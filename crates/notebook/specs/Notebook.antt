-- What calls of `notebook` of notebook.capnp lead to.
use Rattle.std.specs.Prelude.{◌≡◌, ◌≤◌, ◌∷◌, [], codes}
use Rattle.cp_interfaces.specs.Dispatch.{Anything, IsElsewhere, Method, Passes, Refuses}
use Rattle.cp_interfaces.specs.declared.call.MethodCall.{MethodCall}
use Rattle.cp_servants.specs.declared.servant.Reply.{Reply}

-- What a call of each method leads to.
pub record NotebookKind (S : Type 0) : Type 1 where
  pub on_add : Method S
  pub on_open : Method S
  pub on_watch : Method S
  pub on_next : Method S

-- Of objects that don't say it nothing is known.
abbrev pub any_notebook : {S : Type 0} → NotebookKind S
any_notebook = record {
  on_add = Anything;
  on_open = Anything;
  on_watch = Anything;
  on_next = Anything;
}

-- A call of one of these methods does this to an object, by its number.
pub record NotebookMethodTakes {S : Type 0} (kind : NotebookKind S) (old : S) (call : MethodCall) (reply : Reply) (new : S) : Type 0 where
  pub on_add : call.request.method ≡ 0 → Passes kind.on_add old call reply new
  pub on_open : call.request.method ≡ 1 → Passes kind.on_open old call reply new
  pub on_watch : call.request.method ≡ 2 → Passes kind.on_watch old call reply new
  pub on_next : call.request.method ≡ 3 → Passes kind.on_next old call reply new
  pub past : 4 ≤ call.request.method → Refuses (codes "Notebook") old call reply new

-- A call does this to an object, by its interface.
pub record NotebookTakes {S : Type 0}
    (notebook_kind : NotebookKind S)
    (old : S) (call : MethodCall) (reply : Reply) (new : S) : Type 0 where
  pub of_notebook : call.request.interface ≡ 0x845bdbd96c36d051 → NotebookMethodTakes notebook_kind old call reply new
  pub elsewhere : IsElsewhere (0x845bdbd96c36d051 ∷ []) call → Refuses (codes "Notebook") old call reply new
