-- Which methods may be called.
use Rattle.std.specs.Prelude.{◌≡◌, ℕ, ◌^◌, ◌==◌, ◌&&◌, Bool, true, false, if◌then◌else◌, not, List, [], ◌∷◌, ◌++◌, length, codes, string_bytes}
use Rattle.std.specs.List.{list_any}
use Rattle.std.specs.Int.RustNames.{bit_and, bit_or}
use Rattle.cp_relay.specs.declared.rules.MethodId.{MethodId}
use Rattle.cp_relay.specs.declared.rules.Callable.{Callable}
use Rattle.cp_relay.specs.declared.rules.Callable.TheVariants as callables
use Rattle.cp_relay.specs.declared.rules.Grant.{Grant}
use Rattle.cp_relay.specs.declared.rules.Rules.{Rules}
use Rattle.cp_relay.specs.declared.rules.MethodName.{MethodName}

-- a method is that of number m of interface i
abbrev pub is_method : ℕ → ℕ → MethodId → Bool
is_method i m method = (method.interface == i) && (method.method == m)

-- A method may be called: it is one of those that the rules name, where these alone may be, and else none of them.
abbrev pub may_call : Rules → ℕ → ℕ → Bool
may_call rules i m = if rules.only then list_any (is_method i m) rules.methods.items else not (list_any (is_method i m) rules.methods.items)

-- There is a rule on what calls gave.
abbrev pub has_some : List Grant → Bool
has_some [] = false
has_some (grant ∷ grants) = true

abbrev pub follows : Rules → Bool
follows rules = has_some rules.grants.items

-- method m of interface i is among what may be called
abbrev pub is_in : ℕ → ℕ → Callable → Bool
is_in i m callables.All = true
is_in i m (callables.Interface interface) = interface == i
is_in i m (callables.Method method) = is_method i m method

-- the marks of what a call of method m of interface i gives, beside these: those of the rules after that method
abbrev pub marks_after : ℕ → ℕ → ℕ → List Grant → ℕ
marks_after i m marks [] = marks
marks_after i m marks (grant ∷ grants) = marks_after i m (if is_method i m grant.after then bit_or marks grant.mark else marks) grants

-- a rule is added on what calls of this method gave, with a mark that no other has
abbrev pub with_grant : List Grant → MethodId → Callable → List Grant
with_grant grants after callable = grants ++ record { after = after; callable = callable; mark = 2 ^ length grants } ∷ []

-- a rule lets method m of interface i be called of what has these marks: they have its own
abbrev pub is_granted : ℕ → ℕ → ℕ → Grant → Bool
is_granted marks i m grant = is_in i m grant.callable && not (bit_and marks grant.mark == 0)

-- The method may be called of what has these marks, by a rule on all references or on what calls gave.
abbrev pub may_call_on : Rules → ℕ → ℕ → ℕ → Bool
may_call_on rules marks i m = if may_call rules i m then true else list_any (is_granted marks i m) rules.grants.items

-- The rules are the same, but for the methods that they name.
pub record DiffersInMethods (old new : Rules) : Type 0 where
  pub grants : new.grants ≡ old.grants
  pub only : new.only ≡ old.only
  pub names : new.names ≡ old.names
  pub limits : new.limits ≡ old.limits
  pub strict : new.strict ≡ old.strict

-- The rules are the same, but for what methods are called.
pub record DiffersInNames (old new : Rules) : Type 0 where
  pub grants : new.grants ≡ old.grants
  pub methods : new.methods ≡ old.methods
  pub only : new.only ≡ old.only
  pub limits : new.limits ≡ old.limits
  pub strict : new.strict ≡ old.strict

-- The rules are the same, but for those on what calls gave.
pub record DiffersInGrants (old new : Rules) : Type 0 where
  pub methods : new.methods ≡ old.methods
  pub only : new.only ≡ old.only
  pub names : new.names ≡ old.names
  pub limits : new.limits ≡ old.limits
  pub strict : new.strict ≡ old.strict

-- what method m of interface i is called: the first name for it
abbrev pub name_of : ℕ → ℕ → List MethodName → List ℕ
name_of i m [] = codes "a method that the schema doesn't have"
name_of i m (named ∷ names) = if is_method i m named.method then string_bytes named.name else name_of i m names
