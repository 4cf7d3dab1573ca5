-- What stands under a number of a connection.
use Rattle.std.specs.Prelude.{◌≡◌, ℕ, Bool, false, None}
use Rattle.std.specs.FinMap.{entries, get, insert, len}
use Rattle.cp_servants.specs.declared.servant.Reply.TheVariants as replies
use Rattle.cp_servants.specs.Outcomes.{named_imports, no_such_object}
use Rattle.cp_objects.specs.declared.any_object.AnyObject.{AnyObject}
use Rattle.cp_objects.specs.declared.any_object.AnyObject.TheVariants as any
use Rattle.cp_objects.specs.declared.forwarder.Forwarder.{Forwarder}
use Rattle.cp_objects.specs.declared.letters.LetterBody.{LetterBody}
use Rattle.cp_objects.specs.declared.shared_cap.LentCap.{LentCap}
use Rattle.cp_objects.specs.Context.{ContextState}
use Rattle.cp_objects.specs.Forwarding as forwarding
use Rattle.cp_objects.specs.Forwarding.{LetsGoAll, OnResponse, failing_each}
use Rattle.cp_objects.specs.Proxying as proxying
use Rattle.cp_objects.specs.Proxying.{ProxyState, canceling, closing, leaving}
use Rattle.cp_objects.specs.ServedObject.{Ends, ServedObjectKind}

-- how many capabilities it lends
abbrev pub lent_by : {A : Type 0} → AnyObject A → ℕ
lent_by (any.Forwarder forwarder) = len forwarder.lent
lent_by other = 0

-- it lends this from now on
abbrev pub with_lent : {A : Type 0} → LentCap → AnyObject A → AnyObject A
with_lent shared (any.Forwarder it) = any.Forwarder (record it { lent = insert it.lent shared.key shared })
with_lent shared other = other

-- each stays what it is, and changes so
abbrev pub EachChanges : {A : Type 0} → (A → A → Type 0) → (ProxyState → ProxyState → Type 0) → (Forwarder → Forwarder → Type 0) → AnyObject A → AnyObject A → Type 0
EachChanges {A = A} P Q R (any.Own old) new = (x : A) × (new ≡ any.Own x) × P old x
EachChanges P Q R (any.Proxy old) new = (x : ProxyState) × (new ≡ any.Proxy x) × Q old x
EachChanges P Q R (any.Forwarder old) new = (x : Forwarder) × (new ≡ any.Forwarder x) × R old x

-- what another session says is told to what is of this library, and not to an object of the program's
abbrev pub TakesLetter : {A M : Type 0} → LetterBody → AnyObject A → ContextState M → ContextState M → AnyObject A → Type 0
TakesLetter body old before after new =
    EachChanges (λ x y. (after ≡ before) × (y ≡ x)) (λ x y. proxying.TakesLetter body x before after y) (λ x y. forwarding.TakesLetter body x before after y) old new

-- An object of the program's does as its kind says; what stands for another session's capability, and what makes the calls of others, do as theirs.
module _ {A M : Type 0} (kind : ServedObjectKind A M) where
  abbrev says : Bool → AnyObject A → Type 0
  says more (any.Own object) = kind.says_more more object
  says more other = more ≡ false

  abbrev pub any_object : ServedObjectKind (AnyObject A) M
  any_object = record {
    takes = λ old ticket request before reply after new.
        EachChanges (λ x y. kind.takes x ticket request before reply after y) (λ x y. proxying.Takes x ticket request before reply after y)
        (λ x y. (reply ≡ replies.Now no_such_object (named_imports request.caps)) × (after ≡ before) × (y ≡ x)) old new;
    polls = λ old before given after new.
        EachChanges (λ x y. kind.polls x before given after y) (λ x y. (given ≡ None) × (after ≡ before) × (y ≡ x))
        (λ x y. (given ≡ None) × LetsGoAll x before after y) old new;
    next_calls = λ old before call after new.
        EachChanges (λ x y. kind.next_calls x before call after y) (λ x y. (call ≡ None) × (after ≡ before) × (y ≡ x))
        (λ x y. forwarding.NextCalls x before call after y) old new;
    on_response = λ old call_id outcome before after new.
        EachChanges (λ x y. kind.on_response x call_id outcome before after y) (λ x y. (after ≡ before) × (y ≡ x))
        (λ x y. OnResponse x call_id outcome before after y) old new;
    on_cancel = λ old ticket before after new.
        EachChanges (λ x y. kind.on_cancel x ticket before after y)
        (λ x y. (after ≡ canceling x.target ticket (get x.pending ticket) before) × (y ≡ closing ticket x)) (λ x y. (after ≡ before) × (y ≡ x)) old new;
    ends = λ old before after new.
        EachChanges (λ x y. Ends kind x before after y) (λ x y. (after ≡ leaving x before) × (y ≡ x))
        (λ x y. (after ≡ failing_each (entries x.calls.callers) before) × (y ≡ x)) old new;
    says_more = says;
  }
