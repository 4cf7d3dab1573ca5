-- An object of one of two kinds.
use Rattle.std.specs.Prelude.{◌≡◌, Bool}
use Rattle.cp_objects.specs.declared.either.Either.{Either}
use Rattle.cp_objects.specs.declared.either.Either.TheVariants as kinds
use Rattle.cp_objects.specs.ServedObject.{Ends, ServedObjectKind}

-- each stays of its kind, and changes so
abbrev pub EachChanges : {A B : Type 0} → (A → A → Type 0) → (B → B → Type 0) → Either A B → Either A B → Type 0
EachChanges {A = A} P Q (kinds.Left old) new = (x : A) × (new ≡ kinds.Left x) × P old x
EachChanges {B = B} P Q (kinds.Right old) new = (x : B) × (new ≡ kinds.Right x) × Q old x

module _ {A B M : Type 0} (a : ServedObjectKind A M) (b : ServedObjectKind B M) where
  abbrev says : Bool → Either A B → Type 0
  says more (kinds.Left x) = a.says_more more x
  says more (kinds.Right x) = b.says_more more x

  -- each does what its kind does
  abbrev pub either : ServedObjectKind (Either A B) M
  either = record {
    takes = λ old ticket request before reply after new.
        EachChanges (λ x y. a.takes x ticket request before reply after y) (λ x y. b.takes x ticket request before reply after y) old new;
    polls = λ old before settled after new. EachChanges (λ x y. a.polls x before settled after y) (λ x y. b.polls x before settled after y) old new;
    next_calls = λ old before next_call after new. EachChanges (λ x y. a.next_calls x before next_call after y) (λ x y. b.next_calls x before next_call after y) old new;
    on_response = λ old call_id outcome before after new.
        EachChanges (λ x y. a.on_response x call_id outcome before after y) (λ x y. b.on_response x call_id outcome before after y) old new;
    on_cancel = λ old ticket before after new.
        EachChanges (λ x y. a.on_cancel x ticket before after y) (λ x y. b.on_cancel x ticket before after y) old new;
    ends = λ old before after new. EachChanges (λ x y. Ends a x before after y) (λ x y. Ends b x before after y) old new;
    says_more = says;
  }
