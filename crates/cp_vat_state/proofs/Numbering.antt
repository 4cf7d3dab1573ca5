-- Numbers of promises, and numbers that are free.
use Rattle.std.proofs.Common.{◌≡◌, ◌≢◌, ◌-◌, cond, true, false, true≢false, IsSome, is_some, Option, ℕ, ◌+◌, ◌<◌, ◌≤◌, ◌^◌, ltb, Result, Ok, Err, Some, None, IsOk, OnOk, OnErr, inl, inr, refl, sym, ap, ◌∙◌, arith}
use Rattle.std.proofs.lemmas.Bool.{cases_eq}
use Rattle.std.proofs.lemmas.Bool.Decides.{nat_tests}
use Rattle.std.specs.FinMap.{get, insert, remove, empty, get-empty, len, len-empty, len-remove}
use Rattle.std.specs.Ordering.{nat_cmp}
use Rattle.cp_tables.specs.Table.{Table}
use Rattle.cp_tables.proofs.TableLemmas.{get-insert_same, get-insert_other, get-remove_same, get-remove_other, len-insert_held, len-insert_new}
use Rattle.cp_refs.proofs.Queueing.{put-back, remove-none}
use Rattle.std.specs.Cmp.{nat_cmp_total}
use Rattle.cp_tables.specs.declared.fault.TableFault.{TableFault}
use Rattle.cp_tables.specs.declared.fault.TableFault.TheVariants.{Full}
use Rattle.cp_vat_machine.specs.declared.fault.PeerFault.TheVariants as faults
use Rattle.cp_vat_machine.specs.Capacity.{Fresh, free, full}
use Rattle.cp_vat_state.specs.Numbers.{AreNumbered}

-- the fault of a refusal
abbrev fault_of : {A : Type 0} → Result A TableFault → TableFault
fault_of (Ok x) = Full
fault_of (Err fault) = fault

-- nothing is there
is_none_there : {X : Type 0} (o : Option X) → is_some o ≡ false → o ≡ None
is_none_there None e = refl
is_none_there (Some x) e = absurd (true≢false e)

is_there : {X : Type 0} (o : Option X) → IsSome o → is_some o ≡ true
is_there None h = h
is_there (Some x) h = refl

some_there : {X : Type 0} (o : Option X) → IsSome o → (x : X) × (o ≡ Some x)
some_there None h = absurd (true≢false (sym h))
some_there (Some x) h = (x, refl)

-- a table that isn't full has room
pub has_capacity-not_full : (n : ℕ) → n ≤ 65536 → n ≢ 65536 → ltb n 65536 ≡ true
has_capacity-not_full n few other = grind (arith, nat_tests)

module _ {X : Type 0} where
  -- a number that is free in a table that isn't full is fresh
  pub is_fresh : (table : Table X) (n : ℕ) → get table n ≡ None → n < 2 ^ 32 → len table ≤ 65536 → len table ≢ 65536 → Fresh table (Ok n)
  is_fresh table n none fits few other = free n none fits (has_capacity-not_full (len table) few other)

  -- a full table has no number that is fresh
  pub none_fresh : (table : Table X) → len table ≡ 65536 → Fresh table (Err faults.TableFull)
  none_fresh table is = full (rw is refl)

module _ {Y : Type 0} where
  -- a number that was opened and closed again
  pub closed_again : {A : Type 0} (old opened new : Table Y) (p : ℕ) (y : Y) (r : Result A TableFault) → get old p ≡ None → opened ≡ insert old p y → OnOk r (new ≡ remove opened p) → (IsSome (get opened p) → IsOk r) → new ≡ old
  closed_again old opened new p y (Ok x) none is ok there = ok ∙ ap (λ t. remove t p) is ∙ put-back old p y none
  closed_again old opened new p y (Err fault) none is ok there = absurd (true≢false (sym (there (rw (is, get-insert_same old p y) refl))))

module _ {X Y : Type 0} where
  pub numbered-empty : AreNumbered {X = X} {Y = Y} empty empty
  numbered-empty =
      record { same = λ p. ap is_some (get-empty nat_cmp p) ∙ sym (ap is_some (get-empty nat_cmp p)); many = len-empty nat_cmp Y ∙ sym (len-empty nat_cmp X) }

  -- a number that is free among the numbers is no promise's
  pub unused : (promises : Table X) (numbers : Table Y) → AreNumbered promises numbers → (p : ℕ) → get numbers p ≡ None → get promises p ≡ None
  unused promises numbers same p none = is_none_there _ (sym (same.same p) ∙ ap is_some none)

  pub numbered-open : (promises : Table X) (numbers : Table Y) (p : ℕ) (x : X) (y : Y) → AreNumbered promises numbers → get numbers p ≡ None → AreNumbered (insert promises p x) (insert numbers p y)
  numbered-open promises numbers p x y same none =
      record {
        same =
            λ q. elim (cases_eq q p) [
              | inl e ↦ rw (e, get-insert_same numbers p y, get-insert_same promises p x) refl
              | inr other ↦ rw (get-insert_other numbers p q y other, get-insert_other promises p q x other) (same.same q)
            ];
        many = len-insert_new numbers p y none ∙ ap (λ n. n + 1) same.many ∙ sym (len-insert_new promises p x (unused promises numbers same p none));
      }

  pub numbered-put : (promises : Table X) (numbers : Table Y) (p : ℕ) (x : X) → AreNumbered promises numbers → IsSome (get promises p) → AreNumbered (insert promises p x) numbers
  numbered-put promises numbers p x same there =
      let old = some_there _ there in
      record {
        same =
            λ q. elim (cases_eq q p) [
              | inl e ↦ rw e (same.same p ∙ is_there _ there ∙ sym (ap is_some (get-insert_same promises p x)))
              | inr other ↦ rw (get-insert_other promises p q x other) (same.same q)
            ];
        many = same.many ∙ sym (len-insert_held promises p old.0 x old.1);
      }

  -- a number is free again with its promise
  pub numbered-removed : (promises : Table X) (numbers : Table Y) (p : ℕ) → AreNumbered promises numbers → AreNumbered (remove promises p) (remove numbers p)
  numbered-removed promises numbers p same =
      record {
        same =
            λ q. elim (cases_eq q p) [
              | inl e ↦ rw (e, get-remove_same numbers p, get-remove_same promises p) refl
              | inr other ↦ rw (get-remove_other numbers p q other, get-remove_other promises p q other) (same.same q)
            ];
        many =
            len-remove nat_cmp_total numbers p ∙ ap (λ b. cond b (len numbers - 1) (len numbers)) (same.same p)
            ∙ ap (λ n. cond (is_some (get promises p)) (n - 1) n) same.many ∙ sym (len-remove nat_cmp_total promises p);
      }

-- nothing is there where something can't be
none_unless : {X : Type 0} (o : Option X) → (IsSome o → ⊥) → o ≡ None
none_unless None h = refl
none_unless (Some x) h = absurd (h refl)

-- a number that is closed, or wasn't open
pub closed_number : {A Y : Type 0} (old new : Table Y) (p : ℕ) (r : Result A TableFault) → OnOk r (new ≡ remove old p) → OnErr r (new ≡ old) → (IsSome (get old p) → IsOk r) → new ≡ remove old p
closed_number old new p (Ok x) ok err there = ok
closed_number old new p (Err fault) ok err there = err ∙ remove-none old p (none_unless (get old p) (λ is. true≢false (sym (there is))))
