-- What keeps a lane: a part of an event, at its own end or at the other, that has nothing to do with it.
use Rattle.std.specs.Prelude.{◌≡◌, ◌⊎◌, refl, ◌||◌, Bool, true, false, List, [], ◌∷◌, ◌++◌}
use Rattle.std.specs.List.{list_any}
use Rattle.std.proofs.Common.{ap, sym, ◌∙◌, true≢false}
use Rattle.std.proofs.lemmas.List.{append_assoc}
use Rattle.std.proofs.lemmas.List.Folds.{list_any-append}
use Rattle.cp_messages.specs.declared.message.Message.{Message}
use Rattle.cp_vat_pair_laws.specs.Phases.{IsOnly}

-- The front of the messages was taken, if one was.
abbrev pub IsFront : (Message → Type 0) → List Message → List Message → Type 0
IsFront Apart old new = (new ≡ old) ⊎ ((m : Message) × (old ≡ m ∷ new) × Apart m)

-- the only message of a kind, where others come after it, or another one is taken
any_both : (is : Message → Bool) (xs ys : List Message) → list_any is xs ≡ false → list_any is ys ≡ false → list_any is (xs ++ ys) ≡ false
any_both is xs ys one more = list_any-append is xs ys ∙ ap (λ b. b || list_any is ys) one ∙ more

pub any_mail : (is : Message → Bool) (xs ys : List Message) → list_any is xs ≡ false → list_any is ys ≡ false → list_any is (xs ++ ys) ≡ false
any_mail is xs ys one more = any_both is xs ys one more

pub only_mail : {inbox : List Message} {is : Message → Bool} {before : List Message} {m : Message} {after : List Message} (more : List Message) → IsOnly inbox is before m after
    → list_any is more ≡ false → IsOnly (inbox ++ more) is before m (after ++ more)
only_mail {is = is} {before = before} {m = m} {after = after} more only none =
    record {
      all = ap (λ xs. xs ++ more) only.all ∙ append_assoc before (m ∷ after) more;
      it = only.it;
      none_before = only.none_before;
      none_after = any_both is after more only.none_after none;
    }

-- one that is alone at the end
pub only_last : (inbox : List Message) (is : Message → Bool) (m : Message) → list_any is inbox ≡ false → is m ≡ true → IsOnly (inbox ++ m ∷ []) is inbox m []
only_last inbox is m none it = record { all = refl; it = it; none_before = none; none_after = refl }

-- what stands before it when another one was taken
pub record IsTaken (rest : List Message) (is : Message → Bool) (x : Message) (before : List Message) (m : Message) (after : List Message) : Type 0 where
  pub left : List Message
  pub was : before ≡ x ∷ left
  pub only : IsOnly rest is left m after

abbrev first_or : Message → List Message → Message
first_or m [] = m
first_or m (x ∷ xs) = x

abbrev rest_of : List Message → List Message
rest_of [] = []
rest_of (x ∷ xs) = xs

pub only_taken : (x : Message) (rest : List Message) (is : Message → Bool) (before : List Message) (m : Message) (after : List Message) → IsOnly (x ∷ rest) is before m after
    → is x ≡ false → IsTaken rest is x before m after
only_taken x rest is [] m after only apart =
    let same : x ≡ m = ap (first_or x) only.all in
    absurd (true≢false (sym only.it ∙ sym (ap is same) ∙ apart))
only_taken x rest is (y ∷ before) m after only apart =
    let same : y ≡ x = sym (ap (first_or x) only.all) in
    record {
      left = before;
      was = ap (λ z. z ∷ before) same;
      only =
          record {
            all = ap rest_of only.all;
            it = only.it;
            none_before = any_rest is y before only.none_before;
            none_after = only.none_after;
          };
    }
  where
    any_rest : (is : Message → Bool) (y : Message) (ys : List Message) → list_any is (y ∷ ys) ≡ false → list_any is ys ≡ false
    any_rest is y ys none = by (is y) refl none
      where
        by : (b : Bool) → is y ≡ b → list_any is (y ∷ ys) ≡ false → list_any is ys ≡ false
        by true t h = absurd (true≢false (rw t at h))
        by false t h = rw t at h

-- it is the front itself
pub only_front : (x : Message) (rest : List Message) (is : Message → Bool) (before : List Message) (m : Message) (after : List Message) → IsOnly (x ∷ rest) is before m after
    → is x ≡ true → (before ≡ []) × (m ≡ x) × (after ≡ rest)
only_front x rest is [] m after only it = (refl, sym (ap (first_or x) only.all), sym (ap rest_of only.all))
only_front x rest is (y ∷ before) m after only it =
    let same : x ≡ y = ap (first_or x) only.all in
    absurd (first_not is y before only.none_before (sym (ap is same) ∙ it))
  where
    first_not : (is : Message → Bool) (y : Message) (ys : List Message) → list_any is (y ∷ ys) ≡ false → is y ≡ true → ⊥
    first_not is y ys none it = true≢false (rw it at none)

pub any_taken : (is : Message → Bool) (x : Message) (rest : List Message) → list_any is (x ∷ rest) ≡ false → list_any is rest ≡ false
any_taken is x rest none = by (is x) refl none
  where
    by : (b : Bool) → is x ≡ b → list_any is (x ∷ rest) ≡ false → list_any is rest ≡ false
    by true t h = absurd (true≢false (rw t at h))
    by false t h = rw t at h

pub none_of_front : (is : Message → Bool) (x : Message) (rest : List Message) → list_any is (x ∷ rest) ≡ false → is x ≡ false
none_of_front is x rest none = by (is x) refl none
  where
    by : (b : Bool) → is x ≡ b → list_any is (x ∷ rest) ≡ false → is x ≡ false
    by true t h = absurd (true≢false (rw t at h))
    by false t h = t

-- one that comes after others
pub only_later : {ms : List Message} {is : Message → Bool} {before : List Message} {m : Message} {after : List Message} (inbox : List Message) → list_any is inbox ≡ false
    → IsOnly ms is before m after → IsOnly (inbox ++ ms) is (inbox ++ before) m after
only_later {is = is} {before = before} {m = m} {after = after} inbox none only =
    record {
      all = ap (λ xs. inbox ++ xs) only.all ∙ sym (append_assoc inbox before (m ∷ after));
      it = only.it;
      none_before = any_both is inbox before none only.none_before;
      none_after = only.none_after;
    }
