-- One object of a list changes, or says that it may give more.
use Rattle.std.proofs.Common.{◌≡◌, ℕ, zero, suc, ◌<◌, ◌≤◌, true, false, List, [], ◌∷◌, length, refl, sym, ap, add-one, arith, ◌+◌, set, get_or, take, inl, inr, subst}
use Rattle.cp_servants.specs.Servant.{Kind, ChangesAt, NoneSaysMore, SomeSaysMore}

pub changes_at : {A : Type 0} (P : A → A → Type 0) (xs : List A) (k : ℕ) (was is : A) → P was is → k < length xs → was ≡ get_or xs k was → ChangesAt P xs k (set xs k is)
changes_at P [] k was is p h e = absurd (omega arith)
changes_at P (x ∷ xs) zero was is p h e =
    record { front = []; before = was; after = is; back = xs; was = ap (λ y. y ∷ xs) (sym e); at = refl; changes = p; is = refl }
changes_at P (x ∷ xs) (suc k) was is p h e =
    let r = changes_at P xs k was is p (omega arith) e in
    record { front = x ∷ r.front; before = r.before; after = r.after; back = r.back; was = ap (λ l. x ∷ l) r.was; at = ap suc r.at; changes = r.changes; is = ap (λ l. x ∷ l) r.is }

module _ {A : Type 0} (kind : Kind A) where
  pub some_says_more : (xs : List A) (k : ℕ) (it : A) → kind.says_more true it → k < length xs → it ≡ get_or xs k it → SomeSaysMore kind xs
  some_says_more [] k it says h e = absurd (omega arith)
  some_says_more (x ∷ xs) zero it says h e = inl (subst (λ y. kind.says_more true y) e says)
  some_says_more (x ∷ xs) (suc k) it says h e = inr (some_says_more xs k it says (omega arith) e)

  one_more : (xs : List A) (k : ℕ) (it : A) → kind.says_more false it → k < length xs → it ≡ get_or xs k it → NoneSaysMore kind (take k xs) → NoneSaysMore kind (take (suc k) xs)
  one_more [] k it says h e none = absurd (omega arith)
  one_more (x ∷ xs) zero it says h e none = (subst (λ y. kind.says_more false y) e says, tt)
  one_more (x ∷ xs) (suc k) it says h e none = (none.0, one_more xs k it says (omega arith) e none.1)

  -- the next one says that it gives no more, as those before it did
  pub next_says_none : (xs : List A) (k : ℕ) (it : A) → kind.says_more false it → k < length xs → it ≡ get_or xs k it → NoneSaysMore kind (take k xs) → NoneSaysMore kind (take (k + 1) xs)
  next_says_none xs k it says h e none = rw (add-one k) (one_more xs k it says h e none)

  -- all were asked
  pub none_says_more : (xs : List A) (k : ℕ) → length xs ≤ k → NoneSaysMore kind (take k xs) → NoneSaysMore kind xs
  none_says_more [] k h none = tt
  none_says_more (x ∷ xs) zero h none = absurd (omega arith)
  none_says_more (x ∷ xs) (suc k) h none = (none.0, none_says_more xs k (omega arith) none.1)
