-- Options, results, rules and lists taken apart, and tables with one entry changed.
use Rattle.std.specs.Prelude.{◌≡◌, ◌≢◌, refl, ℕ, ◌==◌, not, if◌then◌else◌, ◌||◌, Bool, true, false, List, [], ◌∷◌, ◌++◌, Some, None, is_none, Result, Ok, Err, is_ok}
use Rattle.std.specs.Option.{option_map_or}
use Rattle.std.specs.List.{AllByRecursion}
use Rattle.std.specs.FinMap.{get, insert, remove}
use Rattle.std.proofs.Common.{arith, ap, sym, true≢false}
use Rattle.std.proofs.lemmas.Bool.Decides.{nat_tests}
use Rattle.cp_tables.specs.Table.{Table}
use Rattle.cp_tables.proofs.TableLemmas.{get-insert_same, get-insert_other, get-remove_same, get-remove_other}
use Rattle.cp_vat_machine.specs.Then.{Then, Unless, OrFull}
use Rattle.cp_vat_machine.specs.declared.fault.PeerFault.{PeerFault}

pub some_out : {X : Type 0} {a b : X} → Some a ≡ Some b → a ≡ b
some_out {a = a} e = ap (λ o. option_map_or (λ x. x) o a) e

pub none_out : {X Y : Type 0} {b : X} → None ≡ Some b → Y
none_out e = absurd (true≢false (ap is_none e))

pub ok_out : {X F : Type 0} {fault : F} {Y : Type 0} {x : X} → Ok x ≡ Err fault → Y
ok_out e = absurd (true≢false (ap is_ok e))

abbrev ok_or_else : {X F : Type 0} → X → Result X F → X
ok_or_else x (Ok y) = y
ok_or_else x (Err fault) = x

pub ok_in : {X F : Type 0} (x y : X) → ◌≡◌ {A = Result X F} (Ok x) (Ok y) → x ≡ y
ok_in x y e = ap (ok_or_else x) e

-- numbers and tests
pub is_equal : (a b : ℕ) → (a == b) ≡ true → a ≡ b
is_equal a b e = grind (arith, nat_tests)

pub is_itself : (a : ℕ) → (a == a) ≡ true
is_itself a = grind (arith, nat_tests)

pub other_number : (a b : ℕ) → (a == b) ≡ false → (b == a) ≡ false
other_number a b n = grind (arith, nat_tests)

pub not_equal : (a b : ℕ) → (a == b) ≡ false → a ≢ b
not_equal a b n e = absurd (contra e n)
  where
    contra : a ≡ b → (a == b) ≡ false → ⊥
    contra e n = grind (arith, nat_tests)

pub or_first : (b c : Bool) → (b || c) ≡ false → b ≡ false
or_first true c h = h
or_first false c h = refl

pub or_second : (b c : Bool) → (b || c) ≡ false → c ≡ false
or_second true c h = absurd (true≢false h)
or_second false c h = h

pub not_false : (b : Bool) → not b ≡ false → b ≡ true
not_false true is = refl
not_false false is = absurd (true≢false is)

-- rules
pub then_out : {A B F : Type 0} (First : Result A F → Type 0) (next : A → Result B F → Type 0) (x : B) → Then First next (Ok x) → (a : A) × First (Ok a) × next a (Ok x)
then_out First next x (Ok a, f, n) = (a, f, n)
then_out First next x (Err fault, f, n) = ok_out n

pub unless_out : {A F : Type 0} (faults : List F) (Rule : Result A F → Type 0) (x : A) → Unless faults Rule (Ok x) → Rule (Ok x)
unless_out [] Rule x r = r
unless_out (fault ∷ faults) Rule x r = ok_out r

pub or_full_out : {A : Type 0} (Rule : Result A PeerFault → Type 0) (x : A) → OrFull Rule (Ok x) → Rule (Ok x)
or_full_out Rule x (Ok y, r, is) = rw (ok_in x y is) r
or_full_out Rule x (Err fault, r, is) = ok_out is

module _ {X : Type 0} where
  -- tables with one entry put in, or taken out
  pub put_at : (table : Table X) (k q : ℕ) (v : X) (b : Bool) → (k == q) ≡ b → get (insert table k v) q ≡ (if b then Some v else get table q)
  put_at table k q v true t = rw (← is_equal k q t) (get-insert_same table k v)
  put_at table k q v false t = get-insert_other table k q v (λ is. not_equal k q t (sym is))

  pub gone_at : (table : Table X) (k q : ℕ) (b : Bool) → (k == q) ≡ b → get (remove table k) q ≡ (if b then None else get table q)
  gone_at table k q true t = rw (← is_equal k q t) (get-remove_same table k)
  gone_at table k q false t = get-remove_other table k q (λ is. not_equal k q t (sym is))

  -- what holds of each item of a list
  module _ (P : X → Type 0) where
    pub all_front : (xs ys : List X) → AllByRecursion P (xs ++ ys) → AllByRecursion P xs
    all_front [] ys h = tt
    all_front (x ∷ xs) ys h = (h.0, all_front xs ys h.1)

    pub all_back : (xs ys : List X) → AllByRecursion P (xs ++ ys) → AllByRecursion P ys
    all_back [] ys h = h
    all_back (x ∷ xs) ys h = all_back xs ys h.1

    pub all_both : (xs ys : List X) → AllByRecursion P xs → AllByRecursion P ys → AllByRecursion P (xs ++ ys)
    all_both [] ys h k = k
    all_both (x ∷ xs) ys h k = (h.0, all_both xs ys h.1 k)
