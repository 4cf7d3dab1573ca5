-- How exports are lowered one by one.
use Rattle.std.proofs.Common.{◌≡◌, ◌≢◌, ◌==◌, ltb, cond, Bool, true, false, is_none, ℕ, ◌+◌, ◌-◌, ◌<◌, ◌≤◌, inl, inr, List, [], ◌∷◌, length, get_or, drop, Option, Some, None, Result, Ok, Err, refl, sym, ap, ◌∙◌, subst, arith}
use Rattle.std.specs.List.{list_any, filter}
use Rattle.std.specs.Option.{option_map_or}
use Rattle.std.specs.Result.{is_err}
use Rattle.std.proofs.lemmas.List.Folds.{list_any_at}
use Rattle.std.proofs.lemmas.List.{at_drop_more, drop_all}
use Rattle.std.proofs.lemmas.Bool.{cases_eq}
use Rattle.std.proofs.lemmas.Bool.Decides.{nat_tests}
use Rattle.std.specs.FinMap.{get, insert, remove}
use Rattle.cp_tables.specs.Table.{Table}
use Rattle.cp_tables.specs.Counted.{count_of}
use Rattle.cp_tables.specs.declared.counted.Counted.{Counted}
use Rattle.cp_tables.proofs.CountedLemmas.{count_of-insert_same, count_of-insert_other, count_of-remove_same, count_of-remove_other}
use Rattle.cp_refs.specs.declared.cap.Cap.{Cap}
use Rattle.cp_vat_machine.specs.Receiving.{less_by, release_exports, lowered, lowered_by, released, times}
use Rattle.cp_vat_machine.specs.declared.fault.PeerFault.{PeerFault}
use Rattle.cp_vat_machine.specs.declared.fault.PeerFault.TheVariants as faults
use Rattle.cp_vat_state.specs.Halts.{leaving}

same_number : (id : ℕ) → (id == id) ≡ true
same_number id = grind (arith, nat_tests)

is_less : (a b : ℕ) → a < b → ltb a b ≡ true
is_less a b less = grind (arith, nat_tests)

-- one less where it is that number
abbrev one_if : Bool → ℕ
one_if true = 1
one_if false = 0

times_more : (e id : ℕ) (ids : List ℕ) → times e (id ∷ ids) ≡ one_if (id == e) + times e ids
times_more e id ids = by (id == e)
  where
    by : (b : Bool) → length (cond b (id ∷ filter (λ x. x == e) ids) (filter (λ x. x == e) ids)) ≡ one_if b + length (filter (λ x. x == e) ids)
    by true = omega arith
    by false = omega arith

module _ (old : Table (Counted Cap)) (id : ℕ) (entry : Counted Cap) where
  less_same : (b : Bool) → (b ≡ true → entry.count ≡ 1) → 1 ≤ entry.count → count_of (cond b (remove old id) (insert old id (record entry { count = entry.count - 1 }))) id + 1 ≡ entry.count
  less_same true one some = let gone = count_of-remove_same old id in let was : entry.count ≡ 1 = one refl in omega arith
  less_same false one some = let less = count_of-insert_same old id (record entry { count = entry.count - 1 }) in omega arith

  less_other : (b : Bool) (e : ℕ) → e ≢ id → count_of (cond b (remove old id) (insert old id (record entry { count = entry.count - 1 }))) e ≡ count_of old e
  less_other true e other = count_of-remove_other old id e other
  less_other false e other = count_of-insert_other old id e (record entry { count = entry.count - 1 }) other

  less_each : get old id ≡ Some entry → 1 ≤ entry.count → (e : ℕ) → count_of (less_by old id 1 (Some entry)) e + one_if (id == e) ≡ count_of old e
  less_each there some e =
      elim (cases_eq e id) [
        | inl same ↦
            let here : count_of old id ≡ entry.count = rw there refl in
            let test : (id == id) ≡ true = grind (arith, nat_tests) in
            let less = less_same (entry.count == 1) (λ t. grind (arith, nat_tests)) some in
            rw (same, test) (less ∙ sym here)
        | inr other ↦
            let test : (id == e) ≡ false = grind (arith, nat_tests) in
            let less = less_other (entry.count == 1) e other in
            rw test (omega arith)
      ]

-- what a release of one did
module _ (old new : Table (Counted Cap)) (id : ℕ) where
  -- it was there
  pub one_less : released old id 1 ≡ Ok new → (lowered_by old id 1 ≡ new) × ((e : ℕ) → count_of new e + one_if (id == e) ≡ count_of old e)
  one_less is = by (get old id) refl is
    where
      tested : (entry : Counted Cap) (b : Bool) → ltb entry.count 1 ≡ b → get old id ≡ Some entry → cond b (Err faults.ReleaseTooLarge) (Ok (less_by old id 1 (Some entry))) ≡ Ok new → (less_by old id 1 (Some entry) ≡ new) × ((e : ℕ) → count_of new e + one_if (id == e) ≡ count_of old e)
      tested entry true small there is = cc
      tested entry false small there is =
          let same : less_by old id 1 (Some entry) ≡ new = cc in (
            same,
            λ e. subst (λ t. count_of t e + one_if (id == e) ≡ count_of old e) same (less_each old id entry there (grind (arith, nat_tests)) e),
          )

      by : (o : Option (Counted Cap)) → get old id ≡ o
          → cond (is_none o) (Err faults.UnknownExport) (cond (ltb (option_map_or (λ entry. entry.count) o 0) 1) (Err faults.ReleaseTooLarge) (Ok (less_by old id 1 o))) ≡ Ok new
          → (lowered_by old id 1 ≡ new) × ((e : ℕ) → count_of new e + one_if (id == e) ≡ count_of old e)
      by None there is = cc
      by (Some entry) there is = rw there (tested entry (ltb entry.count 1) refl there is)

  -- it wasn't
  pub none_there : (fault : PeerFault) → released old id 1 ≡ Err fault → count_of old id ≡ 0
  none_there fault is = by (get old id) is
    where
      tested : (count : ℕ) (b : Bool) (less : Table (Counted Cap)) → ltb count 1 ≡ b → cond b (Err faults.ReleaseTooLarge) (Ok less) ≡ Err fault → count ≡ 0
      tested count true less small is = grind (arith, nat_tests)
      tested count false less small is = cc

      by : (o : Option (Counted Cap))
          → cond (is_none o) (Err faults.UnknownExport) (cond (ltb (option_map_or (λ entry. entry.count) o 0) 1) (Err faults.ReleaseTooLarge) (Ok (less_by old id 1 o))) ≡ Err fault
          → option_map_or (λ entry. entry.count) o 0 ≡ 0
      by None is = refl
      by (Some entry) is = tested entry.count (ltb entry.count 1) _ refl is

none_any : {X : Type 0} (p : X → Bool) → ((x : X) → p x ≡ false) → (xs : List X) → list_any p xs ≡ false
none_any p none [] = refl
none_any p none (x ∷ xs) = rw (none x) (none_any p none xs)

-- exports that are lowered one by one: what the rest lowers from now on, all lower from the start; and each count with what was taken
-- off is the one at the start
module _ (start now : Table (Counted Cap)) (ids : List ℕ) (i : ℕ) (counted : (e : ℕ) → count_of now e + times e ids ≡ count_of start e + times e (drop i ids)) where
  -- one more was lowered
  pub lowered_one : (next : Table (Counted Cap)) → i < length ids → released now (get_or ids i 0) 1 ≡ Ok next → lowered start ids ≡ lowered now (drop i ids)
      → (lowered start ids ≡ lowered next (drop (i + 1) ids)) × ((e : ℕ) → count_of next e + times e ids ≡ count_of start e + times e (drop (i + 1) ids))
  lowered_one next inside went same =
      let here : drop i ids ≡ get_or ids i 0 ∷ drop (i + 1) ids = at_drop_more (λ l. l) ids i 0 inside in
      let less = one_less now next (get_or ids i 0) went in (
        same ∙ ap (lowered now) here ∙ ap (λ t. lowered t (drop (i + 1) ids)) less.0,
        λ e.
            let so_far = counted e in
            let one = less.1 e in
            let rest = ap (times e) here ∙ times_more e (get_or ids i 0) (drop (i + 1) ids) in
            omega arith,
      )

  -- all were lowered
  pub all_lowered : length ids ≤ i → list_any (λ e. is_none (get start e)) ids ≡ false → lowered start ids ≡ lowered now (drop i ids) → release_exports start ids ≡ Ok now
  all_lowered past there same =
      let ends : drop i ids ≡ [] = drop_all i ids past in
      let few : list_any (λ e. ltb (count_of start e) (times e ids)) ids ≡ false = none_any _ (λ e. few_of e (counted e) (ap (times e) ends)) ids in
      rw (there, few) (ap Ok (same ∙ ap (lowered now) ends))
    where
      few_of : (e : ℕ) → count_of now e + times e ids ≡ count_of start e + times e (drop i ids) → times e (drop i ids) ≡ 0 → ltb (count_of start e) (times e ids) ≡ false
      few_of e so_far none = grind (arith, nat_tests)

  -- one couldn't be lowered: it is named more often than it is counted
  pub named_too_often : (next : Table (Counted Cap)) (fault : PeerFault) → i < length ids → released now (get_or ids i 0) 1 ≡ Err fault → list_any (λ e. is_none (get start e)) ids ≡ false → release_exports start ids ≡ Err faults.ReleaseTooLarge
  named_too_often next fault inside went there =
      let id = get_or ids i 0 in
      let here : drop i ids ≡ id ∷ drop (i + 1) ids = at_drop_more (λ l. l) ids i 0 inside in
      let none = none_there now next id fault went in
      let test : (id == id) ≡ true = same_number id in
      let rest = ap (times id) here ∙ times_more id id (drop (i + 1) ids) ∙ ap (λ b. one_if b + times id (drop (i + 1) ids)) test in
      let so_far = counted id in
      let more : count_of start id < times id ids = omega arith in
      let many : list_any (λ e. ltb (count_of start e) (times e ids)) ids ≡ true = list_any_at _ ids i 0 inside (is_less _ _ more) in
      rw (there, many) refl

-- a release that was or wasn't refused
pub was_let : (r : Result (Unit {0}) PeerFault) (new : Table (Counted Cap)) → is_err r ≡ false → leaving r new ≡ Ok new
was_let (Ok x) new h = refl
was_let (Err fault) new h = cc

pub was_refused : (r : Result (Unit {0}) PeerFault) (new : Table (Counted Cap)) → is_err r ≡ true → (fault : PeerFault) × (leaving r new ≡ Err fault)
was_refused (Ok x) new h = cc
was_refused (Err fault) new h = (fault, refl)
