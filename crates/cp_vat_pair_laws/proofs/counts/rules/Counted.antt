-- How exports and imports are counted.
use Rattle.std.specs.Prelude.{◌≡◌, refl, ℕ, ◌+◌, ◌-◌, ◌≤◌, ◌==◌, ltb, if◌then◌else◌, Bool, true, false, List, [], ◌∷◌, Option, Some, None, is_none, Result, Ok, Err, ◌⊎◌}
use Rattle.std.specs.List.{list_any}
use Rattle.std.specs.FinMap.{get, insert, remove}
use Rattle.std.proofs.Common.{inl, inr, arith, sym}
use Rattle.std.proofs.lemmas.Bool.Decides.{nat_tests}
use Rattle.cp_tables.specs.Table.{Table}
use Rattle.cp_tables.specs.Counted.{new_counted, count_of}
use Rattle.cp_tables.specs.declared.counted.Counted.{Counted}
use Rattle.cp_tables.proofs.CountedLemmas.{count_of-insert_same, count_of-insert_other, count_of-remove_same, count_of-remove_other}
use Rattle.cp_refs.specs.declared.cap.Cap.{Cap}
use Rattle.cp_vat_machine.specs.State.{State, with_exports}
use Rattle.cp_vat_machine.specs.Receiving.{times, less_by, lowered_by, lowered, release_exports, released}
use Rattle.cp_vat_machine.specs.Writing.{Raise, counted, counted_out, opened, has_no_capacity}
use Rattle.cp_vat_machine.specs.Capacity.{free}
use Rattle.cp_vat_machine.specs.declared.fault.PeerFault.{PeerFault}
use Rattle.cp_vat_machine.specs.declared.fault.PeerFault.TheVariants as faults
use Rattle.cp_vat_machine.proofs.Basics.{not_equal, ok_out, ok_in, or_first, or_second, is_equal, is_itself}

pub times_one : (f e : ℕ) (b : Bool) → (e == f) ≡ b → times f (e ∷ []) ≡ (if b then 1 else 0)
times_one f e true t = rw (t) refl
times_one f e false t = rw (t) refl

pub times_more : (f e : ℕ) (ids : List ℕ) → times f (e ∷ ids) ≡ times f (e ∷ []) + times f ids
times_more f e ids = by (e == f) refl
  where
    by : (b : Bool) → (e == f) ≡ b → times f (e ∷ ids) ≡ times f (e ∷ []) + times f ids
    by true t = rw (t) (omega arith)
    by false t = rw (t) (omega arith)

module _ {X : Type 0} where
  -- the count of the one number goes up, and that of another stays
  put_count : (table : Table (Counted X)) (e f count : ℕ) (kept : X) (b : Bool) → (e == f) ≡ b
      → count_of (insert table e (record { count = count; kept = kept })) f ≡ (if b then count else count_of table f)
  put_count table e f count kept true t = rw (← is_equal e f t) (count_of-insert_same table e _)
  put_count table e f count kept false t = count_of-insert_other table e f _ (λ is. not_equal e f t (sym is))

  pub gone_count : (table : Table (Counted X)) (e f : ℕ) (b : Bool) → (e == f) ≡ b → count_of (remove table e) f ≡ (if b then 0 else count_of table f)
  gone_count table e f true t = rw (← is_equal e f t) (count_of-remove_same table e)
  gone_count table e f false t = count_of-remove_other table e f (λ is. not_equal e f t (sym is))

  count_there : (table : Table (Counted X)) (e : ℕ) (entry : Counted X) → get table e ≡ Some entry → count_of table e ≡ entry.count
  count_there table e entry is = rw (is) refl

  count_none : (table : Table (Counted X)) (e : ℕ) → get table e ≡ None → count_of table e ≡ 0
  count_none table e is = rw (is) refl

  pub raised_one : (table : Table (Counted X)) (e f count : ℕ) (kept : X) (b : Bool) → (e == f) ≡ b → count_of table e ≡ count
      → count_of (insert table e (record { count = count + 1; kept = kept })) f ≡ count_of table f + times f (e ∷ [])
  raised_one table e f count kept true t is =
      rw (put_count table e f (count + 1) kept true t, times_one f e true t, ← is_equal e f t) (omega (arith, is))
  raised_one table e f count kept false t is = rw (put_count table e f (count + 1) kept false t, times_one f e false t) (omega arith)

  pub opened_one : (table : Table (Counted X)) (e f : ℕ) (kept : X) (b : Bool) → (e == f) ≡ b → count_of table e ≡ 0
      → count_of (insert table e (new_counted kept)) f ≡ count_of table f + times f (e ∷ [])
  opened_one table e f kept true t is = rw (put_count table e f 1 kept true t, times_one f e true t, ← is_equal e f t) (omega (arith, is))
  opened_one table e f kept false t is = rw (put_count table e f 1 kept false t, times_one f e false t) (omega arith)

-- what raising does
abbrev pub RaisedAs : State → Result (ℕ × State) PeerFault → Type 0
RaisedAs old (Ok raised) =
    (raised.1 ≡ with_exports old raised.1.counts.exports)
    × ((f : ℕ) → count_of raised.1.counts.exports f ≡ count_of old.counts.exports f + times f (raised.0 ∷ []))
RaisedAs old (Err fault) = Unit {0}

pub raised_as : (old : State) (cap : Cap) (out : Result (ℕ × State) PeerFault) → Raise old cap out → RaisedAs old out
raised_as old cap out (counted e count is room) =
    (refl, λ f. raised_one old.counts.exports e f count cap (e == f) refl (count_there old.counts.exports e _ is))
raised_as old cap out (counted_out e is) = tt
raised_as old cap out (opened e none (free n is small room)) =
    (refl, λ f. opened_one old.counts.exports e f cap (e == f) refl (count_none old.counts.exports e is))
raised_as old cap out (has_no_capacity none is) = tt

-- what lowering does
gone_all : (table : Table (Counted Cap)) (e n f count : ℕ) (c : Bool) → (e == f) ≡ c → count_of table e ≡ count → count ≡ n
    → count_of table f ≡ count_of (remove table e) f + (if c then n else 0)
gone_all table e n f count true t is all = rw (gone_count table e f true t, ← is_equal e f t) (omega (arith, is, all))
gone_all table e n f count false t is all = rw (gone_count table e f false t) (omega arith)

less_all : (table : Table (Counted Cap)) (e n f count : ℕ) (kept : Cap) (c : Bool) → (e == f) ≡ c → count_of table e ≡ count → n ≤ count
    → count_of table f ≡ count_of (insert table e (record { count = count - n; kept = kept })) f + (if c then n else 0)
less_all table e n f count kept true t is fits = rw (put_count table e f (count - n) kept true t, ← is_equal e f t) (omega (arith, is, fits))
less_all table e n f count kept false t is fits = rw (put_count table e f (count - n) kept false t) (omega arith)

less_one : (table : Table (Counted Cap)) (e n f : ℕ) (entry : Counted Cap) (b : Bool) → (entry.count == n) ≡ b → get table e ≡ Some entry → n ≤ entry.count
    → count_of table f ≡ count_of (if b then remove table e else insert table e (record entry { count = entry.count - n })) f + (if e == f then n else 0)
less_one table e n f entry true t is fits = gone_all table e n f entry.count (e == f) refl (count_there table e entry is) (is_equal entry.count n t)
less_one table e n f entry false t is fits = less_all table e n f entry.count entry.kept (e == f) refl (count_there table e entry is) fits

less_of : (table : Table (Counted Cap)) (e n f : ℕ) (o : Option (Counted Cap)) → get table e ≡ o → n ≤ count_of table e
    → count_of table f ≡ count_of (less_by table e n o) f + (if e == f then n else 0)
less_of table e n f (Some entry) is fits = less_one table e n f entry (entry.count == n) refl is (omega (arith, fits, count_there table e entry is))
less_of table e n f None is fits = none_of (e == f) (omega (arith, fits, count_none table e is))
  where
    none_of : (c : Bool) → n ≡ 0 → count_of table f ≡ count_of table f + (if c then n else 0)
    none_of true z = omega (arith, z)
    none_of false z = omega arith

pub less : (table : Table (Counted Cap)) (e n f : ℕ) → n ≤ count_of table e → count_of table f ≡ count_of (lowered_by table e n) f + (if e == f then n else 0)
less table e n f fits = less_of table e n f (get table e) refl fits

pub one_of : (f e : ℕ) → times f (e ∷ []) ≡ (if e == f then 1 else 0)
one_of f e = times_one f e (e == f) refl

pub lowered_all : (ids : List ℕ) (table : Table (Counted Cap)) → ((f : ℕ) → times f ids ≤ count_of table f)
    → (f : ℕ) → count_of table f ≡ count_of (lowered table ids) f + times f ids
lowered_all [] table fits f = omega arith
lowered_all (e ∷ ids) table fits f =
    let here : 1 ≤ count_of table e = omega (arith, fits e, times_more e e ids, times_one e e true (is_itself e)) in
    let rest = lowered_all ids (lowered_by table e 1) (λ g. omega (arith, fits g, times_more g e ids, one_of g e, less table e 1 g here)) f in
    omega (arith, rest, less table e 1 f here, times_more f e ids, one_of f e)

-- what one message lowers fits, or it is refused
abbrev FitsPart : Table (Counted Cap) → List ℕ → ℕ → List ℕ → Type 0
FitsPart table all f part = (times f part ≡ 0) ⊎ (times f all ≤ count_of table f)

fits_here : (table : Table (Counted Cap)) (all part : List ℕ) (e f : ℕ) (c : Bool) → (e == f) ≡ c → ltb (count_of table e) (times e all) ≡ false
    → FitsPart table all f part → FitsPart table all f (e ∷ part)
fits_here table all part e f true t fit rest = inr (rw (← is_equal e f t) (grind (arith, nat_tests)))
fits_here table all part e f false t fit (inl none) = inl (omega (arith, none, times_more f e part, times_one f e false t))
fits_here table all part e f false t fit (inr fits) = inr fits

fits_of : (table : Table (Counted Cap)) (all part : List ℕ) (f : ℕ) → list_any (λ e. ltb (count_of table e) (times e all)) part ≡ false → FitsPart table all f part
fits_of table all [] f h = inl refl
fits_of table all (e ∷ part) f h =
    fits_here table all part e f (e == f) refl (or_first _ _ h) (fits_of table all part f (or_second (ltb (count_of table e) (times e all)) _ h))

pub fits_all : (table : Table (Counted Cap)) (ids : List ℕ) → list_any (λ e. ltb (count_of table e) (times e ids)) ids ≡ false
    → (f : ℕ) → times f ids ≤ count_of table f
fits_all table ids h f = elim (fits_of table ids ids f h) [
  | inl none ↦ omega (arith, none)
  | inr fits ↦ fits
]

pub lower_counts : (table new : Table (Counted Cap)) (ids : List ℕ) → Ok new ≡ release_exports table ids → (f : ℕ) → count_of table f ≡ count_of new f + times f ids
lower_counts table new ids is f = by (list_any (λ e. is_none (get table e)) ids) (list_any (λ e. ltb (count_of table e) (times e ids)) ids) refl is
  where
    by : (b c : Bool) → list_any (λ e. ltb (count_of table e) (times e ids)) ids ≡ c
        → Ok new ≡ (if b then Err faults.UnknownExport else (if c then Err faults.ReleaseTooLarge else Ok (lowered table ids)))
        → count_of table f ≡ count_of new f + times f ids
    by true c t e = ok_out e
    by false true t e = ok_out e
    by false false t e = rw (ok_in _ _ e) (lowered_all ids table (fits_all table ids t) f)

pub released_counts : (table new : Table (Counted Cap)) (e n : ℕ) → Ok new ≡ released table e n → (f : ℕ) → count_of table f ≡ count_of new f + (if e == f then n else 0)
released_counts table new e n is f = by (is_none (get table e)) (ltb (count_of table e) n) refl is
  where
    by : (b c : Bool) → ltb (count_of table e) n ≡ c
        → Ok new ≡ (if b then Err faults.UnknownExport else (if c then Err faults.ReleaseTooLarge else Ok (lowered_by table e n)))
        → count_of table f ≡ count_of new f + (if e == f then n else 0)
    by true c t e = ok_out e
    by false true t e = ok_out e
    by false false t is = rw (ok_in _ _ is) (less table e n f (grind (arith, nat_tests)))
