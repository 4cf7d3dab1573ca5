-- The way from a capability to its export.
use Rattle.std.proofs.Common.{◌≡◌, ◌≢◌, ◌⊎◌, ◌-◌, ◌==◌, ltb, cond, is_none, OnErr, Bool, true, false, true≢false, IsSome, IfSome, Option, ℕ, ◌+◌, ◌<◌, ◌^◌, Result, Ok, Err, Some, None, IfOk, IsOk, IsOkAnd, inl, inr, refl, sym, ap, ◌∙◌, arith}
use Rattle.std.specs.Option.{option_map_or}
use Rattle.std.proofs.lemmas.Bool.Decides.{nat_tests}
use Rattle.std.proofs.lemmas.Bool.{cases_eq}
use Rattle.std.specs.FinMap.{get, insert, remove, empty, get-empty}
use Rattle.std.specs.Ordering.{nat_cmp}
use Rattle.cp_tables.specs.Table.{Table}
use Rattle.cp_tables.specs.Counted.{new_counted, count_of, with_count}
use Rattle.cp_tables.specs.declared.counted.Counted.{Counted}
use Rattle.cp_tables.specs.declared.fault.TableFault.{TableFault}
use Rattle.cp_tables.proofs.TableLemmas.{get-insert_same, get-insert_other, get-remove_same, get-remove_other, insert-same, is_insert}
use Rattle.cp_refs.specs.declared.cap.Cap.{Cap}
use Rattle.cp_refs.specs.declared.cap.Cap.TheVariants as caps
use Rattle.cp_refs.proofs.Queueing.{put-back}
use Rattle.cp_vat_machine.specs.State.{State, with_exports}
use Rattle.cp_vat_machine.specs.Receiving.{less_by, lowered_by, released}
use Rattle.cp_vat_machine.specs.Writing.{HasNoExport, Raise, counted, counted_out}
use Rattle.cp_vat_machine.specs.declared.fault.PeerFault.{PeerFault}
use Rattle.cp_vat_machine.specs.declared.fault.PeerFault.TheVariants as faults
use Rattle.cp_vat_state.specs.Halts.{leaving}
use Rattle.cp_vat_state.specs.Index.{number_of, with_number, without_number, cap_of, exported_cap_of, HasCap, AreIndexed}
use Rattle.cp_vat_state.specs.declared.exports.ExportedCap.{ExportedCap}
use Rattle.cp_vat_state.specs.declared.exports.ExportedCap.TheVariants as hosted
use Rattle.cp_vat_state.specs.declared.exports.Index.{Index}

abbrev Exports : Type 0
Exports = Table (Counted Cap)

-- the capability, or the number, that is there
abbrev kept_in : Cap → Option (Counted Cap) → Cap
kept_in c None = c
kept_in c (Some entry) = entry.kept

abbrev number_in : ℕ → Option ℕ → ℕ
number_in n None = n
number_in n (Some m) = m

abbrev count_in : Option (Counted Cap) → ℕ
count_in None = 0
count_in (Some entry) = entry.count

abbrev cap_in : Option ExportedCap → Cap
cap_in None = caps.None
cap_in (Some h) = cap_of h

abbrev id_in : ℕ → Cap → ℕ
id_in n (caps.Object k) = k
id_in n (caps.Promise p) = p
id_in n other = n

abbrev is_promise_cap : Cap → Bool
is_promise_cap (caps.Promise p) = false
is_promise_cap other = true

pub not_some : {X : Type 0} (x : X) → ◌≡◌ {A = Option X} None (Some x) → ⊥
not_some x e = true≢false (sym (ap is_there e))
  where
    is_there : {X : Type 0} → Option X → Bool
    is_there None = false
    is_there (Some x) = true

-- nothing is there if it isn't something
pub none_if : {X : Type 0} (o : Option X) → ((x : X) → o ≡ Some x → ⊥) → o ≡ None
none_if None h = refl
none_if (Some x) h = absurd (h x refl)

pub if_some : {X : Type 0} (P : X → Type 0) (o : Option X) (x : X) → o ≡ Some x → IfSome o P → P x
if_some P o x e h = rw e at h

pub every : {X : Type 0} (P : X → Type 0) (o : Option X) → ((x : X) → o ≡ Some x → P x) → IfSome o P
every P None h = tt
every P (Some x) h = h x refl

-- a capability that isn't there yet has its number from now on, and any other one keeps its own
number-same : (index : Index) (h : ExportedCap) (e : ℕ) → number_of (with_number index (cap_of h) e) (cap_of h) ≡ Some e
number-same index (hosted.Object k) e = get-insert_same index.objects k e
number-same index (hosted.Promise p) e = get-insert_same index.promises p e

number-new : (index : Index) (h : ExportedCap) (e n : ℕ) (c : Cap) → number_of (with_number index (cap_of h) e) c ≡ Some n → ((c ≡ cap_of h) × (n ≡ e)) ⊎ (number_of index c ≡ Some n)
number-new index (hosted.Object k) e n (caps.Object j) is =
    elim (cases_eq j k) [
      | inl same ↦ inl (ap caps.Object same, ap (number_in n) (sym is ∙ ap (λ q. get (insert index.objects k e) q) same ∙ get-insert_same index.objects k e))
      | inr other ↦ inr (sym (get-insert_other index.objects k j e other) ∙ is)
    ]
number-new index (hosted.Promise p) e n (caps.Promise j) is =
    elim (cases_eq j p) [
      | inl same ↦ inl (ap caps.Promise same, ap (number_in n) (sym is ∙ ap (λ q. get (insert index.promises p e) q) same ∙ get-insert_same index.promises p e))
      | inr other ↦ inr (sym (get-insert_other index.promises p j e other) ∙ is)
    ]
number-new index (hosted.Object k) e n (caps.Promise p) is = inr is
number-new index (hosted.Promise p) e n (caps.Object k) is = inr is
number-new index (hosted.Object k) e n caps.None is = inr is
number-new index (hosted.Promise p) e n caps.None is = inr is
number-new index (hosted.Object k) e n (caps.Import i) is = inr is
number-new index (hosted.Promise p) e n (caps.Import i) is = inr is
number-new index (hosted.Object k) e n (caps.Pipelined q path) is = inr is
number-new index (hosted.Promise p) e n (caps.Pipelined q path) is = inr is
number-new index (hosted.Object k) e n (caps.Broken x) is = inr is
number-new index (hosted.Promise p) e n (caps.Broken x) is = inr is

number-other : (index : Index) (h : ExportedCap) (e : ℕ) (c : Cap) → c ≢ cap_of h → number_of (with_number index (cap_of h) e) c ≡ number_of index c
number-other index (hosted.Object k) e (caps.Object j) other = get-insert_other index.objects k j e (λ same. other (ap caps.Object same))
number-other index (hosted.Promise p) e (caps.Promise j) other = get-insert_other index.promises p j e (λ same. other (ap caps.Promise same))
number-other index (hosted.Object k) e (caps.Promise p) other = refl
number-other index (hosted.Promise p) e (caps.Object k) other = refl
number-other index (hosted.Object k) e caps.None other = refl
number-other index (hosted.Promise p) e caps.None other = refl
number-other index (hosted.Object k) e (caps.Import i) other = refl
number-other index (hosted.Promise p) e (caps.Import i) other = refl
number-other index (hosted.Object k) e (caps.Pipelined q path) other = refl
number-other index (hosted.Promise p) e (caps.Pipelined q path) other = refl
number-other index (hosted.Object k) e (caps.Broken x) other = refl
number-other index (hosted.Promise p) e (caps.Broken x) other = refl

-- a capability that is taken out has no number, and any other one keeps its own
number-without : (index : Index) (h : ExportedCap) (n : ℕ) (c : Cap) → number_of (without_number index (cap_of h)) c ≡ Some n → (c ≢ cap_of h) × (number_of index c ≡ Some n)
number-without index (hosted.Object k) n (caps.Object j) is =
    elim (cases_eq j k) [
      | inl same ↦ absurd (not_some n (sym (get-remove_same index.objects k) ∙ ap (λ q. get (remove index.objects k) q) (sym same) ∙ is))
      | inr other ↦ (λ alike. other (ap (id_in 0) alike), sym (get-remove_other index.objects k j other) ∙ is)
    ]
number-without index (hosted.Promise p) n (caps.Promise j) is =
    elim (cases_eq j p) [
      | inl same ↦ absurd (not_some n (sym (get-remove_same index.promises p) ∙ ap (λ q. get (remove index.promises p) q) (sym same) ∙ is))
      | inr other ↦ (λ alike. other (ap (id_in 0) alike), sym (get-remove_other index.promises p j other) ∙ is)
    ]
number-without index (hosted.Object k) n (caps.Promise p) is = (λ alike. true≢false (sym (ap is_promise_cap alike)), is)
number-without index (hosted.Promise p) n (caps.Object k) is = (λ alike. true≢false (ap is_promise_cap alike), is)
number-without index (hosted.Object k) n caps.None is = absurd (not_some n is)
number-without index (hosted.Promise p) n caps.None is = absurd (not_some n is)
number-without index (hosted.Object k) n (caps.Import i) is = absurd (not_some n is)
number-without index (hosted.Promise p) n (caps.Import i) is = absurd (not_some n is)
number-without index (hosted.Object k) n (caps.Pipelined q path) is = absurd (not_some n is)
number-without index (hosted.Promise p) n (caps.Pipelined q path) is = absurd (not_some n is)
number-without index (hosted.Object k) n (caps.Broken x) is = absurd (not_some n is)
number-without index (hosted.Promise p) n (caps.Broken x) is = absurd (not_some n is)

number-left : (index : Index) (h : ExportedCap) (c : Cap) → c ≢ cap_of h → number_of (without_number index (cap_of h)) c ≡ number_of index c
number-left index (hosted.Object k) (caps.Object j) other = get-remove_other index.objects k j (λ same. other (ap caps.Object same))
number-left index (hosted.Promise p) (caps.Promise j) other = get-remove_other index.promises p j (λ same. other (ap caps.Promise same))
number-left index (hosted.Object k) (caps.Promise p) other = refl
number-left index (hosted.Promise p) (caps.Object k) other = refl
number-left index (hosted.Object k) caps.None other = refl
number-left index (hosted.Promise p) caps.None other = refl
number-left index (hosted.Object k) (caps.Import i) other = refl
number-left index (hosted.Promise p) (caps.Import i) other = refl
number-left index (hosted.Object k) (caps.Pipelined q path) other = refl
number-left index (hosted.Promise p) (caps.Pipelined q path) other = refl
number-left index (hosted.Object k) (caps.Broken x) other = refl
number-left index (hosted.Promise p) (caps.Broken x) other = refl

hosted-back : (c : Cap) (h : ExportedCap) → exported_cap_of c ≡ Some h → c ≡ cap_of h
hosted-back (caps.Object k) h is = ap (λ o. cap_in o) is
hosted-back (caps.Promise p) h is = ap (λ o. cap_in o) is
hosted-back caps.None h is = absurd (not_some h is)
hosted-back (caps.Import i) h is = absurd (not_some h is)
hosted-back (caps.Pipelined q path) h is = absurd (not_some h is)
hosted-back (caps.Broken x) h is = absurd (not_some h is)

module _ (exports : Exports) (index : Index) (is : AreIndexed exports index) where
  -- a capability without a number has no export
  pub has_none : (s : State) (c : Cap) → number_of index c ≡ None → HasNoExport (with_exports s exports) c
  has_none s c none e = every _ (get exports e) (λ entry there same. not_some e (sym none ∙ ap (number_of index) (sym same) ∙ if_some _ _ entry there (is.kept e)))

  -- a count may change
  pub indexed-counted : (e count n : ℕ) (c : Cap) → get exports e ≡ Some (record { count = count; kept = c }) → AreIndexed (insert exports e (record { count = n; kept = c })) index
  indexed-counted e count n c there =
      record {
        kept =
            λ q. elim (cases_eq q e) [
              | inl same ↦ rw (same, get-insert_same exports e (record { count = n; kept = c })) (if_some (λ entry. number_of index entry.kept ≡ Some e) _ _ there (is.kept e))
              | inr other ↦ rw (get-insert_other exports e q (record { count = n; kept = c }) other) (is.kept q)
            ];
        exported =
            λ d q to. let has = is.exported d q to in
            elim (cases_eq q e) [
              | inl same ↦ (
                n,
                let alike : c ≡ d = ap (kept_in d) (sym there ∙ ap (λ k. get exports k) (sym same) ∙ has.1) in
                    rw (same, get-insert_same exports e (record { count = n; kept = c }), alike) refl,
              )
              | inr other ↦ (has.0, get-insert_other exports e q (record { count = n; kept = c }) other ∙ has.1)
            ];
      }

  -- an export may be opened
  pub indexed-opened : (e : ℕ) (h : ExportedCap) → get exports e ≡ None → number_of index (cap_of h) ≡ None → AreIndexed (insert exports e (new_counted (cap_of h))) (with_number index (cap_of h) e)
  indexed-opened e h free none =
      record {
        kept =
            λ q. elim (cases_eq q e) [
              | inl same ↦ rw (same, get-insert_same exports e (new_counted (cap_of h))) (number-same index h e)
              | inr other ↦
                  rw (get-insert_other exports e q (new_counted (cap_of h)) other)
                  (every _ (get exports q) (λ entry there.
                  let old = if_some (λ entry. number_of index entry.kept ≡ Some q) _ _ there (is.kept q) in
                  number-other index h e entry.kept (λ same. not_some q (sym none ∙ ap (number_of index) (sym same) ∙ old)) ∙ old))
            ];
        exported =
            λ d q to. elim (number-new index h e q d to) [
              | inl new ↦ (1, rw (new.1, new.0, get-insert_same exports e (new_counted (cap_of h))) refl)
              | inr old ↦
                  let has = is.exported d q old in
                  elim (cases_eq q e) [
                    | inl same ↦ absurd (not_some _ (sym free ∙ ap (λ k. get exports k) (sym same) ∙ has.1))
                    | inr other ↦ (has.0, get-insert_other exports e q (new_counted (cap_of h)) other ∙ has.1)
                  ]
            ];
      }

  -- an export may be taken out
  pub indexed-removed : (e : ℕ) (entry : Counted Cap) (h : ExportedCap) → get exports e ≡ Some entry → exported_cap_of entry.kept ≡ Some h → AreIndexed (remove exports e) (without_number index (cap_of h))
  indexed-removed e entry h there by =
      let cap_is : entry.kept ≡ cap_of h = hosted-back entry.kept h by in
      let here : number_of index (cap_of h) ≡ Some e = ap (number_of index) (sym cap_is) ∙ if_some (λ entry. number_of index entry.kept ≡ Some e) _ _ there (is.kept e) in
      record {
        kept =
            λ q. elim (cases_eq q e) [
              | inl same ↦ rw (same, get-remove_same exports e) tt
              | inr other ↦
                  rw (get-remove_other exports e q other)
                  (every _ (get exports q) (λ found at.
                  let old = if_some (λ entry. number_of index entry.kept ≡ Some q) _ _ at (is.kept q) in
                  number-left index h found.kept (λ same. other (ap (number_in q) (sym old ∙ ap (number_of index) same ∙ here))) ∙ old))
            ];
        exported =
            λ d q to.
            let old = number-without index h q d to in
            let has = is.exported d q old.1 in
            elim (cases_eq q e) [
              | inl same ↦ absurd (old.0 (ap (kept_in d) (sym has.1 ∙ ap (λ k. get exports k) same ∙ there) ∙ cap_is))
              | inr other ↦ (has.0, get-remove_other exports e q other ∙ has.1)
            ];
      }

-- a count at its greatest can't be raised
pub raise_out : (s : State) (table : Exports) (e : ℕ) (c : Cap) (entry : Counted Cap) → Some entry ≡ get table e → HasCap table e c → entry.count ≡ 4294967295 → Raise (with_exports s table) c (Err faults.TableFull)
raise_out s table e c entry there has most =
    counted_out e (has.1 ∙ ap (λ n. Some (record { count = n; kept = c })) (ap count_in (sym has.1 ∙ sym there) ∙ most))

-- what the table says of a count that is raised
pub raised_to : (table new : Exports) (e count : ℕ) (c : Cap) (r : Result ℕ TableFault) → get table e ≡ Some (record { count = count; kept = c }) → count ≢ 4294967295 → IfOk r (λ same. (same ≡ e) × (new ≡ with_count table e (count_of table e + 1))) → (IsSome (get table e) → count_of table e ≢ 4294967295 → IsOk r) → new ≡ insert table e (record { count = count + 1; kept = c })
raised_to table new e count c (Ok same) there other ok done = ok.1 ∙ rw there refl
raised_to table new e count c (Err fault) there other ok done = absurd (true≢false (sym (done (rw there refl) (rw there other))))

pub same_count : (table : Exports) (e : ℕ) (c : Cap) (entry : Counted Cap) → Some entry ≡ get table e → (has : HasCap table e c) → entry.count ≡ has.0
same_count table e c entry there has = ap count_in (there ∙ has.1)

-- a count that was raised
pub raise_more : (s : State) (table new : Exports) (e : ℕ) (c : Cap) (r : Result ℕ TableFault) (entry : Counted Cap) → Some entry ≡ get table e → HasCap table e c → entry.count ≢ 4294967295 → entry.count < 2 ^ 32 → IfOk r (λ same. (same ≡ e) × (new ≡ with_count table e (count_of table e + 1))) → (IsSome (get table e) → count_of table e ≢ 4294967295 → IsOk r) → Raise (with_exports s table) c (Ok (e, with_exports s new))
raise_more s table new e c r entry there has other small ok done =
    let same : entry.count ≡ has.0 = ap count_in (there ∙ has.1) in
    let more = raised_to table new e has.0 c r has.1 (λ most. other (same ∙ most)) ok done in
    rw more (counted e has.0 has.1 (omega (arith, other, small, same)))

-- an export that was opened and lowered again
pub lowered_again : {A F : Type 0} (table raised new : Exports) (e : ℕ) (c : Cap) (r : Result A F) → get table e ≡ None → raised ≡ insert table e (new_counted c) → (IsSome (get raised e) → 1 ≡ count_of raised e → IsOkAnd r (λ _. new ≡ remove raised e)) → new ≡ table
lowered_again table raised new e c r none is gone =
    let at : get raised e ≡ Some (new_counted c) = ap (λ t. get t e) is ∙ get-insert_same table e (new_counted c) in
    let done = gone (rw at refl) (rw at refl) in
    ok_and r _ done ∙ ap (λ t. remove t e) is ∙ put-back table e (new_counted c) none
  where
    ok_and : {A F : Type 0} (r : Result A F) (P : Type 0) → IsOkAnd r (λ _. P) → P
    ok_and (Ok x) P h = h
    ok_and (Err f) P h = absurd h

-- what a count that is lowered leaves
pub lowered_to : (table new : Exports) (e n : ℕ) (entry : Counted Cap) (r : Result (Unit {0}) TableFault) → Some entry ≡ get table e → n < entry.count → (n < count_of table e → IsOkAnd r (λ _. new ≡ with_count table e (count_of table e - n))) → new ≡ insert table e (record { count = entry.count - n; kept = entry.kept })
lowered_to table new e n entry (Ok x) there less ok = ok (rw (← there) less) ∙ rw (← there) refl
lowered_to table new e n entry (Err f) there less ok = absurd (ok (rw (← there) less))

pub lowered_out : (table new : Exports) (e n : ℕ) (entry : Counted Cap) (r : Result (Unit {0}) TableFault) → Some entry ≡ get table e → entry.count ≡ n → (IsSome (get table e) → n ≡ count_of table e → IsOkAnd r (λ _. new ≡ remove table e)) → new ≡ remove table e
lowered_out table new e n entry (Ok x) there same ok = ok (rw (← there) refl) (rw (← there) (sym same))
lowered_out table new e n entry (Err f) there same ok = absurd (ok (rw (← there) refl) (rw (← there) (sym same)))

pub indexed-empty : AreIndexed empty (record { objects = empty; promises = empty })
indexed-empty =
    record {
      kept = λ e. rw (get-empty nat_cmp e) tt;
      exported = λ c e is. absurd (none_of c e is);
    }
  where
    none_of : (c : Cap) (e : ℕ) → number_of (record { objects = empty; promises = empty }) c ≡ Some e → ⊥
    none_of (caps.Object k) e is = not_some e (sym (get-empty nat_cmp k) ∙ is)
    none_of (caps.Promise k) e is = not_some e (sym (get-empty nat_cmp k) ∙ is)
    none_of caps.None e is = not_some e is
    none_of (caps.Import i) e is = not_some e is
    none_of (caps.Pipelined q path) e is = not_some e is
    none_of (caps.Broken x) e is = not_some e is

insert-insert : {X : Type 0} (table : Table X) (id : ℕ) (x y : X) → insert (insert table id x) id y ≡ insert table id y
insert-insert table id x y = is_insert table _ id y (get-insert_same (insert table id x) id y) (λ q other. get-insert_other (insert table id x) id q y other ∙ get-insert_other table id q x other)

-- an export that was counted once more is as it was when that is taken back, and so is one that was opened
pub counted_back : (table : Exports) (e count : ℕ) (c : Cap) → get table e ≡ Some (record { count = count; kept = c }) → 0 < count → lowered_by (insert table e (record { count = count + 1; kept = c })) e 1 ≡ table
counted_back table e count c there some =
    let more : Counted Cap = record { count = count + 1; kept = c } in
    let here : get (insert table e more) e ≡ Some more = get-insert_same table e more in
    let tested : (count + 1 == 1) ≡ false = grind (arith, nat_tests) in
    let less : count + 1 - 1 ≡ count = omega arith in
    ap (less_by (insert table e more) e 1) here
    ∙ ap (λ b. cond b (remove (insert table e more) e) (insert (insert table e more) e (record { count = count + 1 - 1; kept = c }))) tested
    ∙ ap (λ n. insert (insert table e more) e (record { count = n; kept = c })) less
    ∙ insert-insert table e more (record { count = count; kept = c })
    ∙ insert-same table e (record { count = count; kept = c }) there

pub opened_back : (table : Exports) (e : ℕ) (c : Cap) → get table e ≡ None → lowered_by (insert table e (new_counted c)) e 1 ≡ table
opened_back table e c none =
    ap (less_by (insert table e (new_counted c)) e 1) (get-insert_same table e (new_counted c)) ∙ put-back table e (new_counted c) none

-- a release of one lowers the export by one, also where there is none
pub release_lowers : (old new : Exports) (e : ℕ) (r : Result (Unit {0}) PeerFault) → released old e 1 ≡ leaving r new → OnErr r (new ≡ old) → new ≡ lowered_by old e 1
release_lowers old new e r is err = by (get old e) refl r is err
  where
    lowered_entry : (entry : Counted Cap) (b : Bool) → ltb entry.count 1 ≡ b → get old e ≡ Some entry → (r : Result (Unit {0}) PeerFault) → cond b (Err faults.ReleaseTooLarge) (Ok (less_by old e 1 (Some entry))) ≡ leaving r new → OnErr r (new ≡ old) → new ≡ less_by old e 1 (Some entry)
    lowered_entry entry true small there (Ok x) is err = absurd (cc)
    lowered_entry entry true small there (Err fault) is same =
        let zero : entry.count ≡ 0 = grind (arith, nat_tests) in
        let tested : (entry.count == 1) ≡ false = grind (arith, nat_tests) in
        let alike : Some (record entry { count = entry.count - 1 }) ≡ Some entry = ap (λ n. Some (record entry { count = n - 1 })) zero ∙ sym (ap (λ n. Some (record entry { count = n })) zero) in
        same ∙ sym (insert-same old e (record entry { count = entry.count - 1 }) (there ∙ sym alike))
        ∙ sym (ap (λ b. cond b (remove old e) (insert old e (record entry { count = entry.count - 1 }))) tested)
    lowered_entry entry false small there (Ok x) is err = sym (cc)
    lowered_entry entry false small there (Err fault) is err = absurd (cc)

    by : (o : Option (Counted Cap)) → get old e ≡ o → (r : Result (Unit {0}) PeerFault)
        → cond (is_none o) (Err faults.UnknownExport) (cond (ltb (option_map_or (λ entry. entry.count) o 0) 1) (Err faults.ReleaseTooLarge) (Ok (less_by old e 1 o))) ≡ leaving r new → OnErr r (new ≡ old) → new ≡ lowered_by old e 1
    by None there (Ok x) is err = absurd (cc)
    by None there (Err fault) is same = same ∙ sym (ap (less_by old e 1) there)
    by (Some entry) there r is err = lowered_entry entry (ltb entry.count 1) refl there r is err ∙ sym (ap (less_by old e 1) there)
