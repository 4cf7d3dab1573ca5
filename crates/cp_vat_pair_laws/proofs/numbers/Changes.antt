-- What holds of counts and numbers after changes, and after what messages lower.
use Rattle.std.specs.Prelude.{◌≡◌, refl, ℕ, ◌+◌, ◌-◌, ◌≤◌, ◌<◌, ◌==◌, ltb, if◌then◌else◌, Bool, true, false, List, [], ◌∷◌, Option, Some, None, is_none, Ok, Err}
use Rattle.std.specs.List.{list_any}
use Rattle.std.specs.FinMap.{get, insert, remove}
use Rattle.std.proofs.Common.{arith, ap, sym, ◌∙◌}
use Rattle.std.proofs.lemmas.Bool.Decides.{nat_tests}
use Rattle.cp_tables.specs.Table.{Table}
use Rattle.cp_tables.specs.Counted.{IsCount, AreCounts, count_of, new_counted}
use Rattle.cp_tables.specs.declared.counted.Counted.{Counted}
use Rattle.cp_tables.proofs.CountedLemmas.{AreCounts-insert, AreCounts-remove}
use Rattle.cp_messages.specs.declared.message.Message.{Message}
use Rattle.cp_messages.specs.declared.message.Message.TheVariants as messages
use Rattle.cp_refs.specs.declared.cap.Cap.{Cap}
use Rattle.cp_vat_machine.specs.State.{State, Counts}
use Rattle.cp_vat_machine.specs.Receiving.{times, less_by, lowered_by, lowered, release_exports, released}
use Rattle.cp_vat_machine.specs.declared.fault.PeerFault.TheVariants as faults
use Rattle.cp_vat_machine.proofs.Basics.{some_out, none_out, is_equal, is_itself, ok_out, ok_in, put_at, gone_at}
use Rattle.cp_vat_pair_laws.specs.Accounts.{accounts_of, kept_account, results_in, lowerable}
use Rattle.cp_vat_pair_laws.specs.Accounts as accounts
use Rattle.cp_vat_pair_laws.specs.Lives.{IsUsual}
use Rattle.cp_vat_pair_laws.specs.Numbers.{Change, named_again, named_first, taken_again, taken_first, given_back, IsNumberOf, Changes, unchanged, changed, ChangesKeep, lowering}
use Rattle.cp_vat_pair_laws.proofs.counts.rules.Counted.{times_more, times_one, one_of, less, fits_all, lower_counts, released_counts}

-- counts of exports and of imports
abbrev pub AreBoth : Counts → Type 0
AreBoth counts = AreCounts counts.exports × AreCounts counts.imports

count_there : {X : Type 0} (table : Table (Counted X)) (e : ℕ) (entry : Counted X) → get table e ≡ Some entry → AreCounts table → IsCount entry.count
count_there table e entry is all = rw (is) at (all e)

one_more : (n : ℕ) → n < 4294967295 → IsCount (n + 1)
one_more n small = (omega arith, omega (arith, small))

change_counts : {old new : Counts} → AreBoth old → Change old new → AreBoth new
change_counts {old = old} all (named_again e count cap is room) =
    (AreCounts-insert old.exports e _ all.0 (one_more count room), all.1)
change_counts {old = old} all (named_first e cap is) = (AreCounts-insert old.exports e (new_counted cap) all.0 (omega arith, omega arith), all.1)
change_counts {old = old} all (taken_again i entry is room) =
    (all.0, AreCounts-insert old.imports i (record entry { count = entry.count + 1 }) all.1 (one_more entry.count (grind (arith, nat_tests))))
change_counts {old = old} all (taken_first i kind is) = (all.0, AreCounts-insert old.imports i (new_counted kind) all.1 (omega arith, omega arith))
change_counts {old = old} all (given_back i) = (all.0, AreCounts-remove old.imports i all.1)

pub changes_count : {old new : Counts} → AreBoth old → Changes old new → AreBoth new
changes_count all unchanged = all
changes_count all (changed more one) = change_counts (changes_count all more) one

module _ (exports : Table (Counted Cap)) (e : ℕ) (cap : Cap) (is : IsNumberOf exports e cap) where
  again_stays : (f count : ℕ) (other : Cap) (b : Bool) → (f == e) ≡ b → get exports f ≡ Some (record { count = count; kept = other })
      → IsNumberOf (insert exports f (record { count = count + 1; kept = other })) e cap
  again_stays f count other true t there =
      let here : get exports e ≡ Some (record { count = count; kept = other }) = rw (← is_equal f e t) there in
      let same : other ≡ cap = ap (λ entry. entry.kept) (some_out (sym here ∙ is.1)) in
      (count + 1, rw (← same) (put_at exports f e (record { count = count + 1; kept = other }) true t))
  again_stays f count other false t there = (is.0, put_at exports f e (record { count = count + 1; kept = other }) false t ∙ is.1)

  first_stays : (f : ℕ) (other : Cap) (b : Bool) → (f == e) ≡ b → get exports f ≡ None → IsNumberOf (insert exports f (new_counted other)) e cap
  first_stays f other true t none =
      let here : get exports e ≡ None = rw (← is_equal f e t) none in
      none_out (sym here ∙ is.1)
  first_stays f other false t none = (is.0, put_at exports f e (new_counted other) false t ∙ is.1)

change_stays : {old new : Counts} (e : ℕ) (cap : Cap) → IsNumberOf old.exports e cap → Change old new → IsNumberOf new.exports e cap
change_stays {old = old} e cap is (named_again f count other there room) = again_stays old.exports e cap is f count other (f == e) refl there
change_stays {old = old} e cap is (named_first f other none) = first_stays old.exports e cap is f other (f == e) refl none
change_stays e cap is (taken_again i entry there room) = is
change_stays e cap is (taken_first i kind none) = is
change_stays e cap is (given_back i) = is

pub changes_stay : {old new : Counts} (e : ℕ) (cap : Cap) → IsNumberOf old.exports e cap → Changes old new → IsNumberOf new.exports e cap
changes_stay e cap is unchanged = is
changes_stay e cap is (changed more one) = change_stays e cap (changes_stay e cap is more) one

pub changes_keep : ChangesKeep
changes_keep = record { counts = λ changes all. changes_count all changes; numbers = λ e cap changes is. changes_stay e cap is changes }

-- What is lowered is gone, or is left with its capability.
less_counts : (exports : Table (Counted Cap)) (e n : ℕ) (o : Option (Counted Cap)) → get exports e ≡ o → n ≤ count_of exports e → AreCounts exports
    → AreCounts (less_by exports e n o)
less_counts exports e n None is fits all = all
less_counts exports e n (Some entry) is fits all = by (entry.count == n) refl
  where
    here : count_of exports e ≡ entry.count
    here = rw (is) refl

    by : (b : Bool) → (entry.count == n) ≡ b → AreCounts (if b then remove exports e else insert exports e (record entry { count = entry.count - n }))
    by true t = AreCounts-remove exports e all
    by false t =
        let counted = count_there exports e entry is all in
        AreCounts-insert exports e (record entry { count = entry.count - n }) all (grind (arith, nat_tests), omega (arith, counted.1))

less_all_counts : (exports : Table (Counted Cap)) (e n : ℕ) → n ≤ count_of exports e → AreCounts exports → AreCounts (lowered_by exports e n)
less_all_counts exports e n fits all = less_counts exports e n (get exports e) refl fits all

lowered_count : (ids : List ℕ) (exports : Table (Counted Cap)) → ((f : ℕ) → times f ids ≤ count_of exports f) → AreCounts exports → AreCounts (lowered exports ids)
lowered_count [] exports fits all = all
lowered_count (e ∷ ids) exports fits all =
    let here : 1 ≤ count_of exports e = omega (arith, fits e, times_more e e ids, times_one e e true (is_itself e)) in
    lowered_count ids (lowered_by exports e 1) (λ f. omega (arith, fits f, times_more f e ids, one_of f e, less exports e 1 f here)) (less_all_counts exports e 1 here all)

less_from : (exports : Table (Counted Cap)) (e n f : ℕ) (cap : Cap) (o : Option (Counted Cap)) → get exports e ≡ o → IsNumberOf (less_by exports e n o) f cap
    → IsNumberOf exports f cap
less_from exports e n f cap None is there = there
less_from exports e n f cap (Some entry) is there = by (entry.count == n) (e == f) refl there
  where
    by : (b c : Bool) → (e == f) ≡ c → IsNumberOf (if b then remove exports e else insert exports e (record entry { count = entry.count - n })) f cap
        → IsNumberOf exports f cap
    by true true t there = none_out (sym (gone_at exports e f true t) ∙ there.1)
    by true false t there = (there.0, sym (gone_at exports e f false t) ∙ there.1)
    by false true t there =
        let same : entry.kept ≡ cap
        = ap (λ entry. entry.kept) (some_out (sym (put_at exports e f (record entry { count = entry.count - n }) true t) ∙ there.1)) in
        (entry.count, rw (← is_equal e f t, ← same) is)
    by false false t there = (there.0, sym (put_at exports e f (record entry { count = entry.count - n }) false t) ∙ there.1)

lowered_from : (ids : List ℕ) (exports : Table (Counted Cap)) (f : ℕ) (cap : Cap) → IsNumberOf (lowered exports ids) f cap → IsNumberOf exports f cap
lowered_from [] exports f cap there = there
lowered_from (e ∷ ids) exports f cap there = less_from exports e 1 f cap (get exports e) refl (lowered_from ids (lowered_by exports e 1) f cap there)

-- what exports are lowered to: each was there with the same capability, and what is left is counted
pub record LoweredTo (old new : Table (Counted Cap)) : Type 0 where
  pub counts : AreCounts old → AreCounts new
  pub was : (f : ℕ) (cap : Cap) → IsNumberOf new f cap → IsNumberOf old f cap

as_it_was : (old new : Table (Counted Cap)) → new ≡ old → LoweredTo old new
as_it_was old new same = rw (same) (record { counts = λ all. all; was = λ f cap is. is })

lower_to : (exports new : Table (Counted Cap)) (ids : List ℕ) → release_exports exports ids ≡ Ok new → LoweredTo exports new
lower_to exports new ids is =
    by (list_any (λ e. is_none (get exports e)) ids) (list_any (λ e. ltb (count_of exports e) (times e ids)) ids) refl (sym is)
  where
    by : (b c : Bool) → list_any (λ e. ltb (count_of exports e) (times e ids)) ids ≡ c
        → Ok new ≡ (if b then Err faults.UnknownExport else (if c then Err faults.ReleaseTooLarge else Ok (lowered exports ids))) → LoweredTo exports new
    by true c t is = ok_out is
    by false true t is = ok_out is
    by false false t is =
        rw (ok_in _ _ is) (record { counts = lowered_count ids exports (fits_all exports ids t); was = lowered_from ids exports })

released_to : (exports new : Table (Counted Cap)) (e n : ℕ) → released exports e n ≡ Ok new → LoweredTo exports new
released_to exports new e n is = by (is_none (get exports e)) (ltb (count_of exports e) n) refl (sym is)
  where
    by : (b c : Bool) → ltb (count_of exports e) n ≡ c
        → Ok new ≡ (if b then Err faults.UnknownExport else (if c then Err faults.ReleaseTooLarge else Ok (lowered_by exports e n))) → LoweredTo exports new
    by true c t is = ok_out is
    by false true t is = ok_out is
    by false false t is =
        rw
        (ok_in _ _ is)
        (record {
          counts = less_all_counts exports e n (grind (arith, nat_tests));
          was = λ f cap. less_from exports e n f cap (get exports e) refl;
        })

lower_if : (b : Bool) (exports new : Table (Counted Cap)) (ids : List ℕ) → (if b then release_exports exports ids else Ok exports) ≡ Ok new → LoweredTo exports new
lower_if true exports new ids is = lower_to exports new ids is
lower_if false exports new ids is = as_it_was exports new (ok_in _ _ (sym is))

pub lowering_to : (s : State) (m : Message) (new : Table (Counted Cap)) → lowering s m ≡ Ok new → LoweredTo s.counts.exports new
lowering_to s (messages.Release r) new is = released_to s.counts.exports new r.id r.reference_count is
lowering_to s (messages.Finish f) new is =
    lower_if f.release_result_caps s.counts.exports new (results_in (kept_account (get s.entries.answers f.question_id))) is
lowering_to s (messages.Unimplemented t) new is = as_it_was s.counts.exports new (ok_in _ _ (sym is))
lowering_to s (messages.Abort x) new is = as_it_was s.counts.exports new (ok_in _ _ (sym is))
lowering_to s (messages.Call c) new is = as_it_was s.counts.exports new (ok_in _ _ (sym is))
lowering_to s (messages.Return r) new is = as_it_was s.counts.exports new (ok_in _ _ (sym is))
lowering_to s (messages.Resolve r) new is = as_it_was s.counts.exports new (ok_in _ _ (sym is))
lowering_to s (messages.Bootstrap b) new is = as_it_was s.counts.exports new (ok_in _ _ (sym is))
lowering_to s (messages.Disembargo d) new is = as_it_was s.counts.exports new (ok_in _ _ (sym is))
lowering_to s (messages.Other which body) new is = as_it_was s.counts.exports new (ok_in _ _ (sym is))

-- It is lowered by what the message says.
abbrev IsLoweredBy : State → Message → Table (Counted Cap) → ℕ → Type 0
IsLoweredBy s m new e = count_of s.counts.exports e ≡ count_of new e + accounts.lowered_by (lowerable (accounts_of s)) m e

not_lowered : (old new : Table (Counted Cap)) (e : ℕ) → new ≡ old → count_of old e ≡ count_of new e + 0
not_lowered old new e same = rw (same) (omega arith)

lowered_if : (b : Bool) (exports new : Table (Counted Cap)) (ids : List ℕ) (e : ℕ) → (if b then release_exports exports ids else Ok exports) ≡ Ok new
    → count_of exports e ≡ count_of new e + (if b then times e ids else 0)
lowered_if true exports new ids e is = lower_counts exports new ids (sym is) e
lowered_if false exports new ids e is = not_lowered exports new e (ok_in _ _ (sym is))

pub is_lowered : (s : State) (m : Message) (new : Table (Counted Cap)) (e : ℕ) → IsUsual m → lowering s m ≡ Ok new → IsLoweredBy s m new e
is_lowered s (messages.Release r) new e usual is = released_counts s.counts.exports new r.id r.reference_count (sym is) e
is_lowered s (messages.Finish f) new e usual is =
    lowered_if f.release_result_caps s.counts.exports new (results_in (kept_account (get s.entries.answers f.question_id))) e is
is_lowered s (messages.Return r) new e usual is = rw (usual.1.0) (not_lowered s.counts.exports new e (ok_in _ _ (sym is)))
is_lowered s (messages.Unimplemented t) new e usual is = absurd usual.1
is_lowered s (messages.Abort x) new e usual is = not_lowered s.counts.exports new e (ok_in _ _ (sym is))
is_lowered s (messages.Call c) new e usual is = not_lowered s.counts.exports new e (ok_in _ _ (sym is))
is_lowered s (messages.Resolve r) new e usual is = not_lowered s.counts.exports new e (ok_in _ _ (sym is))
is_lowered s (messages.Bootstrap b) new e usual is = not_lowered s.counts.exports new e (ok_in _ _ (sym is))
is_lowered s (messages.Disembargo d) new e usual is = not_lowered s.counts.exports new e (ok_in _ _ (sym is))
is_lowered s (messages.Other which body) new e usual is = not_lowered s.counts.exports new e (ok_in _ _ (sym is))

-- one that is lowered by less than its count stays
entry_of : (table : Table (Counted Cap)) (e : ℕ) (o : Option (Counted Cap)) → get table e ≡ o → 0 < count_of table e → (entry : Counted Cap) × (get table e ≡ Some entry)
entry_of table e None is some =
    let none : count_of table e ≡ 0 = rw (is) refl in
    absurd (omega (arith, some, none))
entry_of table e (Some entry) is some = (entry, is)

pub lowering_stays : (s : State) (m : Message) (new : Table (Counted Cap)) (e : ℕ) (cap : Cap) → IsUsual m → lowering s m ≡ Ok new
    → accounts.lowered_by (lowerable (accounts_of s)) m e < count_of s.counts.exports e → IsNumberOf s.counts.exports e cap → IsNumberOf new e cap
lowering_stays s m new e cap usual is few there =
    let left = entry_of new e (get new e) refl (omega (arith, is_lowered s m new e usual is, few)) in
    let was = (lowering_to s m new is).was e left.0.kept (left.0.count, left.1) in
    let same : left.0.kept ≡ cap = ap (λ entry. entry.kept) (some_out (sym was.1 ∙ there.1)) in
    (left.0.count, rw (← same) left.1)
