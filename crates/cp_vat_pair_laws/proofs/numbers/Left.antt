-- What is exported where no message is on the way.
use Rattle.std.specs.Prelude.{◌≡◌, ◌⊎◌, refl, ℕ, not, ◌||◌, cond, Bool, true, false, List, [], ◌∷◌, ◌++◌, filter, flat_map, Option, Some, None, is_some, option_to_list, IfSome, IsTrue}
use Rattle.std.specs.List.{list_any}
use Rattle.std.specs.Ordering.{nat_cmp, eq_by_cmp}
use Rattle.std.specs.FinMap.{get, keys, values, contains_key-keys}
use Rattle.std.proofs.Common.{arith, inl, inr, ap, sym, ◌∙◌, true≢false}
use Rattle.std.proofs.lemmas.Bool.Decides.{nat_tests}
use Rattle.std.proofs.lemmas.List.Folds.{list_any-append}
use Rattle.cp_tables.specs.Table.{Table}
use Rattle.cp_tables.specs.Counted.{IsCount, AreCounts, count_of}
use Rattle.cp_tables.specs.declared.counted.Counted.{Counted}
use Rattle.cp_refs.specs.declared.cap.Cap.{Cap}
use Rattle.cp_vat_machine.specs.State.{State}
use Rattle.cp_vat_machine.specs.InUse.{caps_given, kept_caps, is_import, is_import_used, waiting_calls, other_values, idle_imports}
use Rattle.cp_vat_pair_laws.specs.VatPair.{VatPair, new_pair, across, end_of, last_of}
use Rattle.cp_vat_pair_laws.specs.Expected.{HoldsAlways}
use Rattle.cp_vat_pair_laws.specs.Numbers.{ExportedIsHeld, NothingIsLeft, HasReleased, IsNamedByAnswer, IsValueOfAnother, LeftIsNamed}
use Rattle.cp_vat_pair_laws.proofs.counts.Expected.{held_is_all}
use Rattle.cp_vat_pair_laws.proofs.numbers.Moves.{counts_of, counted_at}

-- what is exported where no message is on the way
same_there : {X Y : Type 0} (o : Option (Counted X)) (p : Option (Counted Y)) (n m : ℕ) → IfSome o (λ entry. IsCount entry.count × (entry.count ≡ n))
    → IfSome p (λ entry. IsCount entry.count × (entry.count ≡ m)) → (o ≡ None → n ≡ 0) → (p ≡ None → m ≡ 0) → n ≡ m → is_some o ≡ is_some p
same_there None None n m a b c d e = refl
same_there None (Some entry) n m a b c d e = absurd (omega (arith, b.0.0, b.1, c refl, e))
same_there (Some entry) None n m a b c d e = absurd (omega (arith, a.0.0, a.1, d refl, e))
same_there (Some entry) (Some other) n m a b c d e = refl

counted_if : {X : Type 0} (table : Table (Counted X)) (e : ℕ) (o : Option (Counted X)) → get table e ≡ o → AreCounts table
    → IfSome o (λ entry. IsCount entry.count × (entry.count ≡ count_of table e))
counted_if table e None is all = tt
counted_if table e (Some entry) is all = (rw (is) at (all e), rw (is) refl)

none_if : {X : Type 0} (table : Table (Counted X)) (e : ℕ) → get table e ≡ None → count_of table e ≡ 0
none_if table e none = rw (none) refl

pub exported_is_held : HoldsAlways ExportedIsHeld
exported_is_held one other moves made open_ quiet side e =
    let w : VatPair = last_of (new_pair one other) moves in
    let counts = counts_of one other moves made open_ in
    let exports = (end_of w side).vat.counts.exports in
    let imports = (end_of w (across side)).vat.counts.imports in
    same_there (get exports e) (get imports e) (count_of exports e) (count_of imports e) (counted_if exports e (get exports e) refl (counted_at w counts side).0)
    (counted_if imports e (get imports e) refl (counted_at w counts (across side)).1) (none_if exports e) (none_if imports e)
    (held_is_all one other moves made open_ quiet side e)

is_none_by : {X : Type 0} (o : Option X) → is_some o ≡ false → o ≡ None
is_none_by None is = refl
is_none_by (Some x) is = absurd (true≢false is)

pub nothing_is_left : HoldsAlways NothingIsLeft
nothing_is_left one other moves made open_ quiet side holds e =
    let w : VatPair = last_of (new_pair one other) moves in
    let same = exported_is_held one other moves made open_ quiet side e in
    is_none_by (get (end_of w side).vat.counts.exports e) (same ∙ ap is_some (holds e))

-- An import that isn't idle is in use.
tied_is : (q k : ℕ) → eq_by_cmp nat_cmp q k ≡ true → q ≡ k
tied_is q k t = grind (arith, nat_tests)

abbrev is_empty : {X : Type 0} → List X → Bool
is_empty [] = true
is_empty (x ∷ xs) = false

used_by : (used : ℕ → Bool) (q k : ℕ) (ks : List ℕ) (b c : Bool) → (filter (λ i. not (used i)) ks ≡ [] → list_any (eq_by_cmp nat_cmp q) ks ≡ true → used q ≡ true) → used k ≡ b
    → eq_by_cmp nat_cmp q k ≡ c → cond (not b) (k ∷ filter (λ i. not (used i)) ks) (filter (λ i. not (used i)) ks) ≡ []
    → (c || list_any (eq_by_cmp nat_cmp q) ks) ≡ true → used q ≡ true
used_by used q k ks false c more is t none there = absurd (true≢false (sym (ap is_empty none)))
used_by used q k ks true true more is t none there = rw (tied_is q k t) is
used_by used q k ks true false more is t none there = more none there

used_of : (used : ℕ → Bool) (q : ℕ) (ks : List ℕ) → filter (λ i. not (used i)) ks ≡ [] → list_any (eq_by_cmp nat_cmp q) ks ≡ true → used q ≡ true
used_of used q [] none there = absurd (true≢false (sym there))
used_of used q (k ∷ ks) none there = used_by used q k ks (used k) (eq_by_cmp nat_cmp q k) (used_of used q ks) refl refl none there

used_import : (s : State) (i : ℕ) → idle_imports s ≡ [] → IsTrue (is_some (get s.counts.imports i)) → is_import_used s i ≡ true
used_import s i none there = used_of (is_import_used s) i (keys s.counts.imports) none (sym (contains_key-keys s.counts.imports i) ∙ there)

-- what is used is named by what is left
or_either : (a b : Bool) → (a || b) ≡ true → IsTrue a ⊎ IsTrue b
or_either true b h = inl refl
or_either false b h = inr h

or_none : (b : Bool) → (b || false) ≡ b
or_none true = refl
or_none false = refl

kept_named : (s : State) (i : ℕ) → HasReleased s → list_any (is_import i) (kept_caps s) ≡ list_any (is_import i) (flat_map caps_given (values s.values.answers))
kept_named s i released =
    let promises : List Cap = flat_map option_to_list (values s.values.promises) in
    let answers : List Cap = flat_map caps_given (values s.values.answers) in
    let results : List Cap = flat_map (λ question. caps_given question.outcome) (values s.values.questions) in
    let calls : List Cap = flat_map (λ call. call.request.caps) (waiting_calls s) in
    let any : List Cap → Bool = list_any (is_import i) in
    rw (
      list_any-append (is_import i) (promises ++ answers ++ results) calls,
      list_any-append (is_import i) (promises ++ answers) results,
      list_any-append (is_import i) promises answers,
      released.promises i,
      released.results i,
      released.calls i,
    )
    (or_none (any answers || false) ∙ or_none (any answers))

named_by_kept : (s : State) (i : ℕ) → HasReleased s → is_import_used s i ≡ true → IsNamedByAnswer s i ⊎ IsValueOfAnother s i
named_by_kept s i released used =
    or_either (list_any (is_import i) (flat_map caps_given (values s.values.answers))) (list_any (is_import i) (other_values s i))
    (rw (← kept_named s i released) used)

pub left_is_named : HoldsAlways LeftIsNamed
left_is_named one other moves made open_ quiet side e released there =
    let w : VatPair = last_of (new_pair one other) moves in
    let same = exported_is_held one other moves made open_ quiet side e in
    named_by_kept (end_of w (across side)).vat e released (used_import (end_of w (across side)).vat e released.released_idle (rw (← same) there))
