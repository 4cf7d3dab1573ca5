-- A vat with other exports.
use Rattle.std.specs.Prelude.{◌≡◌, ◌≢◌, refl, ℕ, ◌+◌, ◌-◌, ◌≤◌, ◌==◌, ltb, ◌⊎◌, if◌then◌else◌, Bool, true, false, List, [], ◌∷◌, Option, Some, None, is_none, IfSome, Result, Ok, Err}
use Rattle.std.specs.List.{list_any}
use Rattle.std.specs.FinMap.{get, insert, remove}
use Rattle.std.proofs.Common.{inl, inr, arith, ap, sym, ◌∙◌}
use Rattle.std.proofs.lemmas.Bool.Decides.{nat_tests}
use Rattle.cp_tables.specs.Table.{Table}
use Rattle.cp_tables.specs.Counted.{AreCounts, IsCount, count_of, new_counted}
use Rattle.cp_tables.specs.declared.counted.Counted.{Counted}
use Rattle.cp_messages.specs.declared.descriptor.Descriptor.{Descriptor}
use Rattle.cp_messages.specs.declared.resolve.Resolution.{Resolution}
use Rattle.cp_refs.specs.Route.{way}
use Rattle.cp_refs.specs.declared.cap.Cap.{Cap}
use Rattle.cp_refs.specs.declared.cap.Cap.TheVariants as caps
use Rattle.cp_refs.specs.declared.call.Origin.{Origin}
use Rattle.cp_vat_machine.specs.State.{State, with_exports}
use Rattle.cp_vat_machine.specs.Capacity.{free}
use Rattle.cp_vat_machine.specs.Receiving.{times, less_by, lowered_by, lowered, release_exports, released}
use Rattle.cp_vat_machine.specs.Writing.{Raise, counted, counted_out, opened, has_no_capacity, WritesEnd, WritesDescriptor, WritesDescriptors}
use Rattle.cp_vat_machine.specs.Give.{ResolvesEnd, Tells}
use Rattle.cp_vat_machine.specs.Go.{PendingCall}
use Rattle.cp_vat_machine.specs.Then.{Done}
use Rattle.cp_vat_machine.specs.Local.{IsExportable, AreOne, IsThere}
use Rattle.cp_vat_machine.specs.declared.entry.Tied.{Tied}
use Rattle.cp_vat_machine.specs.declared.fault.PeerFault.{PeerFault}
use Rattle.cp_vat_machine.specs.declared.fault.PeerFault.TheVariants as faults
use Rattle.cp_vat_machine.proofs.Basics.{ok_in, ok_out, then_out, not_equal}
use Rattle.cp_vat_laws.specs.Within.{Within, AllKept, IsInHand}
use Rattle.cp_vat_laws.proofs.Tables.{here_of, there_of, each_put, put_cases, gone_cases, each_kept}
use Rattle.cp_vat_laws.proofs.within.Ways.{IsEnding, comes_to_end, ending_promise}
use Rattle.cp_vat_laws.proofs.within.Follows.{all_end, exportable_there}

module _ {s : State} {hand : Option Origin} {next : List Tied} (h : Within s hand next) where
  -- each is counted, an object or a promise that is there, and there is one for each capability
  pub other_exports : (exports : Table (Counted Cap)) → AreCounts exports → ((e : ℕ) → IfSome (get exports e) (λ entry. IsExportable s entry.kept))
      → AreOne (with_exports s exports) → Within (with_exports s exports) hand next
  other_exports exports are exportable one =
      let new : State = with_exports s exports in
      let there : AllKept (IsThere s) new = record {
        values_ = h.there.values_;
        calls_ = h.there.calls_;
        embargoes_ = h.there.embargoes_;
        exports_ = each_kept (λ e entry. IsExportable s entry.kept) (λ e entry. IsThere s entry.kept) exports 0 exportable
            (λ e entry is. exportable_there s entry.kept);
      } in
      record {
        over_answers = h.over_answers;
        over_promises = h.over_promises;
        over_questions = h.over_questions;
        over_embargoes = h.over_embargoes;
        gifts = h.gifts;
        answers = h.answers;
        questions = h.questions;
        waiting = h.waiting;
        forwards = h.forwards;
        wire = h.wire;
        forwarding = h.forwarding;
        gates_kept = h.gates_kept;
        sendable = h.sendable;
        tied = h.tied;
        untied = h.untied;
        owned = h.owned;
        counts = are;
        imported = h.imported;
        exports = exportable;
        one_export = one;
        there = there;
        ends = all_end new h.ends.values_ there;
        embargoed = h.embargoed;
        plain = h.plain;
        finished = h.finished;
        answers_valued = h.answers_valued;
        questions_valued = h.questions_valued;
        imports_valued = h.imports_valued;
        import_marks = h.import_marks;
        path_marks = h.path_marks;
        one_mark = h.one_mark;
        waited_for = h.waited_for;
      }

  raised_counts : (e count : ℕ) (cap : Cap) → IsCount count → AreCounts (insert s.counts.exports e (record { count = count; kept = cap }))
  raised_counts e count cap is = each_put (λ f entry. IsCount entry.count) (λ f entry. IsCount entry.count) s.counts.exports e
      (record { count = count; kept = cap }) h.counts is (λ f entry other was p. p)

  raised_exportable : (e count : ℕ) (cap : Cap) → IsExportable s cap
      → (f : ℕ) → IfSome (get (insert s.counts.exports e (record { count = count; kept = cap })) f) (λ entry. IsExportable s entry.kept)
  raised_exportable e count cap is =
      each_put (λ f entry. IsExportable s entry.kept) (λ f entry. IsExportable s entry.kept) s.counts.exports e
      (record { count = count; kept = cap }) h.exports is (λ f entry other was p. p)

  -- an export of a capability that has none elsewhere
  raised_one : (e count : ℕ) (cap : Cap) → ((f : ℕ) (entry : Counted Cap) → (e == f) ≡ false → get s.counts.exports f ≡ Some entry → entry.kept ≡ cap → ⊥)
      → AreOne (with_exports s (insert s.counts.exports e (record { count = count; kept = cap })))
  raised_one e count cap none f g one other is at same =
      by (put_cases s.counts.exports e f (record { count = count; kept = cap }) one is)
      (put_cases s.counts.exports e g (record { count = count; kept = cap }) other at)
    where
      by : ((e ≡ f) × (record { count = count; kept = cap } ≡ one)) ⊎ (((e == f) ≡ false) × (get s.counts.exports f ≡ Some one))
          → ((e ≡ g) × (record { count = count; kept = cap } ≡ other)) ⊎ (((e == g) ≡ false) × (get s.counts.exports g ≡ Some other)) → f ≡ g
      by (inl a) (inl b) = sym a.0 ∙ b.0
      by (inl a) (inr b) = absurd (none g other b.0 b.1 (sym same ∙ sym (ap (λ (x : Counted Cap). x.kept) a.1)))
      by (inr a) (inl b) = absurd (none f one a.0 a.1 (same ∙ sym (ap (λ (x : Counted Cap). x.kept) b.1)))
      by (inr a) (inr b) = h.one_export f g one other a.1 b.1 same

-- A vat holds as before, and only its exports changed.
abbrev pub OnlyExports : State → Option Origin → List Tied → State → Type 0
OnlyExports s hand next new = Within new hand next × (new ≡ with_exports s new.counts.exports)

pub only_both : (s mid new : State) (hand : Option Origin) (next : List Tied) → mid ≡ with_exports s mid.counts.exports → OnlyExports mid hand next new
    → OnlyExports s hand next new
only_both s mid new hand next one more = (more.0, more.1 ∙ ap (λ x. with_exports x new.counts.exports) one)

-- a call in hand stays so
pub in_hand_exports : (s : State) (exports : Table (Counted Cap)) (call : PendingCall) → IsInHand s call → IsInHand (with_exports s exports) call
in_hand_exports s exports call i =
    record { whose = i.whose; given = i.given; free = i.free; sendable = i.sendable; there = i.there; ends = i.ends; unfinished = i.unfinished }

pub in_hand_only : (s new : State) (call : PendingCall) → new ≡ with_exports s new.counts.exports → IsInHand s call → IsInHand new call
in_hand_only s new call only i = rw (only) (in_hand_exports s new.counts.exports call i)

module _ (hand : Option Origin) (next : List Tied) where
  abbrev RaisedWell : State → Result (ℕ × State) PeerFault → Type 0
  RaisedWell s (Ok raised) = OnlyExports s hand next raised.1
  RaisedWell s (Err fault) = Unit {0}

  -- an export is counted once more, or opened
  raise_keeps : (s : State) (cap : Cap) (out : Result (ℕ × State) PeerFault) → Within s hand next → IsExportable s cap → Raise s cap out → RaisedWell s out
  raise_keeps s cap out h may (counted e count is small) =
      let same : (f : ℕ) (entry : Counted Cap) → (e == f) ≡ false → get s.counts.exports f ≡ Some entry → entry.kept ≡ cap → ⊥ =
      λ f entry other at kept. not_equal e f other (h.one_export e f (record { count = count; kept = cap }) entry is at (sym kept)) in (
        other_exports h (insert s.counts.exports e (record { count = count + 1; kept = cap }))
            (raised_counts h e (count + 1) cap (omega arith, omega (arith, small)))
            (raised_exportable h e (count + 1) cap may) (raised_one h e (count + 1) cap same),
        refl,
      )
  raise_keeps s cap out h may (counted_out e is) = tt
  raise_keeps s cap out h may (opened e none (free n is small room)) =
      let same : (f : ℕ) (entry : Counted Cap) → (e == f) ≡ false → get s.counts.exports f ≡ Some entry → entry.kept ≡ cap → ⊥ =
      λ f entry other at kept. there_of (λ (x : Counted Cap). x.kept ≢ cap) (get s.counts.exports f) entry at (none f) kept in (
        other_exports h (insert s.counts.exports e (new_counted cap)) (raised_counts h e 1 cap (omega arith, omega arith)) (raised_exportable h e 1 cap may)
            (raised_one h e 1 cap same),
        refl,
      )
  raise_keeps s cap out h may (has_no_capacity none is) = tt

  -- what a capability comes to is sent
  pub say_end_keeps : (s : State) (last : Cap) (said : Descriptor × State) → Within s hand next → IsEnding (way s.values last) → WritesEnd s last (Ok said)
      → OnlyExports s hand next said.1
  say_end_keeps s caps.None said h end is = rw (ok_in _ _ is) (h, refl)
  say_end_keeps s (caps.Object k) said h end is =
      let parts = then_out {A = ℕ × State} {B = Descriptor × State} (Raise s (caps.Object k)) _ said is in
      rw (ok_in _ _ parts.2) (raise_keeps s (caps.Object k) (Ok parts.0) h tt parts.1)
  say_end_keeps s (caps.Promise p) said h end is =
      let parts = then_out {A = ℕ × State} {B = Descriptor × State} (Raise s (caps.Promise p)) _ said is in
      rw (ok_in _ _ parts.2) (raise_keeps s (caps.Promise p) (Ok parts.0) h (rw (ending_promise p (get s.values.promises p) end) refl) parts.1)
  say_end_keeps s (caps.Import i) said h end is = rw (ok_in _ _ is) (h, refl)
  say_end_keeps s (caps.Pipelined q path) said h end is = rw (ok_in _ _ is) (h, refl)
  say_end_keeps s (caps.Broken x) said h end is = rw (ok_in _ _ is) (h, refl)

  pub say_all_keeps : (table : List Cap) (s : State) (said : List Descriptor × State) → Within s hand next → WritesDescriptors s table (Ok said)
      → OnlyExports s hand next said.1
  say_all_keeps [] s said h is = rw (ok_in _ _ is) (h, refl)
  say_all_keeps (cap ∷ table) s said h is =
      let first = then_out {A = Descriptor × State} {B = List Descriptor × State} (WritesDescriptor s cap) _ said is in
      let rest = then_out {A = List Descriptor × State} {B = List Descriptor × State} (WritesDescriptors first.0.1 table) _ said first.2 in
      let one = say_end_keeps s first.1.0 first.0 h (comes_to_end s.values cap first.1.0 first.1.1) first.1.2 in
      rw (ok_in _ _ rest.2) (only_both s first.0.1 rest.0.1 hand next one.1 (say_all_keeps table first.0.1 rest.0 one.0 rest.1))

  -- a promise that is settled is told
  resolves_keeps : (s : State) (last : Cap) (said : Resolution × State) → Within s hand next → IsEnding (way s.values last) → ResolvesEnd s last (Ok said)
      → OnlyExports s hand next said.1
  resolves_keeps s (caps.Broken x) said h end is = rw (ok_in _ _ is) (h, refl)
  resolves_keeps s caps.None said h end is =
      let parts = then_out {A = Descriptor × State} {B = Resolution × State} (WritesEnd s caps.None) _ said is in
      rw (ok_in _ _ parts.2) (say_end_keeps s caps.None parts.0 h end parts.1)
  resolves_keeps s (caps.Object k) said h end is =
      let parts = then_out {A = Descriptor × State} {B = Resolution × State} (WritesEnd s (caps.Object k)) _ said is in
      rw (ok_in _ _ parts.2) (say_end_keeps s (caps.Object k) parts.0 h end parts.1)
  resolves_keeps s (caps.Promise p) said h end is =
      let parts = then_out {A = Descriptor × State} {B = Resolution × State} (WritesEnd s (caps.Promise p)) _ said is in
      rw (ok_in _ _ parts.2) (say_end_keeps s (caps.Promise p) parts.0 h end parts.1)
  resolves_keeps s (caps.Import i) said h end is =
      let parts = then_out {A = Descriptor × State} {B = Resolution × State} (WritesEnd s (caps.Import i)) _ said is in
      rw (ok_in _ _ parts.2) (say_end_keeps s (caps.Import i) parts.0 h end parts.1)
  resolves_keeps s (caps.Pipelined q path) said h end is =
      let parts = then_out {A = Descriptor × State} {B = Resolution × State} (WritesEnd s (caps.Pipelined q path)) _ said is in
      rw (ok_in _ _ parts.2) (say_end_keeps s (caps.Pipelined q path) parts.0 h end parts.1)

  pub tells_keeps : (s : State) (p : ℕ) (last : Cap) (done : Done) → Within s hand next → IsEnding (way s.values last) → Tells s p last (Ok done)
      → OnlyExports s hand next done.1
  tells_keeps s p last done h end (inl (none, is)) = rw (ok_in _ _ is) (h, refl)
  tells_keeps s p last done h end (inr (e, is_export, is)) =
      let parts = then_out {A = Resolution × State} {B = Done} (ResolvesEnd s last) _ done is in
      rw (ok_in _ _ parts.2) (resolves_keeps s last parts.0 h end parts.1)

-- fewer exports: each was there, and still counts
abbrev pub AreFewer : Table (Counted Cap) → Table (Counted Cap) → Type 0
AreFewer old new = (e : ℕ) (entry : Counted Cap) → get new e ≡ Some entry
    → IsCount entry.count × ((was : Counted Cap) × (get old e ≡ Some was) × (was.kept ≡ entry.kept))

pub fewer_exports : {s : State} {hand : Option Origin} {next : List Tied} → Within s hand next → (exports : Table (Counted Cap))
    → AreFewer s.counts.exports exports
    → Within (with_exports s exports) hand next
fewer_exports {s = s} h exports fewer =
    other_exports h exports (λ e. here_of _ (get exports e) (λ entry is. (fewer e entry is).0))
    (λ e. here_of _ (get exports e) (λ (entry : Counted Cap) is.
    let was = (fewer e entry is).1 in rw (← was.2) (there_of (λ (x : Counted Cap). IsExportable s x.kept) (get s.counts.exports e) was.0 was.1 (h.exports e))))
    (λ e f one other is at same.
    let was = (fewer e one is).1 in let also = (fewer f other at).1 in h.one_export e f was.0 also.0 was.1 also.1 (was.2 ∙ same ∙ sym also.2))

fewer_same : (exports : Table (Counted Cap)) → AreCounts exports → AreFewer exports exports
fewer_same exports are e entry is = (there_of (λ (x : Counted Cap). IsCount x.count) (get exports e) entry is (are e), (entry, is, refl))

fewer_both : (old mid new : Table (Counted Cap)) → AreFewer old mid → AreFewer mid new → AreFewer old new
fewer_both old mid new one more e entry is =
    let at = more e entry is in
    let was = (one e at.1.0 at.1.1).1 in
    (at.0, (was.0, was.1, was.2 ∙ at.1.2))

fewer_counts : (old new : Table (Counted Cap)) → AreFewer old new → AreCounts new
fewer_counts old new fewer e = here_of _ (get new e) (λ entry is. (fewer e entry is).0)

less_some : (exports : Table (Counted Cap)) (e n : ℕ) (entry : Counted Cap) (b : Bool) → (entry.count == n) ≡ b → AreCounts exports → get exports e ≡ Some entry
    → n ≤ entry.count
    → AreFewer exports (if b then remove exports e else insert exports e (record entry { count = entry.count - n }))
less_some exports e n entry true t are is fits f other at = fewer_same exports are f other (gone_cases exports e f other at).1
less_some exports e n entry false t are is fits f other at =
    elim (put_cases exports e f (record entry { count = entry.count - n }) other at) [
      | inl new ↦
          let here = there_of (λ (x : Counted Cap). IsCount x.count) (get exports e) entry is (are e) in
          let differs : entry.count ≢ n = not_equal entry.count n t in
          let left : IsCount (entry.count - n) = (omega (arith, differs, fits), omega (arith, here.1)) in (
            rw (← new.1) left,
            (entry, rw (← new.0) is, ap (λ (x : Counted Cap). x.kept) new.1),
          )
      | inr old ↦ fewer_same exports are f other old.1
    ]

less_fewer : (exports : Table (Counted Cap)) (e n : ℕ) (o : Option (Counted Cap)) → AreCounts exports → get exports e ≡ o
    → ((entry : Counted Cap) → o ≡ Some entry → n ≤ entry.count)
    → AreFewer exports (less_by exports e n o)
less_fewer exports e n None are is fits = fewer_same exports are
less_fewer exports e n (Some entry) are is fits = less_some exports e n entry (entry.count == n) refl are is (fits entry refl)

lowered_fewer : (ids : List ℕ) (exports : Table (Counted Cap)) → AreCounts exports → AreFewer exports (lowered exports ids)
lowered_fewer [] exports are = fewer_same exports are
lowered_fewer (e ∷ ids) exports are =
    let first = less_fewer exports e 1 (get exports e) are refl (λ entry is.
    let here = there_of (λ (x : Counted Cap). IsCount x.count) (get exports e) entry is (are e) in omega (arith, here.0)) in
    fewer_both exports (lowered_by exports e 1) (lowered (lowered_by exports e 1) ids) first
    (lowered_fewer ids (lowered_by exports e 1) (fewer_counts exports (lowered_by exports e 1) first))

pub lower_fewer : (exports new : Table (Counted Cap)) (ids : List ℕ) → AreCounts exports → Ok new ≡ release_exports exports ids → AreFewer exports new
lower_fewer exports new ids are is = by (list_any (λ e. is_none (get exports e)) ids) (list_any (λ e. ltb (count_of exports e) (times e ids)) ids) is
  where
    by : (b c : Bool) → Ok new ≡ (if b then Err faults.UnknownExport else (if c then Err faults.ReleaseTooLarge else Ok (lowered exports ids)))
        → AreFewer exports new
    by true c e = ok_out e
    by false true e = ok_out e
    by false false e = rw (ok_in _ _ e) (lowered_fewer ids exports are)

-- where the peer asks for it
pub lower_if : (b : Bool) (exports new : Table (Counted Cap)) (ids : List ℕ) → AreCounts exports → Ok new ≡ (if b then release_exports exports ids else Ok exports)
    → AreFewer exports new
lower_if true exports new ids are is = lower_fewer exports new ids are is
lower_if false exports new ids are is = rw (ok_in _ _ is) (fewer_same exports are)

pub released_fewer : (exports new : Table (Counted Cap)) (e n : ℕ) → AreCounts exports → Ok new ≡ released exports e n → AreFewer exports new
released_fewer exports new e n are is = by (is_none (get exports e)) (ltb (count_of exports e) n) refl is
  where
    fits : ltb (count_of exports e) n ≡ false → (entry : Counted Cap) → get exports e ≡ Some entry → n ≤ entry.count
    fits small entry at =
        let count : count_of exports e ≡ entry.count = rw (at) refl in
        let at_most : n ≤ count_of exports e = grind (arith, nat_tests) in
        omega (arith, count, at_most)

    by : (b c : Bool) → ltb (count_of exports e) n ≡ c
        → Ok new ≡ (if b then Err faults.UnknownExport else (if c then Err faults.ReleaseTooLarge else Ok (lowered_by exports e n))) → AreFewer exports new
    by true c t e = ok_out e
    by false true t e = ok_out e
    by false false t same = rw (ok_in _ _ same) (less_fewer exports e n (get exports e) are refl (fits t))
