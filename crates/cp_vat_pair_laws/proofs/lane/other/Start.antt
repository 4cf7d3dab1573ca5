-- What is known of the other end where a move starts: its tables and the messages on the way fit one another.
use Rattle.std.specs.Prelude.{◌≡◌, refl, ℕ, zero, suc, ◌+◌, ◌<◌, ◌==◌, ◌||◌, not, Bool, true, false, List, [], ◌∷◌, Option, Some, None, is_some}
use Rattle.std.specs.Option.{option_map_or}
use Rattle.std.specs.List.{list_any}
use Rattle.std.specs.FinMap.{get}
use Rattle.std.proofs.Common.{arith, ap, subst, sym, ◌∙◌, true≢false}
use Rattle.cp_tables.specs.Counted.{count_of, IsCount}
use Rattle.cp_tables.specs.declared.counted.Counted.{Counted}
use Rattle.cp_tables.specs.declared.exchange.Exchange.{Exchange}
use Rattle.cp_tables.specs.declared.exchange.Stage.{Stage}
use Rattle.cp_tables.specs.declared.exchange.Stage.TheVariants as stages
use Rattle.cp_messages.specs.declared.message.Message.{Message}
use Rattle.cp_messages.specs.declared.message.Message.TheVariants as messages
use Rattle.cp_refs.specs.At.{cap_at}
use Rattle.cp_refs.specs.Route.{Way, ends, leads, missing, way}
use Rattle.cp_refs.specs.declared.cap.Cap.{Cap}
use Rattle.cp_refs.specs.declared.cap.Cap.TheVariants as caps
use Rattle.cp_refs.specs.declared.outcome.Outcome.{Outcome}
use Rattle.cp_vat_machine.specs.State.{State}
use Rattle.cp_vat_machine.specs.Writing.{IsExport, end_by, end_within}
use Rattle.cp_vat_machine.specs.Calling.{mark_of}
use Rattle.cp_vat_machine.specs.Local.{Local, is_open_stage, AnswerIs, IsExportable, IsImportMark}
use Rattle.cp_vat_machine.specs.Local as local
use Rattle.cp_vat_machine.specs.declared.entry.AnswerEntry.{AnswerEntry}
use Rattle.cp_vat_machine.specs.declared.entry.ImportKind.{ImportKind}
use Rattle.cp_vat_machine.proofs.Basics.{some_out, none_out, is_equal}
use Rattle.cp_vat_laws.specs.Within.{Within, AreValues}
use Rattle.cp_vat_laws.proofs.within.Between.{local_is_within}
use Rattle.cp_vat_laws.proofs.within.AllKept.{at_path}
use Rattle.cp_vat_laws.proofs.within.Follows.{exportable_there}
use Rattle.cp_vat_laws.proofs.Tables.{there_of}
use Rattle.cp_vat_laws.proofs.within.Ways.{promise_leads, question_leads}
use Rattle.cp_vat_pair_laws.specs.Accounts.{accounts_of, kept_account, lowerable}
use Rattle.cp_vat_pair_laws.specs.Ledger.{opens}
use Rattle.cp_vat_pair_laws.specs.Owed.{named_on_way, lowered_on_way}
use Rattle.cp_vat_pair_laws.specs.VatPair.{End}
use Rattle.cp_vat_pair_laws.specs.Lives.{Standing, absent, ungiven, left_ungiven, given, mistaken, opened, standing_at, standing_of, stands_after, will_stand, returns_of, Agree}
use Rattle.cp_vat_pair_laws.specs.Places.{IsLastOf, AreLast}
use Rattle.cp_vat_pair_laws.specs.Lane.{Reference, import_, path_to}
use Rattle.cp_vat_pair_laws.specs.Naming.{place_of, exported_cap, answered_cap}
use Rattle.cp_vat_pair_laws.specs.Phases.{tells, EndsAt}
use Rattle.cp_vat_pair_laws.specs.LaneKept.{EndHolds}
use Rattle.cp_vat_pair_laws.proofs.still.Grows.{PlacesStay}
use Rattle.cp_vat_pair_laws.proofs.counts.Standing.{stays_mistaken, never_fits}
use Rattle.cp_vat_pair_laws.proofs.lane.parts.Lives.{IsOpened, will_stay}
use Rattle.cp_vat_pair_laws.proofs.lane.other.Chain.{IsThere}

-- What isn't exported isn't told of: a Resolve on the way is of a promise's export.
untold_of : (s : State) (i : ℕ) → get s.counts.exports i ≡ None → (m : Message) (after : List Message) → IsLastOf s m after → tells (import_ i) m ≡ false
untold_of s i none (messages.Resolve r) after last = by (r.promise_id == i) refl
  where
    by : (b : Bool) → (r.promise_id == i) ≡ b → (r.promise_id == i) ≡ false
    by true t = none_out (sym none ∙ ap (λ n. get s.counts.exports n) (sym (is_equal r.promise_id i t)) ∙ last.2.1)
    by false t = t
untold_of s i none m after last = refl

untold_all : (s : State) (i : ℕ) → get s.counts.exports i ≡ None → (ms : List Message) → AreLast s ms → list_any (tells (import_ i)) ms ≡ false
untold_all s i none [] last = refl
untold_all s i none (m ∷ ms) last = rw (untold_of s i none m ms last.0) (untold_all s i none ms last.1)

-- What isn't imported isn't marked.
unmarked_at : (s : State) → Local s → (i : ℕ) → get s.values.imports i ≡ None → mark_of s (caps.Import i) ≡ None
unmarked_at s local_ i none = by (get s.marks.imports i) refl
  where
    by : (o : Option (Option ℕ)) → get s.marks.imports i ≡ o → o ≡ None
    by None is = refl
    by (Some embargo) is =
        let held = there_of (IsImportMark s i) (get s.marks.imports i) embargo is (local_.import_marks i) in
        absurd (true≢false (sym held.0 ∙ local_.imports_valued i ∙ ap is_some none))

-- An answer that isn't given isn't opened on the way: it would be mistaken.
wrong_by : (st : Standing) → IsOpened st → opened st ≡ mistaken
wrong_by absent is = absurd is
wrong_by ungiven is = refl
wrong_by left_ungiven is = refl
wrong_by (given mentions) is = absurd is
wrong_by mistaken is = refl

pub opened_again : (q : ℕ) (ms : List Message) (st : Standing) → IsOpened st → list_any (opens q) ms ≡ true → will_stand q ms st ≡ mistaken
opened_again q [] st is any = absurd (true≢false (sym any))
opened_again q (m ∷ ms) st is any = by (opens q m) refl any (opened_again q ms (stands_after q m st) (will_stay q (m ∷ []) st is))
  where
    by : (b : Bool) → opens q m ≡ b → (opens q m || list_any (opens q) ms) ≡ true
        → (list_any (opens q) ms ≡ true → will_stand q ms (stands_after q m st) ≡ mistaken) → will_stand q ms (stands_after q m st) ≡ mistaken
    by true t any more = rw (t, wrong_by st is) (stays_mistaken q ms)
    by false t any more = more (rw t at any)

open_stands : (o : Option (Exchange AnswerEntry)) → AnswerIs o (Some None) → IsOpened (standing_of (kept_account o))
open_stands None is = absurd is
open_stands (Some entry) is = by entry.stage is
  where
    by : (stage : Stage) → false ≡ not (is_open_stage stage) → IsOpened (standing_at stage entry.kept.mentions)
    by stages.Open is = tt
    by stages.Finished is = tt
    by stages.Returned is = absurd (true≢false (sym is))

unopened_at : (here : End) (s : State) (inbox : List Message) → Local s → Agree (accounts_of s) inbox (accounts_of here.vat) here.inbox → (q : ℕ)
    → get s.values.answers q ≡ Some None → list_any (opens q) inbox ≡ false
unopened_at here s inbox local_ agree q open_ = by (list_any (opens q) inbox) refl
  where
    stands : IsOpened (standing_of ((accounts_of s).answers q))
    stands = open_stands (get s.entries.answers q) (rw open_ at (local_.answers_valued q))

    by : (b : Bool) → list_any (opens q) inbox ≡ b → b ≡ false
    by false is = refl
    by true is =
        absurd
        (never_fits ((accounts_of here.vat).questions q) (returns_of q here.inbox)
        (rw (opened_again q inbox (standing_of ((accounts_of s).answers q)) stands is) at (agree.lives_back q)))

-- Where a place ends, the import is held, and so the other end exports it.
module _ (s : State) (there : AreValues (local.IsThere s) s.values) where
  leads_there : (c next : Cap) → way s.values c ≡ leads next → local.IsThere s next
  leads_there caps.None next is = absurd (cc)
  leads_there (caps.Object k) next is = absurd (cc)
  leads_there (caps.Promise p) next is = there.promises p next (promise_leads p (get s.values.promises p) next is)
  leads_there (caps.Import i) next is = absurd (cc)
  leads_there (caps.Pipelined q path) next is =
      let found = question_leads q path (get s.values.questions q) next is in
      rw (found.4) (at_path (local.IsThere s) found.1 path tt (λ x. tt) (there.questions q found.0 found.1 found.2 found.3))
  leads_there (caps.Broken x) next is = absurd (cc)

  end_there : (e n : ℕ) (c : Cap) → local.IsThere s c → end_within n s.values c ≡ Some (caps.Import e) → local.IsThere s (caps.Import e)
  end_there e zero c is at = none_out at
  end_there e (suc n) c is at = by (end_there e n) (way s.values c) refl at
    where
      by : ((next : Cap) → local.IsThere s next → end_within n s.values next ≡ Some (caps.Import e) → local.IsThere s (caps.Import e)) → (w : Way) → way s.values c ≡ w
          → end_by (λ next. end_within n s.values next) c w ≡ Some (caps.Import e) → local.IsThere s (caps.Import e)
      by more (ends r) w at = subst (local.IsThere s) (some_out at) is
      by more (leads next) w at = more next (leads_there c next w) at
      by more missing w at = none_out at

  place_held : ((i : ℕ) (entry : Counted Cap) → get s.counts.exports i ≡ Some entry → IsExportable s entry.kept) → (ref : Reference) (e : ℕ) → EndsAt s (place_of s ref) e
      → is_some (get s.counts.imports e) ≡ true
  place_held exports (import_ i) e at = by (get s.counts.exports i) refl at
    where
      by : (o : Option (Counted Cap)) → get s.counts.exports i ≡ o → EndsAt s (exported_cap o) e → is_some (get s.counts.imports e) ≡ true
      by None is at = absurd at
      by (Some entry) is at = end_there e at.0 entry.kept (exportable_there s entry.kept (exports i entry is)) at.1
  place_held exports (path_to q path) e at = by (get s.values.answers q) refl at
    where
      by : (o : Option (Option Outcome)) → get s.values.answers q ≡ o → EndsAt s (answered_cap path o) e → is_some (get s.counts.imports e) ≡ true
      by None is at = absurd at
      by (Some None) is at = absurd at
      by (Some (Some outcome)) is at = end_there e at.0 (cap_at outcome path) (at_path (local.IsThere s) outcome path tt (λ x. tt) (there.answers q outcome is)) at.1

counted_by : (o : Option (Counted ImportKind)) → is_some o ≡ true → ((entry : Counted ImportKind) → o ≡ Some entry → IsCount entry.count) → 0 < option_map_or (λ entry. entry.count) o 0
counted_by None is counts = absurd (true≢false (sym is))
counted_by (Some entry) is counts = (counts entry refl).0

exported_by : (s : State) (e : ℕ) (o : Option (Counted Cap)) → get s.counts.exports e ≡ o → 0 < option_map_or (λ entry. entry.count) o 0 → (cap : Cap) × IsExport s e cap
exported_by s e None is above = absurd (never above)
  where
    never : 0 < 0 → ⊥
    never above = omega (arith, above)
exported_by s e (Some entry) is above = (entry.kept, (entry.count, is))

pub held_there : (here last : State) (left sent : List Message) → Local last → Agree (accounts_of last) left (accounts_of here) sent → (ref : Reference) (e : ℕ)
    → EndsAt last (place_of last ref) e → (cap : Cap) × IsExport here e cap
held_there here last left sent local_ agree ref e at =
    let w : Within last None [] = local_is_within last local_ in
    let held = place_held last w.there.values_ (λ i entry is. there_of (λ (x : Counted Cap). IsExportable last x.kept) (get last.counts.exports i) entry is (w.exports i)) ref e at in
    let above : 0 < count_of last.counts.imports e
    = counted_by (get last.counts.imports e) held (λ entry is. there_of (λ (x : Counted ImportKind). IsCount x.count) (get last.counts.imports e) entry is (w.imported e)) in
    let owed : count_of here.counts.exports e
    ≡ count_of last.counts.imports e + named_on_way (accounts_of last).questions left e + lowered_on_way (lowerable (accounts_of here)) sent e = agree.counts_back e in
    exported_by here e (get here.counts.exports e) refl (omega (arith, owed, above))

-- What is known of the other end before anything was done, whatever the move will be.
pub record StartsThere (here : End) (s : State) (inbox : List Message) : Type 0 where
  pub unopened : (q : ℕ) → get s.values.answers q ≡ Some None → list_any (opens q) inbox ≡ false
  pub untold : (i : ℕ) → get s.counts.exports i ≡ None → list_any (tells (import_ i)) here.inbox ≡ false
  pub unmarked : (i : ℕ) → get here.vat.values.imports i ≡ None → mark_of here.vat (caps.Import i) ≡ None

pub starts_there : (here there : End) → EndHolds here there → Local there.vat → Agree (accounts_of there.vat) there.inbox (accounts_of here.vat) here.inbox
    → StartsThere here there.vat there.inbox
starts_there here there holds local_ agree =
    record {
      unopened = unopened_at here there.vat there.inbox local_ agree;
      untold = λ i none. untold_all there.vat i none here.inbox holds.last;
      unmarked = unmarked_at here.vat holds.local_;
    }

-- What is known where places stay until the end of the move, and all is well after it.
pub known_there : (here : End) (s last : State) (inbox left sent : List Message) → StartsThere here s inbox → PlacesStay s last → Local last
    → Agree (accounts_of last) left (accounts_of here.vat) sent → IsThere here s last inbox
known_there here s last inbox left sent starts stay local_ agree =
    record {
      unopened = starts.unopened;
      untold = starts.untold;
      unmarked = starts.unmarked;
      stay = stay;
      held = held_there here.vat last left sent local_ agree;
    }
