-- How descriptors are taken in.
use Rattle.std.specs.Prelude.{◌≡◌, refl, ℕ, ◌+◌, ◌<◌, ◌^◌, ◌==◌, not, cond, ltb, if◌then◌else◌, Bool, true, false, List, [], ◌∷◌, Option, Some, None, is_some, Result, Ok, Err}
use Rattle.std.specs.List.{AllByRecursion}
use Rattle.std.specs.FinMap.{get, insert, values, get-empty}
use Rattle.std.specs.Ordering.{nat_cmp}
use Rattle.std.specs.FinSet as set
use Rattle.std.proofs.Common.{arith, ap, sym, ◌∙◌, true≢false}
use Rattle.std.proofs.lemmas.Bool.Decides.{nat_tests}
use Rattle.std.proofs.lemmas.List.Sums.{sum_by_push}
use Rattle.cp_tables.specs.Table.{Table}
use Rattle.cp_tables.specs.Counted.{IsCount, new_counted}
use Rattle.cp_tables.specs.declared.counted.Counted.{Counted}
use Rattle.cp_tables.specs.declared.exchange.Exchange.{Exchange}
use Rattle.cp_tables.specs.declared.exchange.Stage.{Stage}
use Rattle.cp_tables.specs.declared.exchange.Stage.TheVariants as stages
use Rattle.cp_messages.specs.declared.descriptor.Descriptor.{Descriptor}
use Rattle.cp_messages.specs.declared.descriptor.Descriptor.TheVariants as descriptors
use Rattle.cp_refs.specs.At.{cap_at}
use Rattle.cp_refs.specs.Route.{HasRoute}
use Rattle.cp_refs.specs.Values.{ValueMaps}
use Rattle.cp_refs.specs.declared.cap.Cap.{Cap}
use Rattle.cp_refs.specs.declared.cap.Cap.TheVariants as caps
use Rattle.cp_refs.specs.declared.call.Origin.{Origin}
use Rattle.cp_refs.specs.declared.outcome.Outcome.{Outcome}
use Rattle.cp_vat_machine.specs.State.{State, none_over}
use Rattle.cp_vat_machine.specs.Then.{Then}
use Rattle.cp_vat_machine.specs.Capacity.{has_capacity, Fresh, free, full}
use Rattle.cp_vat_machine.specs.Receiving.{held_once_more, held_import, unfinished, answer_by, answer_of, path_of, tie, tied, ReceivesAnswer, taken_export, ReceivesCap, ReceivesCaps}
use Rattle.cp_vat_machine.specs.InUse.{caps_of}
use Rattle.cp_vat_machine.specs.Local.{IsImportMark, is_open_stage, ForwardsRightly, tied_to, tied_in, HasNoTied, IsExportable, IsThere, AnswerIs}
use Rattle.cp_vat_machine.specs.declared.entry.AnswerEntry.{AnswerEntry}
use Rattle.cp_vat_machine.specs.declared.entry.ImportKind.{ImportKind}
use Rattle.cp_vat_machine.specs.declared.entry.ImportKind.TheVariants as kinds
use Rattle.cp_vat_machine.specs.declared.entry.Tied.{Tied}
use Rattle.cp_vat_machine.specs.declared.fault.PeerFault.{PeerFault}
use Rattle.cp_vat_machine.specs.declared.fault.PeerFault.TheVariants as faults
use Rattle.cp_vat_machine.proofs.Basics.{none_out, ok_in, ok_out, then_out, is_equal, is_itself, put_at}
use Rattle.cp_vat_laws.specs.Within.{Within, HasAnswerPlace, WaitsFor, AreTiedRightly, AllKept, IsPlain, IsFit}
use Rattle.cp_vat_laws.proofs.Tables.{here_of, there_of, each_put, each_kept, put_sum, all_of}
use Rattle.cp_vat_laws.proofs.within.AllKept.{at_path, both_all, values_map, kept_map, promise_put, import_put}
use Rattle.cp_vat_laws.proofs.within.Follows.{all_end, there_ends, exportable_there, exportable_plain, not_true}
use Rattle.cp_vat_laws.proofs.within.StaysThere.{fresh_kept, exportable_stays, there_stays, put_stays, plain_route, plain_routes, same_route}
use Rattle.cp_vat_laws.proofs.within.Tickets.{AnswerTicket, tickets_stay, forwards_stay, answer_changes}

pub same_stage : (entry new : Exchange AnswerEntry) (o : Option (Option Outcome)) → new.stage ≡ entry.stage → AnswerIs (Some entry) o → AnswerIs (Some new) o
same_stage entry new None is h = absurd h
same_stage entry new (Some outcome) is h = rw (is) h

module _ {s : State} {hand : Option Origin} {next : List Tied} (h : Within s hand next) where
  -- an import is held once more
  module _ (i : ℕ) (entry more : Counted ImportKind) (was : get s.counts.imports i ≡ Some entry) (fine : IsCount more.count) where
    abbrev counted_again : State
    counted_again = record s { counts = record s.counts { imports = insert s.counts.imports i more } }

    counted_on : (j : ℕ) → is_some (get s.counts.imports j) ≡ true → is_some (get (insert s.counts.imports i more) j) ≡ true
    counted_on = put_stays s.counts.imports i more

    valued_again : (j : ℕ) (b : Bool) → (i == j) ≡ b → is_some (get (insert s.counts.imports i more) j) ≡ is_some (get s.values.imports j)
    valued_again j true t =
        let there : is_some (get s.counts.imports j) ≡ true = rw (← is_equal i j t, was) refl in
        ap is_some (put_at s.counts.imports i j more true t) ∙ sym there ∙ h.imports_valued j
    valued_again j false t = ap is_some (put_at s.counts.imports i j more false t) ∙ h.imports_valued j

    counted_within : Within counted_again hand next
    counted_within =
        let new : State = counted_again in
        record {
          over_answers = h.over_answers;
          over_promises = h.over_promises;
          over_questions = h.over_questions;
          over_embargoes = h.over_embargoes;
          gifts = λ gate cap is. let fit = h.gifts gate cap is in (fit.0, there_stays s new (λ p x. x) counted_on (λ q x. x) cap fit.1, fit.2);
          answers = h.answers;
          questions = h.questions;
          waiting = h.waiting;
          forwards = h.forwards;
          wire = h.wire;
          forwarding = h.forwarding;
          gates_kept = h.gates_kept;
          sendable = h.sendable;
          tied = h.tied;
          untied = h.untied;
          owned = h.owned;
          counts = h.counts;
          imported = each_put (λ j entry. IsCount entry.count) (λ j entry. IsCount entry.count) s.counts.imports i more h.imported fine
              (λ j entry other was x. x);
          exports = h.exports;
          one_export = h.one_export;
          there = kept_map (IsThere s) (IsThere new) s.values s.waiting.calls s.marks.embargoes s.counts.exports
              (there_stays s new (λ p x. x) counted_on (λ q x. x)) h.there;
          ends = h.ends;
          embargoed = h.embargoed;
          plain = h.plain;
          finished = h.finished;
          answers_valued = h.answers_valued;
          questions_valued = h.questions_valued;
          imports_valued = λ j. valued_again j (i == j) refl;
          import_marks = λ j. here_of _ (get s.marks.imports j)
              (λ embargo at. let mark = there_of (IsImportMark s j) (get s.marks.imports j) embargo at (h.import_marks j) in (counted_on j mark.0, mark.1));
          path_marks = h.path_marks;
          one_mark = h.one_mark;
          waited_for = h.waited_for;
        }

  -- or from now on
  module _ (i : ℕ) (kind : ImportKind) (none : get s.counts.imports i ≡ None) where
    abbrev imported_first : State
    imported_first =
        record s {
          counts = record s.counts { imports = insert s.counts.imports i (new_counted kind) };
          values = record s.values { imports = insert s.values.imports i None };
        }

    first_stays : (c : Cap) → IsThere s c → IsThere imported_first c
    first_stays = there_stays s imported_first (λ p x. x) (put_stays s.counts.imports i (new_counted kind)) (λ q x. x)

    first_there : AllKept (IsThere imported_first) imported_first
    first_there =
        let moved = kept_map (IsThere s) (IsThere imported_first) s.values s.waiting.calls s.marks.embargoes s.counts.exports first_stays h.there in
        record {
          values_ = import_put (IsThere imported_first) s.values moved.values_ i None (λ v e. none_out e);
          calls_ = moved.calls_;
          embargoes_ = moved.embargoes_;
          exports_ = moved.exports_;
        }

    valued_first : (j : ℕ) (b : Bool) → (i == j) ≡ b → is_some (get (insert s.counts.imports i (new_counted kind)) j) ≡ is_some
        (get (insert s.values.imports i None) j)
    valued_first j true t = ap is_some (put_at s.counts.imports i j (new_counted kind) true t) ∙ sym (ap is_some (put_at s.values.imports i j None true t))
    valued_first j false t = ap is_some (put_at s.counts.imports i j (new_counted kind) false t) ∙ h.imports_valued j ∙ sym
        (ap is_some (put_at s.values.imports i j None false t))

    marked_first : (j : ℕ) (embargo : Option ℕ) (b : Bool) → (i == j) ≡ b → IsImportMark s j embargo → IsImportMark imported_first j embargo
    marked_first j embargo true t mark =
        let absent : is_some (get s.counts.imports j) ≡ false = rw (← is_equal i j t, none) refl in
        absurd (true≢false (sym mark.0 ∙ absent))
    marked_first j embargo false t mark =
        (put_stays s.counts.imports i (new_counted kind) j mark.0, rw (put_at s.values.imports i j None false t) mark.1)

    imported_within : Within imported_first hand next
    imported_within =
        let new : State = imported_first in
        record {
          over_answers = h.over_answers;
          over_promises = h.over_promises;
          over_questions = h.over_questions;
          over_embargoes = h.over_embargoes;
          gifts = λ gate cap is. let fit = h.gifts gate cap is in (fit.0, first_stays cap fit.1, same_route s.values new.values refl refl cap fit.2);
          answers = h.answers;
          questions = h.questions;
          waiting = h.waiting;
          forwards = h.forwards;
          wire = h.wire;
          forwarding = h.forwarding;
          gates_kept = h.gates_kept;
          sendable = h.sendable;
          tied = h.tied;
          untied = h.untied;
          owned = h.owned;
          counts = h.counts;
          imported = each_put (λ j entry. IsCount entry.count) (λ j entry. IsCount entry.count) s.counts.imports i (new_counted kind) h.imported
              (omega arith, omega arith) (λ j entry other was x. x);
          exports = h.exports;
          one_export = h.one_export;
          there = first_there;
          ends = all_end new (values_map (HasRoute s.values) (HasRoute new.values) new.values (same_route s.values new.values refl refl)
              (import_put (HasRoute s.values) s.values h.ends.values_ i None (λ v e. none_out e))) first_there;
          embargoed = h.embargoed;
          plain = import_put IsPlain s.values h.plain i None (λ v e. none_out e);
          finished = h.finished;
          answers_valued = h.answers_valued;
          questions_valued = h.questions_valued;
          imports_valued = λ j. valued_first j (i == j) refl;
          import_marks = λ j. here_of _ (get s.marks.imports j)
              (λ embargo at. marked_first j embargo (i == j) refl (there_of (IsImportMark s j) (get s.marks.imports j) embargo at (h.import_marks j)));
          path_marks = h.path_marks;
          one_mark = h.one_mark;
          waited_for = h.waited_for;
        }

  -- a promise stands for what an answer will give
  module _ (a p : ℕ) (path : List ℕ) (entry : Exchange AnswerEntry) (was : get s.entries.answers a ≡ Some entry) (open_ : is_open_stage entry.stage ≡ true)
      (fresh : get s.values.promises p ≡ None) (not_over : get s.waiting.over.promises p ≡ None) where
    abbrev with_it : Exchange AnswerEntry
    with_it = record entry { kept = tie p path entry.kept }

    abbrev tied_first : State
    tied_first =
        record s {
          values = record s.values { promises = insert s.values.promises p None };
          entries = record s.entries { answers = insert s.entries.answers a with_it };
        }

    kept_open : (q : ℕ) (o : Option Cap) → get s.values.promises q ≡ Some o → get (insert s.values.promises p None) q ≡ Some o
    kept_open = fresh_kept s.values.promises p None fresh

    tied_stays : (c : Cap) → IsThere s c → IsThere tied_first c
    tied_stays = there_stays s tied_first (put_stays s.values.promises p None) (λ i x. x) (λ q x. x)

    tied_there : AllKept (IsThere tied_first) tied_first
    tied_there =
        let moved = kept_map (IsThere s) (IsThere tied_first) s.values s.waiting.calls s.marks.embargoes s.counts.exports tied_stays h.there in
        record {
          values_ = promise_put (IsThere tied_first) s.values moved.values_ p None (λ v e. none_out e);
          calls_ = moved.calls_;
          embargoes_ = moved.embargoes_;
          exports_ = moved.exports_;
        }

    answers_stay : (b t : ℕ) → AnswerTicket s.entries.answers b t → AnswerTicket (insert s.entries.answers a with_it) b t
    answers_stay = answer_changes s.entries.answers a entry with_it was (λ x. x) refl

    over_open : (q : ℕ) (value : Cap) (b : Bool) → (p == q) ≡ b → get s.waiting.over.promises q ≡ Some value
        → get (insert s.values.promises p None) q ≡ Some None → ⊥
    over_open q value true t is at = let same : get s.waiting.over.promises p ≡ Some value = rw (is_equal p q t) is in none_out (sym not_over ∙ same)
    over_open q value false t is at = h.over_promises q value is (sym (put_at s.values.promises p q None false t) ∙ at)

    -- it is tied once more
    tied_more : (q : ℕ) → tied_in tied_first q ≡ tied_in s q + cond (p == q) 1 0
    tied_more q =
        omega (
          arith,
          put_sum (λ (e : Exchange AnswerEntry). tied_to q e.kept.tied) s.entries.answers a with_it (Some entry) was,
          sum_by_push (λ (t : Tied). cond (t.promise == q) 1 0) entry.kept.tied (record { promise = p; path = path }),
        )

    tied_rightly : (q : ℕ) (b : Bool) → (p == q) ≡ b → AreTiedRightly tied_first next q
    tied_rightly q true t =
        let none : get s.values.promises q ≡ None = rw (← is_equal p q t) fresh in
        let not_own : set.contains s.entries.own_promises q ≡ false = not_true _ (λ own. true≢false (sym (h.owned q own) ∙ ap is_some none)) in
        let old : tied_in s q + tied_to q next ≡ 0 = rw none at (h.tied q) in
        let more : tied_in tied_first q ≡ tied_in s q + 1 = tied_more q ∙ ap (λ c. tied_in s q + cond c 1 0) t in
        rw (put_at s.values.promises p q None true t, not_own) (omega (arith, old, more))
    tied_rightly q false t =
        let more : tied_in tied_first q ≡ tied_in s q + 0 = tied_more q ∙ ap (λ c. tied_in s q + cond c 1 0) t in
        rw (put_at s.values.promises p q None false t) (omega (arith, h.tied q, more))

    valued_tied : (b : ℕ) (c : Bool) → (a == b) ≡ c → AnswerIs (get (insert s.entries.answers a with_it) b) (get s.values.answers b)
    valued_tied b true t =
        let at_b : get s.entries.answers b ≡ Some entry = rw (← is_equal a b t) was in
        let old : AnswerIs (Some entry) (get s.values.answers b) = rw (at_b) at (h.answers_valued b) in
        rw (put_at s.entries.answers a b with_it true t) (same_stage entry with_it (get s.values.answers b) refl old)
    valued_tied b false t = rw (put_at s.entries.answers a b with_it false t) (h.answers_valued b)

    tied_within : Within tied_first hand next
    tied_within =
        let new : State = tied_first in
        record {
          over_answers = h.over_answers;
          over_promises = λ q value is open_. over_open q value (p == q) refl is open_;
          over_questions = h.over_questions;
          over_embargoes = h.over_embargoes;
          gifts = λ gate cap is. let fit = h.gifts gate cap is in
              (fit.0, tied_stays cap fit.1, plain_route s.values new.values h.plain kept_open cap fit.0 fit.2);
          answers = each_put (HasAnswerPlace s hand) (HasAnswerPlace new hand) s.entries.answers a with_it h.answers
              (there_of (HasAnswerPlace s hand a) (get s.entries.answers a) entry was (h.answers a)) (λ b e other is x. x);
          questions = h.questions;
          waiting = each_kept (WaitsFor s) (WaitsFor new) s.waiting.calls 0 h.waiting
              (λ t call is w. (w.0, w.1, tickets_stay s new answers_stay (λ q u x. x) call.origin t w.2));
          forwards = each_kept (λ q e. ForwardsRightly s e.kept.forwards e.kept.ticket)
              (λ q e. ForwardsRightly new e.kept.forwards e.kept.ticket) s.entries.questions 0 h.forwards
              (λ q e is. forwards_stay s new answers_stay e.kept.forwards e.kept.ticket);
          wire = h.wire;
          forwarding = h.forwarding;
          gates_kept = h.gates_kept;
          sendable = h.sendable;
          tied = λ q. tied_rightly q (p == q) refl;
          untied = each_put (λ b. HasNoTied) (λ b. HasNoTied) s.entries.answers a with_it h.untied (λ given. absurd (true≢false (sym (rw (open_) at given))))
              (λ b e other is x. x);
          owned = λ q own. put_stays s.values.promises p None q (h.owned q own);
          counts = h.counts;
          imported = h.imported;
          exports = each_kept (λ e x. IsExportable s x.kept) (λ e x. IsExportable new x.kept) s.counts.exports 0 h.exports
              (λ e x is. exportable_stays s new (put_stays s.values.promises p None) x.kept);
          one_export = h.one_export;
          there = tied_there;
          ends = all_end new (promise_put (HasRoute new.values) s.values (plain_routes s.values new.values h.plain kept_open h.ends.values_) p None
              (λ v e. none_out e)) tied_there;
          embargoed = each_kept (λ n. IsExportable s) (λ n. IsExportable new) s.marks.embargoes 0 h.embargoed
              (λ n c is. exportable_stays s new (put_stays s.values.promises p None) c);
          plain = promise_put IsPlain s.values h.plain p None (λ v e. none_out e);
          finished = h.finished;
          answers_valued = λ b. valued_tied b (a == b) refl;
          questions_valued = h.questions_valued;
          imports_valued = h.imports_valued;
          import_marks = h.import_marks;
          path_marks = h.path_marks;
          one_mark = h.one_mark;
          waited_for = h.waited_for;
        }

-- What is taken in only adds: promises and imports stay as they are, and nothing else changes but what answers are tied to.
pub record Grows (old new : State) : Type 0 where
  pub promises : (p : ℕ) (o : Option Cap) → get old.values.promises p ≡ Some o → get new.values.promises p ≡ Some o
  pub imports : (i : ℕ) (o : Option Cap) → get old.values.imports i ≡ Some o → get new.values.imports i ≡ Some o
  pub counted : (i : ℕ) → is_some (get old.counts.imports i) ≡ true → is_some (get new.counts.imports i) ≡ true
  pub answering : (a : ℕ) → get old.entries.answers a ≡ None → get new.entries.answers a ≡ None
  pub questions : new.values.questions ≡ old.values.questions
  pub answers : new.values.answers ≡ old.values.answers
  pub asked : new.entries.questions ≡ old.entries.questions
  pub exports : new.counts.exports ≡ old.counts.exports
  pub waiting : new.waiting ≡ old.waiting
  pub marks : new.marks ≡ old.marks
  pub tickets : new.next_ticket ≡ old.next_ticket

pub grows_not : (s : State) → Grows s s
grows_not s =
    record {
      promises = λ p o is. is;
      imports = λ i o is. is;
      counted = λ i is. is;
      answering = λ a is. is;
      questions = refl;
      answers = refl;
      asked = refl;
      exports = refl;
      waiting = refl;
      marks = refl;
      tickets = refl;
    }

grows_both : {old mid new : State} → Grows old mid → Grows mid new → Grows old new
grows_both one more =
    record {
      promises = λ p o is. more.promises p o (one.promises p o is);
      imports = λ i o is. more.imports i o (one.imports i o is);
      counted = λ i is. more.counted i (one.counted i is);
      answering = λ a is. more.answering a (one.answering a is);
      questions = more.questions ∙ one.questions;
      answers = more.answers ∙ one.answers;
      asked = more.asked ∙ one.asked;
      exports = more.exports ∙ one.exports;
      waiting = more.waiting ∙ one.waiting;
      marks = more.marks ∙ one.marks;
      tickets = more.tickets ∙ one.tickets;
    }

pub some_is : {X : Type 0} (o : Option X) → is_some o ≡ true → (x : X) × (o ≡ Some x)
some_is None h = absurd (true≢false (sym h))
some_is (Some x) h = (x, refl)

pub get_put : {X : Type 0} (m : Table X) (k : ℕ) (v : X) → get (insert m k v) k ≡ Some v
get_put m k v = put_at m k k v true (is_itself k)

-- what is fit to be a value stays so
pub fit_grows : {old new : State} {hand : Option Origin} {next : List Tied} → Within old hand next → Grows old new → (c : Cap) → IsFit old c → IsFit new c
fit_grows {old = old} {new = new} h grows c fit = (
  fit.0,
  there_stays old new
      (λ p there. let found = some_is (get old.values.promises p) there in ap is_some (grows.promises p found.0 found.1))
      grows.counted (λ q there. ap (λ m. is_some (get m q)) grows.questions ∙ there) c fit.1,
  plain_route old.values new.values h.plain grows.promises c fit.0 fit.2,
)

-- An export's capability may be a value, and so may what a kept answer gives.
pub export_fit : {s : State} {hand : Option Origin} {next : List Tied} → Within s hand next → (c : Cap) → IsExportable s c → IsFit s c
export_fit {s = s} h c is = (exportable_plain s c is, exportable_there s c is, there_ends s h.ends.values_ c (exportable_there s c is))

pub fit_table : {s : State} {hand : Option Origin} {next : List Tied} → Within s hand next → (a : ℕ) (outcome : Outcome)
    → get s.values.answers a ≡ Some (Some outcome)
    → AllByRecursion (IsFit s) (caps_of outcome)
fit_table {s = s} h a outcome is =
    all_of (λ c. IsPlain c × IsThere s c) (IsFit s) (caps_of outcome) (λ c x. (x.0, x.1, there_ends s h.ends.values_ c x.1))
    (both_all IsPlain (IsThere s) (caps_of outcome) (h.plain.answers a outcome is) (h.there.values_.answers a outcome is))

pub fit_at : (s : State) (outcome : Outcome) (path : List ℕ) → AllByRecursion (IsFit s) (caps_of outcome) → IsFit s (cap_at outcome path)
fit_at s outcome path all = at_path (IsFit s) outcome path (refl, tt, (1, refl)) (λ x. (refl, tt, (1, refl))) all

given_answer : (o : Option (Exchange AnswerEntry)) (v : Option (Option Outcome)) (outcome : Option Outcome) → answer_by o v ≡ Some outcome → v ≡ Some outcome
given_answer None v outcome is = none_out is
given_answer (Some entry) v outcome is = by entry.stage is
  where
    by : (stage : Stage) → unfinished stage v ≡ Some outcome → v ≡ Some outcome
    by stages.Open is = is
    by stages.Returned is = is
    by stages.Finished is = none_out is

pub answer_given : (s : State) (a : ℕ) (outcome : Option Outcome) → answer_of s a ≡ Some outcome → get s.values.answers a ≡ Some outcome
answer_given s a outcome is = given_answer (get s.entries.answers a) (get s.values.answers a) outcome is

not_given : (entry : Exchange AnswerEntry) (o : Option (Option Outcome)) → AnswerIs (Some entry) o → o ≡ Some None → is_open_stage entry.stage ≡ true
not_given entry o valued is = by (is_open_stage entry.stage) (rw is at valued)
  where
    by : (b : Bool) → false ≡ not b → b ≡ true
    by true e = refl
    by false e = absurd (true≢false (sym e))

open_answer : (o : Option (Exchange AnswerEntry)) (v : Option (Option Outcome)) → AnswerIs o v → answer_by o v ≡ Some None
    → (entry : Exchange AnswerEntry) × (o ≡ Some entry) × (is_open_stage entry.stage ≡ true)
open_answer None v valued is = none_out is
open_answer (Some entry) v valued is = (entry, refl, not_given entry v valued (given_answer (Some entry) v None is))

abbrev FreeAt : {X : Type 0} → Table X → Result ℕ PeerFault → Type 0
FreeAt table (Ok n) = get table n ≡ None
FreeAt table (Err fault) = Unit {0}

pub fresh_is : {X : Type 0} (table : Table X) (out : Result ℕ PeerFault) → Fresh table out → FreeAt table out
fresh_is table out (free n is small room) = is
fresh_is table out (full none) = tt

-- What is taken in is fit to be a value.
abbrev pub TakenWell : State → Option Origin → List Tied → Cap × State → Type 0
TakenWell s hand next taken = Within taken.1 hand next × Grows s taken.1 × IsFit taken.1 taken.0

module _ (hand : Option Origin) (next : List Tied) where
  held_keeps : (s : State) (i : ℕ) (kind : ImportKind) (o : Option (Counted ImportKind)) (new : State) → Within s hand next → get s.counts.imports i ≡ o
      → Ok new ≡ held_once_more s i kind o → TakenWell s hand next (caps.Import i, new)
  held_keeps s i kind (Some entry) new h was is = by (ltb entry.count 4294967295) refl is
    where
      more : Counted ImportKind
      more = record entry { count = entry.count + 1 }

      fine : ltb entry.count 4294967295 ≡ true → IsCount (entry.count + 1)
      fine t = (omega arith, small entry.count t)
        where
          small : (n : ℕ) → ltb n 4294967295 ≡ true → n + 1 < 2 ^ 32
          small n t = grind (arith, nat_tests)

      held : ltb entry.count 4294967295 ≡ true → TakenWell s hand next
          (caps.Import i, record s { counts = record s.counts { imports = insert s.counts.imports i (record entry { count = entry.count + 1 }) } })
      held t = (
        counted_within h i entry (record entry { count = entry.count + 1 }) was (fine t),
        record {
          promises = λ p o is. is;
          imports = λ j o is. is;
          counted = put_stays s.counts.imports i (record entry { count = entry.count + 1 });
          answering = λ a is. is;
          questions = refl;
          answers = refl;
          asked = refl;
          exports = refl;
          waiting = refl;
          marks = refl;
          tickets = refl;
        },
        (refl, ap is_some (get_put s.counts.imports i (record entry { count = entry.count + 1 })), (1, refl)),
      )

      by : (b : Bool) → ltb entry.count 4294967295 ≡ b
          → Ok new ≡ (if b then Ok (record s {
            counts = record s.counts {
              imports = insert s.counts.imports i
                  (record entry { count = entry.count + 1 });
            };
          }) else Err faults.TableFull)
          → TakenWell s hand next (caps.Import i, new)
      by true t is = rw (ok_in _ _ is) (held t)
      by false t is = ok_out is
  held_keeps s i kind None new h none is = by (has_capacity s.counts.imports) is
    where
      no_value : get s.values.imports i ≡ None
      no_value = absent (get s.values.imports i) (sym (h.imports_valued i) ∙ ap is_some none)
        where
          absent : (o : Option (Option Cap)) → is_some o ≡ false → o ≡ None
          absent None e = refl
          absent (Some v) e = absurd (true≢false e)

      imports_stay : (j : ℕ) (o : Option Cap) → get s.values.imports j ≡ Some o → get (insert s.values.imports i None) j ≡ Some o
      imports_stay = fresh_kept s.values.imports i None no_value

      held : TakenWell s hand next (caps.Import i, imported_first h i kind none)
      held = (
        imported_within h i kind none,
        record {
          promises = λ p o is. is;
          imports = imports_stay;
          counted = put_stays s.counts.imports i (new_counted kind);
          answering = λ a is. is;
          questions = refl;
          answers = refl;
          asked = refl;
          exports = refl;
          waiting = refl;
          marks = refl;
          tickets = refl;
        },
        (refl, ap is_some (get_put s.counts.imports i (new_counted kind)), (1, refl)),
      )

      by : (b : Bool)
          → Ok new
          ≡ (if b then Ok (
          record s {
            counts = record s.counts { imports = insert s.counts.imports i (new_counted kind) };
            values = record s.values { imports = insert s.values.imports i None };
          }
          ) else Err faults.TableFull)
          → TakenWell s hand next (caps.Import i, new)
      by true is = rw (ok_in _ _ is) held
      by false is = ok_out is

  import_keeps : (s : State) (i : ℕ) (kind : ImportKind) (taken : Cap × State) → Within s hand next
      → Then (λ held. held ≡ held_import s i kind) (λ new out. out ≡ Ok (caps.Import i, new)) (Ok taken) → TakenWell s hand next taken
  import_keeps s i kind taken h is =
      let parts = then_out {A = State} {B = Cap × State} (λ held. held ≡ held_import s i kind) _ taken is in
      rw (ok_in _ _ parts.2) (held_keeps s i kind (get s.counts.imports i) parts.0 h refl parts.1)

  -- a promise is opened for what an answer will give
  tied_keeps : (s : State) (a p : ℕ) (path : List ℕ) → Within s hand next → s.waiting.over ≡ none_over → answer_of s a ≡ Some None
      → get s.values.promises p ≡ None
      → TakenWell s hand next (caps.Promise p, tied s a path p)
  tied_keeps s a p path h still given fresh =
      let found = open_answer (get s.entries.answers a) (get s.values.answers a) (h.answers_valued a) given in
      let not_over : get s.waiting.over.promises p ≡ None = ap (λ o. get o.promises p) still ∙ get-empty {X = Cap} nat_cmp p in
      rw (found.1) (
        tied_within h a p path found.0 found.1 found.2 fresh not_over,
        record {
          promises = kept_open h a p path found.0 found.1 found.2 fresh not_over;
          imports = λ j o is. is;
          counted = λ i is. is;
          answering = λ b is. no_other found.0 found.1 b is;
          questions = refl;
          answers = refl;
          asked = refl;
          exports = refl;
          waiting = refl;
          marks = refl;
          tickets = refl;
        },
        (
          refl,
          ap is_some (get_put s.values.promises p None),
          opened_end (record s.values { promises = insert s.values.promises p None })
              (get_put s.values.promises p None),
        ),
      )
    where
      opened_end : (values : ValueMaps) → get values.promises p ≡ Some None → HasRoute values (caps.Promise p)
      opened_end values is = (1, rw (is) refl)

      no_other : (entry : Exchange AnswerEntry) → get s.entries.answers a ≡ Some entry → (b : ℕ) → get s.entries.answers b ≡ None
          → get (insert s.entries.answers a (record entry { kept = tie p path entry.kept })) b ≡ None
      no_other entry was b none = by (a == b) refl
        where
          by : (c : Bool) → (a == b) ≡ c → get (insert s.entries.answers a (record entry { kept = tie p path entry.kept })) b ≡ None
          by true t = let at : get s.entries.answers a ≡ None = rw (is_equal a b t) none in none_out (sym at ∙ was)
          by false t = put_at s.entries.answers a b (record entry { kept = tie p path entry.kept }) false t ∙ none

  answer_keeps : (s : State) (a : ℕ) (path : List ℕ) (o : Option (Option Outcome)) (taken : Cap × State) → Within s hand next → s.waiting.over ≡ none_over
      → answer_of s a ≡ o
      → ReceivesAnswer s a path o (Ok taken) → TakenWell s hand next taken
  answer_keeps s a path None taken h still given is = ok_out is
  answer_keeps s a path (Some (Some outcome)) taken h still given is =
      rw (ok_in _ _ is) (h, grows_not s, fit_at s outcome path (fit_table h a outcome (answer_given s a (Some outcome) given)))
  answer_keeps s a path (Some None) taken h still given is =
      let parts = then_out {A = ℕ} {B = Cap × State} (Fresh s.values.promises) _ taken is in
      rw (ok_in _ _ parts.2) (tied_keeps s a parts.0 path h still given (fresh_is s.values.promises (Ok parts.0) parts.1))

  export_keeps : (s : State) (e : ℕ) (o : Option (Counted Cap)) (taken : Cap × State) → Within s hand next → get s.counts.exports e ≡ o
      → Ok taken ≡ taken_export s o
      → TakenWell s hand next taken
  export_keeps s e None taken h at is = ok_out is
  export_keeps s e (Some entry) taken h at is =
      rw (ok_in _ _ is) (
        h,
        grows_not s,
        export_fit h entry.kept
            (there_of (λ (x : Counted Cap). IsExportable s x.kept) (get s.counts.exports e) entry at (h.exports e)),
      )

  pub take_keeps : (s : State) (d : Descriptor) (taken : Cap × State) → Within s hand next → s.waiting.over ≡ none_over → ReceivesCap s d (Ok taken)
      → TakenWell s hand next taken
  take_keeps s descriptors.None taken h still is = rw (ok_in _ _ is) (h, grows_not s, (refl, tt, (1, refl)))
  take_keeps s (descriptors.SenderHosted i) taken h still is = import_keeps s i kinds.Hosted taken h is
  take_keeps s (descriptors.SenderPromise i) taken h still is = import_keeps s i kinds.Promise taken h is
  take_keeps s (descriptors.ReceiverHosted e) taken h still is = export_keeps s e (get s.counts.exports e) taken h refl is
  take_keeps s (descriptors.ReceiverAnswer answer) taken h still is =
      answer_keeps s answer.question_id (path_of answer.transform) (answer_of s answer.question_id) taken h still refl is
  take_keeps s (descriptors.ThirdPartyHosted t) taken h still is = absurd is
  take_keeps s (descriptors.Unknown n) taken h still is = absurd is

  -- a capability table is taken in
  pub take_all_keeps : (table : List Descriptor) (s : State) (taken : List Cap × State) → Within s hand next → s.waiting.over ≡ none_over
      → ReceivesCaps s table (Ok taken)
      → Within taken.1 hand next × Grows s taken.1 × AllByRecursion (IsFit taken.1) taken.0
  take_all_keeps [] s taken h still is = rw (ok_in _ _ is) (h, grows_not s, tt)
  take_all_keeps (d ∷ table) s taken h still is =
      let first = then_out {A = Cap × State} {B = List Cap × State} (ReceivesCap s d) _ taken is in
      let rest = then_out {A = List Cap × State} {B = List Cap × State} (ReceivesCaps first.0.1 table) _ taken first.2 in
      let one = take_keeps s d first.0 h still first.1 in
      let more = take_all_keeps table first.0.1 rest.0 one.0 (ap (λ w. w.over) one.1.waiting ∙ still) rest.1 in
      rw (ok_in _ _ rest.2) (more.0, grows_both one.1 more.1, (fit_grows one.0 more.1 first.0.0 one.2, more.2))
