-- What a vat keeps from rule to rule, where nothing is finished or released: what came to something, what is exported, and what its messages are about.
use Rattle.std.specs.Prelude.{◌≡◌, refl, ℕ, zero, suc, ◌+◌, cond, Bool, false, List, [], ◌∷◌, ◌++◌, Option, Some, is_some, IsTrue}
use Rattle.std.specs.List.{count_by, list_any, AllByRecursion}
use Rattle.std.specs.FinMap.{get}
use Rattle.std.proofs.Common.{arith, ap, sym, ◌∙◌}
use Rattle.std.proofs.lemmas.List.Folds.{list_any-append}
use Rattle.std.proofs.lemmas.List.Sums.{sum_by-append}
use Rattle.cp_messages.specs.declared.message.Message.{Message}
use Rattle.cp_messages.specs.declared.message.Message.TheVariants as messages
use Rattle.cp_refs.specs.Route.{Way, ends, leads, missing, promise_way, question_way, way}
use Rattle.cp_refs.specs.Values.{ValueMaps}
use Rattle.cp_refs.specs.declared.cap.Cap.{Cap}
use Rattle.cp_refs.specs.declared.cap.Cap.TheVariants as caps
use Rattle.cp_refs.specs.declared.call.Origin.{Origin}
use Rattle.cp_refs.specs.declared.call.Origin.TheVariants as origins
use Rattle.cp_refs.specs.declared.outcome.Outcome.{Outcome}
use Rattle.cp_refs.specs.declared.values.QuestionState.{QuestionState}
use Rattle.cp_vat_machine.specs.State.{State}
use Rattle.cp_vat_machine.specs.Writing.{ResolvesTo, IsExport, end_by, end_within}
use Rattle.cp_vat_machine.specs.Receiving.{times}
use Rattle.cp_vat_machine.specs.Local.{one_if, AreOne, is_wire_kind}
use Rattle.cp_vat_machine.specs.declared.effect.Effect.{Effect}
use Rattle.cp_vat_machine.proofs.Basics.{some_out, none_out, all_both}
use Rattle.cp_vat_laws.proofs.within.Ways.{promise_leads, question_leads}
use Rattle.cp_vat_pair_laws.specs.Ledger.{named_by}
use Rattle.cp_vat_pair_laws.specs.VatPair.{messages_sent}
use Rattle.cp_vat_pair_laws.specs.Naming.{is_loop, is_echo}
use Rattle.cp_vat_pair_laws.specs.Phases.{gives_up}
use Rattle.cp_vat_pair_laws.specs.Places.{NoneFinished, IsLastOf, AreLast}
use Rattle.cp_vat_pair_laws.specs.Tickets.{BearsTicket}
use Rattle.cp_vat_pair_laws.proofs.counts.rules.TwoParts.{sent_both}

-- What a promise was settled to, and what a question gave, stays.
pub record WaysStay (old new : ValueMaps) : Type 0 where
  pub promises : (p : ℕ) (value : Cap) → get old.promises p ≡ Some (Some value) → get new.promises p ≡ Some (Some value)
  pub questions : (q : ℕ) (question : QuestionState) (outcome : Outcome) → get old.questions q ≡ Some question → question.outcome ≡ Some outcome
      → get new.questions q ≡ Some question

-- So do what an answer gave, and exports, of which there is one for each capability.
pub record PlacesStay (old new : State) : Type 0 where
  pub ways : WaysStay old.values new.values
  pub answers : (a : ℕ) (outcome : Outcome) → get old.values.answers a ≡ Some (Some outcome) → get new.values.answers a ≡ Some (Some outcome)
  pub exports : (e : ℕ) (cap : Cap) → IsExport old e cap → IsExport new e cap
  pub one_export : AreOne old → AreOne new

-- What imports came to stays, and no other import comes to anything, nor does a question on the wire.
pub record RefsStay (old new : State) : Type 0 where
  pub imports : (i : ℕ) (value : Cap) → get old.values.imports i ≡ Some (Some value) → get new.values.imports i ≡ Some (Some value)
  pub unresolved : (i : ℕ) (value : Cap) → get new.values.imports i ≡ Some (Some value) → get old.values.imports i ≡ Some (Some value)
  pub wired : (q : ℕ) (question : QuestionState) (outcome : Outcome) → get new.values.questions q ≡ Some question → question.outcome ≡ Some outcome
      → IsTrue (is_wire_kind question.kind) → get old.values.questions q ≡ Some question

-- No call has another ticket, nor is there one more.
pub record TicketsStay (old new : State) : Type 0 where
  pub next : new.next_ticket ≡ old.next_ticket
  pub bears : (origin : Origin) (ticket : ℕ) → BearsTicket new origin ticket → BearsTicket old origin ticket

-- what messages don't name
abbrev pub NameNot : ℕ → List Message → Type 0
NameNot e ms = AllByRecursion (λ m. times e (named_by m) ≡ 0) ms

-- What is sent gives nothing up, names no export of a promise that was settled, and a Resolve is the last that names its export.
pub record Mails (old : State) (effects : List Effect) (new : State) : Type 0 where
  pub unfinished : NoneFinished old → NoneFinished new
  pub quiet : NoneFinished old → list_any gives_up (messages_sent effects) ≡ false
  pub names : (e p : ℕ) (value : Cap) → IsExport old e (caps.Promise p) → get old.values.promises p ≡ Some (Some value) → NameNot e (messages_sent effects)
  pub last : AreLast new (messages_sent effects)

-- For each embargo that is new a loop is sent, and no echo is.
pub record Loops (old : State) (effects : List Effect) (new : State) : Type 0 where
  pub embargoes : (n : ℕ) → one_if (is_some (get new.marks.embargoes n)) ≡ one_if (is_some (get old.marks.embargoes n)) + count_by (is_loop n) (messages_sent effects)
  pub echoes : (n : ℕ) → count_by (is_echo n) (messages_sent effects) ≡ 0

-- all of these
pub record Grown (old : State) (effects : List Effect) (new : State) : Type 0 where
  pub places : PlacesStay old new
  pub refs : RefsStay old new
  pub tickets : TicketsStay old new
  pub mails : Mails old effects new
  pub loops : Loops old effects new

-- What comes to an import or an object comes to that for good.
module _ (old new : ValueMaps) (h : WaysStay old new) where
  way_on : (c next : Cap) → way old c ≡ leads next → way new c ≡ leads next
  way_on caps.None next is = is
  way_on (caps.Object k) next is = is
  way_on (caps.Promise p) next is = ap (promise_way p) (h.promises p next (promise_leads p (get old.promises p) next is))
  way_on (caps.Import i) next is = is
  way_on (caps.Pipelined q path) next is =
      let found = question_leads q path (get old.questions q) next is in
      let same : get new.questions q ≡ get old.questions q = h.questions q found.0 found.1 found.2 found.3 ∙ sym found.2 in
      ap (question_way q path) same ∙ is
  way_on (caps.Broken x) next is = is

  module _ (last : Cap) (final : (f : Cap → Option Cap) → end_by f last (way new last) ≡ Some last) where
    end_by_on : (n : ℕ) → ((c : Cap) → end_within n old c ≡ Some last → end_within n new c ≡ Some last) → (c : Cap) (w : Way) → way old c ≡ w
        → end_by (λ next. end_within n old next) c w ≡ Some last → end_by (λ next. end_within n new next) c (way new c) ≡ Some last
    end_by_on n more c (ends r) is e = rw (some_out e) (final (λ next. end_within n new next))
    end_by_on n more c (leads next) is e = rw (way_on c next is) (more next e)
    end_by_on n more c missing is e = none_out e

    end_on : (n : ℕ) (c : Cap) → end_within n old c ≡ Some last → end_within n new c ≡ Some last
    end_on zero c e = none_out e
    end_on (suc n) c e = end_by_on n (end_on n) c (way old c) refl e

  pub comes_import : (c : Cap) (i : ℕ) → ResolvesTo old c (caps.Import i) → ResolvesTo new c (caps.Import i)
  comes_import c i comes = (comes.0, end_on (caps.Import i) (λ f. refl) comes.0 c comes.1)

-- One after another.
pub ways_both : {old mid new : ValueMaps} → WaysStay old mid → WaysStay mid new → WaysStay old new
ways_both one more =
    record {
      promises = λ p value is. more.promises p value (one.promises p value is);
      questions = λ q question outcome is given. more.questions q question outcome (one.questions q question outcome is given) given;
    }

pub places_both : {old mid new : State} → PlacesStay old mid → PlacesStay mid new → PlacesStay old new
places_both one more =
    record {
      ways = ways_both one.ways more.ways;
      answers = λ a outcome is. more.answers a outcome (one.answers a outcome is);
      exports = λ e cap is. more.exports e cap (one.exports e cap is);
      one_export = λ is. more.one_export (one.one_export is);
    }

pub refs_both : {old mid new : State} → RefsStay old mid → RefsStay mid new → RefsStay old new
refs_both one more =
    record {
      imports = λ i value is. more.imports i value (one.imports i value is);
      unresolved = λ i value is. one.unresolved i value (more.unresolved i value is);
      wired = λ q question outcome is given wire. one.wired q question outcome (more.wired q question outcome is given wire) given wire;
    }

pub tickets_both : {old mid new : State} → TicketsStay old mid → TicketsStay mid new → TicketsStay old new
tickets_both one more =
    record { next = more.next ∙ one.next; bears = λ origin ticket is. one.bears origin ticket (more.bears origin ticket is) }

-- Resolves stay the last, where what follows names none of theirs.
pub last_stays : (old new : State) → WaysStay old.values new.values → ((e : ℕ) (cap : Cap) → IsExport old e cap → IsExport new e cap) → (ms more : List Message)
    → ((e p : ℕ) (value : Cap) → IsExport old e (caps.Promise p) → get old.values.promises p ≡ Some (Some value) → NameNot e more) → AreLast old ms → AreLast new more
    → AreLast new (ms ++ more)
last_stays old new ways exports [] more names h k = k
last_stays old new ways exports (m ∷ ms) more names h k = (by m h.0, last_stays old new ways exports ms more names h.1 k)
  where
    by : (m : Message) → IsLastOf old m ms → IsLastOf new m (ms ++ more)
    by (messages.Resolve r) h = (
      h.0,
      h.1,
      exports r.promise_id (caps.Promise h.0) h.2,
      ways.promises h.0 h.1 h.3,
      (h.4.0, all_both (λ m. times r.promise_id (named_by m) ≡ 0) ms more h.4.1 (names r.promise_id h.0 h.1 h.2 h.3)),
    )
    by m h = tt

pub any_none : {X : Type 0} (p : X → Bool) (xs ys : List X) → list_any p xs ≡ false → list_any p ys ≡ false → list_any p (xs ++ ys) ≡ false
any_none p xs ys h k = rw (list_any-append p xs ys, h, k) refl

pub moved_mails : {old mid new : State} {first more : List Effect} → Mails old first mid → WaysStay old.values mid.values
    → ((e : ℕ) (cap : Cap) → IsExport old e cap → IsExport mid e cap) → PlacesStay mid new → Mails mid more new → Mails old (first ++ more) new
moved_mails {mid = mid} {new = new} {first = first} {more = more} one ways exports later two =
    record {
      unfinished = λ h. two.unfinished (one.unfinished h);
      quiet = λ h. rw (sent_both first more) (any_none gives_up (messages_sent first) (messages_sent more) (one.quiet h) (two.quiet (one.unfinished h)));
      names = λ e p value is at.
          rw
          (sent_both first more)
          (all_both (λ m. times e (named_by m) ≡ 0) (messages_sent first) (messages_sent more) (one.names e p value is at)
          (two.names e p value (exports e (caps.Promise p) is) (ways.promises p value at)));
      last = rw (sent_both first more) (last_stays mid new later.ways later.exports (messages_sent first) (messages_sent more) two.names one.last two.last);
    }

pub mails_both : {old mid new : State} {first more : List Effect} → PlacesStay old mid → PlacesStay mid new → Mails old first mid → Mails mid more new
    → Mails old (first ++ more) new
mails_both stay later one two = moved_mails one stay.ways stay.exports later two

pub count_more : {X : Type 0} (p : X → Bool) (xs ys : List X) → count_by p (xs ++ ys) ≡ count_by p xs + count_by p ys
count_more p xs ys = sum_by-append (λ x. cond (p x) 1 0) xs ys

pub loops_both : {old mid new : State} {first more : List Effect} → Loops old first mid → Loops mid more new → Loops old (first ++ more) new
loops_both {first = first} {more = more} one two =
    record {
      embargoes = λ n.
          rw (sent_both first more) (omega (arith, one.embargoes n, two.embargoes n, count_more (is_loop n) (messages_sent first) (messages_sent more)));
      echoes = λ n. rw (sent_both first more) (omega (arith, one.echoes n, two.echoes n, count_more (is_echo n) (messages_sent first) (messages_sent more)));
    }

pub grown_both : {old mid new : State} {first more : List Effect} → Grown old first mid → Grown mid more new → Grown old (first ++ more) new
grown_both one two =
    record {
      places = places_both one.places two.places;
      refs = refs_both one.refs two.refs;
      tickets = tickets_both one.tickets two.tickets;
      mails = mails_both one.places two.places one.mails two.mails;
      loops = loops_both one.loops two.loops;
    }

-- Where nothing of it changes, all stays.
pub ways_same : {old new : ValueMaps} → new.promises ≡ old.promises → new.questions ≡ old.questions → WaysStay old new
ways_same promises questions =
    record { promises = λ p value is. rw (promises) is; questions = λ q question outcome is given. rw (questions) is }

pub places_same : {old new : State} → new.values ≡ old.values → new.counts.exports ≡ old.counts.exports → PlacesStay old new
places_same values exports =
    record {
      ways = record { promises = λ p value is. rw (values) is; questions = λ q question outcome is given. rw (values) is };
      answers = λ a outcome is. rw (values) is;
      exports = λ e cap is. rw (exports) is;
      one_export = λ is. rw (exports) is;
    }

pub refs_same : {old new : State} → new.values.imports ≡ old.values.imports → new.values.questions ≡ old.values.questions → RefsStay old new
refs_same imports questions =
    record {
      imports = λ i value is. rw (imports) is;
      unresolved = λ i value is. rw (← imports) is;
      wired = λ q question outcome is given wire. rw (← questions) is;
    }

pub tickets_same : {old new : State} → new.entries ≡ old.entries → new.next_ticket ≡ old.next_ticket → TicketsStay old new
tickets_same {old = old} {new = new} entries next = record { next = next; bears = bears_same }
  where
    bears_same : (origin : Origin) (ticket : ℕ) → BearsTicket new origin ticket → BearsTicket old origin ticket
    bears_same (origins.Answer a) ticket is = rw (← entries) is
    bears_same (origins.Own q) ticket is = rw (← entries) is

-- nothing is sent
pub no_mail : {old new : State} {effects : List Effect} → messages_sent effects ≡ [] → (NoneFinished old → NoneFinished new) → Mails old effects new
no_mail none unfinished =
    record { unfinished = unfinished; quiet = λ h. rw (none) refl; names = λ e p value is at. rw (none) tt; last = rw (none) tt }

pub no_loop : {old new : State} {effects : List Effect} → new.marks.embargoes ≡ old.marks.embargoes → ((n : ℕ) → count_by (is_loop n) (messages_sent effects) ≡ 0)
    → ((n : ℕ) → count_by (is_echo n) (messages_sent effects) ≡ 0) → Loops old effects new
no_loop same loops echoes = record { embargoes = λ n. rw (same, loops n) (omega arith); echoes = echoes }

pub silent : {old new : State} {effects : List Effect} → messages_sent effects ≡ [] → new.marks.embargoes ≡ old.marks.embargoes → Loops old effects new
silent none same = no_loop same (λ n. rw (none) refl) (λ n. rw (none) refl)

pub grown_none : (s : State) → Grown s [] s
grown_none s =
    record {
      places = places_same refl refl;
      refs = refs_same refl refl;
      tickets = record { next = refl; bears = λ origin ticket is. is };
      mails = no_mail refl (λ h. h);
      loops = silent refl refl;
    }
