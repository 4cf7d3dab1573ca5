-- What calls that go and waiting calls that leave keep, and what they send.
use Rattle.std.specs.Prelude.{◌≡◌, ◌⊎◌, refl, ℕ, cond, not, Bool, true, false, List, [], ◌∷◌, ◌++◌, Option, Some, None, IsTrue, Result, Ok, Err}
use Rattle.std.specs.FinMap.{get, insert}
use Rattle.std.proofs.Common.{inl, inr, arith, ap, sym, ◌∙◌, append-nil, true≢false}
use Rattle.cp_tables.specs.Table.{with_change}
use Rattle.cp_tables.specs.Exchange.{new_exchange}
use Rattle.cp_tables.specs.declared.exchange.Exchange.{Exchange}
use Rattle.cp_tables.specs.declared.exchange.Stage.{Stage}
use Rattle.cp_tables.specs.declared.exchange.Stage.TheVariants as stages
use Rattle.cp_messages.specs.declared.descriptor.Descriptor.{Descriptor}
use Rattle.cp_messages.specs.declared.target.Target.{Target}
use Rattle.cp_messages.specs.declared.target.Target.TheVariants as targets
use Rattle.cp_refs.specs.declared.cap.Cap.{Cap}
use Rattle.cp_refs.specs.declared.call.WaitingCall.{WaitingCall}
use Rattle.cp_refs.specs.declared.call.Origin.{Origin}
use Rattle.cp_refs.specs.declared.call.Origin.TheVariants as origins
use Rattle.cp_refs.specs.declared.call.Request.{Request}
use Rattle.cp_refs.specs.declared.outcome.Outcome.{Outcome}
use Rattle.cp_refs.specs.declared.outcome.Outcome.TheVariants as outcomes
use Rattle.cp_refs.specs.declared.route.Route.{Route}
use Rattle.cp_refs.specs.declared.route.Route.TheVariants as routes
use Rattle.cp_refs.specs.declared.values.QuestionState.{QuestionState}
use Rattle.cp_vat_machine.specs.State.{State, with_questions}
use Rattle.cp_vat_machine.specs.Then.{Done}
use Rattle.cp_vat_machine.specs.Capacity.{Fresh}
use Rattle.cp_vat_machine.specs.Writing.{WritesDescriptors, promised, mentions_of}
use Rattle.cp_vat_machine.specs.Go.{PendingCall, held_at, delivered, call_of, forwarding, finish_after, GoOut, Go, GoTo, Leave, stays, leaves, finds_table_full, IsNext, without_call, underway}
use Rattle.cp_vat_machine.specs.Local.{AreOne, is_open_stage, is_origin, one_if, IsTicketOf, AnswerIs, OwnIs, QuestionIs, is_wire, is_wire_kind, IsSentIf}
use Rattle.cp_vat_machine.specs.declared.effect.Effect.{Effect}
use Rattle.cp_vat_machine.specs.declared.effect.Effect.TheVariants as effects
use Rattle.cp_vat_machine.specs.declared.entry.AnswerEntry.{AnswerEntry}
use Rattle.cp_vat_machine.specs.declared.entry.QuestionEntry.{QuestionEntry}
use Rattle.cp_vat_machine.specs.declared.fault.PeerFault.{PeerFault}
use Rattle.cp_vat_machine.proofs.Basics.{none_out, ok_in, then_out, is_itself}
use Rattle.cp_vat_laws.specs.Within.{Within, HasQuestionPlace, is_in_hand, WaitsFor}
use Rattle.cp_vat_laws.proofs.Tables.{there_of, here_of, put_cases, each_put, within_sum}
use Rattle.cp_vat_laws.proofs.within.Leave.{turn_within}
use Rattle.cp_vat_pair_laws.specs.Accounts.{is_finish_noted}
use Rattle.cp_vat_pair_laws.specs.Places.{NoneFinished}
use Rattle.cp_vat_pair_laws.specs.Turns.{AreOpen}
use Rattle.cp_vat_pair_laws.proofs.waiting.Tied.{tied_are_open}
use Rattle.cp_vat_pair_laws.proofs.still.Grows.{Mails, Loops, Grown, grown_both, places_same, refs_same, tickets_same, no_mail, no_loop, silent, grown_none}
use Rattle.cp_vat_pair_laws.proofs.still.Say.{SaidAs, said_all, said_not, said_places, said_refs, said_tickets}
use Rattle.cp_vat_pair_laws.proofs.still.Give.{changed_cases, tickets_by, SameAnswers, answers_as_were, MayGive, give_grows}

-- a state that differs in nothing that is looked at
pub same_grows : (old new : State) → new.values ≡ old.values → new.counts.exports ≡ old.counts.exports → new.entries ≡ old.entries → new.next_ticket ≡ old.next_ticket
    → new.marks.embargoes ≡ old.marks.embargoes → Grown old [] new
same_grows old new values exports entries next embargoes =
    record {
      places = places_same values exports;
      refs = refs_same (ap (λ v. v.imports) values) (ap (λ v. v.questions) values);
      tickets = tickets_same entries next;
      mails = no_mail refl (λ h. rw (entries) h);
      loops = silent refl embargoes;
    }

-- what questions bear where one is changed, and its ticket and what it forwards aren't
abbrev KeepsBearing : (Exchange QuestionEntry → Exchange QuestionEntry) → Type 0
KeepsBearing f =
    (x : Exchange QuestionEntry) → ((f x).kept.ticket ≡ x.kept.ticket) × ((f x).kept.forwards ≡ x.kept.forwards) × ((f x).stage ≡ x.stage)

module _ (s : State) (q : ℕ) (f : Exchange QuestionEntry → Exchange QuestionEntry) (keeps : KeepsBearing f) where
  abbrev changed_state : State
  changed_state = with_questions s (with_change s.entries.questions q f)

  bearing : (x y : Exchange QuestionEntry) → (y ≡ x) ⊎ (y ≡ f x) → (y.kept.ticket ≡ x.kept.ticket) × (y.kept.forwards ≡ x.kept.forwards) × (y.stage ≡ x.stage)
  bearing x y (inl e) = rw (e) (refl, refl, refl)
  bearing x y (inr e) = rw (e) (keeps x)

  changed_questions : (r : ℕ) (entry : Exchange QuestionEntry) → get changed_state.entries.questions r ≡ Some entry → entry.kept.forwards ≡ None
      → (was : Exchange QuestionEntry) × (get s.entries.questions r ≡ Some was) × (entry.kept.ticket ≡ was.kept.ticket) × (was.kept.forwards ≡ None)
  changed_questions r entry is own =
      let found = changed_cases s.entries.questions q r f entry is in
      let same = bearing found.0 entry found.2 in
      (found.0, found.1, same.0, sym same.1 ∙ own)

  changed_unfinished : NoneFinished s → NoneFinished changed_state
  changed_unfinished h r = here_of (λ (x : Exchange QuestionEntry). is_finish_noted x.stage ≡ false) (get changed_state.entries.questions r) (λ entry is.
      let found = changed_cases s.entries.questions q r f entry is in
      ap is_finish_noted (bearing found.0 entry found.2).2
      ∙ there_of (λ (x : Exchange QuestionEntry). is_finish_noted x.stage ≡ false) (get s.entries.questions r) found.0 found.1 (h r))

  pub changed_grows : Grown s [] changed_state
  changed_grows =
      record {
        places = places_same refl refl;
        refs = refs_same refl refl;
        tickets = tickets_by refl (answers_as_were s) changed_questions;
        mails = no_mail refl changed_unfinished;
        loops = silent refl refl;
      }

-- a call that is delivered
delivered_answer : (s : State) (a : ℕ) → SameAnswers s (delivered s (origins.Answer a))
delivered_answer s a b entry is =
    let found = changed_cases s.entries.answers a b (λ x. record x { kept = record x.kept { is_delivered = true } }) entry is in
    (found.0, found.1, by found.0 entry found.2)
  where
    by : (x y : Exchange AnswerEntry) → (y ≡ x) ⊎ (y ≡ record x { kept = record x.kept { is_delivered = true } }) → y.kept.ticket ≡ x.kept.ticket
    by x y (inl e) = rw (e) refl
    by x y (inr e) = rw (e) refl

pub delivered_grows : (s : State) (origin : Origin) → Grown s [] (delivered s origin)
delivered_grows s (origins.Answer a) =
    record {
      places = places_same refl refl;
      refs = refs_same refl refl;
      tickets = tickets_by refl (delivered_answer s a) (λ q x is own. (x, is, refl, own));
      mails = no_mail refl (λ h. h);
      loops = silent refl refl;
    }
delivered_grows s (origins.Own q) = changed_grows s q (λ x. record x { kept = record x.kept { is_delivered = true } }) (λ x. (refl, refl, refl))

-- a delivery is no message
deliver_grows : (k : ℕ) (call : PendingCall) (s new : State) → Grown s [] new → Grown s (effects.Deliver k call.origin call.ticket call.request ∷ []) new
deliver_grows k call s new h = record { places = h.places; refs = h.refs; tickets = h.tickets; mails = mail h.mails; loops = loop h.loops }
  where
    mail : Mails s [] new → Mails s (effects.Deliver k call.origin call.ticket call.request ∷ []) new
    mail m = record { unfinished = m.unfinished; quiet = m.quiet; names = m.names; last = m.last }

    loop : Loops s [] new → Loops s (effects.Deliver k call.origin call.ticket call.request ∷ []) new
    loop m = record { embargoes = m.embargoes; echoes = m.echoes }

-- a Call that is sent, and where its question was finished, its Finish
pub call_grows : (old : State) (q : ℕ) (target : Target) (request : Request) (table : List Descriptor) (new : State) → SaidAs old (mentions_of table) new
    → Grown old (call_of q target request table ∷ []) new
call_grows old q target request table new said =
    record {
      places = said_places said;
      refs = said_refs said;
      tickets = said_tickets said;
      mails =
          record {
            unfinished = λ h. rw (ap (λ s. s.entries) said.only) h;
            quiet = λ h. refl;
            names = λ f r v export_ settled_. (said_not said f r v export_ settled_, tt);
            last = (tt, tt);
          };
      loops = no_loop (ap (λ s. s.marks.embargoes) said.only) (λ n. refl) (λ n. refl);
    }

finish_follows : (s : State) (q : ℕ) (entry : Exchange QuestionEntry) (stage : Stage) → get s.entries.questions q ≡ Some entry → entry.stage ≡ stage
    → Grown s (finish_after q stage) s
finish_follows s q entry stages.Open is at = grown_none s
finish_follows s q entry stages.Returned is at = grown_none s
finish_follows s q entry stages.Finished is at =
    record {
      places = places_same refl refl;
      refs = refs_same refl refl;
      tickets = tickets_same refl refl;
      mails =
          record {
            unfinished = λ h. h;
            quiet =
                λ h.
                let not = there_of (λ (x : Exchange QuestionEntry). is_finish_noted x.stage ≡ false) (get s.entries.questions q) entry is (h q) in
                absurd (true≢false (sym (ap is_finish_noted at) ∙ not));
            names = λ e p value export_ settled_. (refl, tt);
            last = (tt, tt);
          };
      loops = no_loop refl (λ n. refl) (λ n. refl);
    }

-- a question that forwards is opened
forwarding_grows : (s : State) (q a : ℕ) (call : PendingCall) (table : List Descriptor)
    → Grown s [] (with_questions s (insert s.entries.questions q (new_exchange (forwarding a call table))))
forwarding_grows s q a call table =
    record {
      places = places_same refl refl;
      refs = refs_same refl refl;
      tickets = tickets_by refl (answers_as_were s) questions_on;
      mails = no_mail refl (λ h. each_put (λ r (x : Exchange QuestionEntry). is_finish_noted x.stage ≡ false)
          (λ r (x : Exchange QuestionEntry). is_finish_noted x.stage ≡ false) s.entries.questions q (new_exchange (forwarding a call table)) h refl (λ r x other is not. not));
      loops = silent refl refl;
    }
  where
    questions_on : (r : ℕ) (entry : Exchange QuestionEntry) → get (insert s.entries.questions q (new_exchange (forwarding a call table))) r ≡ Some entry
        → entry.kept.forwards ≡ None
        → (was : Exchange QuestionEntry) × (get s.entries.questions r ≡ Some was) × (entry.kept.ticket ≡ was.kept.ticket) × (was.kept.forwards ≡ None)
    questions_on r entry is own =
        elim (put_cases s.entries.questions q r (new_exchange (forwarding a call table)) entry is) [
          | inl new ↦ none_out (sym own ∙ ap (λ (x : Exchange QuestionEntry). x.kept.forwards) (sym new.1))
          | inr old ↦ (entry, old.1, refl, own)
        ]

pub out_grows : (old : State) (call : PendingCall) (target : Target) (origin : Origin) (done : Done) → AreOne old → GoOut old call target origin (Ok done)
    → Grown old done.0 done.1
out_grows old call target (origins.Answer a) done one goes =
    let fresh = then_out {A = ℕ} {B = Done} (Fresh old.entries.questions) _ done goes in
    let parts = then_out {A = List Descriptor × State} {B = Done} (WritesDescriptors old call.request.caps) _ done fresh.2 in
    let said = said_all call.request.caps old parts.0 one parts.1 in
    rw
    (ok_in _ _ parts.2)
    (grown_both (call_grows old fresh.0 target call.request parts.0.0 parts.0.1 said) (forwarding_grows parts.0.1 fresh.0 a call parts.0.0))
out_grows old call target (origins.Own q) done one goes =
    let parts = then_out {A = List Descriptor × State} {B = Done} (WritesDescriptors old call.request.caps) _ done goes.2 in
    let said = said_all call.request.caps old parts.0 one parts.1 in
    let there : get parts.0.1.entries.questions q ≡ Some goes.0 = ap (λ s. get s.entries.questions q) said.only ∙ goes.1 in
    let first = call_grows old q target call.request parts.0.0 parts.0.1 said in
    let second = finish_follows parts.0.1 q goes.0 goes.0.stage there refl in
    let third = changed_grows parts.0.1 q (λ x. record x { kept = record x.kept { is_sent = true; mentions = mentions_of parts.0.0 } }) (λ x. (refl, refl, refl)) in
    rw (ok_in _ _ parts.2) (grown_both first (rw (append-nil (finish_after q goes.0.stage)) at (grown_both second third)))

-- A call that fails gives its origin an outcome.
abbrev pub MayFail : State → Origin → Route → Type 0
MayFail s origin (routes.Fail x) = MayGive s origin
MayFail s origin other = Unit {0}

pub go_grows : (old : State) (call : PendingCall) (route : Route) (done : Done) → AreOne old → MayFail old call.origin route → Go old call route (Ok done)
    → Grown old done.0 done.1
go_grows old call (routes.Deliver k) done one may goes =
    rw (ok_in _ _ goes) (deliver_grows k call old (delivered old call.origin) (delivered_grows old call.origin))
go_grows old call (routes.Import i) done one may goes = out_grows old call (targets.ImportedCap i) call.origin done one goes
go_grows old call (routes.Pipe q path) done one may goes = out_grows old call (targets.PromisedAnswer (promised q path)) call.origin done one goes
go_grows old call (routes.Wait gate) done one may goes = rw (ok_in _ _ goes) (same_grows old (held_at old call gate) refl refl refl refl refl)
go_grows old call (routes.Fail x) done one may goes = give_grows old call.origin (outcomes.Failed x) done one may goes

may_fail : (s : State) (origin : Origin) (route : Route) → MayGive s origin → MayFail s origin route
may_fail s origin (routes.Deliver k) may = tt
may_fail s origin (routes.Import i) may = tt
may_fail s origin (routes.Pipe q path) may = tt
may_fail s origin (routes.Wait gate) may = tt
may_fail s origin (routes.Fail x) may = may

pub goes_grow : (old : State) (call : PendingCall) (cap : Cap) (done : Done) → AreOne old → MayGive old call.origin → GoTo old call cap (Ok done)
    → Grown old done.0 done.1
goes_grow old call cap done one may goes = go_grows old call goes.0 done one (may_fail old call.origin goes.0 may) goes.2

-- Within an event the promises that are tied to an answer are open.
module _ {s : State} {hand : Option Origin} (h : Within s hand []) where
  pub tied_open : (a : ℕ) (entry : Exchange AnswerEntry) → get s.entries.answers a ≡ Some entry → AreOpen s.values entry.kept.tied
  tied_open a entry is = tied_are_open s a entry (λ p. omega (arith, h.tied p)) is

  -- An open entry of an answer, or of a question that forwards nothing, has no outcome yet.
  pub not_given : (a : ℕ) (entry : Exchange AnswerEntry) (o : Outcome) → get s.entries.answers a ≡ Some entry → IsTrue (is_open_stage entry.stage)
      → get s.values.answers a ≡ Some (Some o) → ⊥
  not_given a entry o is open_ at =
      let valued : AnswerIs (Some entry) (Some (Some o)) = rw is at (rw at at (h.answers_valued a)) in
      true≢false (valued ∙ ap not open_)

  pub no_outcome : (q : ℕ) (entry : Exchange QuestionEntry) (question : QuestionState) → get s.entries.questions q ≡ Some entry → IsTrue (is_open_stage entry.stage)
      → get s.values.questions q ≡ Some question → question.outcome ≡ None
  no_outcome q entry question is open_ at =
      let valued : QuestionIs (Some entry) (Some question) = rw is at (rw at at (h.questions_valued q)) in
      by entry.kept.forwards question.outcome valued
    where
      by : (forwards : Option ℕ) (o : Option Outcome) → OwnIs forwards entry.stage (Some (record { kind = question.kind; outcome = o })) → o ≡ None
      by None None valued = refl
      by None (Some x) valued = absurd (true≢false (valued ∙ ap not open_))
      by (Some a) o valued = absurd valued

-- a turn of waiting calls
module _ {s : State} (h : Within s None []) (call : WaitingCall) (cap : Cap) (next : IsNext s call cap) where
  waits : WaitsFor s call.ticket call
  waits = there_of (WaitsFor s call.ticket) (get s.waiting.calls call.ticket) call next.waits (h.waiting call.ticket)

  -- a call that waits wasn't sent, so its question isn't on the wire
  pub kind_off : (q : ℕ) (question : QuestionState) → call.origin ≡ origins.Own q → get s.values.questions q ≡ Some question → is_wire_kind question.kind ≡ false
  kind_off q question is at = by (is_wire_kind question.kind) refl
    where
      by : (b : Bool) → is_wire_kind question.kind ≡ b → b ≡ false
      by true wire =
          let ticket : IsTicketOf s (origins.Own q) call.ticket = rw is at waits.2 in
          let on : is_wire (get s.values.questions q) ≡ true = rw (at) wire in
          let place = there_of (HasQuestionPlace s None q) (get s.entries.questions q) ticket.0 ticket.1 (h.questions q) ticket.2 in
          let sent_ = there_of (λ (e : Exchange QuestionEntry). is_in_hand None (origins.Own q) ≡ false → IsSentIf (is_wire (get s.values.questions q)) e.kept)
          (get s.entries.questions q) ticket.0 ticket.1 (h.wire q) refl in
          let went : (ticket.0.kept.is_sent ≡ true) × (ticket.0.kept.is_delivered ≡ false) = rw on at sent_ in
          let one : ◌≡◌ {A = ℕ} (cond (is_origin (origins.Own q) call.origin) 1 0) 1 = rw (is, is_itself q) refl in
          let within = within_sum (λ (c : WaitingCall). cond (is_origin (origins.Own q) c.origin) 1 0) s.waiting.calls call.ticket call next.waits in
          let counted : ◌≡◌ {A = ℕ} (one_if ticket.0.kept.is_sent) 1 = rw (went.0) refl in
          absurd (omega (arith, place, one, within, counted))
      by false wire = refl

  pub turn_may : (origin : Origin) → call.origin ≡ origin → MayGive (without_call s call) origin
  turn_may (origins.Answer a) is =
      let ticket : IsTicketOf s (origins.Answer a) call.ticket = rw is at waits.2 in
      (λ o at. not_given h a ticket.0 o ticket.1 ticket.2 at, λ entry at. tied_open h a entry at)
  turn_may (origins.Own q) is =
      let ticket : IsTicketOf s (origins.Own q) call.ticket = rw is at waits.2 in
      λ question at. (no_outcome h q ticket.0 question ticket.1 ticket.2 at, kind_off q question is at)

  pub turn_grows : (done : Done) → GoTo (without_call s call) (underway call) cap (Ok done) → Grown s done.0 done.1
  turn_grows done goes =
      grown_both (same_grows s (without_call s call) refl refl refl refl refl)
      (goes_grow (without_call s call) (underway call) cap done h.one_export (turn_may call.origin refl) goes)

-- waiting calls that leave, one after another
abbrev LeftGrown : State → List Effect → Result State PeerFault → Type 0
LeftGrown old all (Ok last) = Grown old all last
LeftGrown old all (Err fault) = Unit {0}

leave_by : {old : State} {all : List Effect} {out : Result State PeerFault} → Within old None [] → Leave old all out → LeftGrown old all out
leave_by {old = old} h (stays none) = same_grows old _ refl refl refl refl refl
leave_by {old = old} h (leaves {mid = mid} {first = first} {rest = rest} {last = last} call cap next goes more same) =
    rw (same) (both last (turn_grows h call cap next (first, mid) goes) (leave_by (turn_within h call cap next (first, mid) goes) more))
  where
    both : (last : Result State PeerFault) → Grown old first mid → LeftGrown mid rest last → LeftGrown old (first ++ rest) last
    both (Ok new) one two = grown_both one two
    both (Err fault) one two = tt
leave_by h (finds_table_full call cap next goes) = tt

pub leave_grows : (old last : State) (all : List Effect) → Within old None [] → Leave old all (Ok last) → Grown old all last
leave_grows old last all h leave = leave_by h leave
