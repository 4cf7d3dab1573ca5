-- What the application's calls keep, where it finishes, releases and forgets nothing, and what they send.
use Rattle.std.specs.Prelude.{◌≡◌, ◌⊎◌, refl, ℕ, zero, suc, ◌+◌, ◌==◌, cond, not, ◌&&◌, Bool, true, false, List, [], ◌∷◌, ◌++◌, Option, Some, None, is_some, IsTrue, Result, Ok, Err}
use Rattle.std.specs.List.{list_any, count_by}
use Rattle.std.specs.FinMap.{get, insert}
use Rattle.std.proofs.Common.{inl, inr, arith, ap, sym, ◌∙◌, true≢false}
use Rattle.cp_tables.specs.Table.{Table}
use Rattle.cp_tables.specs.declared.exchange.Exchange.{Exchange}
use Rattle.cp_tables.specs.declared.exchange.Stage.{Stage}
use Rattle.cp_tables.specs.declared.exchange.Stage.TheVariants as stages
use Rattle.cp_messages.specs.declared.message.Message.{Message}
use Rattle.cp_refs.specs.Route.{question_way, route_by, route_within, Routes}
use Rattle.cp_refs.specs.Values.{ValueMaps}
use Rattle.cp_refs.specs.declared.cap.Cap.{Cap}
use Rattle.cp_refs.specs.declared.cap.Cap.TheVariants as caps
use Rattle.cp_refs.specs.declared.call.Origin.{Origin}
use Rattle.cp_refs.specs.declared.call.Origin.TheVariants as origins
use Rattle.cp_refs.specs.declared.call.Request.{Request}
use Rattle.cp_refs.specs.declared.outcome.Outcome.{Outcome}
use Rattle.cp_refs.specs.declared.route.Gate.TheVariants as gates
use Rattle.cp_refs.specs.declared.route.Route.{Route}
use Rattle.cp_refs.specs.declared.route.Route.TheVariants as routes
use Rattle.cp_refs.specs.declared.values.QuestionState.{QuestionState}
use Rattle.cp_refs.specs.declared.values.QuestionKind.{QuestionKind}
use Rattle.cp_refs.specs.declared.values.QuestionKind.TheVariants as kinds
use Rattle.cp_vat_machine.specs.State.{State}
use Rattle.cp_vat_machine.specs.Then.{Done, fault_if, OrFull}
use Rattle.cp_vat_machine.specs.Capacity.{Fresh, outcome_fits}
use Rattle.cp_vat_machine.specs.Writing.{IsExport}
use Rattle.cp_vat_machine.specs.Give.{Give, Settle}
use Rattle.cp_vat_machine.specs.Go.{PendingCall, held_at, GoTo}
use Rattle.cp_vat_machine.specs.InUse.{has_question, has_promise, has_import, is_pipelined, caps_of}
use Rattle.cp_vat_machine.specs.Calling.{plain, on_wire, came_to, import_reference, path_reference, question_reference, reference_of, asked, called, own_call, mark_of, with_mark, has_mark_capacity, marked, disembargo_of, FirstEmbargoed, GoBack, GoByValue, GoFrom, OwnDone, call_refusals, not_all, DoCall}
use Rattle.cp_vat_machine.specs.Calling as calling
use Rattle.cp_vat_machine.specs.Doing.{Quietly, DoPromise, DoBootstrap, is_ungiven, is_ungiven_answer, is_ungiven_question, awaits, answer_refusals, DoAnswer, promise_made, is_made, is_settled, resolve_refusals, value_refusals, Resolves, DoResolve}
use Rattle.cp_vat_machine.specs.Step.{Does}
use Rattle.cp_vat_machine.specs.Local.{AreOne, one_if, QuestionIs, is_open_stage, is_wire, is_wire_kind, IsSentIf}
use Rattle.cp_vat_machine.specs.declared.effect.Effect.{Effect}
use Rattle.cp_vat_machine.specs.declared.entry.AnswerEntry.{AnswerEntry}
use Rattle.cp_vat_machine.specs.declared.entry.QuestionEntry.{QuestionEntry}
use Rattle.cp_vat_machine.specs.declared.event.Event.{Event}
use Rattle.cp_vat_machine.specs.declared.event.Event.TheVariants as events
use Rattle.cp_vat_machine.specs.declared.fault.PeerFault.TheVariants as faults
use Rattle.cp_vat_machine.specs.declared.fault.VatFault.{VatFault}
use Rattle.cp_vat_machine.specs.declared.fault.VatFault.TheVariants as refusals
use Rattle.cp_vat_machine.proofs.Basics.{some_out, none_out, ok_in, ok_out, then_out, unless_out, or_full_out, is_equal, is_itself, put_at, not_false}
use Rattle.cp_vat_laws.specs.Within.{Within, is_in_hand}
use Rattle.cp_vat_laws.proofs.Tables.{there_of, put_cases, each_put, no_faults, front_empty, back_empty, not_met}
use Rattle.cp_vat_pair_laws.specs.Accounts.{is_finish_noted}
use Rattle.cp_vat_pair_laws.specs.VatPair.{messages_sent}
use Rattle.cp_vat_pair_laws.specs.Naming.{is_loop, is_echo}
use Rattle.cp_vat_pair_laws.specs.Lane.{IsStill}
use Rattle.cp_vat_pair_laws.specs.Tickets.{BearsTicket}
use Rattle.cp_vat_pair_laws.proofs.counts.rules.Accounts.{free_out}
use Rattle.cp_vat_pair_laws.proofs.counts.rules.TwoParts.{sent_both}
use Rattle.cp_vat_pair_laws.proofs.still.Grows.{WaysStay, PlacesStay, RefsStay, TicketsStay, Mails, Loops, Grown, grown_both, places_both, mails_both, places_same, refs_same, tickets_same, no_mail, no_loop, silent, grown_none, ways_both, moved_mails, count_more}
use Rattle.cp_vat_pair_laws.proofs.still.Give.{MayGive, give_grows, settle_grows}
use Rattle.cp_vat_pair_laws.proofs.still.Go.{same_grows, MayFail, go_grows, goes_grow, not_given, no_outcome, tied_open}

-- One call more has the next ticket.
pub record OneMore (old new : State) (one : Origin) : Type 0 where
  pub next : new.next_ticket ≡ old.next_ticket + 1
  pub bears : (origin : Origin) (ticket : ℕ) → BearsTicket new origin ticket → BearsTicket old origin ticket ⊎ ((origin ≡ one) × (ticket ≡ old.next_ticket))

abbrev pub TicketsMove : State → State → Type 0
TicketsMove old new = TicketsStay old new ⊎ ((one : Origin) × OneMore old new one)

pub move_stay : {old mid new : State} → TicketsMove old mid → TicketsStay mid new → TicketsMove old new
move_stay (inl one) more =
    inl (record { next = more.next ∙ one.next; bears = λ origin ticket is. one.bears origin ticket (more.bears origin ticket is) })
move_stay (inr one) more =
    inr (one.0, record { next = more.next ∙ one.1.next; bears = λ origin ticket is. one.1.bears origin ticket (more.bears origin ticket is) })

pub stay_move : {old mid new : State} → TicketsStay old mid → TicketsMove mid new → TicketsMove old new
stay_move {old = old} {mid = mid} {new = new} one (inl more) =
    inl (record { next = more.next ∙ one.next; bears = λ origin ticket is. one.bears origin ticket (more.bears origin ticket is) })
stay_move {old = old} {mid = mid} {new = new} one (inr more) =
    inr (more.0, record { next = more.1.next ∙ ap (λ n. n + 1) one.next; bears = λ origin ticket is. by origin ticket (more.1.bears origin ticket is) })
  where
    by : (origin : Origin) (ticket : ℕ) → BearsTicket mid origin ticket ⊎ ((origin ≡ more.0) × (ticket ≡ mid.next_ticket))
        → BearsTicket old origin ticket ⊎ ((origin ≡ more.0) × (ticket ≡ old.next_ticket))
    by origin ticket (inl was) = inl (one.bears origin ticket was)
    by origin ticket (inr new_) = inr (new_.0, new_.1 ∙ one.next)

-- What an event keeps, and what it sends: for each embargo that is new a loop, for each loop that came an echo; an echo that came ends an embargo.
pub record LoopsBy (arrived : List Message) (old : State) (effects : List Effect) (new : State) : Type 0 where
  pub embargoes : (n : ℕ) → one_if (is_some (get new.marks.embargoes n)) + count_by (is_echo n) arrived
      ≡ one_if (is_some (get old.marks.embargoes n)) + count_by (is_loop n) (messages_sent effects)
  pub echoes : (n : ℕ) → count_by (is_echo n) (messages_sent effects) ≡ count_by (is_loop n) arrived

pub record Moved (arrived : List Message) (old : State) (effects : List Effect) (new : State) : Type 0 where
  pub ways : WaysStay old.values new.values
  pub exports : (e : ℕ) (cap : Cap) → IsExport old e cap → IsExport new e cap
  pub mails : Mails old effects new
  pub tickets : TicketsMove old new
  pub loops : LoopsBy arrived old effects new

loops_by : {old new : State} {effects : List Effect} → Loops old effects new → LoopsBy [] old effects new
loops_by h = record { embargoes = λ n. omega (arith, h.embargoes n); echoes = h.echoes }

pub grown_moved : {old new : State} {effects : List Effect} → Grown old effects new → Moved [] old effects new
grown_moved h =
    record { ways = h.places.ways; exports = h.places.exports; mails = h.mails; tickets = inl h.tickets; loops = loops_by h.loops }

-- a question of the application's is opened
module _ (s : State) (q : ℕ) (kind : QuestionKind) (ticket : Option ℕ) (is_sent : Bool) where
  abbrev asked_state : State
  asked_state = asked s q kind ticket is_sent

  outcome_stays : (fresh : get s.values.questions q ≡ None) (r : ℕ) (question : QuestionState) (o : Outcome) (b : Bool) → (q == r) ≡ b
      → get s.values.questions r ≡ Some question → get asked_state.values.questions r ≡ Some question
  outcome_stays fresh r question o true t is =
      let here : get s.values.questions q ≡ Some question = rw (is_equal q r t) is in
      none_out (sym fresh ∙ here)
  outcome_stays fresh r question o false t is = put_at s.values.questions q r (record { kind = kind; outcome = None }) false t ∙ is

  pub asked_places : get s.values.questions q ≡ None → PlacesStay s asked_state
  asked_places fresh =
      record {
        ways = record { promises = λ p value is. is; questions = λ r question o is given_. outcome_stays fresh r question o (q == r) refl is };
        answers = λ a o is. is;
        exports = λ e cap is. is;
        one_export = λ is. is;
      }

  pub asked_mails : Mails s [] asked_state
  asked_mails = no_mail refl (λ h. each_put (λ r (x : Exchange QuestionEntry). is_finish_noted x.stage ≡ false)
      (λ r (x : Exchange QuestionEntry). is_finish_noted x.stage ≡ false) s.entries.questions q _ h refl (λ r x other is not_. not_))

  asked_questions : (r : ℕ) (entry : Exchange QuestionEntry) → get asked_state.entries.questions r ≡ Some entry
      → ((q ≡ r) × (entry.kept.ticket ≡ ticket)) ⊎ (get s.entries.questions r ≡ Some entry)
  asked_questions r entry is =
      elim (put_cases s.entries.questions q r _ entry is) [
        | inl new ↦ inl (new.0, ap (λ (x : Exchange QuestionEntry). x.kept.ticket) (sym new.1))
        | inr old ↦ inr old.1
      ]

-- with the next ticket
pub called_tickets : (s : State) (q : ℕ) (kind : QuestionKind) → OneMore s (called s q kind) (origins.Own q)
called_tickets s q kind = record { next = refl; bears = bears_by }
  where
    own_by : (r ticket : ℕ) (entry : Exchange QuestionEntry) → entry.kept.ticket ≡ Some ticket → entry.kept.forwards ≡ None
        → ((q ≡ r) × (entry.kept.ticket ≡ Some s.next_ticket)) ⊎ (get s.entries.questions r ≡ Some entry)
        → BearsTicket s (origins.Own r) ticket ⊎ ((origins.Own r ≡ origins.Own q) × (ticket ≡ s.next_ticket))
    own_by r ticket entry is own (inl new) = inr (ap (λ x. origins.Own x) (sym new.0), some_out (sym is ∙ new.1))
    own_by r ticket entry is own (inr old) = inl (entry, old, is, own)

    bears_by : (origin : Origin) (ticket : ℕ) → BearsTicket (called s q kind) origin ticket
        → BearsTicket s origin ticket ⊎ ((origin ≡ origins.Own q) × (ticket ≡ s.next_ticket))
    bears_by (origins.Answer a) ticket is = inl is
    bears_by (origins.Own r) ticket is = own_by r ticket is.0 is.2 is.3 (asked_questions s q kind (Some s.next_ticket) false r is.0 is.1)

-- What marks a reference changes marks alone.
pub record Marks (s new : State) : Type 0 where
  pub values : new.values ≡ s.values
  pub exports : new.counts.exports ≡ s.counts.exports
  pub entries : new.entries ≡ s.entries
  pub next : new.next_ticket ≡ s.next_ticket
  pub embargoes : new.marks.embargoes ≡ s.marks.embargoes

pub with_mark_marks : (s : State) (cap : Cap) (embargo : Option ℕ) → Marks s (with_mark s cap embargo)
with_mark_marks s (caps.Import i) embargo = record { values = refl; exports = refl; entries = refl; next = refl; embargoes = refl }
with_mark_marks s (caps.Pipelined q path) embargo = record { values = refl; exports = refl; entries = refl; next = refl; embargoes = refl }
with_mark_marks s caps.None embargo = record { values = refl; exports = refl; entries = refl; next = refl; embargoes = refl }
with_mark_marks s (caps.Object k) embargo = record { values = refl; exports = refl; entries = refl; next = refl; embargoes = refl }
with_mark_marks s (caps.Promise p) embargo = record { values = refl; exports = refl; entries = refl; next = refl; embargoes = refl }
with_mark_marks s (caps.Broken x) embargo = record { values = refl; exports = refl; entries = refl; next = refl; embargoes = refl }

pub marked_marks : (s mid : State) (cap : Cap) (o : Option (Option ℕ)) → Ok mid ≡ marked s cap o → Marks s mid
marked_marks s mid cap (Some embargo) is = rw (ok_in _ _ is) (record { values = refl; exports = refl; entries = refl; next = refl; embargoes = refl })
marked_marks s mid cap None is = by (has_mark_capacity s cap) is
  where
    by : (b : Bool) → Ok mid ≡ cond b (Ok (with_mark s cap None)) (Err faults.TableFull) → Marks s mid
    by true e = rw (ok_in _ _ e) (with_mark_marks s cap None)
    by false e = ok_out e

pub marks_grow : {s new : State} → Marks s new → Grown s [] new
marks_grow {s = s} {new = new} h = same_grows s new h.values h.exports h.entries h.next h.embargoes

-- A call that is the first after those that were sent: its embargo is new, and its loop is sent.
loop_of : (n m : ℕ) (cap : Cap) (embargoes : Table Cap) (value : Cap) (b : Bool) → (n == m) ≡ b → get embargoes n ≡ None
    → one_if (is_some (get (insert embargoes n value) m))
    ≡ one_if (is_some (get embargoes m)) + count_by (is_loop m) (messages_sent (disembargo_of n cap ∷ []))
loop_of n m cap embargoes value true t none =
    let there : get embargoes m ≡ None = rw (← is_equal n m t) none in
    rw (put_at embargoes n m value true t, there, t) (omega arith)
loop_of n m cap embargoes value false t none = rw (put_at embargoes n m value false t, t) (omega arith)

pub embargoed_grows : (s : State) (call : PendingCall) (cap value : Cap) (done : Done) → FirstEmbargoed s call cap value (Ok done) → Grown s done.0 done.1
embargoed_grows s call cap value done does =
    let parts = then_out {A = ℕ} {B = Done} (Fresh s.marks.embargoes) _ done does in
    let n = parts.0 in
    let mid : State = record s { marks = record s.marks { embargoes = insert s.marks.embargoes n value } } in
    let marks = with_mark_marks mid cap (Some n) in
    let new : State = held_at (with_mark mid cap (Some n)) call (gates.Embargo n) in
    rw
    (ok_in _ _ parts.2)
    (record {
      places = places_same {old = s} {new = new} marks.values marks.exports;
      refs = refs_same {old = s} {new = new} (ap (λ v. v.imports) marks.values) (ap (λ v. v.questions) marks.values);
      tickets = tickets_same {old = s} {new = new} marks.entries marks.next;
      mails =
          record {
            unfinished = λ h. rw (marks.entries) h;
            quiet = λ h. refl;
            names = λ e p v is at. (refl, tt);
            last = (tt, tt);
          };
      loops =
          record {
            embargoes = λ m. rw (marks.embargoes) (loop_of n m cap s.marks.embargoes value (n == m) refl (free_out s.marks.embargoes n parts.1));
            echoes = λ m. refl;
          };
    })

-- the routes of a reference that is open on the wire
import_route : (values : ValueMaps) (i n : ℕ) (route : Route) → route_within n values (caps.Import i) ≡ Some route → routes.Import i ≡ route
import_route values i zero route is = none_out is
import_route values i (suc n) route is = some_out is

pipe_route : (values : ValueMaps) (r : ℕ) (path : List ℕ) (n : ℕ) (route : Route) → get values.questions r ≡ Some (record { kind = kinds.Wire; outcome = None })
    → route_within n values (caps.Pipelined r path) ≡ Some route → routes.Pipe r path ≡ route
pipe_route values r path zero route at is = none_out is
pipe_route values r path (suc n) route at is =
    some_out (sym (ap (λ o. route_by (λ next. route_within n values next) (question_way r path o)) at) ∙ is)

pub wire_at : (path : List ℕ) (o : Option QuestionState) → question_reference path o ≡ on_wire → o ≡ Some (record { kind = kinds.Wire; outcome = None })
wire_at path None is = absurd (cc)
wire_at path (Some question) is = by question.kind question.outcome is
  where
    by : (kind : QuestionKind) (o : Option Outcome) → path_reference path kind o ≡ on_wire
        → ◌≡◌ {A = Option QuestionState} (Some (record { kind = kind; outcome = o })) (Some (record { kind = kinds.Wire; outcome = None }))
    by kinds.Wire None is = refl
    by kinds.Local None is = absurd (cc)
    by kinds.Wire (Some x) is = absurd (cc)
    by kinds.Local (Some x) is = absurd (cc)

never_wired : {A : Type 0} → plain ≡ on_wire → A
never_wired is = absurd (cc)

-- the application's call, from where its question was opened
module _ (s : State) (q : ℕ) (request : Request) (one : AreOne s) where
  local_may : MayGive (called s q kinds.Local) (origins.Own q)
  local_may question is =
      let same = some_out (sym (put_at s.values.questions q q (record { kind = kinds.Local; outcome = None }) true (is_itself q)) ∙ is) in
      (ap (λ (x : QuestionState). x.outcome) (sym same), ap (λ (x : QuestionState). is_wire_kind x.kind) (sym same))

  wire_question : (r : ℕ) (b : Bool) → (q == r) ≡ b → get s.values.questions r ≡ Some (record { kind = kinds.Wire; outcome = None })
      → get (called s q kinds.Wire).values.questions r ≡ Some (record { kind = kinds.Wire; outcome = None })
  wire_question r true t is = put_at s.values.questions q r (record { kind = kinds.Wire; outcome = None }) true t
  wire_question r false t is = put_at s.values.questions q r (record { kind = kinds.Wire; outcome = None }) false t ∙ is

  wire_may : (mid : State) (cap : Cap) (route : Route) → Marks (called s q kinds.Wire) mid → reference_of s.values cap ≡ on_wire → Routes mid.values cap route
      → MayFail mid (origins.Own q) route
  wire_may mid (caps.Import i) route marks is routed = rw (← import_route mid.values i routed.0 route routed.1) tt
  wire_may mid (caps.Pipelined r path) route marks is routed =
      let there = wire_question r (q == r) refl (wire_at path (get s.values.questions r) is) in
      let at : get mid.values.questions r ≡ Some (record { kind = kinds.Wire; outcome = None }) = ap (λ v. get v.questions r) marks.values ∙ there in
      rw (← pipe_route mid.values r path routed.0 route at routed.1) tt
  wire_may mid caps.None route marks is routed = never_wired is
  wire_may mid (caps.Object k) route marks is routed = never_wired is
  wire_may mid (caps.Promise p) route marks is routed = never_wired is
  wire_may mid (caps.Broken x) route marks is routed = never_wired is

  -- it grows from there
  abbrev FromCalled : Done → Type 0
  FromCalled done = (kind : QuestionKind) × Grown (called s q kind) done.0 done.1

  local_goes : (cap : Cap) (done : Done) → GoTo (called s q kinds.Local) (own_call s q request) cap (Ok done) → FromCalled done
  local_goes cap done goes = (kinds.Local, goes_grow (called s q kinds.Local) (own_call s q request) cap done one local_may goes)

  back_grows : (cap value : Cap) (o : Option (Option ℕ)) (done : Done) → GoBack (called s q kinds.Local) (own_call s q request) cap value o (Ok done) → FromCalled done
  back_grows cap value None done goes = local_goes value done goes
  back_grows cap value (Some None) done goes = (kinds.Local, embargoed_grows (called s q kinds.Local) (own_call s q request) cap value done goes)
  back_grows cap value (Some (Some n)) done goes =
      (kinds.Local, go_grows (called s q kinds.Local) (own_call s q request) (routes.Wait (gates.Embargo n)) done one tt goes)

  value_grows : (cap value : Cap) (done : Done) → GoByValue s q request cap value (Ok done) → FromCalled done
  value_grows cap (caps.Import j) done goes = (kinds.Wire, go_grows (called s q kinds.Wire) (own_call s q request) (routes.Import j) done one tt goes)
  value_grows cap (caps.Object k) done goes = back_grows cap (caps.Object k) (mark_of s cap) done goes
  value_grows cap (caps.Promise p) done goes = back_grows cap (caps.Promise p) (mark_of s cap) done goes
  value_grows cap caps.None done goes = local_goes caps.None done goes
  value_grows cap (caps.Pipelined r path) done goes = local_goes (caps.Pipelined r path) done goes
  value_grows cap (caps.Broken x) done goes = local_goes (caps.Broken x) done goes

  pub from_grows : (cap : Cap) (ref : calling.Standing) (done : Done) → reference_of s.values cap ≡ ref → GoFrom s q request cap ref (Ok done) → FromCalled done
  from_grows cap plain done is goes = local_goes cap done goes
  from_grows cap on_wire done is goes =
      let parts = then_out {A = State} {B = Done} (λ mid. mid ≡ marked (called s q kinds.Wire) cap (mark_of s cap)) _ done goes in
      let marks = marked_marks (called s q kinds.Wire) parts.0 cap (mark_of s cap) parts.1 in
      let one_mid : AreOne parts.0 = rw (marks.exports) one in (
        kinds.Wire,
        grown_both (marks_grow marks)
            (go_grows parts.0 (own_call s q request) parts.2.0 done one_mid (wire_may parts.0 cap parts.2.0 marks is parts.2.1) parts.2.2),
      )
  from_grows cap (came_to value) done is goes = value_grows cap value done goes

pub fresh_value : {s : State} {hand : Option Origin} → Within s hand [] → (q : ℕ) → get s.entries.questions q ≡ None → get s.values.questions q ≡ None
fresh_value {s = s} h q is = by (get s.values.questions q) (rw is at (h.questions_valued q))
  where
    by : (o : Option QuestionState) → QuestionIs None o → o ≡ None
    by None valued = refl
    by (Some question) valued = absurd valued

pub call_moved : (s : State) (cap : Cap) (request : Request) (done : OwnDone) → Within s None [] → DoCall s cap request (Ok done)
    → (q : ℕ) × (kind : QuestionKind) × (get s.entries.questions q ≡ None) × Grown (called s q kind) done.1 done.2
call_moved s cap request done h does =
    let opens = or_full_out _ _ (unless_out {A = OwnDone} {F = VatFault} (call_refusals s cap request) _ done does) in
    let first = then_out {A = ℕ} {B = OwnDone} (Fresh s.entries.questions) _ done opens in
    let goes = then_out {A = Done} {B = OwnDone} (GoFrom s first.0 request cap (reference_of s.values cap)) _ done first.2 in
    let on = from_grows s first.0 request h.one_export cap (reference_of s.values cap) goes.0 refl goes.1 in
    rw (ok_in _ _ goes.2) (first.0, on.0, free_out s.entries.questions first.0 first.1, on.1)

-- a Bootstrap that is asked for
bootstrap_tickets : (s : State) (q : ℕ) → TicketsStay s (asked s q kinds.Wire None true)
bootstrap_tickets s q = record { next = refl; bears = bears_by }
  where
    own_by : (r ticket : ℕ) (entry : Exchange QuestionEntry) → entry.kept.ticket ≡ Some ticket → entry.kept.forwards ≡ None
        → ((q ≡ r) × (entry.kept.ticket ≡ None)) ⊎ (get s.entries.questions r ≡ Some entry)
        → BearsTicket s (origins.Own r) ticket
    own_by r ticket entry is own (inl new) = none_out (sym new.1 ∙ is)
    own_by r ticket entry is own (inr old) = (entry, old, is, own)

    bears_by : (origin : Origin) (ticket : ℕ) → BearsTicket (asked s q kinds.Wire None true) origin ticket → BearsTicket s origin ticket
    bears_by (origins.Answer a) ticket is = is
    bears_by (origins.Own r) ticket is = own_by r ticket is.0 is.2 is.3 (asked_questions s q kinds.Wire None true r is.0 is.1)

asked_wired : (s : State) (q : ℕ) (kind : QuestionKind) (ticket : Option ℕ) (is_sent : Bool) → RefsStay s (asked s q kind ticket is_sent)
asked_wired s q kind ticket is_sent =
    record {
      imports = λ i value is. is;
      unresolved = λ i value is. is;
      wired = λ r question o is given_ wire. by r question o given_ (put_cases s.values.questions q r (record { kind = kind; outcome = None }) question is);
    }
  where
    by : (r : ℕ) (question : QuestionState) (o : Outcome) → question.outcome ≡ Some o
        → ((q ≡ r) × (record { kind = kind; outcome = None } ≡ question)) ⊎ (((q == r) ≡ false) × (get s.values.questions r ≡ Some question))
        → get s.values.questions r ≡ Some question
    by r question o given_ (inl new) = none_out (ap (λ (x : QuestionState). x.outcome) new.1 ∙ given_)
    by r question o given_ (inr old) = old.1

bootstrap_grows : (s : State) (done : OwnDone) → Within s None [] → DoBootstrap s (Ok done) → Grown s done.1 done.2
bootstrap_grows s done h does =
    let parts = then_out {A = ℕ} {B = OwnDone} (Fresh s.entries.questions) _ done (or_full_out _ _ does) in
    let q = parts.0 in
    let mails = asked_mails s q kinds.Wire None true in
    rw
    (ok_in _ _ parts.2)
    (record {
      places = asked_places s q kinds.Wire None true (fresh_value h q (free_out s.entries.questions q parts.1));
      refs = asked_wired s q kinds.Wire None true;
      tickets = bootstrap_tickets s q;
      mails =
          record {
            unfinished = mails.unfinished;
            quiet = λ n. refl;
            names = λ e p v is at. (refl, tt);
            last = (tt, tt);
          };
      loops = no_loop refl (λ n. refl) (λ n. refl);
    })

-- a promise that is made
promise_grows : (s : State) (p : ℕ) → get s.values.promises p ≡ None → Grown s [] (promise_made s p)
promise_grows s p fresh =
    record {
      places =
          record {
            ways = record { promises = λ r value is. by r value (p == r) refl is; questions = λ r question o is given_. is };
            answers = λ a o is. is;
            exports = λ e cap is. is;
            one_export = λ is. is;
          };
      refs = refs_same refl refl;
      tickets = record { next = refl; bears = bears_by };
      mails = no_mail refl (λ h. h);
      loops = silent refl refl;
    }
  where
    by : (r : ℕ) (value : Cap) (b : Bool) → (p == r) ≡ b → get s.values.promises r ≡ Some (Some value) → get (insert s.values.promises p None) r ≡ Some (Some value)
    by r value true t is =
        let here : get s.values.promises p ≡ Some (Some value) = rw (is_equal p r t) is in
        none_out (sym fresh ∙ here)
    by r value false t is = put_at s.values.promises p r None false t ∙ is

    bears_by : (origin : Origin) (ticket : ℕ) → BearsTicket (promise_made s p) origin ticket → BearsTicket s origin ticket
    bears_by (origins.Answer a) ticket is = is
    bears_by (origins.Own q) ticket is = is

both_first : (a b : Bool) → (a && b) ≡ true → a ≡ true
both_first true b is = refl
both_first false b is = absurd (true≢false (sym is))

unsettled_is : (o : Option (Option Cap)) → is_some o ≡ true → is_settled o ≡ false → o ≡ Some None
unsettled_is None there unset = absurd (true≢false (sym there))
unsettled_is (Some None) there unset = refl
unsettled_is (Some (Some v)) there unset = absurd (true≢false unset)

-- what the application answers
module _ {s : State} (h : Within s None []) where
  answer_may : (a : ℕ) (o : Option (Exchange AnswerEntry)) → get s.entries.answers a ≡ o → is_ungiven_answer o ≡ true → MayGive s (origins.Answer a)
  answer_may a None was is = absurd (true≢false (sym is))
  answer_may a (Some entry) was is =
      (λ o at. not_given h a entry o was (open_by entry.kept.is_delivered entry.stage is) at, λ other at. tied_open h a other at)
    where
      open_by : (is_delivered : Bool) (stage : Stage) → is_ungiven is_delivered stage ≡ true → IsTrue (is_open_stage stage)
      open_by is_delivered stages.Open e = refl
      open_by is_delivered stages.Finished e = refl
      open_by is_delivered stages.Returned e = absurd (true≢false (sym e))

  ungiven_parts : (is_delivered : Bool) (stage : Stage) → is_ungiven is_delivered stage ≡ true → IsTrue (is_open_stage stage) × (is_delivered ≡ true)
  ungiven_parts is_delivered stages.Open e = (refl, e)
  ungiven_parts is_delivered stages.Finished e = (refl, e)
  ungiven_parts is_delivered stages.Returned e = absurd (true≢false (sym e))

  kind_here : (q : ℕ) (entry : Exchange QuestionEntry) (question : QuestionState) (b : Bool) → is_wire_kind question.kind ≡ b → get s.entries.questions q ≡ Some entry
      → get s.values.questions q ≡ Some question → entry.kept.is_delivered ≡ true → is_wire_kind question.kind ≡ false
  kind_here q entry question true wire was at went =
      let on : is_wire (get s.values.questions q) ≡ true = rw (at) wire in
      let sent_ = there_of (λ (e : Exchange QuestionEntry). is_in_hand None (origins.Own q) ≡ false → IsSentIf (is_wire (get s.values.questions q)) e.kept)
      (get s.entries.questions q) entry was (h.wire q) refl in
      let both : (entry.kept.is_sent ≡ true) × (entry.kept.is_delivered ≡ false) = rw on at sent_ in
      absurd (true≢false (sym went ∙ both.1))
  kind_here q entry question false wire was at went = wire

  question_may : (q : ℕ) (o : Option (Exchange QuestionEntry)) → get s.entries.questions q ≡ o → is_ungiven_question o ≡ true → MayGive s (origins.Own q)
  question_may q None was is = absurd (true≢false (sym is))
  question_may q (Some entry) was is =
      let parts = ungiven_parts entry.kept.is_delivered entry.stage is in
      λ question at. (no_outcome h q entry question was parts.0 at, kind_here q entry question (is_wire_kind question.kind) refl was at parts.1)

  pub awaited_may : (origin : Origin) → awaits s origin ≡ true → MayGive s origin
  awaited_may (origins.Answer a) is = answer_may a (get s.entries.answers a) refl is
  awaited_may (origins.Own q) is = question_may q (get s.entries.questions q) refl is

  pub awaited : (origin : Origin) (outcome : Outcome) → answer_refusals s origin outcome ≡ [] → awaits s origin ≡ true
  awaited origin outcome none =
      let table : List Cap = caps_of outcome in
      let four = front_empty _ (fault_if (not_all (has_import s) table) refusals.UnknownImport) none in
      let three = front_empty _ (fault_if (not (outcome_fits outcome)) refusals.TooLarge) four in
      let two = front_empty _ (fault_if (list_any is_pipelined table) refusals.Unsettled) three in
      let one = front_empty (fault_if (not (awaits s origin && not (not_all (has_question s) table))) refusals.UnknownQuestion)
      (fault_if (not_all (has_promise s) table) refusals.UnknownPromise) two in
      both_first (awaits s origin) (not (not_all (has_question s) table)) (not_false _ (not_met _ refusals.UnknownQuestion one))

  answers_grow : (origin : Origin) (outcome : Outcome) (done : OwnDone) → DoAnswer s origin outcome (Ok done) → Grown s done.1 done.2
  answers_grow origin outcome done does =
      let Rule : Result OwnDone VatFault → Type 0 = OrFull (Quietly (Give s origin outcome)) in
      let rule = or_full_out (Quietly (Give s origin outcome)) done (unless_out {A = OwnDone} {F = VatFault} (answer_refusals s origin outcome) Rule done does) in
      let none = no_faults {A = OwnDone} {F = VatFault} (answer_refusals s origin outcome) Rule done does in
      let parts = then_out {A = Done} {B = OwnDone} (Give s origin outcome) _ done rule in
      rw (ok_in _ _ parts.2) (give_grows s origin outcome parts.0 h.one_export (awaited_may origin (awaited origin outcome none)) parts.1)

  -- a promise of the application's is settled
  resolves_grow : (p : ℕ) (cap : Cap) (done : OwnDone) → get s.values.promises p ≡ Some None → Resolves s p cap (Ok done) → Grown s done.1 done.2
  resolves_grow p cap done open_ (inl cycle) = ok_out cycle.1
  resolves_grow p cap done open_ (inr does) =
      let Rule : Result OwnDone VatFault → Type 0 = OrFull (Quietly (Settle s p cap)) in
      let rule = or_full_out (Quietly (Settle s p cap)) done (unless_out {A = OwnDone} {F = VatFault} (value_refusals s cap) Rule done does.1) in
      let parts = then_out {A = Done} {B = OwnDone} (Settle s p cap) _ done rule in
      rw (ok_in _ _ parts.2) (settle_grows s p cap parts.0 h.one_export open_ parts.1).grown

  resolve_grows : (p : ℕ) (cap : Cap) (done : OwnDone) → DoResolve s p cap (Ok done) → Grown s done.1 done.2
  resolve_grows p cap done does =
      let rule = unless_out {A = OwnDone} {F = VatFault} (resolve_refusals s p cap) (Resolves s p cap) done does in
      let none = no_faults {A = OwnDone} {F = VatFault} (resolve_refusals s p cap) (Resolves s p cap) done does in
      let two = front_empty _ (fault_if (is_settled (get s.values.promises p)) refusals.AlreadyResolved) none in
      let unset = not_met _ refusals.AlreadyResolved (back_empty _ (fault_if (is_settled (get s.values.promises p)) refusals.AlreadyResolved) none) in
      let own = both_first (is_made s p) (has_promise s cap)
      (not_false _ (not_met _ refusals.UnknownPromise (back_empty _ (fault_if (not (is_made s p && has_promise s cap)) refusals.UnknownPromise) two))) in
      resolves_grow p cap done (unsettled_is (get s.values.promises p) (h.owned p own) unset) rule

  promise_made_grows : (done : OwnDone) → DoPromise s (Ok done) → Grown s done.1 done.2
  promise_made_grows done does =
      let parts = then_out {A = ℕ} {B = OwnDone} (Fresh s.values.promises) _ done (or_full_out _ _ does) in
      rw (ok_in _ _ parts.2) (promise_grows s parts.0 (free_out s.values.promises parts.0 parts.1))

-- a call of the application's that opens a question, and all that follows
pub call_is_moved : {s : State} (q : ℕ) (kind : QuestionKind) (effects : List Effect) (new : State) → get s.values.questions q ≡ None
    → Grown (called s q kind) effects new → Moved [] s effects new
call_is_moved {s = s} q kind effects new fresh grown =
    let places = asked_places s q kind (Some s.next_ticket) false fresh in
    let asked_ : PlacesStay s (called s q kind) =
    record { ways = places.ways; answers = places.answers; exports = places.exports; one_export = places.one_export } in
    let sent_ = asked_mails s q kind (Some s.next_ticket) false in
    let mails : Mails s [] (called s q kind) = record { unfinished = sent_.unfinished; quiet = sent_.quiet; names = sent_.names; last = sent_.last } in
    let both = places_both asked_ grown.places in
    record {
      ways = both.ways;
      exports = both.exports;
      mails = mails_both asked_ grown.places mails grown.mails;
      tickets = move_stay (inr (origins.Own q, called_tickets s q kind)) grown.tickets;
      loops = record { embargoes = λ n. omega (arith, grown.loops.embargoes n); echoes = grown.loops.echoes };
    }

-- All of the application's calls but those that finish, release or forget.
pub does_moved : (s : State) (event : Event) (done : OwnDone) → Within s None [] → IsStill event → Does s event (Ok done) → Moved [] s done.1 done.2
does_moved s (events.Receive m) done h still does = absurd does
does_moved s events.Bootstrap done h still does = grown_moved (bootstrap_grows s done h does)
does_moved s (events.Call cap request) done h still does =
    let call = call_moved s cap request done h does in
    call_is_moved call.0 call.1 done.1 done.2 (fresh_value h call.0 call.2) call.3
does_moved s (events.Answer origin outcome) done h still does = grown_moved (answers_grow h origin outcome done does)
does_moved s events.Promise done h still does = grown_moved (promise_made_grows h done does)
does_moved s (events.Resolve p cap) done h still does = grown_moved (resolve_grows h p cap done does)
does_moved s (events.Finish q) done h still does = absurd still
does_moved s (events.Release i) done h still does = absurd still
does_moved s (events.Forget p) done h still does = absurd still
does_moved s events.Idle done h still does = rw (ok_in _ _ does) (grown_moved (grown_none s))

-- What follows, and a message that is no loop and no echo.
pub moved_then : {arrived : List Message} {old mid new : State} {first more : List Effect} → Moved arrived old first mid → Grown mid more new
    → Moved arrived old (first ++ more) new
moved_then {arrived = arrived} {old = old} {mid = mid} {new = new} {first = first} {more = more} one two =
    record {
      ways = ways_both one.ways two.places.ways;
      exports = λ e cap is. two.places.exports e cap (one.exports e cap is);
      mails = moved_mails one.mails one.ways one.exports two.places two.mails;
      tickets = move_stay one.tickets two.tickets;
      loops =
          record {
            embargoes = λ n.
                rw
                (sent_both first more)
                (omega (arith, one.loops.embargoes n, two.loops.embargoes n, count_more (is_loop n) (messages_sent first) (messages_sent more)));
            echoes = λ n.
                rw (sent_both first more) (omega (arith, one.loops.echoes n, two.loops.echoes n, count_more (is_echo n) (messages_sent first) (messages_sent more)));
          };
    }

pub arrives : {old new : State} {effects : List Effect} (m : Message) → ((n : ℕ) → count_by (is_echo n) (m ∷ []) ≡ 0) → ((n : ℕ) → count_by (is_loop n) (m ∷ []) ≡ 0)
    → Moved [] old effects new → Moved (m ∷ []) old effects new
arrives m echo loop h =
    record {
      ways = h.ways;
      exports = h.exports;
      mails = h.mails;
      tickets = h.tickets;
      loops = record { embargoes = λ n. omega (arith, h.loops.embargoes n, echo n); echoes = λ n. omega (arith, h.loops.echoes n, loop n) };
    }
