-- What messages that come keep, where none of them gives anything up, and what is sent then.
use Rattle.std.specs.Prelude.{◌≡◌, ◌⊎◌, refl, ℕ, ◌+◌, ◌==◌, not, ltb, if◌then◌else◌, Bool, true, false, List, [], ◌∷◌, ◌++◌, Option, Some, None, is_some, IsTrue, Ok, Err}
use Rattle.std.specs.List.{count_by}
use Rattle.std.specs.FinMap.{get, insert, remove}
use Rattle.std.proofs.Common.{inl, inr, arith, ap, sym, ◌∙◌, true≢false}
use Rattle.cp_tables.specs.Table.{Table}
use Rattle.cp_tables.specs.Counted.{new_counted}
use Rattle.cp_tables.specs.Exchange.{with_stage}
use Rattle.cp_tables.specs.declared.counted.Counted.{Counted}
use Rattle.cp_tables.specs.declared.exchange.Exchange.{Exchange}
use Rattle.cp_tables.specs.declared.exchange.Stage.{Stage}
use Rattle.cp_tables.specs.declared.exchange.Stage.TheVariants as stages
use Rattle.cp_messages.specs.declared.call.Call.{Call}
use Rattle.cp_messages.specs.declared.descriptor.Descriptor.{Descriptor}
use Rattle.cp_messages.specs.declared.descriptor.Descriptor.TheVariants as descriptors
use Rattle.cp_messages.specs.declared.disembargo.DisembargoContext.{DisembargoContext}
use Rattle.cp_messages.specs.declared.disembargo.DisembargoContext.TheVariants as contexts
use Rattle.cp_messages.specs.declared.message.Message.{Message}
use Rattle.cp_messages.specs.declared.message.Message.TheVariants as messages
use Rattle.cp_messages.specs.declared.resolve.Resolution.{Resolution}
use Rattle.cp_messages.specs.declared.resolve.Resolution.TheVariants as resolutions
use Rattle.cp_messages.specs.declared.resolve.Resolve.{Resolve}
use Rattle.cp_messages.specs.declared.returned.Return.{Return}
use Rattle.cp_messages.specs.declared.returned.Returned.{Returned}
use Rattle.cp_messages.specs.declared.returned.Returned.TheVariants as returns
use Rattle.cp_messages.specs.declared.small.Finish.{Finish}
use Rattle.cp_messages.specs.declared.target.Target.{Target}
use Rattle.cp_messages.specs.declared.target.Target.TheVariants as targets
use Rattle.cp_refs.specs.At.{cap_at}
use Rattle.cp_refs.specs.declared.cap.Cap.{Cap}
use Rattle.cp_refs.specs.declared.cap.Cap.TheVariants as caps
use Rattle.cp_refs.specs.declared.call.Origin.{Origin}
use Rattle.cp_refs.specs.declared.call.Origin.TheVariants as origins
use Rattle.cp_refs.specs.declared.outcome.Outcome.{Outcome}
use Rattle.cp_refs.specs.declared.route.Gate.TheVariants as gates
use Rattle.cp_refs.specs.declared.route.Route.TheVariants as routes
use Rattle.cp_refs.specs.declared.values.QuestionState.{QuestionState}
use Rattle.cp_vat_machine.specs.State.{State, none_over, with_exports, with_answers}
use Rattle.cp_vat_machine.specs.Then.{Done, Then, fault_if}
use Rattle.cp_vat_machine.specs.Capacity.{has_capacity, Fresh, message_fits}
use Rattle.cp_vat_machine.specs.Supported.{is_supported}
use Rattle.cp_vat_machine.specs.Receiving.{answer_of, path_of, held_once_more, held_import, tie, tied, ReceivesAnswer, taken_export, ReceivesCap, ReceivesCaps, release_exports}
use Rattle.cp_vat_machine.specs.Give.{GiveAnswer, GiveOwn, GiveOwnBy, question_settled, without_question}
use Rattle.cp_vat_machine.specs.Go.{PendingCall, finish_of}
use Rattle.cp_vat_machine.specs.Answering.{with_answer, bootstrap_outcome, is_answering, OnBootstrap, GoToExport, GoToAnswer, GoToTarget, peer_call, entered, call_faults, OnCall, without_answer, AtStage, FinishedBy, target_faults}
use Rattle.cp_vat_machine.specs.Asking.{ReceivesReturned, Settles, ReturnBy, is_asked, ReturnOf}
use Rattle.cp_vat_machine.specs.Resolving.{is_open_promise, TakeResolution, resolved, ResolveOf, echo_to, EchoesExport, EchoesAnswer, EchoesTarget, ended_by, OnDisembargo}
use Rattle.cp_vat_machine.specs.Step.{On, ReceivesIf, Receives}
use Rattle.cp_vat_machine.specs.Local.{AreOne, one_if, is_open_stage, ForwardsRightly, IsTicketOf}
use Rattle.cp_vat_machine.specs.declared.effect.Effect.{Effect}
use Rattle.cp_vat_machine.specs.declared.effect.Effect.TheVariants as effects
use Rattle.cp_vat_machine.specs.declared.entry.AnswerEntry.{AnswerEntry}
use Rattle.cp_vat_machine.specs.declared.entry.ImportKind.{ImportKind}
use Rattle.cp_vat_machine.specs.declared.entry.ImportKind.TheVariants as kinds
use Rattle.cp_vat_machine.specs.declared.entry.QuestionEntry.{QuestionEntry}
use Rattle.cp_vat_machine.specs.declared.fault.PeerFault.{PeerFault}
use Rattle.cp_vat_machine.specs.declared.fault.PeerFault.TheVariants as faults
use Rattle.cp_vat_machine.proofs.Basics.{some_out, none_out, ok_in, ok_out, then_out, unless_out, is_equal, is_itself, put_at, gone_at}
use Rattle.cp_vat_laws.specs.Within.{Within}
use Rattle.cp_vat_laws.proofs.Tables.{there_of, put_cases, gone_cases}
use Rattle.cp_vat_laws.proofs.within.Follows.{forwards_open}
use Rattle.cp_vat_laws.proofs.within.Take.{Grows, grows_not, take_keeps, take_all_keeps}
use Rattle.cp_vat_pair_laws.specs.Accounts.{is_finish_noted}
use Rattle.cp_vat_pair_laws.specs.Naming.{is_echo}
use Rattle.cp_vat_pair_laws.specs.Phases.{gives_up}
use Rattle.cp_vat_pair_laws.specs.Lives.{IsUsual}
use Rattle.cp_vat_pair_laws.specs.Places.{NoneFinished}
use Rattle.cp_vat_pair_laws.specs.Tickets.{BearsTicket}
use Rattle.cp_vat_pair_laws.proofs.still.Grows.{PlacesStay, TicketsStay, Mails, Grown, grown_both, ways_both, ways_same, places_same, refs_same, tickets_same, no_mail, no_loop}
use Rattle.cp_vat_pair_laws.proofs.still.Give.{changed_cases, tickets_by, SameAnswers, answers_as_were, MayGive, open_same, answer_grows, outcome_places, outcome_tickets, outcome_mails, left_grows}
use Rattle.cp_vat_pair_laws.proofs.still.Go.{go_grows, goes_grow, not_given, no_outcome, tied_open}
use Rattle.cp_vat_pair_laws.proofs.still.Does.{OneMore, stay_move, Moved, grown_moved, moved_then, arrives}

-- What is taken in ties promises to answers, which bear the tickets that they bore.
import_answers : (old : State) (i : ℕ) (kind : ImportKind) (o : Option (Counted ImportKind)) (new : State) → Ok new ≡ held_once_more old i kind o
    → new.entries ≡ old.entries
import_answers old i kind (Some entry) new is = by (ltb entry.count 4294967295) is
  where
    by : (b : Bool)
        → Ok new
        ≡ (if b then Ok (record old { counts = record old.counts { imports = insert old.counts.imports i (record entry { count = entry.count + 1 }) } })
        else Err faults.TableFull)
        → new.entries ≡ old.entries
    by true is = ap (λ (s : State). s.entries) (ok_in _ _ is)
    by false is = ok_out is
import_answers old i kind None new is = by (has_capacity old.counts.imports) is
  where
    by : (b : Bool)
        → Ok new
        ≡ (if b then Ok (
        record old {
          counts = record old.counts { imports = insert old.counts.imports i (new_counted kind) };
          values = record old.values { imports = insert old.values.imports i None };
        }
        ) else Err faults.TableFull)
        → new.entries ≡ old.entries
    by true is = ap (λ (s : State). s.entries) (ok_in _ _ is)
    by false is = ok_out is

answers_same : (old new : State) → new.entries ≡ old.entries → SameAnswers old new
answers_same old new same a entry is = (entry, sym (ap (λ e. get e.answers a) same) ∙ is, refl)

tied_answers : (s : State) (a : ℕ) (path : List ℕ) (p : ℕ) → SameAnswers s (tied s a path p)
tied_answers s a path p b entry is =
    let found = changed_cases s.entries.answers a b (λ x. record x { kept = tie p path x.kept }) entry is in
    (found.0, found.1, by found.0 entry found.2)
  where
    by : (x y : Exchange AnswerEntry) → (y ≡ x) ⊎ (y ≡ record x { kept = tie p path x.kept }) → y.kept.ticket ≡ x.kept.ticket
    by x y (inl e) = ap (λ (z : Exchange AnswerEntry). z.kept.ticket) e
    by x y (inr e) = ap (λ (z : Exchange AnswerEntry). z.kept.ticket) e

held_answers : (old : State) (i : ℕ) (kind : ImportKind) (taken : Cap × State)
    → Then (λ held. held ≡ held_import old i kind) (λ new out. out ≡ Ok (caps.Import i, new)) (Ok taken) → SameAnswers old taken.1
held_answers old i kind taken is =
    let parts = then_out {A = State} {B = Cap × State} (λ held. held ≡ held_import old i kind) _ taken is in
    rw (ok_in _ _ parts.2) (answers_same old parts.0 (import_answers old i kind (get old.counts.imports i) parts.0 parts.1))

answered_answers : (old : State) (a : ℕ) (path : List ℕ) (o : Option (Option Outcome)) (taken : Cap × State) → ReceivesAnswer old a path o (Ok taken)
    → SameAnswers old taken.1
answered_answers old a path None taken is = ok_out is
answered_answers old a path (Some (Some outcome)) taken is = rw (ok_in _ _ is) (answers_as_were old)
answered_answers old a path (Some None) taken is =
    let parts = then_out {A = ℕ} {B = Cap × State} (Fresh old.values.promises) _ taken is in
    rw (ok_in _ _ parts.2) (tied_answers old a path parts.0)

exported_answers : (old : State) (o : Option (Counted Cap)) (taken : Cap × State) → Ok taken ≡ taken_export old o → SameAnswers old taken.1
exported_answers old None taken is = ok_out is
exported_answers old (Some entry) taken is = rw (ok_in _ _ is) (answers_as_were old)

pub take_answers : (old : State) (d : Descriptor) (taken : Cap × State) → ReceivesCap old d (Ok taken) → SameAnswers old taken.1
take_answers old descriptors.None taken is = rw (ok_in _ _ is) (answers_as_were old)
take_answers old (descriptors.SenderHosted i) taken is = held_answers old i kinds.Hosted taken is
take_answers old (descriptors.SenderPromise i) taken is = held_answers old i kinds.Promise taken is
take_answers old (descriptors.ReceiverHosted e) taken is = exported_answers old (get old.counts.exports e) taken is
take_answers old (descriptors.ReceiverAnswer answer) taken is =
    answered_answers old answer.question_id (path_of answer.transform) (answer_of old answer.question_id) taken is
take_answers old (descriptors.ThirdPartyHosted t) taken is = absurd is
take_answers old (descriptors.Unknown n) taken is = absurd is

pub answers_both : (old mid new : State) → SameAnswers old mid → SameAnswers mid new → SameAnswers old new
answers_both old mid new one more a entry is =
    let last = more a entry is in
    let first = one a last.0 last.1 in
    (first.0, first.1, last.2 ∙ first.2)

pub take_all_answers : (table : List Descriptor) (old : State) (taken : List Cap × State) → ReceivesCaps old table (Ok taken) → SameAnswers old taken.1
take_all_answers [] old taken is = rw (ok_in _ _ is) (answers_as_were old)
take_all_answers (d ∷ table) old taken is =
    let first = then_out {A = Cap × State} {B = List Cap × State} (ReceivesCap old d) _ taken is in
    let rest = then_out {A = List Cap × State} {B = List Cap × State} (ReceivesCaps first.0.1 table) _ taken first.2 in
    rw (ok_in _ _ rest.2) (answers_both old first.0.1 rest.0.1 (take_answers old d first.0 first.1) (take_all_answers table first.0.1 rest.0 rest.1))

-- what is taken in keeps
pub taken_places : {old new : State} → Grows old new → PlacesStay old new
taken_places h =
    record {
      ways = record { promises = λ p value is. h.promises p (Some value) is; questions = λ q question outcome is given_. rw (h.questions) is };
      answers = λ a outcome is. rw (h.answers) is;
      exports = λ e cap is. rw (h.exports) is;
      one_export = λ is. rw (h.exports) is;
    }

pub taken_tickets : {old new : State} → Grows old new → SameAnswers old new → TicketsStay old new
taken_tickets {old = old} {new = new} h answers =
    tickets_by h.tickets answers (λ q entry is own. (entry, sym (ap (λ m. get m q) h.asked) ∙ is, refl, own))

taken_mails : {old new : State} → Grows old new → Mails old [] new
taken_mails h = no_mail refl (λ none. rw (h.asked) none)

pub taken_moved : {old new : State} → Grows old new → SameAnswers old new → Moved [] old [] new
taken_moved h answers =
    let places = taken_places h in
    record {
      ways = places.ways;
      exports = places.exports;
      mails = taken_mails h;
      tickets = inl (taken_tickets h answers);
      loops = record { embargoes = λ n. rw (h.marks) (omega arith); echoes = λ n. refl };
    }

-- A Call and a Bootstrap open an answer.
module _ (s : State) (a : ℕ) (ticket : Option ℕ) where
  abbrev opened_state : State
  opened_state = with_answer s a ticket

  opened_answers : (b : ℕ) (entry : Exchange AnswerEntry) → get opened_state.entries.answers b ≡ Some entry
      → ((a ≡ b) × (entry.kept.ticket ≡ ticket)) ⊎ (get s.entries.answers b ≡ Some entry)
  opened_answers b entry is =
      elim (put_cases s.entries.answers a b _ entry is) [
        | inl new ↦ inl (new.0, ap (λ (x : Exchange AnswerEntry). x.kept.ticket) (sym new.1))
        | inr old ↦ inr old.1
      ]

  -- its own call may be given an outcome
  pub opened_may : MayGive opened_state (origins.Answer a)
  opened_may = (
    λ o is. none_out (some_out (sym (put_at s.values.answers a a None true (is_itself a)) ∙ is)),
    λ entry is.
        let same = some_out (sym (put_at s.entries.answers a a _ true (is_itself a)) ∙ is) in
        rw (← ap (λ (x : Exchange AnswerEntry). x.kept.tied) same) tt,
  )

entered_tickets : (s : State) (a : ℕ) → OneMore s (entered s a) (origins.Answer a)
entered_tickets s a = record { next = refl; bears = bears_by }
  where
    answer_by : (b ticket : ℕ) (entry : Exchange AnswerEntry) → entry.kept.ticket ≡ Some ticket
        → ((a ≡ b) × (entry.kept.ticket ≡ Some s.next_ticket)) ⊎ (get s.entries.answers b ≡ Some entry)
        → BearsTicket s (origins.Answer b) ticket ⊎ ((origins.Answer b ≡ origins.Answer a) × (ticket ≡ s.next_ticket))
    answer_by b ticket entry is (inl new) = inr (ap (λ x. origins.Answer x) (sym new.0), some_out (sym is ∙ new.1))
    answer_by b ticket entry is (inr old) = inl (entry, old, is)

    bears_by : (origin : Origin) (ticket : ℕ) → BearsTicket (entered s a) origin ticket
        → BearsTicket s origin ticket ⊎ ((origin ≡ origins.Answer a) × (ticket ≡ s.next_ticket))
    bears_by (origins.Answer b) ticket is = answer_by b ticket is.0 is.2 (opened_answers s a (Some s.next_ticket) b is.0 is.1)
    bears_by (origins.Own q) ticket is = inl is

entered_moved : (s : State) (a : ℕ) → Moved [] s [] (entered s a)
entered_moved s a =
    record {
      ways = ways_same refl refl;
      exports = λ e cap is. is;
      mails = no_mail refl (λ h. h);
      tickets = inr (origins.Answer a, entered_tickets s a);
      loops = record { embargoes = λ n. omega arith; echoes = λ n. refl };
    }

bootstrap_opened : (s : State) (a : ℕ) → TicketsStay s (with_answer s a None)
bootstrap_opened s a = record { next = refl; bears = bears_by }
  where
    answer_by : (b ticket : ℕ) (entry : Exchange AnswerEntry) → entry.kept.ticket ≡ Some ticket
        → ((a ≡ b) × (entry.kept.ticket ≡ None)) ⊎ (get s.entries.answers b ≡ Some entry) → BearsTicket s (origins.Answer b) ticket
    answer_by b ticket entry is (inl new) = none_out (sym new.1 ∙ is)
    answer_by b ticket entry is (inr old) = (entry, old, is)

    bears_by : (origin : Origin) (ticket : ℕ) → BearsTicket (with_answer s a None) origin ticket → BearsTicket s origin ticket
    bears_by (origins.Answer b) ticket is = answer_by b ticket is.0 is.2 (opened_answers s a None b is.0 is.1)
    bears_by (origins.Own q) ticket is = is

-- One part of an event before another one.
pub moved_both : {old mid new : State} {effects : List Effect} → Moved [] old [] mid → TicketsStay old mid → Moved [] mid effects new → Moved [] old effects new
moved_both one tickets two =
    record {
      ways = ways_both one.ways two.ways;
      exports = λ e cap is. two.exports e cap (one.exports e cap is);
      mails =
          record {
            unfinished = λ h. two.mails.unfinished (one.mails.unfinished h);
            quiet = λ h. two.mails.quiet (one.mails.unfinished h);
            names = λ e p value is at. two.mails.names e p value (one.exports e (caps.Promise p) is) (one.ways.promises p value at);
            last = two.mails.last;
          };
      tickets = stay_move tickets two.tickets;
      loops = record { embargoes = λ n. omega (arith, one.loops.embargoes n, two.loops.embargoes n); echoes = two.loops.echoes };
    }

-- A call that came goes by its target.
target_grows : (s : State) (call : PendingCall) (target : Target) (done : Done) → AreOne s → MayGive s call.origin → GoToTarget s call target (Ok done)
    → Grown s done.0 done.1
target_grows s call (targets.ImportedCap e) done one may goes = at_export (get s.counts.exports e) goes
  where
    at_export : (o : Option (Counted Cap)) → GoToExport s call o (Ok done) → Grown s done.0 done.1
    at_export None goes = absurd goes
    at_export (Some entry) goes = goes_grow s call entry.kept done one may goes
target_grows s call (targets.PromisedAnswer answer) done one may goes = at_answer (answer_of s answer.question_id) goes
  where
    at_answer : (o : Option (Option Outcome)) → GoToAnswer s call answer.question_id (path_of answer.transform) o (Ok done) → Grown s done.0 done.1
    at_answer None goes = absurd goes
    at_answer (Some None) goes = go_grows s call (routes.Wait (gates.Answer answer.question_id (path_of answer.transform))) done one tt goes
    at_answer (Some (Some outcome)) goes = goes_grow s call (cap_at outcome (path_of answer.transform)) done one may goes
target_grows s call (targets.Unknown n) done one may goes = absurd goes

module _ {s : State} (h : Within s None []) (still : s.waiting.over ≡ none_over) where
  call_moved : (c : Call) (done : Done) → OnCall s c (Ok done) → Moved [] s done.0 done.1
  call_moved c done does =
      let rule = unless_out {A = Done} {F = PeerFault} (call_faults s c) _ done does in
      let taken = then_out {A = List Cap × State} {B = Done} (ReceivesCaps s c.params.cap_table) _ done rule in
      let well = take_all_keeps None [] c.params.cap_table s taken.0 h still taken.1 in
      let answers = take_all_answers c.params.cap_table s taken.0 taken.1 in
      let mid : State = taken.0.1 in
      let may = opened_may mid c.question_id (Some mid.next_ticket) in
      let on = target_grows (entered mid c.question_id) (peer_call mid c taken.0.0) c.target done well.0.one_export (may.0, may.1) taken.2 in
      moved_both (taken_moved well.1 answers) (taken_tickets well.1 answers) (moved_then (entered_moved mid c.question_id) on)

  bootstrap_moved : (a : ℕ) (done : Done) → OnBootstrap s a (Ok done) → Moved [] s done.0 done.1
  bootstrap_moved a done does =
      let mid : State = with_answer s a None in
      let gives = unless_out {A = Done} {F = PeerFault}
      (fault_if (is_answering s a) faults.QuestionInUse ++ fault_if (not (has_capacity s.entries.answers)) faults.TableFull)
      (GiveAnswer mid a (bootstrap_outcome s.bootstrap)) done does in
      let first : Moved [] s [] mid =
      record {
        ways = ways_same refl refl;
        exports = λ e cap is. is;
        mails = no_mail refl (λ n. n);
        tickets = inl (bootstrap_opened s a);
        loops = record { embargoes = λ n. omega arith; echoes = λ n. refl };
      } in
      moved_then first (answer_grows mid a (bootstrap_outcome s.bootstrap) done h.one_export (opened_may s a None) gives)

-- An open question has no outcome, also where it forwards.
module _ {s : State} (h : Within s None []) where
  pub unset : (q : ℕ) (entry : Exchange QuestionEntry) → get s.entries.questions q ≡ Some entry → IsTrue (is_open_stage entry.stage)
      → (question : QuestionState) → get s.values.questions q ≡ Some question → question.outcome ≡ None
  unset q entry is open_ question at = no_outcome h q entry question is open_ at

  -- the answer whose call is forwarded isn't given
  pub forwarded_may : (q a : ℕ) (entry : Exchange QuestionEntry) → get s.entries.questions q ≡ Some entry → entry.kept.forwards ≡ Some a
      → MayGive (without_question s q) (origins.Answer a)
  forwarded_may q a entry is forwards =
      let right = there_of (λ (e : Exchange QuestionEntry). ForwardsRightly s e.kept.forwards e.kept.ticket) (get s.entries.questions q) entry is (h.forwards q) in
      let ticket = forwards_open h a entry.kept.forwards entry.kept.ticket forwards right in
      let whose : IsTicketOf s (origins.Answer a) ticket.0 = ticket.1 in (
        λ o at. not_given h a whose.0 o whose.1 whose.2 at,
        λ other at. open_same s.values (without_question s q).values other.kept.tied refl (tied_open h a other at),
      )

-- A Return of an own question settles it; one of a question that forwards answers its call, after a Finish.
finish_grows : (s : State) (q : ℕ) → Grown s (finish_of q false ∷ []) s
finish_grows s q =
    record {
      places = places_same refl refl;
      refs = refs_same refl refl;
      tickets = tickets_same refl refl;
      mails = record { unfinished = λ h. h; quiet = λ h. refl; names = λ e p value is at. (refl, tt); last = (tt, tt) };
      loops = no_loop refl (λ n. refl) (λ n. refl);
    }

settled_moved : (s : State) (q : ℕ) (outcome : Outcome) → ((question : QuestionState) → get s.values.questions q ≡ Some question → question.outcome ≡ None)
    → Moved [] s (effects.Settled q outcome ∷ []) (question_settled s q outcome)
settled_moved s q outcome none =
    let places = outcome_places s q outcome none in
    record {
      ways = places.ways;
      exports = places.exports;
      mails = outcome_mails s q outcome none;
      tickets = inl (outcome_tickets s q outcome none);
      loops = record { embargoes = λ n. omega arith; echoes = λ n. refl };
    }

not_finished : {A : Type 0} (s : State) (q : ℕ) (entry : Exchange QuestionEntry) → NoneFinished s → get s.entries.questions q ≡ Some entry
    → entry.stage ≡ stages.Finished → A
not_finished s q entry none is at =
    let not_ = there_of (λ (x : Exchange QuestionEntry). is_finish_noted x.stage ≡ false) (get s.entries.questions q) entry is (none q) in
    absurd (true≢false (sym (ap is_finish_noted at) ∙ not_))

module _ {s : State} (h : Within s None []) (q : ℕ) (entry : Exchange QuestionEntry) (is : get s.entries.questions q ≡ Some entry)
    (open_ : IsTrue (is_open_stage entry.stage)) where
  own_moved : (outcome : Outcome) (stage : Stage) (done : Done) → entry.stage ≡ stage → NoneFinished s → GiveOwnBy s q outcome stage (Ok done) → Moved [] s done.0 done.1
  own_moved outcome stages.Open done at none gives = rw (ok_in _ _ gives) (settled_moved s q outcome (unset h q entry is open_))
  own_moved outcome stages.Finished done at none gives = not_finished s q entry none is at
  own_moved outcome stages.Returned done at none gives = absurd gives

  own_gives : (outcome : Outcome) (done : Done) → NoneFinished s → GiveOwn s q outcome (Ok done) → Moved [] s done.0 done.1
  own_gives outcome done none gives =
      let same : gives.0 ≡ entry = some_out (sym gives.1 ∙ is) in
      own_moved outcome gives.0.stage done (ap (λ (x : Exchange QuestionEntry). x.stage) (sym same)) none gives.2

  settles_moved : (forwards : Option ℕ) (outcome : Outcome) (done : Done) → entry.kept.forwards ≡ forwards → NoneFinished s → Settles s q forwards outcome (Ok done)
      → Moved [] s done.0 done.1
  settles_moved None outcome done forwards none gives = own_gives outcome done none gives
  settles_moved (Some a) outcome done forwards none gives =
      let parts = then_out {A = Done} {B = Done} (GiveAnswer (without_question s q) a outcome) _ done gives in
      let left = left_grows s q outcome (unset h q entry is open_) in
      let answers = answer_grows (without_question s q) a outcome parts.0 (left.places.one_export h.one_export) (forwarded_may h q a entry is forwards) parts.1 in
      rw (ok_in _ _ parts.2) (grown_moved (grown_both (finish_grows s q) (grown_both left answers)))

-- a Return's table is taken in
pub record TakenIn (s : State) (new : State) : Type 0 where
  pub within : Within new None []
  pub grows : Grows s new
  pub answers : SameAnswers s new

pub returned_taken : (s : State) (returned : Returned) (taken : Outcome × State) → Within s None [] → s.waiting.over ≡ none_over → ReceivesReturned s returned (Ok taken)
    → TakenIn s taken.1
returned_taken s (returns.Results p) taken h still is =
    let parts = then_out {A = List Cap × State} {B = Outcome × State} (ReceivesCaps s p.cap_table) _ taken is in
    let well = take_all_keeps None [] p.cap_table s parts.0 h still parts.1 in
    rw (ok_in _ _ parts.2) (record { within = well.0; grows = well.1; answers = take_all_answers p.cap_table s parts.0 parts.1 })
returned_taken s (returns.Exception x) taken h still is = rw (ok_in _ _ is) (record { within = h; grows = grows_not s; answers = answers_as_were s })
returned_taken s returns.Canceled taken h still is = rw (ok_in _ _ is) (record { within = h; grows = grows_not s; answers = answers_as_were s })
returned_taken s returns.ResultsSentElsewhere taken h still is = absurd is
returned_taken s (returns.TakeFromOtherQuestion q) taken h still is = absurd is
returned_taken s (returns.AcceptFromThirdParty t) taken h still is = absurd is
returned_taken s (returns.Unknown n) taken h still is = absurd is

module _ {s : State} (h : Within s None []) (still : s.waiting.over ≡ none_over) (none : NoneFinished s) where
  return_by : (r : Return) (entry : Exchange QuestionEntry) (stage : Stage) (done : Done) → get s.entries.questions r.answer_id ≡ Some entry → entry.stage ≡ stage
      → ReturnBy s r entry.kept stage (Ok done) → Moved [] s done.0 done.1
  return_by r entry stages.Open done is at does =
      let taken = then_out {A = Outcome × State} {B = Done} (ReceivesReturned s r.returned) _ done does in
      let one = returned_taken s r.returned taken.0 h still taken.1 in
      let there : get taken.0.1.entries.questions r.answer_id ≡ Some entry = ap (λ m. get m r.answer_id) one.grows.asked ∙ is in
      let later : NoneFinished taken.0.1 = rw (one.grows.asked) none in
      let settles = settles_moved one.within r.answer_id entry there (rw (at) refl) entry.kept.forwards taken.0.0 done refl later taken.2 in
      moved_both (taken_moved one.grows one.answers) (taken_tickets one.grows one.answers) settles
  return_by r entry stages.Finished done is at does = not_finished s r.answer_id entry none is at
  return_by r entry stages.Returned done is at does = absurd does

-- that lowers nothing
pub unlowered : (b : Bool) (s : State) (ids : List ℕ) (exports : Table (Counted Cap)) → b ≡ false
    → Ok exports ≡ (if b then release_exports s.counts.exports ids else Ok s.counts.exports) → with_exports s exports ≡ s
unlowered true s ids exports none is = absurd (true≢false none)
unlowered false s ids exports none is = rw (ok_in _ _ is) refl

return_of : (s : State) (r : Return) (o : Option (Exchange QuestionEntry)) (done : Done) → Within s None [] → s.waiting.over ≡ none_over → NoneFinished s
    → r.release_param_caps ≡ false → get s.entries.questions r.answer_id ≡ o → ReturnOf s r o (Ok done) → Moved [] s done.0 done.1
return_of s r None done h still none keeps is does = ok_out does
return_of s r (Some entry) done h still none keeps is does =
    let rule = unless_out {A = Done} {F = PeerFault} (fault_if (not (is_asked entry.kept.is_sent entry.stage)) faults.UnknownQuestion) _ done does in
    let lowers = then_out {A = Table (Counted Cap)} {B = Done}
    (λ exports. exports ≡ (if r.release_param_caps then release_exports s.counts.exports entry.kept.mentions else Ok s.counts.exports)) _ done rule in
    let same = unlowered r.release_param_caps s entry.kept.mentions lowers.0 keeps lowers.1 in
    let by : ReturnBy s r entry.kept entry.stage (Ok done) = rw same at lowers.2 in
    return_by h still none r entry entry.stage done is refl by

-- A Finish that comes: an answer that was given goes.
left_answer : (s : State) (a : ℕ) → SameAnswers s (without_answer s a)
left_answer s a b entry is = (entry, (gone_cases s.entries.answers a b entry is).1, refl)

finish_moved : (s : State) (a : ℕ) → Moved [] s [] (without_answer s a)
finish_moved s a =
    record {
      ways = ways_same refl refl;
      exports = λ e cap is. is;
      mails = no_mail refl (λ h. h);
      tickets = inl (tickets_by refl (left_answer s a) (λ q x is own. (x, is, refl, own)));
      loops = record { embargoes = λ n. omega arith; echoes = λ n. refl };
    }

noted_answers : (s : State) (a : ℕ) → SameAnswers s (with_answers s (with_stage s.entries.answers a stages.Finished))
noted_answers s a b entry is =
    let found = changed_cases s.entries.answers a b (λ x. record x { stage = stages.Finished }) entry is in
    (found.0, found.1, by found.0 entry found.2)
  where
    by : (x y : Exchange AnswerEntry) → (y ≡ x) ⊎ (y ≡ record x { stage = stages.Finished }) → y.kept.ticket ≡ x.kept.ticket
    by x y (inl e) = ap (λ (z : Exchange AnswerEntry). z.kept.ticket) e
    by x y (inr e) = ap (λ (z : Exchange AnswerEntry). z.kept.ticket) e

noted_moved : (s : State) (a : ℕ) → Moved [] s [] (with_answers s (with_stage s.entries.answers a stages.Finished))
noted_moved s a =
    record {
      ways = ways_same refl refl;
      exports = λ e cap is. is;
      mails = no_mail refl (λ h. h);
      tickets = inl (tickets_by refl (noted_answers s a) (λ q x is own. (x, is, refl, own)));
      loops = record { embargoes = λ n. omega arith; echoes = λ n. refl };
    }

finish_at : (s : State) (f : Finish) (kept : AnswerEntry) (stage : Stage) (done : Done) → f.release_result_caps ≡ false → AtStage s f kept stage (Ok done)
    → Moved [] s done.0 done.1
finish_at s f kept stages.Open done keeps does = rw (ok_in _ _ does) (noted_moved s f.question_id)
finish_at s f kept stages.Returned done keeps does =
    let parts = then_out {A = Table (Counted Cap)} {B = Done}
    (λ exports. exports ≡ (if f.release_result_caps then release_exports s.counts.exports kept.mentions else Ok s.counts.exports)) _ done does in
    let same = unlowered f.release_result_caps s kept.mentions parts.0 keeps parts.1 in
    let is : done ≡ ([], without_answer s f.question_id) = ok_in _ _ parts.2 ∙ ap (λ x. ([], without_answer x f.question_id)) same in
    rw (is) (finish_moved s f.question_id)
finish_at s f kept stages.Finished done keeps does = ok_out does

finish_of_moved : (s : State) (f : Finish) (o : Option (Exchange AnswerEntry)) (done : Done) → f.release_result_caps ≡ false → FinishedBy s f o (Ok done)
    → Moved [] s done.0 done.1
finish_of_moved s f None done keeps does = ok_out does
finish_of_moved s f (Some entry) done keeps does = finish_at s f entry.kept entry.stage done keeps does

-- A Resolve that comes to an import that is held.
resolution_taken : (s : State) (resolution : Resolution) (taken : Cap × State) → Within s None [] → s.waiting.over ≡ none_over
    → TakeResolution s resolution (Ok taken) → TakenIn s taken.1
resolution_taken s (resolutions.Cap d) taken h still is =
    let well = take_keeps None [] s d taken h still is in
    record { within = well.0; grows = well.1; answers = take_answers s d taken is }
resolution_taken s (resolutions.Exception x) taken h still is =
    rw (ok_in _ _ is) (record { within = h; grows = grows_not s; answers = answers_as_were s })
resolution_taken s (resolutions.Unknown n) taken h still is = absurd is

resolved_moved : (s : State) (i : ℕ) (value : Cap) → Moved [] s [] (resolved s i value)
resolved_moved s i value =
    record {
      ways = ways_same refl refl;
      exports = λ e cap is. is;
      mails = no_mail refl (λ h. h);
      tickets = inl (tickets_same refl refl);
      loops = record { embargoes = λ n. omega arith; echoes = λ n. refl };
    }

resolve_moved : (s : State) (r : Resolve) (o : Option (Counted ImportKind)) (done : Done) → Within s None [] → s.waiting.over ≡ none_over → IsTrue (is_some o)
    → ResolveOf s r o (Ok done) → Moved [] s done.0 done.1
resolve_moved s r None done h still held does = absurd (true≢false (sym held))
resolve_moved s r (Some entry) done h still held does =
    let rule = unless_out {A = Done} {F = PeerFault} (fault_if (not (is_open_promise entry.kept (get s.values.imports r.promise_id))) faults.NotAnOpenPromise) _ done does in
    let parts = then_out {A = Cap × State} {B = Done} (TakeResolution s r.resolution) _ done rule in
    let one = resolution_taken s r.resolution parts.0 h still parts.1 in
    rw
    (ok_in _ _ parts.2)
    (moved_both (taken_moved one.grows one.answers) (taken_tickets one.grows one.answers) (resolved_moved parts.0.1 r.promise_id parts.0.0))

-- A Disembargo that comes is echoed, or ends an embargo.
echo_moved : (s : State) (n : ℕ) (target : Target) (last : Cap) (done : Done) → Ok done ≡ echo_to s n last
    → Moved (messages.Disembargo (record { context = contexts.SenderLoopback n; target = target }) ∷ []) s done.0 done.1
echo_moved s n target (caps.Import i) done is =
    rw
    (ok_in _ _ is)
    (record {
      ways = ways_same refl refl;
      exports = λ e cap at. at;
      mails = record { unfinished = λ h. h; quiet = λ h. refl; names = λ e p value export_ at. (refl, tt); last = (tt, tt) };
      tickets = inl (tickets_same refl refl);
      loops = record { embargoes = λ m. refl; echoes = λ m. refl };
    })
echo_moved s n target caps.None done is = ok_out is
echo_moved s n target (caps.Object k) done is = ok_out is
echo_moved s n target (caps.Promise p) done is = ok_out is
echo_moved s n target (caps.Pipelined q path) done is = ok_out is
echo_moved s n target (caps.Broken x) done is = ok_out is

abbrev Looped : ℕ → Target → Message
Looped n target = messages.Disembargo (record { context = contexts.SenderLoopback n; target = target })

echoes_moved : (s : State) (n : ℕ) (target : Target) (done : Done) → EchoesTarget s n target (Ok done) → Moved (Looped n target ∷ []) s done.0 done.1
echoes_moved s n (targets.ImportedCap e) done does = at_export (get s.counts.exports e) does
  where
    at_export : (o : Option (Counted Cap)) → EchoesExport s n o (Ok done) → Moved (Looped n (targets.ImportedCap e) ∷ []) s done.0 done.1
    at_export None does = absurd does
    at_export (Some entry) does = echo_moved s n (targets.ImportedCap e) does.0 done does.2
echoes_moved s n (targets.PromisedAnswer answer) done does = at_answer (answer_of s answer.question_id) does
  where
    at_answer : (o : Option (Option Outcome)) → EchoesAnswer s n (path_of answer.transform) o (Ok done) → Moved (Looped n (targets.PromisedAnswer answer) ∷ []) s done.0 done.1
    at_answer None does = absurd does
    at_answer (Some None) does = ok_out does
    at_answer (Some (Some outcome)) does = echo_moved s n (targets.PromisedAnswer answer) does.0 done does.2
echoes_moved s n (targets.Unknown m) done does = absurd does

ended_at : (embargoes : Table Cap) (n m : ℕ) (target : Target) (cap : Cap) (b : Bool) → (n == m) ≡ b → get embargoes n ≡ Some cap
    → one_if (is_some (get (remove embargoes n) m))
    + count_by (is_echo m) (messages.Disembargo (record { context = contexts.ReceiverLoopback n; target = target }) ∷ [])
    ≡ one_if (is_some (get embargoes m)) + 0
ended_at embargoes n m target cap true t is =
    let there : get embargoes m ≡ Some cap = rw (← is_equal n m t) is in
    rw (gone_at embargoes n m true t, there, t) (omega arith)
ended_at embargoes n m target cap false t is = rw (gone_at embargoes n m false t, t) (omega arith)

ended_moved : (s : State) (n : ℕ) (target : Target) (o : Option Cap) (done : Done) → get s.marks.embargoes n ≡ o → Ok done ≡ ended_by s n o
    → Moved (messages.Disembargo (record { context = contexts.ReceiverLoopback n; target = target }) ∷ []) s done.0 done.1
ended_moved s n target None done at is = ok_out is
ended_moved s n target (Some cap) done at is =
    rw
    (ok_in _ _ is)
    (record {
      ways = ways_same refl refl;
      exports = λ e c here. here;
      mails = no_mail refl (λ h. h);
      tickets = inl (tickets_same refl refl);
      loops = record { embargoes = λ m. ended_at s.marks.embargoes n m target cap (n == m) refl at; echoes = λ m. refl };
    })

disembargo_moved : (s : State) (context : DisembargoContext) (target : Target) (done : Done) → OnDisembargo s context target (Ok done)
    → Moved (messages.Disembargo (record { context = context; target = target }) ∷ []) s done.0 done.1
disembargo_moved s (contexts.SenderLoopback n) target done does =
    echoes_moved s n target done (unless_out {A = Done} {F = PeerFault} (target_faults s target) _ done does)
disembargo_moved s (contexts.ReceiverLoopback n) target done does = ended_moved s n target (get s.marks.embargoes n) done refl does
disembargo_moved s contexts.Accept target done does = absurd does
disembargo_moved s (contexts.Provide q) target done does = absurd does
disembargo_moved s (contexts.Unknown n) target done does = absurd does

-- A Resolve comes to an import that is held.
abbrev pub ComesToHeld : State → Message → Type 0
ComesToHeld s (messages.Resolve r) = IsTrue (is_some (get s.counts.imports r.promise_id))
ComesToHeld s other = Unit {0}

-- All messages that another vat sends, where they give nothing up.
module _ (s : State) (h : Within s None []) (still : s.waiting.over ≡ none_over) (none : NoneFinished s) where
  on_moved : (m : Message) (done : Done) → IsUsual m → gives_up m ≡ false → ComesToHeld s m → On s m (Ok done) → Moved (m ∷ []) s done.0 done.1
  on_moved (messages.Unimplemented t) done usual quiet held does = absurd usual.1
  on_moved (messages.Abort x) done usual quiet held does = absurd usual.1
  on_moved (messages.Call c) done usual quiet held does = arrives (messages.Call c) (λ n. refl) (λ n. refl) (call_moved h still c done does)
  on_moved (messages.Return r) done usual quiet held does =
      arrives (messages.Return r) (λ n. refl) (λ n. refl) (return_of s r (get s.entries.questions r.answer_id) done h still none usual.1.0 refl does)
  on_moved (messages.Finish f) done usual quiet held does =
      arrives (messages.Finish f) (λ n. refl) (λ n. refl) (finish_of_moved s f (get s.entries.answers f.question_id) done quiet does)
  on_moved (messages.Resolve r) done usual quiet held does =
      arrives (messages.Resolve r) (λ n. refl) (λ n. refl) (resolve_moved s r (get s.counts.imports r.promise_id) done h still held does)
  on_moved (messages.Release r) done usual quiet held does = absurd (true≢false quiet)
  on_moved (messages.Bootstrap b) done usual quiet held does =
      arrives (messages.Bootstrap b) (λ n. refl) (λ n. refl) (bootstrap_moved h still b.question_id done does)
  on_moved (messages.Disembargo d) done usual quiet held does = disembargo_moved s d.context d.target done does
  on_moved (messages.Other which body) done usual quiet held does = absurd does

  receives_by : (b : Bool) (m : Message) (done : Done) → b ≡ true → IsUsual m → gives_up m ≡ false → ComesToHeld s m → ReceivesIf b s m (Ok done)
      → Moved (m ∷ []) s done.0 done.1
  receives_by true m done is usual quiet held does =
      on_moved m done usual quiet held (unless_out {A = Done} {F = PeerFault} (fault_if (not (message_fits m)) faults.PayloadTooLarge) (On s m) done does)
  receives_by false m done is usual quiet held does = absurd (true≢false (sym is))

  pub receives_moved : (m : Message) (done : Done) → IsUsual m → gives_up m ≡ false → ComesToHeld s m → Receives s m (Ok done) → Moved (m ∷ []) s done.0 done.1
  receives_moved m done usual quiet held does = receives_by (is_supported m) m done usual.0 usual quiet held does
