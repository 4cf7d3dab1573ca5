-- What own questions bear stays, whatever is done at their end: but for its own calls, which open one more.
use Rattle.std.specs.Prelude.{◌≡◌, refl, ℕ, ◌==◌, not, ◌++◌, if◌then◌else◌, Bool, true, false, List, [], Option, Some, None, is_some, IsTrue, Result, Ok}
use Rattle.std.specs.FinMap.{get}
use Rattle.std.proofs.Common.{inl, inr, ap, sym, ◌∙◌, true≢false}
use Rattle.cp_tables.specs.Table.{Table}
use Rattle.cp_tables.specs.declared.counted.Counted.{Counted}
use Rattle.cp_tables.specs.declared.exchange.Exchange.{Exchange}
use Rattle.cp_tables.specs.declared.exchange.Stage.{Stage}
use Rattle.cp_tables.specs.declared.exchange.Stage.TheVariants as stages
use Rattle.cp_messages.specs.declared.call.Call.{Call}
use Rattle.cp_messages.specs.declared.disembargo.DisembargoContext.{DisembargoContext}
use Rattle.cp_messages.specs.declared.disembargo.DisembargoContext.TheVariants as contexts
use Rattle.cp_messages.specs.declared.message.Message.{Message}
use Rattle.cp_messages.specs.declared.message.Message.TheVariants as messages
use Rattle.cp_messages.specs.declared.resolve.Resolve.{Resolve}
use Rattle.cp_messages.specs.declared.resolve.Resolution.{Resolution}
use Rattle.cp_messages.specs.declared.resolve.Resolution.TheVariants as resolutions
use Rattle.cp_messages.specs.declared.returned.Return.{Return}
use Rattle.cp_messages.specs.declared.small.Finish.{Finish}
use Rattle.cp_messages.specs.declared.target.Target.{Target}
use Rattle.cp_refs.specs.declared.cap.Cap.{Cap}
use Rattle.cp_refs.specs.declared.outcome.Outcome.{Outcome}
use Rattle.cp_refs.specs.declared.values.QuestionKind.{QuestionKind}
use Rattle.cp_refs.specs.declared.values.QuestionKind.TheVariants as kinds
use Rattle.cp_vat_machine.specs.State.{State, none_over}
use Rattle.cp_vat_machine.specs.Then.{Done, fault_if, OrFull}
use Rattle.cp_vat_machine.specs.Capacity.{Fresh, has_capacity, message_fits}
use Rattle.cp_vat_machine.specs.Supported.{is_supported}
use Rattle.cp_vat_machine.specs.Receiving.{ReceivesCaps, release_exports}
use Rattle.cp_vat_machine.specs.Give.{Give, GiveAnswer, Settle, without_question}
use Rattle.cp_vat_machine.specs.Go.{PendingCall}
use Rattle.cp_vat_machine.specs.Answering.{with_answer, bootstrap_outcome, is_answering, OnBootstrap, peer_call, entered, call_faults, OnCall, AtStage, FinishedBy}
use Rattle.cp_vat_machine.specs.Asking.{ReceivesReturned, Settles, ReturnBy, is_asked, ReturnOf}
use Rattle.cp_vat_machine.specs.Resolving.{is_open_promise, TakeResolution, ResolveOf, ended_by, OnDisembargo}
use Rattle.cp_vat_machine.specs.Calling.{asked, OwnDone}
use Rattle.cp_vat_machine.specs.Doing.{Quietly, answer_refusals, resolve_refusals, value_refusals, Resolves}
use Rattle.cp_vat_machine.specs.Step.{On, Does, Receives, ReceivesIf}
use Rattle.cp_vat_machine.specs.declared.effect.Effect.{Effect}
use Rattle.cp_vat_machine.specs.declared.entry.AnswerEntry.{AnswerEntry}
use Rattle.cp_vat_machine.specs.declared.entry.ImportKind.{ImportKind}
use Rattle.cp_vat_machine.specs.declared.entry.QuestionEntry.{QuestionEntry}
use Rattle.cp_vat_machine.specs.declared.event.Event.{Event}
use Rattle.cp_vat_machine.specs.declared.event.Event.TheVariants as events
use Rattle.cp_vat_machine.specs.declared.fault.PeerFault.{PeerFault}
use Rattle.cp_vat_machine.specs.declared.fault.PeerFault.TheVariants as faults
use Rattle.cp_vat_machine.specs.declared.fault.VatFault.{VatFault}
use Rattle.cp_vat_machine.proofs.Basics.{ok_in, ok_out, then_out, unless_out, or_full_out, is_equal, put_at, gone_at}
use Rattle.cp_vat_laws.specs.Within.{Within}
use Rattle.cp_vat_laws.proofs.Tables.{there_of}
use Rattle.cp_vat_laws.proofs.within.Take.{take_keeps, take_all_keeps}
use Rattle.cp_vat_pair_laws.specs.Accounts.{is_finish_noted}
use Rattle.cp_vat_pair_laws.specs.Lane.{ticket_of_own, own_ticket, IsStill}
use Rattle.cp_vat_pair_laws.specs.Lives.{IsUsual}
use Rattle.cp_vat_pair_laws.specs.Phases.{gives_up}
use Rattle.cp_vat_pair_laws.specs.Places.{NoneFinished}
use Rattle.cp_vat_pair_laws.proofs.counts.rules.Accounts.{free_out}
use Rattle.cp_vat_pair_laws.proofs.still.Receives.{returned_taken, unlowered, ComesToHeld}
use Rattle.cp_vat_pair_laws.proofs.lane.parts.Silent.{answer_silent, own_silent, give_silent, settle_silent}
use Rattle.cp_vat_pair_laws.proofs.lane.parts.Go.{Went, failed_, delivered_, waits_, sent_, go_went}
use Rattle.cp_vat_pair_laws.proofs.lane.own.Turn.{sent_tickets}
use Rattle.cp_vat_pair_laws.proofs.lane.other.ResolveComes.{loop_does}
use Rattle.cp_vat_pair_laws.proofs.lane.other.CallGoes.{call_goes}

-- each question bears the ticket that it bore
abbrev pub SameOwns : State → State → Type 0
SameOwns old new = (q : ℕ) → own_ticket (get new.entries.questions q) ≡ own_ticket (get old.entries.questions q)

pub went_owns : {call : PendingCall} {old new : State} {done : List Effect} → Went call old done new → SameOwns old new
went_owns (failed_ silent) q = silent.bearing.tickets q
went_owns (delivered_ k is silent) q = silent.bearing.tickets q
went_owns (waits_ gate is same) q = ap (λ s. own_ticket (get s.entries.questions q)) same
went_owns {call = call} {old = old} {new = new} (sent_ r target table is calls for_) q = sent_tickets old new r q call.origin for_

-- a Bootstrap bears no ticket
asked_owns : (s : State) (q : ℕ) (kind : QuestionKind) (is_sent : Bool) → get s.entries.questions q ≡ None → SameOwns s (asked s q kind None is_sent)
asked_owns s q kind is_sent fresh r = by (q == r) refl
  where
    by : (b : Bool) → (q == r) ≡ b → own_ticket (get (asked s q kind None is_sent).entries.questions r) ≡ own_ticket (get s.entries.questions r)
    by true t = ap own_ticket (put_at s.entries.questions q r _ true t) ∙ sym (ap own_ticket (ap (λ n. get s.entries.questions n) (sym (is_equal q r t)) ∙ fresh))
    by false t = ap own_ticket (put_at s.entries.questions q r _ false t)

-- What the application does, but for its calls.
abbrev pub IsNoCall : Event → Type 0
IsNoCall (events.Call cap request) = ⊥
IsNoCall other = Unit {0}

pub does_owns : (s : State) (event : Event) (done : OwnDone) → NoneFinished s → IsStill event → IsNoCall event → Does s event (Ok done) → SameOwns s done.2
does_owns s (events.Receive m) done none still not_ does = absurd does
does_owns s events.Bootstrap done none still not_ does =
    let parts = then_out {A = ℕ} {B = OwnDone} (Fresh s.entries.questions) _ done (or_full_out _ _ does) in
    rw (ok_in _ _ parts.2) (asked_owns s parts.0 kinds.Wire true (free_out s.entries.questions parts.0 parts.1))
does_owns s (events.Call cap request) done none still not_ does = absurd not_
does_owns s (events.Answer origin outcome) done none still not_ does =
    let Rule : Result OwnDone VatFault → Type 0 = OrFull (Quietly (Give s origin outcome)) in
    let rule = or_full_out (Quietly (Give s origin outcome)) done (unless_out {A = OwnDone} {F = VatFault} (answer_refusals s origin outcome) Rule done does) in
    let parts = then_out {A = Done} {B = OwnDone} (Give s origin outcome) _ done rule in
    rw (ok_in _ _ parts.2) (give_silent s origin outcome parts.0 none parts.1).bearing.tickets
does_owns s events.Promise done none still not_ does =
    let parts = then_out {A = ℕ} {B = OwnDone} (Fresh s.values.promises) _ done (or_full_out _ _ does) in
    rw (ok_in _ _ parts.2) (λ q. refl)
does_owns s (events.Resolve p cap) done none still not_ does =
    resolves (unless_out {A = OwnDone} {F = VatFault} (resolve_refusals s p cap) (Resolves s p cap) done does)
  where
    resolves : Resolves s p cap (Ok done) → SameOwns s done.2
    resolves (inl cycle) = ok_out cycle.1
    resolves (inr settles) =
        let Rule : Result OwnDone VatFault → Type 0 = OrFull (Quietly (Settle s p cap)) in
        let rule = or_full_out (Quietly (Settle s p cap)) done (unless_out {A = OwnDone} {F = VatFault} (value_refusals s cap) Rule done settles.1) in
        let parts = then_out {A = Done} {B = OwnDone} (Settle s p cap) _ done rule in
        rw (ok_in _ _ parts.2) (settle_silent s p cap parts.0 parts.1).bearing.tickets
does_owns s (events.Finish q) done none still not_ does = absurd still
does_owns s (events.Release i) done none still not_ does = absurd still
does_owns s (events.Forget p) done none still not_ does = absurd still
does_owns s events.Idle done none still not_ does = rw (ok_in _ _ does) (λ q. refl)

-- a question that forwarded a call is gone
gone_owns : (s : State) (q a : ℕ) (entry : Exchange QuestionEntry) → get s.entries.questions q ≡ Some entry → entry.kept.forwards ≡ Some a → SameOwns s (without_question s q)
gone_owns s q a entry is forwards r = by (q == r) refl
  where
    nothing : own_ticket (get s.entries.questions q) ≡ []
    nothing = ap own_ticket is ∙ ap (λ o. ticket_of_own o entry.kept.ticket) forwards

    by : (b : Bool) → (q == r) ≡ b → own_ticket (get (without_question s q).entries.questions r) ≡ own_ticket (get s.entries.questions r)
    by true t = ap own_ticket (gone_at s.entries.questions q r true t) ∙ sym (ap (λ n. own_ticket (get s.entries.questions n)) (sym (is_equal q r t)) ∙ nothing)
    by false t = ap own_ticket (gone_at s.entries.questions q r false t)

-- What a message does.
module _ (s : State) (h : Within s None []) (still : s.waiting.over ≡ none_over) (none : NoneFinished s) where
  call_owns : (c : Call) (done : Done) → OnCall s c (Ok done) → SameOwns s done.1
  call_owns c done does =
      let parts = then_out {A = List Cap × State} {B = Done} (ReceivesCaps s c.params.cap_table) _ done (unless_out {A = Done} {F = PeerFault} (call_faults s c) _ done does) in
      let well = take_all_keeps None [] c.params.cap_table s parts.0 h still parts.1 in
      let new : State = entered parts.0.1 c.question_id in
      let hand : PendingCall = peer_call parts.0.1 c parts.0.0 in
      let route = call_goes new hand c.target done parts.2 in
      let none_new : NoneFinished new = rw (well.1.asked) none in
      let went = go_went new hand route.0 done none_new route.1 in
      λ q. went_owns went q ∙ ap (λ m. own_ticket (get m q)) well.1.asked

  settles_owns : (t : State) (q : ℕ) (entry : Exchange QuestionEntry) (forwards : Option ℕ) (outcome : Outcome) (done : Done) → NoneFinished t
      → get t.entries.questions q ≡ Some entry → entry.kept.forwards ≡ forwards → Settles t q forwards outcome (Ok done) → SameOwns t done.1
  settles_owns t q entry None outcome done none_t is at does = (own_silent t q outcome done none_t does).bearing.tickets
  settles_owns t q entry (Some a) outcome done none_t is at does =
      let parts = then_out {A = Done} {B = Done} (GiveAnswer (without_question t q) a outcome) _ done does in
      let silent = answer_silent (without_question t q) a outcome parts.0 parts.1 in
      rw (ok_in _ _ parts.2) (λ r. silent.bearing.tickets r ∙ gone_owns t q a entry is at r)

  return_owns : (r : Return) (entry : Exchange QuestionEntry) (stage : Stage) (done : Done) → get s.entries.questions r.answer_id ≡ Some entry → entry.stage ≡ stage
      → ReturnBy s r entry.kept stage (Ok done) → SameOwns s done.1
  return_owns r entry stages.Open done is at does =
      let taken = then_out {A = Outcome × State} {B = Done} (ReceivesReturned s r.returned) _ done does in
      let one = returned_taken s r.returned taken.0 h still taken.1 in
      let none_t : NoneFinished taken.0.1 = rw (one.grows.asked) none in
      let later = settles_owns taken.0.1 r.answer_id entry entry.kept.forwards taken.0.0 done none_t (ap (λ m. get m r.answer_id) one.grows.asked ∙ is) refl taken.2 in
      λ q. later q ∙ ap (λ m. own_ticket (get m q)) one.grows.asked
  return_owns r entry stages.Finished done is at does =
      let not_ = there_of (λ (e : Exchange QuestionEntry). is_finish_noted e.stage ≡ false) (get s.entries.questions r.answer_id) entry is (none r.answer_id) in
      absurd (true≢false (sym (ap is_finish_noted at) ∙ not_))
  return_owns r entry stages.Returned done is at does = absurd does

  return_of_owns : (r : Return) (o : Option (Exchange QuestionEntry)) (done : Done) → get s.entries.questions r.answer_id ≡ o → r.release_param_caps ≡ false
      → ReturnOf s r o (Ok done) → SameOwns s done.1
  return_of_owns r None done is keeps does = ok_out does
  return_of_owns r (Some entry) done is keeps does =
      let rule = unless_out {A = Done} {F = PeerFault} (fault_if (not (is_asked entry.kept.is_sent entry.stage)) faults.UnknownQuestion) _ done does in
      let lowers = then_out {A = Table (Counted Cap)} {B = Done}
      (λ exports. exports ≡ (if r.release_param_caps then release_exports s.counts.exports entry.kept.mentions else Ok s.counts.exports)) _ done rule in
      let same = unlowered r.release_param_caps s entry.kept.mentions lowers.0 keeps lowers.1 in
      let by : ReturnBy s r entry.kept entry.stage (Ok done) = rw same at lowers.2 in
      return_owns r entry entry.stage done is refl by

  finish_owns : (f : Finish) (kept : AnswerEntry) (stage : Stage) (done : Done) → AtStage s f kept stage (Ok done) → SameOwns s done.1
  finish_owns f kept stages.Open done does = rw (ok_in _ _ does) (λ q. refl)
  finish_owns f kept stages.Returned done does =
      let parts = then_out {A = Table (Counted Cap)} {B = Done}
      (λ exports. exports ≡ (if f.release_result_caps then release_exports s.counts.exports kept.mentions else Ok s.counts.exports)) _ done does in
      rw (ok_in _ _ parts.2) (λ q. refl)
  finish_owns f kept stages.Finished done does = ok_out does

  finish_of_owns : (f : Finish) (o : Option (Exchange AnswerEntry)) (done : Done) → FinishedBy s f o (Ok done) → SameOwns s done.1
  finish_of_owns f None done does = ok_out does
  finish_of_owns f (Some entry) done does = finish_owns f entry.kept entry.stage done does

  resolution_owns : (resolution : Resolution) (taken : Cap × State) → TakeResolution s resolution (Ok taken) → taken.1.entries.questions ≡ s.entries.questions
  resolution_owns (resolutions.Cap d) taken takes = (take_keeps None [] s d taken h still takes).1.asked
  resolution_owns (resolutions.Exception x) taken takes = rw (ok_in _ _ takes) refl
  resolution_owns (resolutions.Unknown n) taken takes = absurd takes

  resolve_owns : (r : Resolve) (o : Option (Counted ImportKind)) (done : Done) → IsTrue (is_some o) → ResolveOf s r o (Ok done) → SameOwns s done.1
  resolve_owns r None done held does = absurd (true≢false (sym held))
  resolve_owns r (Some entry) done held does =
      let rule = unless_out {A = Done} {F = PeerFault} (fault_if (not (is_open_promise entry.kept (get s.values.imports r.promise_id))) faults.NotAnOpenPromise) _ done does in
      let parts = then_out {A = Cap × State} {B = Done} (TakeResolution s r.resolution) _ done rule in
      rw (ok_in _ _ parts.2) (λ q. ap (λ m. own_ticket (get m q)) (resolution_owns r.resolution parts.0 parts.1))

  bootstrap_owns : (a : ℕ) (done : Done) → OnBootstrap s a (Ok done) → SameOwns s done.1
  bootstrap_owns a done does =
      let mid : State = with_answer s a None in
      let gives = unless_out {A = Done} {F = PeerFault} (fault_if (is_answering s a) faults.QuestionInUse ++ fault_if (not (has_capacity s.entries.answers)) faults.TableFull)
      (GiveAnswer mid a (bootstrap_outcome s.bootstrap)) done does in
      (answer_silent mid a (bootstrap_outcome s.bootstrap) done gives).bearing.tickets

  ended_owns : (n : ℕ) (o : Option Cap) (done : Done) → Ok done ≡ ended_by s n o → SameOwns s done.1
  ended_owns n None done is = ok_out is
  ended_owns n (Some cap) done is = rw (ok_in _ _ is) (λ q. refl)

  disembargo_owns : (context : DisembargoContext) (target : Target) (done : Done) → OnDisembargo s context target (Ok done) → SameOwns s done.1
  disembargo_owns (contexts.SenderLoopback n) target done does = rw ((loop_does s n target done does).0) (λ q. refl)
  disembargo_owns (contexts.ReceiverLoopback n) target done does = ended_owns n (get s.marks.embargoes n) done does
  disembargo_owns contexts.Accept target done does = absurd does
  disembargo_owns (contexts.Provide q) target done does = absurd does
  disembargo_owns (contexts.Unknown n) target done does = absurd does

  on_owns : (m : Message) (done : Done) → IsUsual m → gives_up m ≡ false → ComesToHeld s m → On s m (Ok done) → SameOwns s done.1
  on_owns (messages.Unimplemented t) done usual quiet held does = absurd usual.1
  on_owns (messages.Abort x) done usual quiet held does = absurd usual.1
  on_owns (messages.Call c) done usual quiet held does = call_owns c done does
  on_owns (messages.Return r) done usual quiet held does = return_of_owns r (get s.entries.questions r.answer_id) done refl usual.1.0 does
  on_owns (messages.Finish f) done usual quiet held does = finish_of_owns f (get s.entries.answers f.question_id) done does
  on_owns (messages.Resolve r) done usual quiet held does = resolve_owns r (get s.counts.imports r.promise_id) done held does
  on_owns (messages.Release r) done usual quiet held does = absurd (true≢false quiet)
  on_owns (messages.Bootstrap b) done usual quiet held does = bootstrap_owns b.question_id done does
  on_owns (messages.Disembargo d) done usual quiet held does = disembargo_owns d.context d.target done does
  on_owns (messages.Other which body) done usual quiet held does = absurd does

  receives_by : (b : Bool) (m : Message) (done : Done) → b ≡ true → IsUsual m → gives_up m ≡ false → ComesToHeld s m → ReceivesIf b s m (Ok done) → SameOwns s done.1
  receives_by true m done is usual quiet held does =
      on_owns m done usual quiet held (unless_out {A = Done} {F = PeerFault} (fault_if (not (message_fits m)) faults.PayloadTooLarge) (On s m) done does)
  receives_by false m done is usual quiet held does = absurd (true≢false (sym is))

  pub receives_owns : (m : Message) (done : Done) → IsUsual m → gives_up m ≡ false → ComesToHeld s m → Receives s m (Ok done) → SameOwns s done.1
  receives_owns m done usual quiet held does = receives_by (is_supported m) m done usual.0 usual quiet held does
