-- The tickets of calls that are delivered were given before.
use Rattle.std.specs.Prelude.{◌≡◌, refl, ℕ, ◌+◌, ◌<◌, ◌≤◌, not, if◌then◌else◌, Bool, true, false, List, [], ◌∷◌, ◌++◌, flat_map, Option, Some, None, is_some, IsTrue, Result, Ok}
use Rattle.std.specs.List.{AllByRecursion}
use Rattle.std.specs.FinMap.{get}
use Rattle.std.proofs.Common.{inl, inr, arith, sym, ◌∙◌, append-nil, true≢false}
use Rattle.cp_tables.specs.Table.{Table}
use Rattle.cp_tables.specs.declared.counted.Counted.{Counted}
use Rattle.cp_tables.specs.declared.exchange.Exchange.{Exchange}
use Rattle.cp_tables.specs.declared.exchange.Stage.{Stage}
use Rattle.cp_tables.specs.declared.exchange.Stage.TheVariants as stages
use Rattle.cp_messages.specs.declared.call.Call.{Call}
use Rattle.cp_messages.specs.declared.disembargo.DisembargoContext.{DisembargoContext}
use Rattle.cp_messages.specs.declared.disembargo.DisembargoContext.TheVariants as contexts
use Rattle.cp_messages.specs.declared.message.Message.{Message}
use Rattle.cp_messages.specs.declared.message.Message.TheVariants as messages
use Rattle.cp_messages.specs.declared.resolve.Resolve.{Resolve}
use Rattle.cp_messages.specs.declared.returned.Return.{Return}
use Rattle.cp_messages.specs.declared.small.Finish.{Finish}
use Rattle.cp_messages.specs.declared.target.Target.{Target}
use Rattle.cp_messages.specs.declared.target.Target.TheVariants as targets
use Rattle.cp_refs.specs.At.{cap_at}
use Rattle.cp_refs.specs.declared.cap.Cap.{Cap}
use Rattle.cp_refs.specs.declared.cap.Cap.TheVariants as caps
use Rattle.cp_refs.specs.declared.call.Origin.{Origin}
use Rattle.cp_refs.specs.declared.call.Origin.TheVariants as origins
use Rattle.cp_refs.specs.declared.call.Request.{Request}
use Rattle.cp_refs.specs.declared.outcome.Outcome.{Outcome}
use Rattle.cp_refs.specs.declared.route.Gate.TheVariants as gates
use Rattle.cp_refs.specs.declared.route.Route.TheVariants as routes
use Rattle.cp_refs.specs.declared.values.QuestionKind.{QuestionKind}
use Rattle.cp_refs.specs.declared.values.QuestionKind.TheVariants as kinds
use Rattle.cp_vat_machine.specs.State.{State, none_over}
use Rattle.cp_vat_machine.specs.Then.{Done, fault_if, OrFull}
use Rattle.cp_vat_machine.specs.Capacity.{Fresh, has_capacity, message_fits}
use Rattle.cp_vat_machine.specs.Supported.{is_supported}
use Rattle.cp_vat_machine.specs.Receiving.{answer_of, path_of, ReceivesCaps, release_exports}
use Rattle.cp_vat_machine.specs.Give.{Give, GiveAnswer, Settle, without_question}
use Rattle.cp_vat_machine.specs.Go.{PendingCall, GoTo, Leave, stays, leaves, finds_table_full, without_call, underway}
use Rattle.cp_vat_machine.specs.Answering.{with_answer, bootstrap_outcome, is_answering, GoToExport, GoToAnswer, GoToTarget, peer_call, entered, call_faults, target_faults, OnCall, AtStage, FinishedBy}
use Rattle.cp_vat_machine.specs.Asking.{ReceivesReturned, Settles, ReturnBy, is_asked, ReturnOf}
use Rattle.cp_vat_machine.specs.Resolving.{is_open_promise, TakeResolution, ResolveOf, echo_to, EchoesExport, EchoesAnswer, EchoesTarget, ended_by, OnDisembargo}
use Rattle.cp_vat_machine.specs.Calling.{plain, on_wire, came_to, reference_of, called, own_call, mark_of, marked, FirstEmbargoed, GoBack, GoByValue, GoFrom, OwnDone, call_refusals, DoCall}
use Rattle.cp_vat_machine.specs.Calling as calling
use Rattle.cp_vat_machine.specs.Doing.{Quietly, DoAnswer, answer_refusals, resolve_refusals, value_refusals, Resolves}
use Rattle.cp_vat_machine.specs.Local.{Local}
use Rattle.cp_vat_machine.specs.Run.{Moment}
use Rattle.cp_vat_machine.specs.Step.{On, Does, Receives, ReceivesIf, Step, was_closed, ran_out, refused, did, received, faulted, Follows, all_left, found_full}
use Rattle.cp_vat_machine.specs.declared.effect.Effect.{Effect}
use Rattle.cp_vat_machine.specs.declared.effect.Effect.TheVariants as effects
use Rattle.cp_vat_machine.specs.declared.entry.AnswerEntry.{AnswerEntry}
use Rattle.cp_vat_machine.specs.declared.entry.ImportKind.{ImportKind}
use Rattle.cp_vat_machine.specs.declared.entry.QuestionEntry.{QuestionEntry}
use Rattle.cp_vat_machine.specs.declared.event.Event.{Event}
use Rattle.cp_vat_machine.specs.declared.event.Event.TheVariants as events
use Rattle.cp_vat_machine.specs.declared.event.Value.{Value}
use Rattle.cp_vat_machine.specs.declared.fault.PeerFault.{PeerFault}
use Rattle.cp_vat_machine.specs.declared.fault.PeerFault.TheVariants as faults
use Rattle.cp_vat_machine.specs.declared.fault.VatFault.{VatFault}
use Rattle.cp_vat_machine.proofs.Basics.{ok_in, ok_out, then_out, unless_out, or_full_out, all_both}
use Rattle.cp_vat_laws.specs.Within.{Within, WaitsFor}
use Rattle.cp_vat_laws.proofs.Tables.{there_of, all_of, all_flat, all_map, every_of}
use Rattle.cp_vat_laws.proofs.within.Between.{local_is_within}
use Rattle.cp_vat_laws.proofs.within.Leave.{turn_within}
use Rattle.cp_vat_laws.proofs.within.Take.{take_all_keeps}
use Rattle.cp_vat_laws.proofs.within.Step.{does_within, receives_within}
use Rattle.cp_vat_pair_laws.specs.VatPair.{VatPair, Side, at_first, at_second, across, end_of, Move, Makes, AreOpen, messages_sent, Takes, with_mail}
use Rattle.cp_vat_pair_laws.specs.Lane.{is_side, ticket_of_own, own_ticket, answer_forwarded, stands_for, ticket_borne, Delivery, delivery_of, deliveries_of, IsStill}
use Rattle.cp_vat_pair_laws.specs.LaneKept.{StillHolds}
use Rattle.cp_vat_pair_laws.specs.Tickets.{TicketsHold}
use Rattle.cp_vat_pair_laws.specs.Lives.{IsUsual}
use Rattle.cp_vat_pair_laws.specs.Phases.{gives_up}
use Rattle.cp_vat_pair_laws.specs.Places.{NoneFinished}
use Rattle.cp_vat_pair_laws.proofs.still.Does.{TicketsMove, asked_mails, marked_marks, call_moved, does_moved}
use Rattle.cp_vat_pair_laws.proofs.still.Go.{turn_grows, leave_grows}
use Rattle.cp_vat_pair_laws.proofs.still.Receives.{returned_taken, unlowered, ComesToHeld, receives_moved}
use Rattle.cp_vat_pair_laws.proofs.still.Move.{front_known, agree_at, end_open, other_end, move_moved}
use Rattle.cp_vat_pair_laws.proofs.lane.parts.Silent.{answer_silent, own_silent, give_silent, settle_silent}
use Rattle.cp_vat_pair_laws.proofs.lane.parts.Go.{go_went, goes_went, IsBelow, DeliversBelow, none_below, went_below}

-- all that is delivered is below a number
abbrev pub AllBelow : ℕ → List Effect → Type 0
AllBelow n done = AllByRecursion (DeliversBelow n) done

below_both : (n : ℕ) (first more : List Effect) → AllBelow n first → AllBelow n more → AllBelow n (first ++ more)
below_both n first more one two = all_both (DeliversBelow n) first more one two

-- the application's call, from where its question was opened
called_unfinished : (s : State) (q : ℕ) (kind : QuestionKind) → NoneFinished s → NoneFinished (called s q kind)
called_unfinished s q kind none = (asked_mails s q kind (Some s.next_ticket) false).unfinished none

module _ (s : State) (q : ℕ) (request : Request) (none : NoneFinished s) where
  abbrev n : ℕ
  n = s.next_ticket + 1

  own_below : s.next_ticket < n
  own_below = omega arith

  local_below : (cap : Cap) (done : Done) → GoTo (called s q kinds.Local) (own_call s q request) cap (Ok done) → AllBelow n done.0
  local_below cap done goes = went_below n own_below (goes_went (called s q kinds.Local) (own_call s q request) cap done (called_unfinished s q kinds.Local none) goes)

  embargoed_below : (cap value : Cap) (done : Done) → FirstEmbargoed (called s q kinds.Local) (own_call s q request) cap value (Ok done) → AllBelow n done.0
  embargoed_below cap value done does =
      let parts = then_out {A = ℕ} {B = Done} (Fresh s.marks.embargoes) _ done does in
      rw (ok_in _ _ parts.2) (tt, tt)

  back_below : (cap value : Cap) (o : Option (Option ℕ)) (done : Done) → GoBack (called s q kinds.Local) (own_call s q request) cap value o (Ok done) → AllBelow n done.0
  back_below cap value None done goes = local_below value done goes
  back_below cap value (Some None) done goes = embargoed_below cap value done goes
  back_below cap value (Some (Some m)) done goes =
      went_below n own_below (go_went (called s q kinds.Local) (own_call s q request) (routes.Wait (gates.Embargo m)) done (called_unfinished s q kinds.Local none) goes)

  value_below : (cap value : Cap) (done : Done) → GoByValue s q request cap value (Ok done) → AllBelow n done.0
  value_below cap (caps.Import j) done goes =
      went_below n own_below (go_went (called s q kinds.Wire) (own_call s q request) (routes.Import j) done (called_unfinished s q kinds.Wire none) goes)
  value_below cap (caps.Object k) done goes = back_below cap (caps.Object k) (mark_of s cap) done goes
  value_below cap (caps.Promise p) done goes = back_below cap (caps.Promise p) (mark_of s cap) done goes
  value_below cap caps.None done goes = local_below caps.None done goes
  value_below cap (caps.Pipelined r path) done goes = local_below (caps.Pipelined r path) done goes
  value_below cap (caps.Broken x) done goes = local_below (caps.Broken x) done goes

  from_below : (cap : Cap) (ref : calling.Standing) (done : Done) → GoFrom s q request cap ref (Ok done) → AllBelow n done.0
  from_below cap plain done goes = local_below cap done goes
  from_below cap on_wire done goes =
      let parts = then_out {A = State} {B = Done} (λ mid. mid ≡ marked (called s q kinds.Wire) cap (mark_of s cap)) _ done goes in
      let marks = marked_marks (called s q kinds.Wire) parts.0 cap (mark_of s cap) parts.1 in
      let later : NoneFinished parts.0 = rw (marks.entries) (called_unfinished s q kinds.Wire none) in
      went_below n own_below (goes_went parts.0 (own_call s q request) cap done later parts.2)
  from_below cap (came_to value) done goes = value_below cap value done goes

call_below : (s : State) (cap : Cap) (request : Request) (done : OwnDone) → NoneFinished s → DoCall s cap request (Ok done) → AllBelow (s.next_ticket + 1) done.1
call_below s cap request done none does =
    let opens = or_full_out _ _ (unless_out {A = OwnDone} {F = VatFault} (call_refusals s cap request) _ done does) in
    let first = then_out {A = ℕ} {B = OwnDone} (Fresh s.entries.questions) _ done opens in
    let goes = then_out {A = Done} {B = OwnDone} (GoFrom s first.0 request cap (reference_of s.values cap)) _ done first.2 in
    rw (ok_in _ _ goes.2) (from_below s first.0 request none cap (reference_of s.values cap) goes.0 goes.1)

answers_below : (n : ℕ) (s : State) (origin : Origin) (outcome : Outcome) (done : OwnDone) → NoneFinished s → DoAnswer s origin outcome (Ok done) → AllBelow n done.1
answers_below n s origin outcome done none does =
    let Rule : Result OwnDone VatFault → Type 0 = OrFull (Quietly (Give s origin outcome)) in
    let rule = or_full_out (Quietly (Give s origin outcome)) done (unless_out {A = OwnDone} {F = VatFault} (answer_refusals s origin outcome) Rule done does) in
    let parts = then_out {A = Done} {B = OwnDone} (Give s origin outcome) _ done rule in
    rw (ok_in _ _ parts.2) (none_below n parts.0.0 (give_silent s origin outcome parts.0 none parts.1).no_delivery)

resolves_below : (n : ℕ) (s : State) (p : ℕ) (cap : Cap) (done : OwnDone) → Resolves s p cap (Ok done) → AllBelow n done.1
resolves_below n s p cap done (inl cycle) = ok_out cycle.1
resolves_below n s p cap done (inr does) =
    let Rule : Result OwnDone VatFault → Type 0 = OrFull (Quietly (Settle s p cap)) in
    let rule = or_full_out (Quietly (Settle s p cap)) done (unless_out {A = OwnDone} {F = VatFault} (value_refusals s cap) Rule done does.1) in
    let parts = then_out {A = Done} {B = OwnDone} (Settle s p cap) _ done rule in
    rw (ok_in _ _ parts.2) (none_below n parts.0.0 (settle_silent s p cap parts.0 parts.1).no_delivery)

-- what the application does
does_below : (s : State) (event : Event) (done : OwnDone) → Within s None [] → NoneFinished s → IsStill event → Does s event (Ok done)
    → AllBelow done.2.next_ticket done.1
does_below s (events.Receive m) done h none still does = absurd does
does_below s events.Bootstrap done h none still does =
    let parts = then_out {A = ℕ} {B = OwnDone} (Fresh s.entries.questions) _ done (or_full_out _ _ does) in
    rw (ok_in _ _ parts.2) (tt, tt)
does_below s (events.Call cap request) done h none still does =
    let call = call_moved s cap request done h does in
    rw (call.3.tickets.next) (call_below s cap request done none does)
does_below s (events.Answer origin outcome) done h none still does = answers_below done.2.next_ticket s origin outcome done none does
does_below s events.Promise done h none still does =
    let parts = then_out {A = ℕ} {B = OwnDone} (Fresh s.values.promises) _ done (or_full_out _ _ does) in
    rw (ok_in _ _ parts.2) tt
does_below s (events.Resolve p cap) done h none still does =
    resolves_below done.2.next_ticket s p cap done (unless_out {A = OwnDone} {F = VatFault} (resolve_refusals s p cap) (Resolves s p cap) done does)
does_below s (events.Finish q) done h none still does = absurd still
does_below s (events.Release i) done h none still does = absurd still
does_below s (events.Forget p) done h none still does = absurd still
does_below s events.Idle done h none still does = rw (ok_in _ _ does) tt

-- a message
target_below : (n : ℕ) (s : State) (call : PendingCall) (target : Target) (done : Done) → NoneFinished s → IsBelow n call.origin call.ticket
    → GoToTarget s call target (Ok done) → AllBelow n done.0
target_below n s call (targets.ImportedCap e) done none below goes = at_export (get s.counts.exports e) goes
  where
    at_export : (o : Option (Counted Cap)) → GoToExport s call o (Ok done) → AllBelow n done.0
    at_export None goes = absurd goes
    at_export (Some entry) goes = went_below n below (goes_went s call entry.kept done none goes)
target_below n s call (targets.PromisedAnswer answer) done none below goes = at_answer (answer_of s answer.question_id) goes
  where
    at_answer : (o : Option (Option Outcome)) → GoToAnswer s call answer.question_id (path_of answer.transform) o (Ok done) → AllBelow n done.0
    at_answer None goes = absurd goes
    at_answer (Some None) goes =
        went_below n below (go_went s call (routes.Wait (gates.Answer answer.question_id (path_of answer.transform))) done none goes)
    at_answer (Some (Some outcome)) goes = went_below n below (goes_went s call (cap_at outcome (path_of answer.transform)) done none goes)
target_below n s call (targets.Unknown m) done none below goes = absurd goes

call_comes_below : (n : ℕ) (s : State) (c : Call) (done : Done) → Within s None [] → s.waiting.over ≡ none_over → NoneFinished s → OnCall s c (Ok done) → AllBelow n done.0
call_comes_below n s c done h still none does =
    let rule = unless_out {A = Done} {F = PeerFault} (call_faults s c) _ done does in
    let taken = then_out {A = List Cap × State} {B = Done} (ReceivesCaps s c.params.cap_table) _ done rule in
    let well = take_all_keeps None [] c.params.cap_table s taken.0 h still taken.1 in
    let later : NoneFinished (entered taken.0.1 c.question_id) = rw (well.1.asked) none in
    target_below n (entered taken.0.1 c.question_id) (peer_call taken.0.1 c taken.0.0) c.target done later tt taken.2

settles_below : (n : ℕ) (s : State) (q : ℕ) (forwards : Option ℕ) (outcome : Outcome) (done : Done) → NoneFinished s → Settles s q forwards outcome (Ok done) → AllBelow n done.0
settles_below n s q None outcome done none does = none_below n done.0 (own_silent s q outcome done none does).no_delivery
settles_below n s q (Some a) outcome done none does =
    let parts = then_out {A = Done} {B = Done} (GiveAnswer (without_question s q) a outcome) _ done does in
    rw (ok_in _ _ parts.2) (tt, none_below n parts.0.0 (answer_silent (without_question s q) a outcome parts.0 parts.1).no_delivery)

return_below : (n : ℕ) (s : State) (r : Return) (entry : Exchange QuestionEntry) (stage : Stage) (done : Done) → Within s None [] → s.waiting.over ≡ none_over → NoneFinished s
    → ReturnBy s r entry.kept stage (Ok done) → AllBelow n done.0
return_below n s r entry stages.Open done h still none does =
    let taken = then_out {A = Outcome × State} {B = Done} (ReceivesReturned s r.returned) _ done does in
    let one = returned_taken s r.returned taken.0 h still taken.1 in
    let later : NoneFinished taken.0.1 = rw (one.grows.asked) none in
    settles_below n taken.0.1 r.answer_id entry.kept.forwards taken.0.0 done later taken.2
return_below n s r entry stages.Finished done h still none does = rw (ok_in _ _ does) tt
return_below n s r entry stages.Returned done h still none does = absurd does

return_of_below : (n : ℕ) (s : State) (r : Return) (o : Option (Exchange QuestionEntry)) (done : Done) → Within s None [] → s.waiting.over ≡ none_over → NoneFinished s
    → r.release_param_caps ≡ false → ReturnOf s r o (Ok done) → AllBelow n done.0
return_of_below n s r None done h still none keeps does = ok_out does
return_of_below n s r (Some entry) done h still none keeps does =
    let rule = unless_out {A = Done} {F = PeerFault} (fault_if (not (is_asked entry.kept.is_sent entry.stage)) faults.UnknownQuestion) _ done does in
    let lowers = then_out {A = Table (Counted Cap)} {B = Done}
    (λ exports. exports ≡ (if r.release_param_caps then release_exports s.counts.exports entry.kept.mentions else Ok s.counts.exports)) _ done rule in
    let same = unlowered r.release_param_caps s entry.kept.mentions lowers.0 keeps lowers.1 in
    let by : ReturnBy s r entry.kept entry.stage (Ok done) = rw same at lowers.2 in
    return_below n s r entry entry.stage done h still none by

finish_below : (n : ℕ) (s : State) (f : Finish) (kept : AnswerEntry) (stage : Stage) (done : Done) → AtStage s f kept stage (Ok done) → AllBelow n done.0
finish_below n s f kept stages.Open done does = rw (ok_in _ _ does) tt
finish_below n s f kept stages.Returned done does =
    let parts = then_out {A = Table (Counted Cap)} {B = Done}
    (λ exports. exports ≡ (if f.release_result_caps then release_exports s.counts.exports kept.mentions else Ok s.counts.exports)) _ done does in
    rw (ok_in _ _ parts.2) tt
finish_below n s f kept stages.Finished done does = ok_out does

finish_of_below : (n : ℕ) (s : State) (f : Finish) (o : Option (Exchange AnswerEntry)) (done : Done) → FinishedBy s f o (Ok done) → AllBelow n done.0
finish_of_below n s f None done does = ok_out does
finish_of_below n s f (Some entry) done does = finish_below n s f entry.kept entry.stage done does

resolve_below : (n : ℕ) (s : State) (r : Resolve) (o : Option (Counted ImportKind)) (done : Done) → IsTrue (is_some o) → ResolveOf s r o (Ok done) → AllBelow n done.0
resolve_below n s r None done held does = absurd (true≢false (sym held))
resolve_below n s r (Some entry) done held does =
    let rule = unless_out {A = Done} {F = PeerFault} (fault_if (not (is_open_promise entry.kept (get s.values.imports r.promise_id))) faults.NotAnOpenPromise) _ done does in
    let parts = then_out {A = Cap × State} {B = Done} (TakeResolution s r.resolution) _ done rule in
    rw (ok_in _ _ parts.2) tt

echo_below : (n : ℕ) (s : State) (m : ℕ) (last : Cap) (done : Done) → Ok done ≡ echo_to s m last → AllBelow n done.0
echo_below n s m (caps.Import i) done is = rw (ok_in _ _ is) (tt, tt)
echo_below n s m caps.None done is = ok_out is
echo_below n s m (caps.Object k) done is = ok_out is
echo_below n s m (caps.Promise p) done is = ok_out is
echo_below n s m (caps.Pipelined q path) done is = ok_out is
echo_below n s m (caps.Broken x) done is = ok_out is

echoes_below : (n : ℕ) (s : State) (m : ℕ) (target : Target) (done : Done) → EchoesTarget s m target (Ok done) → AllBelow n done.0
echoes_below n s m (targets.ImportedCap e) done does = at_export (get s.counts.exports e) does
  where
    at_export : (o : Option (Counted Cap)) → EchoesExport s m o (Ok done) → AllBelow n done.0
    at_export None does = absurd does
    at_export (Some entry) does = echo_below n s m does.0 done does.2
echoes_below n s m (targets.PromisedAnswer answer) done does = at_answer (answer_of s answer.question_id) does
  where
    at_answer : (o : Option (Option Outcome)) → EchoesAnswer s m (path_of answer.transform) o (Ok done) → AllBelow n done.0
    at_answer None does = absurd does
    at_answer (Some None) does = ok_out does
    at_answer (Some (Some outcome)) does = echo_below n s m does.0 done does.2
echoes_below n s m (targets.Unknown k) done does = absurd does

ended_below : (n : ℕ) (s : State) (m : ℕ) (o : Option Cap) (done : Done) → Ok done ≡ ended_by s m o → AllBelow n done.0
ended_below n s m None done is = ok_out is
ended_below n s m (Some cap) done is = rw (ok_in _ _ is) tt

disembargo_below : (n : ℕ) (s : State) (context : DisembargoContext) (target : Target) (done : Done) → OnDisembargo s context target (Ok done) → AllBelow n done.0
disembargo_below n s (contexts.SenderLoopback m) target done does =
    echoes_below n s m target done (unless_out {A = Done} {F = PeerFault} (target_faults s target) _ done does)
disembargo_below n s (contexts.ReceiverLoopback m) target done does = ended_below n s m (get s.marks.embargoes m) done does
disembargo_below n s contexts.Accept target done does = absurd does
disembargo_below n s (contexts.Provide q) target done does = absurd does
disembargo_below n s (contexts.Unknown m) target done does = absurd does

module _ (n : ℕ) (s : State) (h : Within s None []) (still : s.waiting.over ≡ none_over) (none : NoneFinished s) where
  on_below : (m : Message) (done : Done) → IsUsual m → gives_up m ≡ false → ComesToHeld s m → On s m (Ok done) → AllBelow n done.0
  on_below (messages.Unimplemented t) done usual quiet held does = absurd usual.1
  on_below (messages.Abort x) done usual quiet held does = absurd usual.1
  on_below (messages.Call c) done usual quiet held does = call_comes_below n s c done h still none does
  on_below (messages.Return r) done usual quiet held does = return_of_below n s r (get s.entries.questions r.answer_id) done h still none usual.1.0 does
  on_below (messages.Finish f) done usual quiet held does = finish_of_below n s f (get s.entries.answers f.question_id) done does
  on_below (messages.Resolve r) done usual quiet held does = resolve_below n s r (get s.counts.imports r.promise_id) done held does
  on_below (messages.Release r) done usual quiet held does = absurd (true≢false quiet)
  on_below (messages.Bootstrap b) done usual quiet held does =
      let mid : State = with_answer s b.question_id None in
      let gives = unless_out {A = Done} {F = PeerFault}
      (fault_if (is_answering s b.question_id) faults.QuestionInUse ++ fault_if (not (has_capacity s.entries.answers)) faults.TableFull)
      (GiveAnswer mid b.question_id (bootstrap_outcome s.bootstrap)) done does in
      none_below n done.0 (answer_silent mid b.question_id (bootstrap_outcome s.bootstrap) done gives).no_delivery
  on_below (messages.Disembargo d) done usual quiet held does = disembargo_below n s d.context d.target done does
  on_below (messages.Other which body) done usual quiet held does = absurd does

  receives_by : (b : Bool) (m : Message) (done : Done) → b ≡ true → IsUsual m → gives_up m ≡ false → ComesToHeld s m → ReceivesIf b s m (Ok done) → AllBelow n done.0
  receives_by true m done is usual quiet held does =
      on_below m done usual quiet held (unless_out {A = Done} {F = PeerFault} (fault_if (not (message_fits m)) faults.PayloadTooLarge) (On s m) done does)
  receives_by false m done is usual quiet held does = absurd (true≢false (sym is))

  receives_below : (m : Message) (done : Done) → IsUsual m → gives_up m ≡ false → ComesToHeld s m → Receives s m (Ok done) → AllBelow n done.0
  receives_below m done usual quiet held does = receives_by (is_supported m) m done usual.0 usual quiet held does

-- waiting calls that leave
turn_is_below : (origin : Origin) (ticket n : ℕ) → ticket < n → IsBelow n origin ticket
turn_is_below (origins.Answer a) ticket n less = tt
turn_is_below (origins.Own q) ticket n less = less

leave_below : {old : State} {all : List Effect} {out : Result State PeerFault} (n : ℕ) → Within old None [] → NoneFinished old → old.next_ticket ≡ n → Leave old all out
    → AllBelow n all
leave_below n h none is (stays over) = tt
leave_below {old = old} n h none is (leaves {mid = mid} {first = first} {rest = rest} call cap next goes more same) =
    let waits = there_of (WaitsFor old call.ticket) (get old.waiting.calls call.ticket) call next.waits (h.waiting call.ticket) in
    let below = turn_is_below call.origin call.ticket n (omega (arith, waits.1, is)) in
    let grown = turn_grows h call cap next (first, mid) goes in
    let one = went_below n below (goes_went (without_call old call) (underway call) cap (first, mid) none goes) in
    rw
    (same)
    (below_both n first rest one
    (leave_below n (turn_within h call cap next (first, mid) goes) (grown.mails.unfinished none) (grown.tickets.next ∙ is) more))
leave_below n h none is (finds_table_full call cap next goes) = tt

-- a whole step
closed_open : {A : Type 0} {b : Bool} → b ≡ true → b ≡ false → A
closed_open closed open_ = absurd (true≢false (sym closed ∙ open_))

follows_below : {mid new : State} (first : List Effect) {rest : List Effect} → Within mid None [] → NoneFinished mid → new.is_closed ≡ false → AllBelow mid.next_ticket first
    → Follows mid rest new → AllBelow new.next_ticket (first ++ rest)
follows_below {mid = mid} {new = new} first {rest = rest} h none open_ below (all_left leave) =
    rw
    ((leave_grows mid new rest h leave).tickets.next)
    (below_both mid.next_ticket first rest below (leave_below mid.next_ticket h none refl leave))
follows_below first h none open_ below (found_full leave all closed) = closed_open closed open_

pub step_below : {old new : State} {event : Event} {result : Result Value VatFault} {effects : List Effect} (inbox rest : List Message) → Local old → NoneFinished old
    → ((m : Message) (more : List Message) → inbox ≡ m ∷ more → IsUsual m × (gives_up m ≡ false) × ComesToHeld old m) → Takes inbox event rest → IsStill event
    → new.is_closed ≡ false → Step old event result effects new → AllBelow new.next_ticket effects
step_below inbox rest local_ none front takes still open_ (was_closed event closed) = closed_open closed open_
step_below inbox rest local_ none front takes still open_ (ran_out event was closed) = closed_open closed open_
step_below inbox rest local_ none front takes still open_ (refused event was does) = tt
step_below {old = old} {new = new} inbox rest local_ none front takes still open_ (did {value = value} event first more mid was does follows all) =
    let h = local_is_within old local_ in
    let within = does_within old event (value, first, mid) local_ does in
    let moved = does_moved old event (value, first, mid) h still does in
    rw (all) (follows_below first within (moved.mails.unfinished none) open_ (does_below old event (value, first, mid) h none still does) follows)
step_below {old = old} {new = new} inbox rest local_ none front takes still open_ (received m first more mid was does follows all) =
    let h = local_is_within old local_ in
    let known = front m rest takes in
    let within = receives_within old m (first, mid) local_ does in
    let moved = receives_moved old h local_.none_over_ none m (first, mid) known.0 known.1 known.2 does in
    rw
    (all)
    (follows_below first within (moved.mails.unfinished none) open_
    (receives_below mid.next_ticket old h local_.none_over_ none m (first, mid) known.0 known.1 known.2 does) follows)
step_below inbox rest local_ none front takes still open_ (faulted m was does closed) = closed_open closed open_

-- the tickets of own calls, and of those that calls of the peer's stand for
module _ (s : State) {made : List ℕ} (tickets : TicketsHold s made) where
  own_by : (q : ℕ) (entry : Exchange QuestionEntry) (forwards ticket : Option ℕ) → get s.entries.questions q ≡ Some entry → entry.kept.forwards ≡ forwards
      → entry.kept.ticket ≡ ticket → AllByRecursion (λ t. t < s.next_ticket) (ticket_of_own forwards ticket)
  own_by q entry None None is own at = tt
  own_by q entry None (Some t) is own at = (tickets.below (origins.Own q) t (entry, is, at, own), tt)
  own_by q entry (Some a) ticket is own at = tt

  own_at : (q : ℕ) (o : Option (Exchange QuestionEntry)) → get s.entries.questions q ≡ o → AllByRecursion (λ t. t < s.next_ticket) (own_ticket o)
  own_at q None is = tt
  own_at q (Some entry) is = own_by q entry entry.kept.forwards entry.kept.ticket is refl refl

  pub owns_below : (q : ℕ) → AllByRecursion (λ t. t < s.next_ticket) (own_ticket (get s.entries.questions q))
  owns_below q = own_at q (get s.entries.questions q) refl

  stands_below : (there : State) (a : ℕ) → AllByRecursion (λ t. t < s.next_ticket) (stands_for s there a)
  stands_below there a =
      all_flat (λ t. t < s.next_ticket) (λ question. own_ticket (get s.entries.questions question)) (answer_forwarded (get there.entries.questions a))
      (every_of (λ question. AllByRecursion (λ t. t < s.next_ticket) (own_ticket (get s.entries.questions question))) (answer_forwarded (get there.entries.questions a)) owns_below)

  module _ (there : State) (n : ℕ) (low : s.next_ticket ≤ n) where
    less_on : (ts : List ℕ) → AllByRecursion (λ t. t < s.next_ticket) ts → AllByRecursion (λ t. t < n) ts
    less_on ts all = all_of (λ t. t < s.next_ticket) (λ t. t < n) ts (λ t less. omega (arith, less, low)) all

    borne_below : (origin : Origin) (ticket : ℕ) → IsBelow n origin ticket → AllByRecursion (λ t. t < n) (ticket_borne s there origin ticket)
    borne_below (origins.Own q) ticket below = (below, tt)
    borne_below (origins.Answer a) ticket below = less_on (stands_for s there a) (stands_below there a)

    effect_below : (e : Effect) → DeliversBelow n e → AllByRecursion (λ d. d.ticket < n) (delivery_of s there e)
    effect_below (effects.Deliver object origin ticket call) below =
        all_map (λ (d : Delivery). d.ticket < n) (λ own. record { ticket = own; object = object }) (ticket_borne s there origin ticket) (borne_below origin ticket below)
    effect_below e below = tt

    effects_below : (done : List Effect) → AllBelow n done → AllByRecursion (λ d. d.ticket < n) (flat_map (delivery_of s there) done)
    effects_below done below =
        all_flat (λ (d : Delivery). d.ticket < n) (delivery_of s there) done
        (all_of (DeliversBelow n) (λ e. AllByRecursion (λ d. d.ticket < n) (delivery_of s there e)) done effect_below below)

-- So each delivery bears a ticket that was given before.
next_on : {old new : State} → TicketsMove old new → old.next_ticket ≤ new.next_ticket
next_on (inl stay) = omega (arith, stay.next)
next_on (inr more) = omega (arith, more.1.next)

module _ (w after : VatPair) (moment : Moment) (made : List ℕ) (all : List Delivery) where
  abbrev GivenFor : Side → Side → Type 0
  GivenFor acting side =
      TicketsMove (end_of w acting).vat (end_of after acting).vat → AllBelow (end_of after acting).vat.next_ticket moment.effects
      → end_of after (across acting) ≡ with_mail (end_of w (across acting)) (messages_sent moment.effects) → TicketsHold (end_of w side).vat made
      → AllByRecursion (λ (d : Delivery). d.ticket < (end_of w side).vat.next_ticket) all
      → AllByRecursion (λ (d : Delivery). d.ticket < (end_of after side).vat.next_ticket)
      (all ++ (if is_side acting side then flat_map (delivery_of (end_of w side).vat (end_of w (across side)).vat) moment.effects else []))

  acts_for : (here there new : State) → TicketsMove here new → AllBelow new.next_ticket moment.effects → TicketsHold here made
      → AllByRecursion (λ (d : Delivery). d.ticket < here.next_ticket) all
      → AllByRecursion (λ (d : Delivery). d.ticket < new.next_ticket) (all ++ flat_map (delivery_of here there) moment.effects)
  acts_for here there new moved below tickets before =
      all_both (λ (d : Delivery). d.ticket < new.next_ticket) all (flat_map (delivery_of here there) moment.effects)
      (all_of (λ (d : Delivery). d.ticket < here.next_ticket) (λ (d : Delivery). d.ticket < new.next_ticket) all (λ d less. omega (arith, less, next_on moved)) before)
      (effects_below here tickets there new.next_ticket (next_on moved) moment.effects below)

  given_for : (acting side : Side) → GivenFor acting side
  given_for at_first at_first moved below sends tickets before = acts_for w.first.vat w.second.vat after.first.vat moved below tickets before
  given_for at_second at_second moved below sends tickets before = acts_for w.second.vat w.first.vat after.second.vat moved below tickets before
  given_for at_first at_second moved below sends tickets before = rw (sends, append-nil all) before
  given_for at_second at_first moved below sends tickets before = rw (sends, append-nil all) before

pub given_kept : (w : VatPair) (move : Move) → StillHolds w → Makes w move → AreOpen move.after → IsStill move.moment.event → (side : Side) (made : List ℕ)
    (all : List Delivery) → TicketsHold (end_of w side).vat made → AllByRecursion (λ (d : Delivery). d.ticket < (end_of w side).vat.next_ticket) all
    → AllByRecursion (λ (d : Delivery). d.ticket < (end_of move.after side).vat.next_ticket) (all ++ deliveries_of w side move)
given_kept w move h makes open_ still side made all tickets before =
    let one = h.ends move.side in
    let other = other_end move.side w h in
    let front = front_known (end_of w move.side) (end_of w (across move.side)) one other (agree_at move.side w h.agreed) in
    let below = step_below (end_of w move.side).inbox (end_of move.after move.side).inbox one.local_ one.quiet.questions front makes.takes still
    (end_open move.side move.after open_) makes.steps in
    given_for w move.after move.moment made all move.side side (move_moved w move h makes open_ still).moved.tickets below makes.sends tickets before
