-- A vat that says that it closes is closed.
use Rattle.std.proofs.Common.{◌≡◌, ℕ, not, ◌||◌, cond, Bool, true, false, is_none, List, [], ◌∷◌, ◌++◌, Option, Some, None, Result, Ok, Err, refl, sym, ◌∙◌, ap, inl, inr, ◌⊎◌, subst, true≢false}
use Rattle.std.specs.FinMap.{get, get-empty}
use Rattle.std.specs.Ordering.{nat_cmp}
use Rattle.cp_tables.specs.Table.{Table}
use Rattle.cp_tables.specs.Counted.{count_of}
use Rattle.cp_tables.specs.declared.counted.Counted.{Counted}
use Rattle.cp_tables.specs.declared.exchange.Exchange.{Exchange}
use Rattle.cp_tables.specs.declared.exchange.Stage.{Stage}
use Rattle.cp_tables.specs.declared.exchange.Stage.TheVariants as stages
use Rattle.cp_messages.specs.Written.{message_written}
use Rattle.cp_messages.specs.declared.call.Call.{Call}
use Rattle.cp_messages.specs.declared.descriptor.Descriptor.{Descriptor}
use Rattle.cp_messages.specs.declared.disembargo.DisembargoContext.{DisembargoContext}
use Rattle.cp_messages.specs.declared.disembargo.DisembargoContext.TheVariants as contexts
use Rattle.cp_messages.specs.declared.message.Message.{Message}
use Rattle.cp_messages.specs.declared.message.Message.TheVariants as messages
use Rattle.cp_messages.specs.declared.resolve.Resolution.{Resolution}
use Rattle.cp_messages.specs.declared.resolve.Resolve.{Resolve}
use Rattle.cp_messages.specs.declared.returned.Return.{Return}
use Rattle.cp_messages.specs.declared.returned.Returned.{Returned}
use Rattle.cp_messages.specs.declared.small.Finish.{Finish}
use Rattle.cp_messages.specs.declared.small.Release.{Release}
use Rattle.cp_messages.specs.declared.target.Target.{Target}
use Rattle.cp_messages.specs.declared.target.Target.TheVariants as targets
use Rattle.cp_refs.specs.At.{cap_at}
use Rattle.cp_refs.specs.declared.call.Origin.{Origin}
use Rattle.cp_refs.specs.declared.call.Origin.TheVariants as origins
use Rattle.cp_refs.specs.declared.call.Request.{Request}
use Rattle.cp_refs.specs.declared.cap.Cap.{Cap}
use Rattle.cp_refs.specs.declared.cap.Cap.TheVariants as caps
use Rattle.cp_refs.specs.declared.outcome.Outcome.{Outcome}
use Rattle.cp_refs.specs.declared.outcome.Outcome.TheVariants as outcomes
use Rattle.cp_refs.specs.declared.route.Gate.{Gate}
use Rattle.cp_refs.specs.declared.route.Gate.TheVariants as gates
use Rattle.cp_refs.specs.declared.call.WaitingCall.{WaitingCall}
use Rattle.cp_refs.specs.declared.route.Route.{Route}
use Rattle.cp_refs.specs.declared.route.Route.TheVariants as routes
use Rattle.cp_refs.specs.declared.values.QuestionKind.TheVariants as kinds
use Rattle.cp_vat_machine.specs.State.{State, Over, gave, none_over, with_exports}
use Rattle.cp_vat_machine.specs.Then.{Done, OrFull, fault_if}
use Rattle.cp_vat_machine.specs.Capacity.{has_capacity, Fresh, message_fits}
use Rattle.cp_vat_machine.specs.Writing.{WritesDescriptors, promised}
use Rattle.cp_vat_machine.specs.Receiving.{answer_of, path_of, release_exports, released, ReceivesCaps}
use Rattle.cp_vat_machine.specs.Give.{ResolvesEnd, Tells, settled, value_for, last_for, Settle, SettleTied, Returns, given, gone, GiveBy, GiveAnswer, GiveOwnBy, Give, without_question}
use Rattle.cp_vat_machine.specs.Go.{PendingCall, underway, finish_of, finish_after, GoOut, Go, GoTo, Leave, stays, leaves, finds_table_full, without_call, IsNext}
use Rattle.cp_vat_machine.specs.InUse.{is_own_question, is_question_used, is_import_used, is_promise_used, is_unsettled}
use Rattle.cp_vat_machine.specs.Calling.{Standing, plain, on_wire, came_to, reference_of, called, own_call, mark_of, marked, FirstEmbargoed, GoBack, GoByValue, GoFrom, OwnDone, Opens, call_refusals, DoCall}
use Rattle.cp_vat_machine.specs.Doing.{Quietly, answer_refusals, resolve_refusals, value_refusals, Resolves, told_if, FinishBy, Finishes, without_import, without_promise}
use Rattle.cp_vat_machine.specs.Answering.{with_answer, bootstrap_outcome, is_answering, OnBootstrap, target_faults, GoToExport, GoToAnswer, GoToTarget, peer_call, entered, call_faults, OnCall, AtStage, FinishedBy}
use Rattle.cp_vat_machine.specs.Asking.{ReceivesReturned, Settles, ReturnBy, is_asked, ReturnOf}
use Rattle.cp_vat_machine.specs.Resolving.{OnRelease, release_of, is_open_promise, TakeResolution, ResolveOf, given_back, releases_of, echo_to, EchoesExport, EchoesAnswer, EchoesTarget, ended_by, OnDisembargo, UnknownToPeer, told, closed}
use Rattle.cp_vat_machine.specs.Step.{On, ReceivesIf, Does, echo_fits, echoed, Follows, all_left, found_full, Step, did, received, faulted}
use Rattle.cp_vat_machine.specs.declared.effect.Effect.{Effect}
use Rattle.cp_vat_machine.specs.declared.effect.Effect.TheVariants as effects
use Rattle.cp_vat_machine.specs.declared.entry.AnswerEntry.{AnswerEntry}
use Rattle.cp_vat_machine.specs.declared.entry.ImportKind.{ImportKind}
use Rattle.cp_vat_machine.specs.declared.entry.QuestionEntry.{QuestionEntry}
use Rattle.cp_vat_machine.specs.declared.entry.Tied.{Tied}
use Rattle.cp_vat_machine.specs.declared.event.Event.{Event}
use Rattle.cp_vat_machine.specs.declared.event.Event.TheVariants as events
use Rattle.cp_vat_machine.specs.declared.event.Value.{Value}
use Rattle.cp_vat_machine.specs.declared.event.Value.TheVariants as values
use Rattle.cp_vat_machine.specs.declared.fault.PeerFault.{PeerFault}
use Rattle.cp_vat_machine.specs.declared.fault.PeerFault.TheVariants as faults
use Rattle.cp_vat_machine.specs.declared.fault.VatFault.{VatFault}
use Rattle.cp_vat_machine.specs.declared.fault.VatFault.TheVariants as refusals
use Rattle.cp_vat_machine.proofs.Basics.{ok_in, ok_out, then_out, unless_out, or_full_out, none_out}
use Rattle.cp_tail_calls.specs.Serving.{closes}
use Rattle.cp_connection.proofs.Noting.{closes_both}
use Rattle.cp_serve.specs.Matching.{IsBetween}

-- none of a rule's effects closes the vat
abbrev IsSilent : Done → Type 0
IsSilent done = closes done.0 ≡ false

abbrev OwnSilent : OwnDone → Type 0
OwnSilent done = closes done.1 ≡ false

then_silent : (a b : List Effect) → closes a ≡ false → closes b ≡ false → closes (a ++ b) ≡ false
then_silent a b h k = closes_both a b ∙ ap (λ (x : Bool). x || closes b) h ∙ k

-- ---- outcomes that are given, and promises that are settled

tells_silent : (s : State) (p : ℕ) (last : Cap) (done : Done) → Tells s p last (Ok done) → IsSilent done
tells_silent s p last done (inl is) = rw (ok_in _ _ is.1) refl
tells_silent s p last done (inr is) =
    let parts = then_out {A = Resolution × State} {B = Done} (ResolvesEnd s last) _ done is.2 in
    rw (ok_in _ _ parts.2) refl

settle_silent : (s : State) (p : ℕ) (value : Cap) (done : Done) → Settle s p value (Ok done) → IsSilent done
settle_silent s p value done does = tells_silent (settled s p (value_for p does.0 value)) p (last_for p does.0) done does.2

tied_silent : (tied : List Tied) (s : State) (outcome : Outcome) (done : Done) → SettleTied s outcome tied (Ok done) → IsSilent done
tied_silent [] s outcome done does = rw (ok_in _ _ does) refl
tied_silent (tied ∷ more) s outcome done does =
    let first = then_out {A = Done} {B = Done} (Settle s tied.promise (cap_at outcome tied.path)) _ done does in
    let rest = then_out {A = Done} {B = Done} (SettleTied first.0.1 outcome more) _ done first.2 in
    rw (ok_in _ _ rest.2) (then_silent first.0.0 rest.0.0 (settle_silent s tied.promise (cap_at outcome tied.path) first.0 first.1) (tied_silent more first.0.1 outcome rest.0 rest.1))

answer_by : (s : State) (a : ℕ) (outcome : Outcome) (kept : AnswerEntry) (stage : Stage) (done : Done) → GiveBy s a outcome kept stage (Ok done) → IsSilent done
answer_by s a outcome kept stages.Open done gives =
    let says = then_out {A = Returned × State} {B = Done} (Returns s outcome) _ done gives in
    let rest = then_out {A = Done} {B = Done} (SettleTied (given says.0.1 a kept outcome says.0.0) outcome kept.tied) _ done says.2 in
    rw (ok_in _ _ rest.2) (tied_silent kept.tied (given says.0.1 a kept outcome says.0.0) outcome rest.0 rest.1)
answer_by s a outcome kept stages.Finished done gives =
    let rest = then_out {A = Done} {B = Done} (SettleTied (gone s a outcome) outcome kept.tied) _ done gives in
    rw (ok_in _ _ rest.2) (tied_silent kept.tied (gone s a outcome) outcome rest.0 rest.1)
answer_by s a outcome kept stages.Returned done gives = absurd gives

answer_silent : (s : State) (a : ℕ) (outcome : Outcome) (done : Done) → GiveAnswer s a outcome (Ok done) → IsSilent done
answer_silent s a outcome done does = answer_by s a outcome does.0.kept does.0.stage done does.2

own_silent : (s : State) (q : ℕ) (outcome : Outcome) (stage : Stage) (done : Done) → GiveOwnBy s q outcome stage (Ok done) → IsSilent done
own_silent s q outcome stages.Open done does = rw (ok_in _ _ does) refl
own_silent s q outcome stages.Finished done does = rw (ok_in _ _ does) refl
own_silent s q outcome stages.Returned done does = absurd does

give_silent : (s : State) (origin : Origin) (outcome : Outcome) (done : Done) → Give s origin outcome (Ok done) → IsSilent done
give_silent s (origins.Answer a) outcome done does = answer_silent s a outcome done does
give_silent s (origins.Own q) outcome done does = own_silent s q outcome does.0.stage done does.2

-- ---- calls that go

finish_silent : (q : ℕ) (stage : Stage) → closes (finish_after q stage) ≡ false
finish_silent q stages.Open = refl
finish_silent q stages.Finished = refl
finish_silent q stages.Returned = refl

out_silent : (s : State) (call : PendingCall) (target : Target) (origin : Origin) (done : Done) → GoOut s call target origin (Ok done) → IsSilent done
out_silent s call target (origins.Answer a) done goes =
    let first = then_out {A = ℕ} {B = Done} (Fresh s.entries.questions) _ done goes in
    let parts = then_out {A = List Descriptor × State} {B = Done} (WritesDescriptors s call.request.caps) _ done first.2 in
    rw (ok_in _ _ parts.2) refl
out_silent s call target (origins.Own q) done goes =
    let parts = then_out {A = List Descriptor × State} {B = Done} (WritesDescriptors s call.request.caps) _ done goes.2 in
    rw (ok_in _ _ parts.2) (finish_silent q goes.0.stage)

go_silent : (s : State) (call : PendingCall) (route : Route) (done : Done) → Go s call route (Ok done) → IsSilent done
go_silent s call (routes.Deliver k) done goes = rw (ok_in _ _ goes) refl
go_silent s call (routes.Import i) done goes = out_silent s call (targets.ImportedCap i) call.origin done goes
go_silent s call (routes.Pipe q path) done goes = out_silent s call (targets.PromisedAnswer (promised q path)) call.origin done goes
go_silent s call (routes.Wait gate) done goes = rw (ok_in _ _ goes) refl
go_silent s call (routes.Fail x) done goes = give_silent s call.origin (outcomes.Failed x) done goes

goes_silent : (s : State) (call : PendingCall) (cap : Cap) (done : Done) → GoTo s call cap (Ok done) → IsSilent done
goes_silent s call cap done goes = go_silent s call goes.0 done goes.2

leave_silent : {old : State} {all : List Effect} {out : Result State PeerFault} → Leave old all out → closes all ≡ false
leave_silent (stays none) = refl
leave_silent {old = old} (leaves {mid = mid} {first = first} {rest = rest} call cap next goes more same) =
    rw same (then_silent first rest (goes_silent (without_call old call) (underway call) cap (first, mid) goes) (leave_silent more))
leave_silent (finds_table_full call cap next goes) = refl

-- ---- the application's calls

embargoed_silent : (s : State) (call : PendingCall) (cap value : Cap) (done : Done) → FirstEmbargoed s call cap value (Ok done) → IsSilent done
embargoed_silent s call cap value done does =
    let parts = then_out {A = ℕ} {B = Done} (Fresh s.marks.embargoes) _ done does in
    rw (ok_in _ _ parts.2) refl

back_silent : (s : State) (call : PendingCall) (cap value : Cap) (o : Option (Option ℕ)) (done : Done) → GoBack s call cap value o (Ok done) → IsSilent done
back_silent s call cap value None done does = goes_silent s call value done does
back_silent s call cap value (Some None) done does = embargoed_silent s call cap value done does
back_silent s call cap value (Some (Some n)) done does = go_silent s call (routes.Wait (gates.Embargo n)) done does

module _ (s : State) (q : ℕ) (request : Request) (cap : Cap) where
  value_silent : (value : Cap) (done : Done) → GoByValue s q request cap value (Ok done) → IsSilent done
  value_silent (caps.Import j) done does = go_silent (called s q kinds.Wire) (own_call s q request) (routes.Import j) done does
  value_silent (caps.Object k) done does = back_silent (called s q kinds.Local) (own_call s q request) cap (caps.Object k) (mark_of s cap) done does
  value_silent (caps.Promise p) done does = back_silent (called s q kinds.Local) (own_call s q request) cap (caps.Promise p) (mark_of s cap) done does
  value_silent caps.None done does = goes_silent (called s q kinds.Local) (own_call s q request) caps.None done does
  value_silent (caps.Pipelined p path) done does = goes_silent (called s q kinds.Local) (own_call s q request) (caps.Pipelined p path) done does
  value_silent (caps.Broken x) done does = goes_silent (called s q kinds.Local) (own_call s q request) (caps.Broken x) done does

  from_silent : (reference : Standing) (done : Done) → GoFrom s q request cap reference (Ok done) → IsSilent done
  from_silent plain done does = goes_silent (called s q kinds.Local) (own_call s q request) cap done does
  from_silent on_wire done does =
      let parts = then_out {A = State} {B = Done} (λ mid. mid ≡ marked (called s q kinds.Wire) cap (mark_of s cap)) _ done does in
      goes_silent parts.0 (own_call s q request) cap done parts.2
  from_silent (came_to value) done does = value_silent value done does

quietly_silent : (Rule : Result Done PeerFault → Type 0) (done : OwnDone) → OrFull (Quietly Rule) (Ok done) → ((x : Done) → Rule (Ok x) → IsSilent x) → OwnSilent done
quietly_silent Rule done does each =
    let parts = then_out {A = Done} {B = OwnDone} Rule _ done (or_full_out (Quietly Rule) done does) in
    rw (ok_in _ _ parts.2) (each parts.0 parts.1)

module _ (s : State) where
  call_silent : (cap : Cap) (request : Request) (done : OwnDone) → DoCall s cap request (Ok done) → OwnSilent done
  call_silent cap request done does =
      let opens = or_full_out (Opens s cap request) done (unless_out {A = OwnDone} {F = VatFault} (call_refusals s cap request) _ done does) in
      let first = then_out {A = ℕ} {B = OwnDone} (Fresh s.entries.questions) _ done opens in
      let goes = then_out {A = Done} {B = OwnDone} (GoFrom s first.0 request cap (reference_of s.values cap)) _ done first.2 in
      rw (ok_in _ _ goes.2) (from_silent s first.0 request cap (reference_of s.values cap) goes.0 goes.1)

  resolves_silent : (p : ℕ) (cap : Cap) (done : OwnDone) → Resolves s p cap (Ok done) → OwnSilent done
  resolves_silent p cap done (inl h) = ok_out h.1
  resolves_silent p cap done (inr h) =
      quietly_silent (Settle s p cap) done (unless_out {A = OwnDone} {F = VatFault} (value_refusals s cap) _ done h.1) (λ x k. settle_silent s p cap x k)

  told_silent : (b : Bool) (q : ℕ) (release : Bool) → closes (told_if b (finish_of q release)) ≡ false
  told_silent true q release = refl
  told_silent false q release = refl

  finish_by : (q : ℕ) (kept : QuestionEntry) (stage : Stage) (done : OwnDone) → FinishBy s q kept stage (Ok done) → OwnSilent done
  finish_by q kept stages.Open done does = rw (ok_in _ _ does) (told_silent kept.is_sent q true)
  finish_by q kept stages.Returned done does = rw (ok_in _ _ does) (told_silent kept.is_sent q false)
  finish_by q kept stages.Finished done does = absurd does

  finishes_silent : (q : ℕ) (o : Option (Exchange QuestionEntry)) (done : OwnDone) → Finishes s q o (Ok done) → OwnSilent done
  finishes_silent q None done does = absurd does
  finishes_silent q (Some entry) done does = finish_by q entry.kept entry.stage done does

  does_silent : (event : Event) (done : OwnDone) → Does s event (Ok done) → OwnSilent done
  does_silent (events.Receive m) done does = absurd does
  does_silent events.Bootstrap done does =
      let parts = then_out {A = ℕ} {B = OwnDone} (Fresh s.entries.questions) _ done (or_full_out {A = OwnDone} _ done does) in
      rw (ok_in _ _ parts.2) refl
  does_silent (events.Call cap request) done does = call_silent cap request done does
  does_silent (events.Answer origin outcome) done does =
      quietly_silent (Give s origin outcome) done (unless_out {A = OwnDone} {F = VatFault} (answer_refusals s origin outcome) _ done does) (λ x h. give_silent s origin outcome x h)
  does_silent events.Promise done does =
      let parts = then_out {A = ℕ} {B = OwnDone} (Fresh s.values.promises) _ done (or_full_out {A = OwnDone} _ done does) in
      rw (ok_in _ _ parts.2) refl
  does_silent (events.Resolve p cap) done does = resolves_silent p cap done (unless_out {A = OwnDone} {F = VatFault} (resolve_refusals s p cap) (Resolves s p cap) done does)
  does_silent (events.Finish q) done does =
      finishes_silent q (get s.entries.questions q) done
      (unless_out {A = OwnDone} {F = VatFault} (fault_if (not (is_own_question s q)) refusals.UnknownQuestion ++ fault_if (is_question_used s q) refusals.InUse)
      (Finishes s q (get s.entries.questions q)) done does)
  does_silent (events.Release i) done does =
      rw
      (ok_in _ _ (unless_out {A = OwnDone} {F = VatFault} (fault_if (is_import_used s i) refusals.InUse ++ fault_if (is_none (get s.counts.imports i)) refusals.UnknownImport)
      (λ out. out ≡ Ok (values.Nothing, release_of i (count_of s.counts.imports i) ∷ [], without_import s i)) done does))
      refl
  does_silent (events.Forget p) done does =
      rw
      (ok_in _ _ (unless_out {A = OwnDone} {F = VatFault}
      (fault_if (is_none (get s.values.promises p)) refusals.UnknownPromise ++ fault_if (is_unsettled (get s.values.promises p)) refusals.Unsettled ++ fault_if (is_promise_used s p) refusals.InUse)
      (λ out. out ≡ Ok (values.Nothing, [], without_promise s p)) done does))
      refl
  does_silent events.Idle done does = rw (ok_in _ _ does) refl

-- ---- messages that come

module _ (s : State) where
  export_silent : (call : PendingCall) (o : Option (Counted Cap)) (done : Done) → GoToExport s call o (Ok done) → IsSilent done
  export_silent call None done goes = absurd goes
  export_silent call (Some entry) done goes = goes_silent s call entry.kept done goes

  at_answer_silent : (call : PendingCall) (a : ℕ) (path : List ℕ) (o : Option (Option Outcome)) (done : Done) → GoToAnswer s call a path o (Ok done) → IsSilent done
  at_answer_silent call a path None done goes = absurd goes
  at_answer_silent call a path (Some None) done goes = go_silent s call (routes.Wait (gates.Answer a path)) done goes
  at_answer_silent call a path (Some (Some outcome)) done goes = goes_silent s call (cap_at outcome path) done goes

  target_silent : (call : PendingCall) (target : Target) (done : Done) → GoToTarget s call target (Ok done) → IsSilent done
  target_silent call (targets.ImportedCap e) done goes = export_silent call (get s.counts.exports e) done goes
  target_silent call (targets.PromisedAnswer answer) done goes = at_answer_silent call answer.question_id (path_of answer.transform) (answer_of s answer.question_id) done goes
  target_silent call (targets.Unknown n) done goes = absurd goes

call_comes : (s : State) (c : Call) (done : Done) → OnCall s c (Ok done) → IsSilent done
call_comes s c done does =
    let taken = then_out {A = List Cap × State} {B = Done} (ReceivesCaps s c.params.cap_table) _ done (unless_out {A = Done} {F = PeerFault} (call_faults s c) _ done does) in
    target_silent (entered taken.0.1 c.question_id) (peer_call taken.0.1 c taken.0.0) c.target done taken.2

bootstrap_comes : (s : State) (a : ℕ) (done : Done) → OnBootstrap s a (Ok done) → IsSilent done
bootstrap_comes s a done does =
    answer_silent (with_answer s a None) a (bootstrap_outcome s.bootstrap) done
    (unless_out {A = Done} {F = PeerFault} (fault_if (is_answering s a) faults.QuestionInUse ++ fault_if (not (has_capacity s.entries.answers)) faults.TableFull)
    (GiveAnswer (with_answer s a None) a (bootstrap_outcome s.bootstrap)) done does)

settles_silent : (s : State) (q : ℕ) (forwards : Option ℕ) (outcome : Outcome) (done : Done) → Settles s q forwards outcome (Ok done) → IsSilent done
settles_silent s q None outcome done does = own_silent s q outcome does.0.stage done does.2
settles_silent s q (Some a) outcome done does =
    let parts = then_out {A = Done} {B = Done} (GiveAnswer (without_question s q) a outcome) _ done does in
    rw (ok_in _ _ parts.2) (answer_silent (without_question s q) a outcome parts.0 parts.1)

return_by : (s : State) (r : Return) (kept : QuestionEntry) (stage : Stage) (done : Done) → ReturnBy s r kept stage (Ok done) → IsSilent done
return_by s r kept stages.Open done does =
    let taken = then_out {A = Outcome × State} {B = Done} (ReceivesReturned s r.returned) _ done does in
    settles_silent taken.0.1 r.answer_id kept.forwards taken.0.0 done taken.2
return_by s r kept stages.Finished done does = rw (ok_in _ _ does) refl
return_by s r kept stages.Returned done does = absurd does

module _ (s : State) where
  return_of : (r : Return) (o : Option (Exchange QuestionEntry)) (done : Done) → ReturnOf s r o (Ok done) → IsSilent done
  return_of r None done does = ok_out does
  return_of r (Some entry) done does =
      let rule = unless_out {A = Done} {F = PeerFault} (fault_if (not (is_asked entry.kept.is_sent entry.stage)) faults.UnknownQuestion) _ done does in
      let lowers = then_out {A = Table (Counted Cap)} {B = Done} _ _ done rule in
      return_by (with_exports s lowers.0) r entry.kept entry.stage done lowers.2

  finish_at : (fin : Finish) (kept : AnswerEntry) (stage : Stage) (done : Done) → AtStage s fin kept stage (Ok done) → IsSilent done
  finish_at fin kept stages.Open done does = rw (ok_in _ _ does) refl
  finish_at fin kept stages.Returned done does =
      let parts = then_out {A = Table (Counted Cap)} {B = Done} (λ exports. exports ≡ (cond fin.release_result_caps (release_exports s.counts.exports kept.mentions) (Ok s.counts.exports))) _ done does in
      rw (ok_in _ _ parts.2) refl
  finish_at fin kept stages.Finished done does = ok_out does

  finished_by : (fin : Finish) (o : Option (Exchange AnswerEntry)) (done : Done) → FinishedBy s fin o (Ok done) → IsSilent done
  finished_by fin None done does = ok_out does
  finished_by fin (Some entry) done does = finish_at fin entry.kept entry.stage done does

  release_comes : (r : Release) (done : Done) → OnRelease s r (Ok done) → IsSilent done
  release_comes r done does =
      let parts = then_out {A = Table (Counted Cap)} {B = Done} (λ exports. exports ≡ released s.counts.exports r.id r.reference_count) _ done does in
      rw (ok_in _ _ parts.2) refl

  releases_silent : (ids : List ℕ) → closes (releases_of ids) ≡ false
  releases_silent [] = refl
  releases_silent (i ∷ ids) = releases_silent ids

  resolve_by : (r : Resolve) (o : Option (Counted ImportKind)) (done : Done) → ResolveOf s r o (Ok done) → IsSilent done
  resolve_by r None done does = rw (ok_in _ _ does) (releases_silent (given_back r.resolution))
  resolve_by r (Some entry) done does =
      let rule = unless_out {A = Done} {F = PeerFault} (fault_if (not (is_open_promise entry.kept (get s.values.imports r.promise_id))) faults.NotAnOpenPromise) _ done does in
      let parts = then_out {A = Cap × State} {B = Done} (TakeResolution s r.resolution) _ done rule in
      rw (ok_in _ _ parts.2) refl

  echo_by : (n : ℕ) (last : Cap) (done : Done) → Ok done ≡ echo_to s n last → IsSilent done
  echo_by n (caps.Import i) done is = rw (ok_in _ _ is) refl
  echo_by n caps.None done is = ok_out is
  echo_by n (caps.Object k) done is = ok_out is
  echo_by n (caps.Promise p) done is = ok_out is
  echo_by n (caps.Pipelined q path) done is = ok_out is
  echo_by n (caps.Broken x) done is = ok_out is

  echoes_export : (n : ℕ) (o : Option (Counted Cap)) (done : Done) → EchoesExport s n o (Ok done) → IsSilent done
  echoes_export n None done does = absurd does
  echoes_export n (Some entry) done does = echo_by n does.0 done does.2

  echoes_answer : (n : ℕ) (path : List ℕ) (o : Option (Option Outcome)) (done : Done) → EchoesAnswer s n path o (Ok done) → IsSilent done
  echoes_answer n path None done does = absurd does
  echoes_answer n path (Some None) done does = ok_out does
  echoes_answer n path (Some (Some outcome)) done does = echo_by n does.0 done does.2

  echoes_by : (n : ℕ) (target : Target) (done : Done) → EchoesTarget s n target (Ok done) → IsSilent done
  echoes_by n (targets.ImportedCap e) done does = echoes_export n (get s.counts.exports e) done does
  echoes_by n (targets.PromisedAnswer answer) done does = echoes_answer n (path_of answer.transform) (answer_of s answer.question_id) done does
  echoes_by n (targets.Unknown m) done does = absurd does

  ends_by : (n : ℕ) (o : Option Cap) (done : Done) → Ok done ≡ ended_by s n o → IsSilent done
  ends_by n None done is = ok_out is
  ends_by n (Some c) done is = rw (ok_in _ _ is) refl

  disembargo_comes : (context : DisembargoContext) (target : Target) (done : Done) → OnDisembargo s context target (Ok done) → IsSilent done
  disembargo_comes (contexts.SenderLoopback n) target done does = echoes_by n target done (unless_out {A = Done} {F = PeerFault} (target_faults s target) _ done does)
  disembargo_comes (contexts.ReceiverLoopback n) target done does = ends_by n (get s.marks.embargoes n) done does
  disembargo_comes contexts.Accept target done does = absurd does
  disembargo_comes (contexts.Provide q) target done does = absurd does
  disembargo_comes (contexts.Unknown n) target done does = absurd does

  unknown_comes : (o : Option Message) (done : Done) → UnknownToPeer s o (Ok done) → IsSilent done
  unknown_comes (Some (messages.Resolve r)) done does =
      let parts = then_out {A = Table (Counted Cap)} {B = Done} (λ exports. exports ≡ release_exports s.counts.exports (given_back r.resolution)) _ done does in
      rw (ok_in _ _ parts.2) refl
  unknown_comes None done does = ok_out does
  unknown_comes (Some other) done does = ok_out does

  -- a message closes the vat, or none of its effects does
  abbrev Comes : Done → Type 0
  Comes done = IsSilent done ⊎ (done.1 ≡ closed s)

  on_comes : (m : Message) (done : Done) → On s m (Ok done) → Comes done
  on_comes (messages.Unimplemented t) done does = inl (unknown_comes (told t) done does)
  on_comes (messages.Abort x) done does = inr (rw (ok_in _ _ does) refl)
  on_comes (messages.Call c) done does = inl (call_comes s c done does)
  on_comes (messages.Return r) done does = inl (return_of r (get s.entries.questions r.answer_id) done does)
  on_comes (messages.Finish fin) done does = inl (finished_by fin (get s.entries.answers fin.question_id) done does)
  on_comes (messages.Resolve r) done does = inl (resolve_by r (get s.counts.imports r.promise_id) done does)
  on_comes (messages.Release r) done does = inl (release_comes r done does)
  on_comes (messages.Bootstrap b) done does = inl (bootstrap_comes s b.question_id done does)
  on_comes (messages.Disembargo d) done does = inl (disembargo_comes d.context d.target done does)
  on_comes (messages.Other which body) done does = absurd does

  echoed_comes : (m : Message) (done : Done) → Ok done ≡ echoed s m → Comes done
  echoed_comes m done is = by (echo_fits (message_written (messages.Unimplemented (message_written m)))) is
    where
      by : (b : Bool) → Ok done ≡ cond b (Ok (effects.Send (messages.Unimplemented (message_written m)) ∷ [], s)) (Err faults.EchoTooLarge) → Comes done
      by true is = inl (rw (ok_in _ _ is) refl)
      by false is = ok_out is

  receives_comes : (b : Bool) (m : Message) (done : Done) → ReceivesIf b s m (Ok done) → Comes done
  receives_comes true m done does = on_comes m done (unless_out {A = Done} {F = PeerFault} (fault_if (not (message_fits m)) faults.PayloadTooLarge) (On s m) done does)
  receives_comes false m done does = echoed_comes m done does

-- ---- a step

not_next : {s : State} (call : WaitingCall) (value : Cap) → s.waiting.over ≡ none_over → IsNext s call value → ⊥
not_next call value none next = none_out (sym (by call.gate) ∙ ap (λ (over : Over). gave over call.gate) (sym none) ∙ next.ended)
  where
    by : (gate : Gate) → gave none_over gate ≡ None
    by (gates.Answer a path) = rw (get-empty nat_cmp a) refl
    by (gates.Promise p) = get-empty nat_cmp p
    by (gates.Question q path) = rw (get-empty nat_cmp q) refl
    by (gates.Embargo n) = get-empty nat_cmp n

-- where no gate has ended nothing leaves, and a closed vat stays closed
abbrev IsLeft : State → Result State PeerFault → Type 0
IsLeft s (Ok last) = (last.waiting.over ≡ none_over) × (s.waiting.over ≡ none_over → last.is_closed ≡ s.is_closed)
IsLeft s (Err fault) = Unit {0}

is_left : {s : State} {all : List Effect} {out : Result State PeerFault} → Leave s all out → IsLeft s out
is_left (stays none) = (refl, λ over. refl)
is_left {s = s} (leaves {mid = mid} {last = last} call value next goes more same) = by last (is_left more)
  where
    by : (last : Result State PeerFault) → IsLeft mid last → IsLeft s last
    by (Ok end) h = (h.0, λ over. absurd (not_next call value over next))
    by (Err fault) h = tt
is_left (finds_table_full call value next goes) = tt

-- what follows an event's own part
follows_between : {mid new : State} {rest : List Effect} → Follows mid rest new → IsBetween new
follows_between (all_left leave) still = (is_left leave).0
follows_between (found_full leave all shut) still = absurd (true≢false (sym shut ∙ still))

follows_closing : {mid new : State} {rest : List Effect} → Follows mid rest new → closes rest ≡ true → new.is_closed ≡ true
follows_closing (all_left leave) says = absurd (true≢false (sym says ∙ leave_silent leave))
follows_closing (found_full leave all shut) says = shut

stays_closed : (s : State) {new : State} {rest : List Effect} → s.waiting.over ≡ none_over → Follows (closed s) rest new → new.is_closed ≡ true
stays_closed s over (all_left leave) = (is_left leave).1 over
stays_closed s over (found_full leave all shut) = shut

after_silent : {mid new : State} (first rest all : List Effect) → closes first ≡ false → Follows mid rest new → all ≡ first ++ rest → closes all ≡ true → new.is_closed ≡ true
after_silent first rest all silent follows same says =
    follows_closing follows (sym (ap (λ (x : Bool). x || closes rest) silent) ∙ sym (closes_both first rest) ∙ sym (ap closes same) ∙ says)

-- A vat that says that it closes is closed. So it is from one event to the next.
pub tells_closing : {old new : State} {event : Event} {value : Value} {all : List Effect} → Step old event (Ok value) all new → IsBetween old → (closes all ≡ true → new.is_closed ≡ true) × IsBetween new
tells_closing {old = old} {all = all} (did {value = value} event first rest mid still does follows same) between =
    (after_silent first rest all (does_silent old event (value, first, mid) does) follows same, follows_between follows)
tells_closing {old = old} {new = new} {all = all} (received m first rest mid still does follows same) between = (by (receives_comes old _ m (first, mid) does), follows_between follows)
  where
    by : Comes old (first, mid) → closes all ≡ true → new.is_closed ≡ true
    by (inl silent) says = after_silent first rest all silent follows same says
    by (inr shut) says = stays_closed old (between still) (subst (λ (x : State). Follows x rest new) shut follows)
tells_closing (faulted m still does shut) between = ((λ says. shut), λ is. absurd (true≢false (sym shut ∙ is)))
