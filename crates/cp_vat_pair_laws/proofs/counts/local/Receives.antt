-- What messages that come do to local questions.
use Rattle.std.specs.Prelude.{◌≡◌, refl, ℕ, not, if◌then◌else◌, ◌++◌, Bool, true, false, List, [], ◌∷◌, Option, Some, None, Result, Ok}
use Rattle.std.specs.FinMap.{get, remove}
use Rattle.std.proofs.Common.{ap, sym, ◌∙◌, true≢false}
use Rattle.cp_tables.specs.Table.{Table}
use Rattle.cp_tables.specs.Exchange.{new_exchange}
use Rattle.cp_tables.specs.declared.counted.Counted.{Counted}
use Rattle.cp_tables.specs.declared.exchange.Exchange.{Exchange}
use Rattle.cp_tables.specs.declared.exchange.Stage.{Stage}
use Rattle.cp_tables.specs.declared.exchange.Stage.TheVariants as stages
use Rattle.cp_messages.specs.declared.call.Call.{Call}
use Rattle.cp_messages.specs.declared.disembargo.DisembargoContext.{DisembargoContext}
use Rattle.cp_messages.specs.declared.disembargo.DisembargoContext.TheVariants as contexts
use Rattle.cp_messages.specs.declared.message.Message.{Message}
use Rattle.cp_messages.specs.declared.message.Message.TheVariants as messages
use Rattle.cp_messages.specs.declared.resolve.Resolution.{Resolution}
use Rattle.cp_messages.specs.declared.resolve.Resolution.TheVariants as resolutions
use Rattle.cp_messages.specs.declared.resolve.Resolve.{Resolve}
use Rattle.cp_messages.specs.declared.returned.Return.{Return}
use Rattle.cp_messages.specs.declared.returned.Returned.{Returned}
use Rattle.cp_messages.specs.declared.returned.Returned.TheVariants as returns
use Rattle.cp_messages.specs.declared.small.Finish.{Finish}
use Rattle.cp_messages.specs.declared.small.Release.{Release}
use Rattle.cp_messages.specs.declared.target.Target.{Target}
use Rattle.cp_messages.specs.declared.target.Target.TheVariants as targets
use Rattle.cp_refs.specs.At.{cap_at}
use Rattle.cp_refs.specs.declared.cap.Cap.{Cap}
use Rattle.cp_refs.specs.declared.cap.Cap.TheVariants as caps
use Rattle.cp_refs.specs.declared.outcome.Outcome.{Outcome}
use Rattle.cp_refs.specs.declared.route.Gate.TheVariants as gates
use Rattle.cp_refs.specs.declared.route.Route.TheVariants as routes
use Rattle.cp_vat_machine.specs.State.{State, with_exports}
use Rattle.cp_vat_machine.specs.Then.{Done, Unless, fault_if}
use Rattle.cp_vat_machine.specs.Capacity.{has_capacity}
use Rattle.cp_vat_machine.specs.Receiving.{answer_of, path_of, ReceivesCaps, release_exports, released}
use Rattle.cp_vat_machine.specs.Give.{GiveAnswer, GiveOwnBy, without_question}
use Rattle.cp_vat_machine.specs.Go.{PendingCall}
use Rattle.cp_vat_machine.specs.Answering.{with_answer, bootstrap_outcome, is_answering, OnBootstrap, target_faults, GoToExport, GoToAnswer, GoToTarget, peer_call, entered, call_faults, OnCall, AtStage, FinishedBy}
use Rattle.cp_vat_machine.specs.Asking.{ReceivesReturned, Settles, ReturnBy, is_asked, ReturnOf}
use Rattle.cp_vat_machine.specs.Resolving.{given_back, releases_of, is_open_promise, TakeResolution, ResolveOf, OnRelease, echo_to, EchoesExport, EchoesAnswer, EchoesTarget, ended_by, OnDisembargo, told, UnknownToPeer}
use Rattle.cp_vat_machine.specs.Step.{On}
use Rattle.cp_vat_machine.specs.declared.entry.AnswerEntry.{AnswerEntry}
use Rattle.cp_vat_machine.specs.declared.entry.ImportKind.{ImportKind}
use Rattle.cp_vat_machine.specs.declared.entry.QuestionEntry.{QuestionEntry}
use Rattle.cp_vat_machine.specs.declared.fault.PeerFault.{PeerFault}
use Rattle.cp_vat_machine.specs.declared.fault.PeerFault.TheVariants as faults
use Rattle.cp_vat_machine.proofs.Basics.{some_out, ok_in, ok_out, then_out, unless_out}
use Rattle.cp_vat_pair_laws.specs.LocalQuestions.{LocalQuestion, after_effects}
use Rattle.cp_vat_pair_laws.proofs.counts.rules.Take.{take_in, take_all_in}
use Rattle.cp_vat_pair_laws.proofs.counts.local.Matches.{Questions, IsGone, MatchesIf, MatchAfter, match_from, match_gone, IsBack}
use Rattle.cp_vat_pair_laws.proofs.counts.local.Give.{answer_match, open_match}
use Rattle.cp_vat_pair_laws.proofs.counts.local.Go.{go_match, goto_match}

abbrev pub Told : State → Done → Type 0
Told old done = MatchAfter old.entries.questions done.0 done.1.entries.questions

-- a call of the peer's goes to its target
export_match : (s : State) (call : PendingCall) (o : Option (Counted Cap)) (done : Done) → IsBack s.entries.questions call.origin → GoToExport s call o (Ok done) → Told s done
export_match s call None done back goes = absurd goes
export_match s call (Some entry) done back goes = goto_match s call entry.kept done back goes

path_match : (s : State) (call : PendingCall) (a : ℕ) (path : List ℕ) (o : Option (Option Outcome)) (done : Done) → IsBack s.entries.questions call.origin
    → GoToAnswer s call a path o (Ok done) → Told s done
path_match s call a path None done back goes = absurd goes
path_match s call a path (Some None) done back goes = go_match s call (routes.Wait (gates.Answer a path)) done back goes
path_match s call a path (Some (Some outcome)) done back goes = goto_match s call (cap_at outcome path) done back goes

target_match : (s : State) (call : PendingCall) (target : Target) (done : Done) → IsBack s.entries.questions call.origin → GoToTarget s call target (Ok done) → Told s done
target_match s call (targets.ImportedCap e) done back goes = export_match s call (get s.counts.exports e) done back goes
target_match s call (targets.PromisedAnswer answer) done back goes =
    path_match s call answer.question_id (path_of answer.transform) (answer_of s answer.question_id) done back goes
target_match s call (targets.Unknown n) done back goes = absurd goes

call_comes : (old : State) (c : Call) (done : Done) → OnCall old c (Ok done) → Told old done
call_comes old c done does =
    let rule = unless_out {A = Done} {F = PeerFault} (call_faults old c) _ done does in
    let taken = then_out {A = List Cap × State} {B = Done} (ReceivesCaps old c.params.cap_table) _ done rule in
    let goes = target_match (entered taken.0.1 c.question_id) (peer_call taken.0.1 c taken.0.0) c.target done tt taken.2 in
    match_from taken.0.1.entries.questions old.entries.questions done.1.entries.questions done.0 (take_all_in c.params.cap_table old taken.0 taken.1).questions goes

bootstrap_comes : (old : State) (a : ℕ) (done : Done) → OnBootstrap old a (Ok done) → Told old done
bootstrap_comes old a done does =
    let gives : GiveAnswer (with_answer old a None) a (bootstrap_outcome old.bootstrap) (Ok done)
    = unless_out {A = Done} {F = PeerFault} (fault_if (is_answering old a) faults.QuestionInUse ++ fault_if (not (has_capacity old.entries.answers)) faults.TableFull)
    (GiveAnswer (with_answer old a None) a (bootstrap_outcome old.bootstrap)) done does in
    answer_match (with_answer old a None) a (bootstrap_outcome old.bootstrap) done gives

-- A Finish, a Release, a Resolve and a Disembargo leave questions as they are.
finish_at : (old : State) (f : Finish) (kept : AnswerEntry) (stage : Stage) (done : Done) → AtStage old f kept stage (Ok done) → Told old done
finish_at old f kept stages.Open done does = rw (ok_in _ _ does) (λ q question is. is)
finish_at old f kept stages.Returned done does =
    let parts = then_out {A = Table (Counted Cap)} {B = Done}
    (λ exports. exports ≡ (if f.release_result_caps then release_exports old.counts.exports kept.mentions else Ok old.counts.exports)) _ done does in
    rw (ok_in _ _ parts.2) (λ q question is. is)
finish_at old f kept stages.Finished done does = ok_out does

finish_comes : (old : State) (f : Finish) (o : Option (Exchange AnswerEntry)) (done : Done) → FinishedBy old f o (Ok done) → Told old done
finish_comes old f None done does = ok_out does
finish_comes old f (Some entry) done does = finish_at old f entry.kept entry.stage done does

release_comes : (old : State) (r : Release) (done : Done) → OnRelease old r (Ok done) → Told old done
release_comes old r done does =
    let parts = then_out {A = Table (Counted Cap)} {B = Done} (λ exports. exports ≡ released old.counts.exports r.id r.reference_count) _ done does in
    rw (ok_in _ _ parts.2) (λ q question is. is)

releases_silent : (q : ℕ) (ids : List ℕ) (question : LocalQuestion) → after_effects q (releases_of ids) question ≡ question
releases_silent q [] question = refl
releases_silent q (id ∷ ids) question = releases_silent q ids question

resolution_same : (old : State) (resolution : Resolution) (taken : Cap × State) → TakeResolution old resolution (Ok taken) → taken.1.entries.questions ≡ old.entries.questions
resolution_same old (resolutions.Cap d) taken is = (take_in old d taken is).questions
resolution_same old (resolutions.Exception x) taken is = rw (ok_in _ _ is) refl
resolution_same old (resolutions.Unknown n) taken is = absurd is

resolve_comes : (old : State) (r : Resolve) (o : Option (Counted ImportKind)) (done : Done) → ResolveOf old r o (Ok done) → Told old done
resolve_comes old r None done does = rw (ok_in _ _ does) (λ q question is. rw (releases_silent q (given_back r.resolution) question) is)
resolve_comes old r (Some entry) done does =
    let rule = unless_out {A = Done} {F = PeerFault}
    (fault_if (not (is_open_promise entry.kept (get old.values.imports r.promise_id))) faults.NotAnOpenPromise) _ done does in
    let parts = then_out {A = Cap × State} {B = Done} (TakeResolution old r.resolution) _ done rule in
    rw (ok_in _ _ parts.2, resolution_same old r.resolution parts.0 parts.1) (λ q question is. is)

echo_match : (old : State) (n : ℕ) (last : Cap) (done : Done) → Ok done ≡ echo_to old n last → Told old done
echo_match old n (caps.Import i) done is = rw (ok_in _ _ is) (λ q question is. is)
echo_match old n caps.None done is = ok_out is
echo_match old n (caps.Object k) done is = ok_out is
echo_match old n (caps.Promise p) done is = ok_out is
echo_match old n (caps.Pipelined q path) done is = ok_out is
echo_match old n (caps.Broken x) done is = ok_out is

echoes_export : (old : State) (n : ℕ) (o : Option (Counted Cap)) (done : Done) → EchoesExport old n o (Ok done) → Told old done
echoes_export old n None done does = absurd does
echoes_export old n (Some entry) done does = echo_match old n does.0 done does.2

echoes_answer : (old : State) (n : ℕ) (path : List ℕ) (o : Option (Option Outcome)) (done : Done) → EchoesAnswer old n path o (Ok done) → Told old done
echoes_answer old n path None done does = absurd does
echoes_answer old n path (Some None) done does = ok_out does
echoes_answer old n path (Some (Some outcome)) done does = echo_match old n does.0 done does.2

echoes_match : (old : State) (n : ℕ) (target : Target) (done : Done) → EchoesTarget old n target (Ok done) → Told old done
echoes_match old n (targets.ImportedCap e) done does = echoes_export old n (get old.counts.exports e) done does
echoes_match old n (targets.PromisedAnswer answer) done does = echoes_answer old n (path_of answer.transform) (answer_of old answer.question_id) done does
echoes_match old n (targets.Unknown m) done does = absurd does

ends_match : (old : State) (n : ℕ) (o : Option Cap) (done : Done) → Ok done ≡ ended_by old n o → Told old done
ends_match old n None done is = ok_out is
ends_match old n (Some cap) done is = rw (ok_in _ _ is) (λ q question is. is)

disembargo_comes : (old : State) (context : DisembargoContext) (target : Target) (done : Done) → OnDisembargo old context target (Ok done) → Told old done
disembargo_comes old (contexts.SenderLoopback n) target done does =
    echoes_match old n target done (unless_out {A = Done} {F = PeerFault} (target_faults old target) _ done does)
disembargo_comes old (contexts.ReceiverLoopback n) target done does = ends_match old n (get old.marks.embargoes n) done does
disembargo_comes old contexts.Accept target done does = absurd does
disembargo_comes old (contexts.Provide q) target done does = absurd does
disembargo_comes old (contexts.Unknown n) target done does = absurd does

unknown_comes : (old : State) (o : Option Message) (done : Done) → UnknownToPeer old o (Ok done) → Told old done
unknown_comes old (Some (messages.Resolve r)) done does =
    let parts = then_out {A = Table (Counted Cap)} {B = Done} (λ exports. exports ≡ release_exports old.counts.exports (given_back r.resolution)) _ done does in
    rw (ok_in _ _ parts.2) (λ q question is. is)
unknown_comes old None done does = ok_out does
unknown_comes old (Some (messages.Unimplemented u)) done does = ok_out does
unknown_comes old (Some (messages.Abort x)) done does = ok_out does
unknown_comes old (Some (messages.Call c)) done does = ok_out does
unknown_comes old (Some (messages.Return r)) done does = ok_out does
unknown_comes old (Some (messages.Finish f)) done does = ok_out does
unknown_comes old (Some (messages.Release r)) done does = ok_out does
unknown_comes old (Some (messages.Bootstrap b)) done does = ok_out does
unknown_comes old (Some (messages.Disembargo d)) done does = ok_out does
unknown_comes old (Some (messages.Other which body)) done does = ok_out does

-- A Return is of a question that was sent: it is settled, or goes.
returned_same : (old : State) (returned : Returned) (taken : Outcome × State) → ReceivesReturned old returned (Ok taken) → taken.1.entries.questions ≡ old.entries.questions
returned_same old (returns.Results p) taken is =
    let parts = then_out {A = List Cap × State} {B = Outcome × State} (ReceivesCaps old p.cap_table) _ taken is in
    rw (ok_in _ _ parts.2) (take_all_in p.cap_table old parts.0 parts.1).questions
returned_same old (returns.Exception x) taken is = rw (ok_in _ _ is) refl
returned_same old returns.Canceled taken is = rw (ok_in _ _ is) refl
returned_same old returns.ResultsSentElsewhere taken is = absurd is
returned_same old (returns.TakeFromOtherQuestion q) taken is = absurd is
returned_same old (returns.AcceptFromThirdParty t) taken is = absurd is
returned_same old (returns.Unknown n) taken is = absurd is

sent_by : (b : Bool) (entry : Exchange QuestionEntry) (question : LocalQuestion) → b ≡ true → MatchesIf b question entry → IsGone question
sent_by true entry question sent is = is
sent_by false entry question sent is = absurd (true≢false (sym sent))

sent_goes : (questions : Questions) (p : ℕ) (entry : Exchange QuestionEntry) → get questions p ≡ Some entry → entry.kept.is_sent ≡ true → MatchAfter questions [] (remove questions p)
sent_goes questions p entry there sent =
    match_gone questions p (λ q question. question) (λ q question t. refl) (λ question is. sent_by entry.kept.is_sent entry question sent (rw there at is))

own_by : (mid : State) (p : ℕ) (outcome : Outcome) (kept : QuestionEntry) (entry : Exchange QuestionEntry) (done : Done) → get mid.entries.questions p ≡ Some (new_exchange kept)
    → entry ≡ new_exchange kept → GiveOwnBy mid p outcome entry.stage (Ok done) → Told mid done
own_by mid p outcome kept entry done there same gives =
    let gives_open : GiveOwnBy mid p outcome stages.Open (Ok done) = rw (ap (λ x. x.stage) same) at gives in
    rw (ok_in _ _ gives_open) (open_match mid p outcome kept there)

settles_match : (mid : State) (p : ℕ) (forwards : Option ℕ) (outcome : Outcome) (kept : QuestionEntry) (done : Done) → get mid.entries.questions p ≡ Some (new_exchange kept)
    → kept.is_sent ≡ true → Settles mid p forwards outcome (Ok done) → Told mid done
settles_match mid p None outcome kept done there sent does = own_by mid p outcome kept does.0 done there (some_out (sym does.1 ∙ there)) does.2
settles_match mid p (Some a) outcome kept done there sent does =
    let parts = then_out {A = Done} {B = Done} (GiveAnswer (without_question mid p) a outcome) _ done does in
    let gone = sent_goes mid.entries.questions p (new_exchange kept) there sent in
    let gives = answer_match (without_question mid p) a outcome parts.0 parts.1 in
    rw (ok_in _ _ parts.2) (λ q question is. gives q question (gone q question is))

returned_by : (low : State) (r : Return) (kept : QuestionEntry) (stage : Stage) (done : Done) → get low.entries.questions r.answer_id ≡ Some (record { stage = stage; kept = kept })
    → kept.is_sent ≡ true → ReturnBy low r kept stage (Ok done) → Told low done
returned_by low r kept stages.Open done there sent does =
    let taking = then_out {A = Outcome × State} {B = Done} (ReceivesReturned low r.returned) _ done does in
    let same = returned_same low r.returned taking.0 taking.1 in
    let still : get taking.0.1.entries.questions r.answer_id ≡ Some (new_exchange kept) = rw (same) there in
    match_from taking.0.1.entries.questions low.entries.questions done.1.entries.questions done.0 same
    (settles_match taking.0.1 r.answer_id kept.forwards taking.0.0 kept done still sent taking.2)
returned_by low r kept stages.Finished done there sent does =
    rw (ok_in _ _ does) (sent_goes low.entries.questions r.answer_id (record { stage = stages.Finished; kept = kept }) there sent)
returned_by low r kept stages.Returned done there sent does = absurd does

asked_sent : (sent : Bool) (stage : Stage) (done : Done) (Rule : Result Done PeerFault → Type 0) → Unless (fault_if (not (is_asked sent stage)) faults.UnknownQuestion) Rule (Ok done) → sent ≡ true
asked_sent true stage done Rule does = refl
asked_sent false stages.Open done Rule does = ok_out does
asked_sent false stages.Returned done Rule does = ok_out does
asked_sent false stages.Finished done Rule does = ok_out does

return_comes : (old : State) (r : Return) (o : Option (Exchange QuestionEntry)) (done : Done) → get old.entries.questions r.answer_id ≡ o → ReturnOf old r o (Ok done) → Told old done
return_comes old r None done there does = ok_out does
return_comes old r (Some entry) done there does =
    let sent = asked_sent entry.kept.is_sent entry.stage done _ does in
    let rule = unless_out {A = Done} {F = PeerFault} (fault_if (not (is_asked entry.kept.is_sent entry.stage)) faults.UnknownQuestion) _ done does in
    let parts = then_out {A = Table (Counted Cap)} {B = Done}
    (λ exports. exports ≡ (if r.release_param_caps then release_exports old.counts.exports entry.kept.mentions else Ok old.counts.exports)) _ done rule in
    returned_by (with_exports old parts.0) r entry.kept entry.stage done there sent parts.2

-- any message that is supported
pub on_match : (old : State) (m : Message) (done : Done) → On old m (Ok done) → Told old done
on_match old (messages.Unimplemented t) done does = unknown_comes old (told t) done does
on_match old (messages.Abort x) done does = rw (ok_in _ _ does) (λ q question is. is)
on_match old (messages.Call c) done does = call_comes old c done does
on_match old (messages.Return r) done does = return_comes old r (get old.entries.questions r.answer_id) done refl does
on_match old (messages.Finish f) done does = finish_comes old f (get old.entries.answers f.question_id) done does
on_match old (messages.Resolve r) done does = resolve_comes old r (get old.counts.imports r.promise_id) done does
on_match old (messages.Release r) done does = release_comes old r done does
on_match old (messages.Bootstrap b) done does = bootstrap_comes old b.question_id done does
on_match old (messages.Disembargo d) done does = disembargo_comes old d.context d.target done does
on_match old (messages.Other which body) done does = absurd does
