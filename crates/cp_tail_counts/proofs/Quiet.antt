-- A vat gives no import back but where the application releases one, and where a Resolve comes too late.
use Rattle.std.specs.Prelude.{◌≡◌, ℕ, not, Bool, true, false, if◌then◌else◌, List, [], ◌∷◌, ◌++◌, Option, Some, None, Result, Ok}
use Rattle.std.specs.List.{AllByRecursion}
use Rattle.std.specs.FinMap.{get}
use Rattle.std.proofs.Common.{inl, inr}
use Rattle.cp_tables.specs.Table.{Table}
use Rattle.cp_tables.specs.declared.counted.Counted.{Counted}
use Rattle.cp_tables.specs.declared.exchange.Exchange.{Exchange}
use Rattle.cp_tables.specs.declared.exchange.Stage.{Stage}
use Rattle.cp_tables.specs.declared.exchange.Stage.TheVariants as stages
use Rattle.cp_messages.specs.declared.call.Call.{Call}
use Rattle.cp_messages.specs.declared.descriptor.Descriptor.{Descriptor}
use Rattle.cp_messages.specs.declared.disembargo.DisembargoContext.{DisembargoContext}
use Rattle.cp_messages.specs.declared.disembargo.DisembargoContext.TheVariants as contexts
use Rattle.cp_messages.specs.declared.message.Message.TheVariants as messages
use Rattle.cp_messages.specs.declared.resolve.Resolution.{Resolution}
use Rattle.cp_messages.specs.declared.returned.Return.{Return}
use Rattle.cp_messages.specs.declared.returned.Returned.{Returned}
use Rattle.cp_messages.specs.declared.small.Finish.{Finish}
use Rattle.cp_messages.specs.declared.target.Target.{Target}
use Rattle.cp_messages.specs.declared.target.Target.TheVariants as targets
use Rattle.cp_refs.specs.At.{cap_at}
use Rattle.cp_refs.specs.declared.cap.Cap.{Cap}
use Rattle.cp_refs.specs.declared.cap.Cap.TheVariants as caps
use Rattle.cp_refs.specs.declared.call.Origin.{Origin}
use Rattle.cp_refs.specs.declared.call.Origin.TheVariants as origins
use Rattle.cp_refs.specs.declared.call.Request.{Request}
use Rattle.cp_refs.specs.declared.outcome.Outcome.{Outcome}
use Rattle.cp_refs.specs.declared.outcome.Outcome.TheVariants as outcomes
use Rattle.cp_refs.specs.declared.route.Gate.TheVariants as gates
use Rattle.cp_refs.specs.declared.route.Route.{Route}
use Rattle.cp_refs.specs.declared.route.Route.TheVariants as routes
use Rattle.cp_refs.specs.declared.values.QuestionKind.TheVariants as kinds
use Rattle.cp_vat_machine.specs.State.{State, with_exports}
use Rattle.cp_vat_machine.specs.Then.{Done, fault_if}
use Rattle.cp_vat_machine.specs.Capacity.{Fresh, has_capacity}
use Rattle.cp_vat_machine.specs.Writing.{WritesDescriptors}
use Rattle.cp_vat_machine.specs.Receiving.{answer_of, path_of, ReceivesCaps, release_exports}
use Rattle.cp_vat_machine.specs.Give.{ResolvesEnd, Tells, settled, value_for, last_for, Settle, SettleTied, Returns, given, gone, GiveBy, GiveAnswer, GiveOwnBy, Give, without_question}
use Rattle.cp_vat_machine.specs.Go.{PendingCall, underway, finish_of, finish_after, GoOut, Go, GoTo, Leave, stays, leaves, finds_table_full, without_call}
use Rattle.cp_vat_machine.specs.Calling.{Standing, plain, on_wire, came_to, reference_of, called, own_call, mark_of, marked, FirstEmbargoed, GoBack, GoByValue, GoFrom, OwnDone, call_refusals, DoCall}
use Rattle.cp_vat_machine.specs.InUse.{is_own_question, is_question_used}
use Rattle.cp_vat_machine.specs.Doing.{DoBootstrap, DoAnswer, DoResolve, DoFinish, answer_refusals, resolve_refusals, value_refusals, Resolves, told_if, Finishes, FinishBy}
use Rattle.cp_vat_machine.specs.Answering.{with_answer, bootstrap_outcome, is_answering, OnBootstrap, target_faults, GoToExport, GoToAnswer, GoToTarget, peer_call, entered, call_faults, OnCall, AtStage, FinishedBy}
use Rattle.cp_vat_machine.specs.Asking.{ReceivesReturned, Settles, ReturnBy, is_asked, ReturnOf}
use Rattle.cp_vat_machine.specs.Resolving.{echo_to, EchoesExport, EchoesAnswer, EchoesTarget, ended_by, OnDisembargo}
use Rattle.cp_vat_machine.specs.declared.effect.Effect.{Effect}
use Rattle.cp_vat_machine.specs.declared.effect.Effect.TheVariants as effects
use Rattle.cp_vat_machine.specs.declared.entry.AnswerEntry.{AnswerEntry}
use Rattle.cp_vat_machine.specs.declared.entry.QuestionEntry.{QuestionEntry}
use Rattle.cp_vat_machine.specs.declared.entry.Tied.{Tied}
use Rattle.cp_vat_machine.specs.declared.fault.PeerFault.{PeerFault}
use Rattle.cp_vat_machine.specs.declared.fault.PeerFault.TheVariants as faults
use Rattle.cp_vat_machine.specs.declared.fault.VatFault.{VatFault}
use Rattle.cp_vat_machine.specs.declared.fault.VatFault.TheVariants as refusals
use Rattle.cp_vat_machine.proofs.Basics.{ok_in, ok_out, then_out, unless_out, or_full_out, all_both}

-- effects that give no import back
abbrev pub IsQuiet : Effect → Type 0
IsQuiet (effects.Send (messages.Release r)) = ⊥
IsQuiet other = Unit {0}

abbrev pub AreQuiet : List Effect → Type 0
AreQuiet effects = AllByRecursion IsQuiet effects

-- ---- promises that are settled
tells_quiet : (old : State) (p : ℕ) (last : Cap) (done : Done) → Tells old p last (Ok done) → AreQuiet done.0
tells_quiet old p last done (inl h) = rw (ok_in _ _ h.1) tt
tells_quiet old p last done (inr h) =
    let parts = then_out {A = Resolution × State} {B = Done} (ResolvesEnd old last) _ done h.2 in
    rw (ok_in _ _ parts.2) (tt, tt)

settle_quiet : (old : State) (p : ℕ) (value : Cap) (done : Done) → Settle old p value (Ok done) → AreQuiet done.0
settle_quiet old p value done does = tells_quiet (settled old p (value_for p does.0 value)) p (last_for p does.0) done does.2

tied_quiet : (tied : List Tied) (old : State) (outcome : Outcome) (done : Done) → SettleTied old outcome tied (Ok done) → AreQuiet done.0
tied_quiet [] old outcome done does = rw (ok_in _ _ does) tt
tied_quiet (tied ∷ more) old outcome done does =
    let first = then_out {A = Done} {B = Done} (Settle old tied.promise (cap_at outcome tied.path)) _ done does in
    let rest = then_out {A = Done} {B = Done} (SettleTied first.0.1 outcome more) _ done first.2 in
    rw
    (ok_in _ _ rest.2)
    (all_both IsQuiet first.0.0 rest.0.0 (settle_quiet old tied.promise (cap_at outcome tied.path) first.0 first.1) (tied_quiet more first.0.1 outcome rest.0 rest.1))

-- ---- outcomes that are given
answer_by : (old : State) (a : ℕ) (outcome : Outcome) (done : Done) (does : GiveAnswer old a outcome (Ok done)) → (stage : Stage)
    → GiveBy old a outcome does.0.kept stage (Ok done) → AreQuiet done.0
answer_by old a outcome done does stages.Open gives =
    let kept = does.0.kept in
    let says = then_out {A = Returned × State} {B = Done} (Returns old outcome) _ done gives in
    let rest = then_out {A = Done} {B = Done} (SettleTied (given says.0.1 a kept outcome says.0.0) outcome kept.tied) _ done says.2 in
    rw (ok_in _ _ rest.2) (tt, tied_quiet kept.tied (given says.0.1 a kept outcome says.0.0) outcome rest.0 rest.1)
answer_by old a outcome done does stages.Finished gives =
    let kept = does.0.kept in
    let rest = then_out {A = Done} {B = Done} (SettleTied (gone old a outcome) outcome kept.tied) _ done gives in
    rw (ok_in _ _ rest.2) (tt, tied_quiet kept.tied (gone old a outcome) outcome rest.0 rest.1)
answer_by old a outcome done does stages.Returned gives = absurd gives

answer_quiet : (old : State) (a : ℕ) (outcome : Outcome) (done : Done) → GiveAnswer old a outcome (Ok done) → AreQuiet done.0
answer_quiet old a outcome done does = answer_by old a outcome done does does.0.stage does.2

own_quiet : (old : State) (q : ℕ) (outcome : Outcome) (stage : Stage) (done : Done) → GiveOwnBy old q outcome stage (Ok done) → AreQuiet done.0
own_quiet old q outcome stages.Open done does = rw (ok_in _ _ does) (tt, tt)
own_quiet old q outcome stages.Finished done does = rw (ok_in _ _ does) tt
own_quiet old q outcome stages.Returned done does = absurd does

give_quiet : (old : State) (origin : Origin) (outcome : Outcome) (done : Done) → Give old origin outcome (Ok done) → AreQuiet done.0
give_quiet old (origins.Answer a) outcome done does = answer_quiet old a outcome done does
give_quiet old (origins.Own q) outcome done does = own_quiet old q outcome does.0.stage done does.2

-- ---- calls that go
after_quiet : (q : ℕ) (stage : Stage) → AreQuiet (finish_after q stage)
after_quiet q stages.Open = tt
after_quiet q stages.Returned = tt
after_quiet q stages.Finished = (tt, tt)

out_quiet : (old : State) (call : PendingCall) (target : Target) (origin : Origin) (done : Done) → GoOut old call target origin (Ok done) → AreQuiet done.0
out_quiet old call target (origins.Answer a) done goes =
    let first = then_out {A = ℕ} {B = Done} (Fresh old.entries.questions) _ done goes in
    let parts = then_out {A = List Descriptor × State} {B = Done} (WritesDescriptors old call.request.caps) _ done first.2 in
    rw (ok_in _ _ parts.2) (tt, tt)
out_quiet old call target (origins.Own q) done goes =
    let parts = then_out {A = List Descriptor × State} {B = Done} (WritesDescriptors old call.request.caps) _ done goes.2 in
    rw (ok_in _ _ parts.2) (tt, after_quiet q goes.0.stage)

go_quiet : (old : State) (call : PendingCall) (route : Route) (done : Done) → Go old call route (Ok done) → AreQuiet done.0
go_quiet old call (routes.Deliver k) done goes = rw (ok_in _ _ goes) (tt, tt)
go_quiet old call (routes.Import i) done goes = out_quiet old call (targets.ImportedCap i) call.origin done goes
go_quiet old call (routes.Pipe q path) done goes = out_quiet old call _ call.origin done goes
go_quiet old call (routes.Wait gate) done goes = rw (ok_in _ _ goes) tt
go_quiet old call (routes.Fail x) done goes = give_quiet old call.origin (outcomes.Failed x) done goes

goes_quiet : (old : State) (call : PendingCall) (cap : Cap) (done : Done) → GoTo old call cap (Ok done) → AreQuiet done.0
goes_quiet old call cap done goes = go_quiet old call goes.0 done goes.2

pub leave_quiet : {old : State} {all : List Effect} {out : Result State PeerFault} → Leave old all out → AreQuiet all
leave_quiet (stays none) = tt
leave_quiet {old = old} (leaves {mid = mid} {first = first} {rest = rest} call cap next goes more same) =
    rw (same) (all_both IsQuiet first rest (goes_quiet (without_call old call) (underway call) cap (first, mid) goes) (leave_quiet more))
leave_quiet (finds_table_full call cap next goes) = tt

-- ---- the application's calls
embargoed_quiet : (s : State) (call : PendingCall) (cap value : Cap) (done : Done) → FirstEmbargoed s call cap value (Ok done) → AreQuiet done.0
embargoed_quiet s call cap value done does =
    let parts = then_out {A = ℕ} {B = Done} (Fresh s.marks.embargoes) _ done does in
    rw (ok_in _ _ parts.2) (tt, tt)

back_quiet : (s : State) (call : PendingCall) (cap value : Cap) (o : Option (Option ℕ)) (done : Done) → GoBack s call cap value o (Ok done) → AreQuiet done.0
back_quiet s call cap value None done does = goes_quiet s call value done does
back_quiet s call cap value (Some None) done does = embargoed_quiet s call cap value done does
back_quiet s call cap value (Some (Some n)) done does = go_quiet s call (routes.Wait (gates.Embargo n)) done does

value_quiet : (old : State) (q : ℕ) (request : Request) (cap value : Cap) (done : Done) → GoByValue old q request cap value (Ok done) → AreQuiet done.0
value_quiet old q request cap (caps.Import j) done does = go_quiet (called old q kinds.Wire) (own_call old q request) (routes.Import j) done does
value_quiet old q request cap (caps.Object k) done does =
    back_quiet (called old q kinds.Local) (own_call old q request) cap (caps.Object k) (mark_of old cap) done does
value_quiet old q request cap (caps.Promise p) done does =
    back_quiet (called old q kinds.Local) (own_call old q request) cap (caps.Promise p) (mark_of old cap) done does
value_quiet old q request cap caps.None done does = goes_quiet (called old q kinds.Local) (own_call old q request) caps.None done does
value_quiet old q request cap (caps.Pipelined r path) done does =
    goes_quiet (called old q kinds.Local) (own_call old q request) (caps.Pipelined r path) done does
value_quiet old q request cap (caps.Broken x) done does = goes_quiet (called old q kinds.Local) (own_call old q request) (caps.Broken x) done does

from_quiet : (old : State) (q : ℕ) (request : Request) (cap : Cap) (reference : Standing) (done : Done) → GoFrom old q request cap reference (Ok done) → AreQuiet done.0
from_quiet old q request cap plain done does = goes_quiet (called old q kinds.Local) (own_call old q request) cap done does
from_quiet old q request cap on_wire done does =
    let parts = then_out {A = State} {B = Done} (λ mid. mid ≡ marked (called old q kinds.Wire) cap (mark_of old cap)) _ done does in
    goes_quiet parts.0 (own_call old q request) cap done parts.2
from_quiet old q request cap (came_to value) done does = value_quiet old q request cap value done does

pub call_quiet : (old : State) (cap : Cap) (request : Request) (done : OwnDone) → DoCall old cap request (Ok done) → AreQuiet done.1
call_quiet old cap request done does =
    let opens = or_full_out _ _ (unless_out {A = OwnDone} {F = VatFault} (call_refusals old cap request) _ done does) in
    let first = then_out {A = ℕ} {B = OwnDone} (Fresh old.entries.questions) _ done opens in
    let goes = then_out {A = Done} {B = OwnDone} (GoFrom old first.0 request cap (reference_of old.values cap)) _ done first.2 in
    rw (ok_in _ _ goes.2) (from_quiet old first.0 request cap (reference_of old.values cap) goes.0 goes.1)

pub bootstrap_quiet : (old : State) (done : OwnDone) → DoBootstrap old (Ok done) → AreQuiet done.1
bootstrap_quiet old done does =
    let parts = then_out {A = ℕ} {B = OwnDone} (Fresh old.entries.questions) _ done (or_full_out _ _ does) in
    rw (ok_in _ _ parts.2) (tt, tt)

pub gives_quiet : (old : State) (origin : Origin) (outcome : Outcome) (done : OwnDone) → DoAnswer old origin outcome (Ok done) → AreQuiet done.1
gives_quiet old origin outcome done does =
    let gives = or_full_out _ _ (unless_out {A = OwnDone} {F = VatFault} (answer_refusals old origin outcome) _ done does) in
    let parts = then_out {A = Done} {B = OwnDone} (Give old origin outcome) _ done gives in
    rw (ok_in _ _ parts.2) (give_quiet old origin outcome parts.0 parts.1)

resolves_by : (old : State) (p : ℕ) (cap : Cap) (done : OwnDone) → Resolves old p cap (Ok done) → AreQuiet done.1
resolves_by old p cap done (inl h) = ok_out h.1
resolves_by old p cap done (inr h) =
    let settles = or_full_out _ _ (unless_out {A = OwnDone} {F = VatFault} (value_refusals old cap) _ done h.1) in
    let parts = then_out {A = Done} {B = OwnDone} (Settle old p cap) _ done settles in
    rw (ok_in _ _ parts.2) (settle_quiet old p cap parts.0 parts.1)

pub resolve_quiet : (old : State) (p : ℕ) (cap : Cap) (done : OwnDone) → DoResolve old p cap (Ok done) → AreQuiet done.1
resolve_quiet old p cap done does = resolves_by old p cap done (unless_out {A = OwnDone} {F = VatFault} (resolve_refusals old p cap) (Resolves old p cap) done does)

told_quiet : (b : Bool) (q : ℕ) (release : Bool) → AreQuiet (told_if b (finish_of q release))
told_quiet true q release = (tt, tt)
told_quiet false q release = tt

finish_by : (old : State) (q : ℕ) (kept : QuestionEntry) (stage : Stage) (done : OwnDone) → FinishBy old q kept stage (Ok done) → AreQuiet done.1
finish_by old q kept stages.Open done does = rw (ok_in _ _ does) (told_quiet kept.is_sent q true)
finish_by old q kept stages.Returned done does = rw (ok_in _ _ does) (told_quiet kept.is_sent q false)
finish_by old q kept stages.Finished done does = absurd does

finishes_quiet : (old : State) (q : ℕ) (o : Option (Exchange QuestionEntry)) (done : OwnDone) → Finishes old q o (Ok done) → AreQuiet done.1
finishes_quiet old q None done does = absurd does
finishes_quiet old q (Some entry) done does = finish_by old q entry.kept entry.stage done does

pub finish_quiet : (old : State) (q : ℕ) (done : OwnDone) → DoFinish old q (Ok done) → AreQuiet done.1
finish_quiet old q done does =
    finishes_quiet old q (get old.entries.questions q) done
    (unless_out {A = OwnDone} {F = VatFault} (fault_if (not (is_own_question old q)) refusals.UnknownQuestion ++ fault_if (is_question_used old q) refusals.InUse)
    (Finishes old q (get old.entries.questions q)) done does)

-- ---- messages that come
target_quiet : (s : State) (call : PendingCall) (target : Target) (done : Done) → GoToTarget s call target (Ok done) → AreQuiet done.0
target_quiet s call (targets.ImportedCap e) done goes = at_export (get s.counts.exports e) goes
  where
    at_export : (o : Option (Counted Cap)) → GoToExport s call o (Ok done) → AreQuiet done.0
    at_export None goes = absurd goes
    at_export (Some entry) goes = goes_quiet s call entry.kept done goes
target_quiet s call (targets.PromisedAnswer answer) done goes = at_answer (answer_of s answer.question_id) goes
  where
    at_answer : (o : Option (Option Outcome)) → GoToAnswer s call answer.question_id (path_of answer.transform) o (Ok done) → AreQuiet done.0
    at_answer None goes = absurd goes
    at_answer (Some None) goes = go_quiet s call (routes.Wait (gates.Answer answer.question_id (path_of answer.transform))) done goes
    at_answer (Some (Some outcome)) goes = goes_quiet s call (cap_at outcome (path_of answer.transform)) done goes
target_quiet s call (targets.Unknown n) done goes = absurd goes

pub come_quiet : (old : State) (c : Call) (done : Done) → OnCall old c (Ok done) → AreQuiet done.0
come_quiet old c done does =
    let rule = unless_out {A = Done} {F = PeerFault} (call_faults old c) _ done does in
    let taken = then_out {A = List Cap × State} {B = Done} (ReceivesCaps old c.params.cap_table) _ done rule in
    target_quiet (entered taken.0.1 c.question_id) (peer_call taken.0.1 c taken.0.0) c.target done taken.2

pub opens_quiet : (old : State) (a : ℕ) (done : Done) → OnBootstrap old a (Ok done) → AreQuiet done.0
opens_quiet old a done does =
    answer_quiet (with_answer old a None) a (bootstrap_outcome old.bootstrap) done
    (unless_out {A = Done} {F = PeerFault} (fault_if (is_answering old a) faults.QuestionInUse ++ fault_if (not (has_capacity old.entries.answers)) faults.TableFull)
    (GiveAnswer (with_answer old a None) a (bootstrap_outcome old.bootstrap)) done does)

settles_quiet : (old : State) (q : ℕ) (forwards : Option ℕ) (outcome : Outcome) (done : Done) → Settles old q forwards outcome (Ok done) → AreQuiet done.0
settles_quiet old q None outcome done does = own_quiet old q outcome does.0.stage done does.2
settles_quiet old q (Some a) outcome done does =
    let parts = then_out {A = Done} {B = Done} (GiveAnswer (without_question old q) a outcome) _ done does in
    rw (ok_in _ _ parts.2) (tt, answer_quiet (without_question old q) a outcome parts.0 parts.1)

return_by : (old : State) (r : Return) (kept : QuestionEntry) (stage : Stage) (done : Done) → ReturnBy old r kept stage (Ok done) → AreQuiet done.0
return_by old r kept stages.Open done does =
    let taken = then_out {A = Outcome × State} {B = Done} (ReceivesReturned old r.returned) _ done does in
    settles_quiet taken.0.1 r.answer_id kept.forwards taken.0.0 done taken.2
return_by old r kept stages.Finished done does = rw (ok_in _ _ does) tt
return_by old r kept stages.Returned done does = absurd does

pub return_quiet : (old : State) (r : Return) (o : Option (Exchange QuestionEntry)) (done : Done) → ReturnOf old r o (Ok done) → AreQuiet done.0
return_quiet old r None done does = ok_out does
return_quiet old r (Some entry) done does =
    let rule = unless_out {A = Done} {F = PeerFault} (fault_if (not (is_asked entry.kept.is_sent entry.stage)) faults.UnknownQuestion) _ done does in
    let lowers = then_out {A = Table (Counted Cap)} {B = Done} _ _ done rule in
    return_by (with_exports old lowers.0) r entry.kept entry.stage done lowers.2

at_stage : (old : State) (f : Finish) (kept : AnswerEntry) (stage : Stage) (done : Done) → AtStage old f kept stage (Ok done) → AreQuiet done.0
at_stage old f kept stages.Open done does = rw (ok_in _ _ does) tt
at_stage old f kept stages.Returned done does =
    let parts = then_out {A = Table (Counted Cap)} {B = Done}
    (λ exports. exports ≡ (if f.release_result_caps then release_exports old.counts.exports kept.mentions else Ok old.counts.exports)) _ done does in
    rw (ok_in _ _ parts.2) tt
at_stage old f kept stages.Finished done does = ok_out does

pub finished_quiet : (old : State) (f : Finish) (o : Option (Exchange AnswerEntry)) (done : Done) → FinishedBy old f o (Ok done) → AreQuiet done.0
finished_quiet old f None done does = ok_out does
finished_quiet old f (Some entry) done does = at_stage old f entry.kept entry.stage done does

echo_by : (old : State) (n : ℕ) (last : Cap) (done : Done) → Ok done ≡ echo_to old n last → AreQuiet done.0
echo_by old n (caps.Import i) done is = rw (ok_in _ _ is) (tt, tt)
echo_by old n caps.None done is = ok_out is
echo_by old n (caps.Object k) done is = ok_out is
echo_by old n (caps.Promise p) done is = ok_out is
echo_by old n (caps.Pipelined q path) done is = ok_out is
echo_by old n (caps.Broken x) done is = ok_out is

echoes_by : (old : State) (n : ℕ) (target : Target) (done : Done) → EchoesTarget old n target (Ok done) → AreQuiet done.0
echoes_by old n (targets.ImportedCap e) done does = at_export (get old.counts.exports e) does
  where
    at_export : (o : Option (Counted Cap)) → EchoesExport old n o (Ok done) → AreQuiet done.0
    at_export None does = absurd does
    at_export (Some entry) does = echo_by old n does.0 done does.2
echoes_by old n (targets.PromisedAnswer answer) done does = at_answer (answer_of old answer.question_id) does
  where
    at_answer : (o : Option (Option Outcome)) → EchoesAnswer old n (path_of answer.transform) o (Ok done) → AreQuiet done.0
    at_answer None does = absurd does
    at_answer (Some None) does = ok_out does
    at_answer (Some (Some outcome)) does = echo_by old n does.0 done does.2
echoes_by old n (targets.Unknown m) done does = absurd does

ends_by : (old : State) (n : ℕ) (o : Option Cap) (done : Done) → Ok done ≡ ended_by old n o → AreQuiet done.0
ends_by old n None done is = ok_out is
ends_by old n (Some cap) done is = rw (ok_in _ _ is) tt

pub disembargo_quiet : (old : State) (context : DisembargoContext) (target : Target) (done : Done) → OnDisembargo old context target (Ok done) → AreQuiet done.0
disembargo_quiet old (contexts.SenderLoopback n) target done does =
    echoes_by old n target done (unless_out {A = Done} {F = PeerFault} (target_faults old target) _ done does)
disembargo_quiet old (contexts.ReceiverLoopback n) target done does = ends_by old n (get old.marks.embargoes n) done does
disembargo_quiet old contexts.Accept target done does = absurd does
disembargo_quiet old (contexts.Provide q) target done does = absurd does
disembargo_quiet old (contexts.Unknown n) target done does = absurd does
