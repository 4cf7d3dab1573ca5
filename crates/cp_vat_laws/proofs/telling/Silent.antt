-- Events in which nothing is given tell nothing.
use Rattle.std.specs.Prelude.{◌≡◌, refl, ℕ, not, Bool, true, false, if◌then◌else◌, List, [], ◌∷◌, ◌++◌, filter, Option, Some, None, is_none, Ok}
use Rattle.std.specs.FinMap.{get}
use Rattle.std.proofs.Common.{inl, inr}
use Rattle.cp_tree.specs.Node.{Node}
use Rattle.cp_tables.specs.Table.{Table}
use Rattle.cp_tables.specs.Counted.{count_of}
use Rattle.cp_tables.specs.declared.counted.Counted.{Counted}
use Rattle.cp_tables.specs.declared.exchange.Exchange.{Exchange}
use Rattle.cp_tables.specs.declared.exchange.Stage.{Stage}
use Rattle.cp_tables.specs.declared.exchange.Stage.TheVariants as stages
use Rattle.cp_messages.specs.declared.disembargo.DisembargoContext.{DisembargoContext}
use Rattle.cp_messages.specs.declared.disembargo.DisembargoContext.TheVariants as contexts
use Rattle.cp_messages.specs.declared.exception.Exception.{Exception}
use Rattle.cp_messages.specs.declared.message.Message.{Message}
use Rattle.cp_messages.specs.declared.message.Message.TheVariants as messages
use Rattle.cp_messages.specs.declared.resolve.Resolve.{Resolve}
use Rattle.cp_messages.specs.declared.small.Finish.{Finish}
use Rattle.cp_messages.specs.declared.small.Release.{Release}
use Rattle.cp_messages.specs.declared.target.Target.{Target}
use Rattle.cp_messages.specs.declared.target.Target.TheVariants as targets
use Rattle.cp_refs.specs.declared.cap.Cap.{Cap}
use Rattle.cp_refs.specs.declared.cap.Cap.TheVariants as caps
use Rattle.cp_refs.specs.declared.outcome.Outcome.{Outcome}
use Rattle.cp_vat_machine.specs.State.{State}
use Rattle.cp_vat_machine.specs.Then.{Done, Then, fault_if}
use Rattle.cp_vat_machine.specs.Capacity.{Fresh}
use Rattle.cp_vat_machine.specs.Receiving.{answer_of, path_of, release_exports, released}
use Rattle.cp_vat_machine.specs.Give.{settled, value_for, last_for, Settle}
use Rattle.cp_vat_machine.specs.Go.{finish_of}
use Rattle.cp_vat_machine.specs.InUse.{is_own_question, is_question_used, is_import_used, is_promise_used, is_unsettled}
use Rattle.cp_vat_machine.specs.Calling.{OwnDone}
use Rattle.cp_vat_machine.specs.Answering.{target_faults, AtStage, FinishedBy, OnFinish}
use Rattle.cp_vat_machine.specs.Doing.{DoBootstrap, DoPromise, resolve_refusals, value_refusals, Resolves, DoResolve, told_if, FinishBy, Finishes, DoFinish, without_import, DoRelease, without_promise, DoForget, DoIdle}
use Rattle.cp_vat_machine.specs.Resolving.{OnRelease, release_of, given_back, releases_of, is_open_promise, TakeResolution, resolved, ResolveOf, OnResolve, echo_to, EchoesExport, EchoesAnswer, EchoesTarget, ended_by, OnDisembargo, told, UnknownToPeer, OnUnimplemented, OnAbort}
use Rattle.cp_vat_machine.specs.Telling.{is_telling}
use Rattle.cp_vat_machine.specs.declared.effect.Effect.{Effect}
use Rattle.cp_vat_machine.specs.declared.entry.AnswerEntry.{AnswerEntry}
use Rattle.cp_vat_machine.specs.declared.entry.ImportKind.{ImportKind}
use Rattle.cp_vat_machine.specs.declared.entry.QuestionEntry.{QuestionEntry}
use Rattle.cp_vat_machine.specs.declared.event.Value.TheVariants as values
use Rattle.cp_vat_machine.specs.declared.fault.PeerFault.TheVariants as faults
use Rattle.cp_vat_machine.specs.declared.fault.VatFault.{VatFault}
use Rattle.cp_vat_machine.specs.declared.fault.VatFault.TheVariants as refusals
use Rattle.cp_vat_machine.proofs.Basics.{ok_in, ok_out, then_out, unless_out, or_full_out}
use Rattle.cp_vat_laws.proofs.order.Settle.{told_only}
use Rattle.cp_vat_laws.proofs.order.Does.{quietly_out}

-- it tells no outcome
abbrev pub IsSilent : List Effect → Type 0
IsSilent effects = filter is_telling effects ≡ []

-- The application's calls.
pub bootstrap_silent : (old : State) (done : OwnDone) → DoBootstrap old (Ok done) → IsSilent done.1
bootstrap_silent old done does =
    let fresh = then_out {A = ℕ} {B = OwnDone} (Fresh old.entries.questions) _ done (or_full_out {A = OwnDone} _ done does) in
    rw (ok_in _ _ fresh.2) refl

pub promise_silent : (old : State) (done : OwnDone) → DoPromise old (Ok done) → IsSilent done.1
promise_silent old done does =
    let fresh = then_out {A = ℕ} {B = OwnDone} (Fresh old.values.promises) _ done (or_full_out {A = OwnDone} _ done does) in
    rw (ok_in _ _ fresh.2) refl

settle_silent : (s : State) (p : ℕ) (value : Cap) (done : Done) → Settle s p value (Ok done) → IsSilent done.0
settle_silent s p value done (last, comes, tells) = (told_only (settled s p (value_for p last value)) p (last_for p last) done tells).1.telling

resolves_silent : (old : State) (p : ℕ) (cap : Cap) (done : OwnDone) → Resolves old p cap (Ok done) → IsSilent done.1
resolves_silent old p cap done (inl h) = ok_out h.1
resolves_silent old p cap done (inr h) =
    let parts = quietly_out (Settle old p cap) done (unless_out (value_refusals old cap) _ done h.1) in
    rw (parts.2) (settle_silent old p cap parts.0 parts.1)

pub resolve_silent : (old : State) (p : ℕ) (cap : Cap) (done : OwnDone) → DoResolve old p cap (Ok done) → IsSilent done.1
resolve_silent old p cap done does = resolves_silent old p cap done (unless_out (resolve_refusals old p cap) _ done does)

told_silent : (b : Bool) (q : ℕ) (release : Bool) → IsSilent (told_if b (finish_of q release))
told_silent true q release = refl
told_silent false q release = refl

finish_by : (old : State) (q : ℕ) (kept : QuestionEntry) (stage : Stage) (done : OwnDone) → FinishBy old q kept stage (Ok done) → IsSilent done.1
finish_by old q kept stages.Open done does = rw (ok_in _ _ does) (told_silent kept.is_sent q true)
finish_by old q kept stages.Returned done does = rw (ok_in _ _ does) (told_silent kept.is_sent q false)
finish_by old q kept stages.Finished done does = absurd does

finishes : (old : State) (q : ℕ) (o : Option (Exchange QuestionEntry)) (done : OwnDone) → Finishes old q o (Ok done) → IsSilent done.1
finishes old q None done does = absurd does
finishes old q (Some entry) done does = finish_by old q entry.kept entry.stage done does

pub finish_silent : (old : State) (q : ℕ) (done : OwnDone) → DoFinish old q (Ok done) → IsSilent done.1
finish_silent old q done does =
    finishes old q (get old.entries.questions q) done
    (unless_out {F = VatFault} (fault_if (not (is_own_question old q)) refusals.UnknownQuestion ++ fault_if (is_question_used old q) refusals.InUse)
    (Finishes old q (get old.entries.questions q)) done does)

pub release_silent : (old : State) (i : ℕ) (done : OwnDone) → DoRelease old i (Ok done) → IsSilent done.1
release_silent old i done does =
    rw
    (ok_in _ _ (unless_out {A = OwnDone} {F = VatFault} (fault_if (is_import_used old i) refusals.InUse ++ fault_if (is_none (get old.counts.imports i)) refusals.UnknownImport)
    (λ out. out ≡ Ok (values.Nothing, release_of i (count_of old.counts.imports i) ∷ [], without_import old i)) done does))
    refl

pub forget_silent : (old : State) (p : ℕ) (done : OwnDone) → DoForget old p (Ok done) → IsSilent done.1
forget_silent old p done does =
    rw
    (ok_in _ _ (unless_out {A = OwnDone} {F = VatFault}
    (fault_if (is_none (get old.values.promises p)) refusals.UnknownPromise ++ fault_if (is_unsettled (get old.values.promises p)) refusals.Unsettled
    ++ fault_if (is_promise_used old p) refusals.InUse)
    (λ out. out ≡ Ok (values.Nothing, [], without_promise old p)) done does))
    refl

pub idle_silent : (old : State) (done : OwnDone) → DoIdle old (Ok done) → IsSilent done.1
idle_silent old done does = rw (ok_in _ _ does) refl

-- Messages.
pub on_release_silent : (old : State) (r : Release) (done : Done) → OnRelease old r (Ok done) → IsSilent done.0
on_release_silent old r done does =
    let parts = then_out {A = Table (Counted Cap)} {B = Done} (λ exports. exports ≡ released old.counts.exports r.id r.reference_count) _ done does in
    rw (ok_in _ _ parts.2) refl

at_stage : (old : State) (f : Finish) (kept : AnswerEntry) (stage : Stage) (done : Done) → AtStage old f kept stage (Ok done) → IsSilent done.0
at_stage old f kept stages.Open done does = rw (ok_in _ _ does) refl
at_stage old f kept stages.Returned done does =
    let parts = then_out {A = Table (Counted Cap)} {B = Done} (λ exports. exports ≡ (if f.release_result_caps then release_exports old.counts.exports kept.mentions else Ok old.counts.exports)) _ done does in
    rw (ok_in _ _ parts.2) refl
at_stage old f kept stages.Finished done does = ok_out does

finished_by : (old : State) (f : Finish) (o : Option (Exchange AnswerEntry)) (done : Done) → FinishedBy old f o (Ok done) → IsSilent done.0
finished_by old f None done does = ok_out does
finished_by old f (Some entry) done does = at_stage old f entry.kept entry.stage done does

pub on_finish_silent : (old : State) (f : Finish) (done : Done) → OnFinish old f (Ok done) → IsSilent done.0
on_finish_silent old f done does = finished_by old f (get old.entries.answers f.question_id) done does

pub on_abort_silent : (old : State) (x : Exception) (done : Done) → OnAbort old x (Ok done) → IsSilent done.0
on_abort_silent old x done does = rw (ok_in _ _ does) refl

unknown_by : (old : State) (o : Option Message) (done : Done) → UnknownToPeer old o (Ok done) → IsSilent done.0
unknown_by old (Some (messages.Resolve r)) done does =
    let parts = then_out {A = Table (Counted Cap)} {B = Done} (λ exports. exports ≡ release_exports old.counts.exports (given_back r.resolution)) _ done does in
    rw (ok_in _ _ parts.2) refl
unknown_by old None done does = ok_out does
unknown_by old (Some other) done does = ok_out does

pub on_unimplemented_silent : (old : State) (t : Node) (done : Done) → OnUnimplemented old t (Ok done) → IsSilent done.0
on_unimplemented_silent old t done does = unknown_by old (told t) done does

echo_by : (old : State) (n : ℕ) (last : Cap) (done : Done) → Ok done ≡ echo_to old n last → IsSilent done.0
echo_by old n (caps.Import i) done is = rw (ok_in _ _ is) refl
echo_by old n caps.None done is = ok_out is
echo_by old n (caps.Object k) done is = ok_out is
echo_by old n (caps.Promise p) done is = ok_out is
echo_by old n (caps.Pipelined q path) done is = ok_out is
echo_by old n (caps.Broken x) done is = ok_out is

echoes_export : (old : State) (n : ℕ) (o : Option (Counted Cap)) (done : Done) → EchoesExport old n o (Ok done) → IsSilent done.0
echoes_export old n None done does = absurd does
echoes_export old n (Some entry) done does = echo_by old n does.0 done does.2

echoes_answer : (old : State) (n : ℕ) (path : List ℕ) (o : Option (Option Outcome)) (done : Done) → EchoesAnswer old n path o (Ok done) → IsSilent done.0
echoes_answer old n path None done does = absurd does
echoes_answer old n path (Some None) done does = ok_out does
echoes_answer old n path (Some (Some outcome)) done does = echo_by old n does.0 done does.2

echoes : (old : State) (n : ℕ) (target : Target) (done : Done) → EchoesTarget old n target (Ok done) → IsSilent done.0
echoes old n (targets.ImportedCap e) done does = echoes_export old n (get old.counts.exports e) done does
echoes old n (targets.PromisedAnswer answer) done does = echoes_answer old n (path_of answer.transform) (answer_of old answer.question_id) done does
echoes old n (targets.Unknown m) done does = absurd does

ended_silent : (old : State) (n : ℕ) (o : Option Cap) (done : Done) → Ok done ≡ ended_by old n o → IsSilent done.0
ended_silent old n None done is = ok_out is
ended_silent old n (Some cap) done is = rw (ok_in _ _ is) refl

pub on_disembargo_silent : (old : State) (context : DisembargoContext) (target : Target) (done : Done) → OnDisembargo old context target (Ok done) → IsSilent done.0
on_disembargo_silent old (contexts.SenderLoopback n) target done does = echoes old n target done (unless_out (target_faults old target) (EchoesTarget old n target) done does)
on_disembargo_silent old (contexts.ReceiverLoopback n) target done does = ended_silent old n (get old.marks.embargoes n) done does
on_disembargo_silent old contexts.Accept target done does = absurd does
on_disembargo_silent old other target done does = absurd does

releases_silent : (ids : List ℕ) → IsSilent (releases_of ids)
releases_silent [] = refl
releases_silent (i ∷ ids) = releases_silent ids

resolve_by : (old : State) (r : Resolve) (o : Option (Counted ImportKind)) (done : Done) → ResolveOf old r o (Ok done) → IsSilent done.0
resolve_by old r None done does = rw (ok_in _ _ does) (releases_silent (given_back r.resolution))
resolve_by old r (Some entry) done does =
    let F = fault_if (not (is_open_promise entry.kept (get old.values.imports r.promise_id))) faults.NotAnOpenPromise in
    let R = Then (TakeResolution old r.resolution) (λ taken out. out ≡ Ok ([], resolved taken.1 r.promise_id taken.0)) in
    let parts = then_out {A = Cap × State} {B = Done} (TakeResolution old r.resolution) _ done (unless_out {A = Done} F R done does) in
    rw (ok_in _ _ parts.2) refl

pub on_resolve_silent : (old : State) (r : Resolve) (done : Done) → OnResolve old r (Ok done) → IsSilent done.0
on_resolve_silent old r done does = resolve_by old r (get old.counts.imports r.promise_id) done does
