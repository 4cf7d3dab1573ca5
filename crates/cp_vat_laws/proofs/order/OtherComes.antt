-- Messages but a Call are quiet.
use Rattle.std.specs.Prelude.{◌≡◌, refl, ℕ, not, Bool, true, false, if◌then◌else◌, List, [], ◌∷◌, ◌++◌, Option, Some, None, Ok}
use Rattle.std.specs.Ordering.{nat_cmp}
use Rattle.std.specs.FinMap.{get, get-empty}
use Rattle.std.proofs.Common.{arith, ap, sym, ◌∙◌, true≢false}
use Rattle.cp_tree.specs.Node.{Node}
use Rattle.cp_tables.specs.Table.{Table}
use Rattle.cp_tables.specs.Exchange.{new_exchange, with_stage}
use Rattle.cp_tables.specs.declared.counted.Counted.{Counted}
use Rattle.cp_tables.specs.declared.exchange.Exchange.{Exchange}
use Rattle.cp_tables.specs.declared.exchange.Stage.{Stage}
use Rattle.cp_tables.specs.declared.exchange.Stage.TheVariants as stages
use Rattle.cp_messages.specs.declared.disembargo.DisembargoContext.{DisembargoContext}
use Rattle.cp_messages.specs.declared.disembargo.DisembargoContext.TheVariants as contexts
use Rattle.cp_messages.specs.declared.exception.Exception.{Exception}
use Rattle.cp_messages.specs.declared.message.Message.{Message}
use Rattle.cp_messages.specs.declared.message.Message.TheVariants as messages
use Rattle.cp_messages.specs.declared.resolve.Resolution.{Resolution}
use Rattle.cp_messages.specs.declared.resolve.Resolution.TheVariants as resolutions
use Rattle.cp_messages.specs.declared.resolve.Resolve.{Resolve}
use Rattle.cp_messages.specs.declared.small.Finish.{Finish}
use Rattle.cp_messages.specs.declared.small.Release.{Release}
use Rattle.cp_messages.specs.declared.target.Target.{Target}
use Rattle.cp_messages.specs.declared.target.Target.TheVariants as targets
use Rattle.cp_refs.specs.declared.cap.Cap.{Cap}
use Rattle.cp_refs.specs.declared.cap.Cap.TheVariants as caps
use Rattle.cp_refs.specs.declared.call.Origin.TheVariants as origins
use Rattle.cp_refs.specs.declared.outcome.Outcome.{Outcome}
use Rattle.cp_vat_machine.specs.State.{State, none_over, with_exports, with_answers}
use Rattle.cp_vat_machine.specs.Then.{Done, Then, fault_if}
use Rattle.cp_vat_machine.specs.Capacity.{has_capacity}
use Rattle.cp_vat_machine.specs.Receiving.{answer_of, path_of, release_exports, released}
use Rattle.cp_vat_machine.specs.Give.{GiveAnswer}
use Rattle.cp_vat_machine.specs.Answering.{with_answer, bootstrap_outcome, is_answering, OnBootstrap, target_faults, without_answer, AtStage, FinishedBy, OnFinish}
use Rattle.cp_vat_machine.specs.Resolving.{OnRelease, given_back, releases_of, is_open_promise, TakeResolution, resolved, ResolveOf, OnResolve, echo_to, EchoesExport, EchoesAnswer, EchoesTarget, ended_by, OnDisembargo, told, UnknownToPeer, OnUnimplemented, closed, OnAbort}
use Rattle.cp_vat_machine.specs.declared.effect.Effect.{Effect}
use Rattle.cp_vat_machine.specs.declared.entry.AnswerEntry.{AnswerEntry}
use Rattle.cp_vat_machine.specs.declared.entry.ImportKind.{ImportKind}
use Rattle.cp_vat_machine.specs.declared.entry.ImportKind.TheVariants as import_kinds
use Rattle.cp_vat_machine.specs.declared.fault.PeerFault.TheVariants as faults
use Rattle.cp_vat_laws.specs.Within.{Within}
use Rattle.cp_vat_machine.proofs.Basics.{is_itself, ok_in, ok_out, then_out, unless_out, put_at}
use Rattle.cp_vat_laws.proofs.order.Passes.{Passes}
use Rattle.cp_vat_laws.proofs.order.Same.{marks_same}
use Rattle.cp_vat_laws.proofs.order.Closes.{Closes, passes_both, closes_both, same_closes}
use Rattle.cp_vat_laws.proofs.order.Give.{give_done}
use Rattle.cp_vat_laws.proofs.order.Grows.{put_grows, grows_passes}
use Rattle.cp_vat_laws.proofs.order.Removes.{answer_goes, import_resolves, embargo_passes}
use Rattle.cp_vat_laws.proofs.order.CallComes.{free_answer}
use Rattle.cp_vat_laws.proofs.order.Quiet.{NoneLeaves, IsQuietly, closes_quietly}
use Rattle.cp_vat_laws.proofs.Tables.{no_faults, front_empty, not_met}
use Rattle.cp_vat_laws.proofs.within.Take.{Grows, take_keeps}

abbrev pub DoesQuietly : State → Done → Type 0
DoesQuietly old done = IsQuietly old done.0 done.1

-- first values grow, and then something is given
pub then_closes : (old between mid : State) (first : List Effect) → Passes old between → between.waiting.calls ≡ old.waiting.calls → Closes between mid → NoneLeaves first → IsQuietly old first mid
then_closes old between mid first one calls more quiet =
    record { passes = passes_both old between mid one more.passes more.adds; quiet = quiet; calls = more.calls ∙ calls }

pub exports_closes : (old : State) (exports : Table (Counted Cap)) → Closes old (with_exports old exports)
exports_closes old exports = same_closes old (with_exports old exports) refl refl refl refl

-- A Release, a Finish, an Abort, and what the peer doesn't know.
pub on_release : (old : State) (r : Release) (done : Done) → OnRelease old r (Ok done) → DoesQuietly old done
on_release old r done does =
    let parts = then_out {A = Table (Counted Cap)} {B = Done} (λ exports. exports ≡ released old.counts.exports r.id r.reference_count) _ done does in
    rw (ok_in _ _ parts.2) (closes_quietly old [] (with_exports old parts.0) (exports_closes old parts.0) (λ s. refl))

at_stage : (old : State) (f : Finish) (kept : AnswerEntry) (stage : Stage) (done : Done) → AtStage old f kept stage (Ok done) → DoesQuietly old done
at_stage old f kept stages.Open done does =
    rw
    (ok_in _ _ does)
    (closes_quietly old [] (with_answers old (with_stage old.entries.answers f.question_id stages.Finished)) (same_closes old _ refl refl refl refl) (λ s. refl))
at_stage old f kept stages.Returned done does =
    let parts = then_out {A = Table (Counted Cap)} {B = Done} (λ exports. exports ≡ (if f.release_result_caps then release_exports old.counts.exports kept.mentions else Ok old.counts.exports)) _ done does in
    let mid : State = with_exports old parts.0 in
    rw
    (ok_in _ _ parts.2)
    (closes_quietly old [] (without_answer mid f.question_id) (closes_both old mid (without_answer mid f.question_id) (exports_closes old parts.0) (answer_goes mid f.question_id)) (λ s. refl))
at_stage old f kept stages.Finished done does = ok_out does

finished_by : (old : State) (f : Finish) (o : Option (Exchange AnswerEntry)) (done : Done) → FinishedBy old f o (Ok done) → DoesQuietly old done
finished_by old f None done does = ok_out does
finished_by old f (Some entry) done does = at_stage old f entry.kept entry.stage done does

pub on_finish : (old : State) (f : Finish) (done : Done) → OnFinish old f (Ok done) → DoesQuietly old done
on_finish old f done does = finished_by old f (get old.entries.answers f.question_id) done does

pub on_abort : (old : State) (x : Exception) (done : Done) → OnAbort old x (Ok done) → DoesQuietly old done
on_abort old x done does = rw (ok_in _ _ does) (closes_quietly old _ (closed old) (same_closes old (closed old) refl refl refl refl) (λ s. refl))

unknown_by : (old : State) (o : Option Message) (done : Done) → UnknownToPeer old o (Ok done) → DoesQuietly old done
unknown_by old (Some (messages.Resolve r)) done does =
    let parts = then_out {A = Table (Counted Cap)} {B = Done} (λ exports. exports ≡ release_exports old.counts.exports (given_back r.resolution)) _ done does in
    rw (ok_in _ _ parts.2) (closes_quietly old [] (with_exports old parts.0) (exports_closes old parts.0) (λ s. refl))
unknown_by old None done does = ok_out does
unknown_by old (Some other) done does = ok_out does

pub on_unimplemented : (old : State) (t : Node) (done : Done) → OnUnimplemented old t (Ok done) → DoesQuietly old done
on_unimplemented old t done does = unknown_by old (told t) done does

-- A Disembargo is echoed, or ends its embargo.
echo_by : (old : State) (n : ℕ) (last : Cap) (done : Done) → Ok done ≡ echo_to old n last → DoesQuietly old done
echo_by old n (caps.Import i) done is = rw (ok_in _ _ is) (closes_quietly old _ old (same_closes old old refl refl refl refl) (λ s. refl))
echo_by old n caps.None done is = ok_out is
echo_by old n (caps.Object k) done is = ok_out is
echo_by old n (caps.Promise p) done is = ok_out is
echo_by old n (caps.Pipelined q path) done is = ok_out is
echo_by old n (caps.Broken x) done is = ok_out is

echoes_export : (old : State) (n : ℕ) (o : Option (Counted Cap)) (done : Done) → EchoesExport old n o (Ok done) → DoesQuietly old done
echoes_export old n None done does = absurd does
echoes_export old n (Some entry) done does = echo_by old n does.0 done does.2

echoes_answer : (old : State) (n : ℕ) (path : List ℕ) (o : Option (Option Outcome)) (done : Done) → EchoesAnswer old n path o (Ok done) → DoesQuietly old done
echoes_answer old n path None done does = absurd does
echoes_answer old n path (Some None) done does = ok_out does
echoes_answer old n path (Some (Some outcome)) done does = echo_by old n does.0 done does.2

echoes : (old : State) (n : ℕ) (target : Target) (done : Done) → EchoesTarget old n target (Ok done) → DoesQuietly old done
echoes old n (targets.ImportedCap e) done does = echoes_export old n (get old.counts.exports e) done does
echoes old n (targets.PromisedAnswer answer) done does = echoes_answer old n (path_of answer.transform) (answer_of old answer.question_id) done does
echoes old n (targets.Unknown m) done does = absurd does

ended_quietly : (old : State) (n : ℕ) (o : Option Cap) (done : Done) → old.waiting.over ≡ none_over → get old.marks.embargoes n ≡ o → Ok done ≡ ended_by old n o → DoesQuietly old done
ended_quietly old n None done none at is = ok_out is
ended_quietly old n (Some cap) done none at is =
    let open_ : get old.waiting.over.embargoes n ≡ None = ap (λ o. get o.embargoes n) none ∙ get-empty {X = Cap} nat_cmp n in
    rw (ok_in _ _ is) (record { passes = embargo_passes old n cap at open_; quiet = λ s. refl; calls = refl })

pub on_disembargo : (old : State) (context : DisembargoContext) (target : Target) (done : Done) → old.waiting.over ≡ none_over → OnDisembargo old context target (Ok done) → DoesQuietly old done
on_disembargo old (contexts.SenderLoopback n) target done none does = echoes old n target done (unless_out (target_faults old target) (EchoesTarget old n target) done does)
on_disembargo old (contexts.ReceiverLoopback n) target done none does = ended_quietly old n (get old.marks.embargoes n) done none refl does
on_disembargo old contexts.Accept target done none does = absurd does
on_disembargo old other target done none does = absurd does

-- what is taken in only grows
taken_passes : (old taken : State) → Grows old taken → Passes old taken
taken_passes old taken grows =
    grows_passes old taken
    (record {
      promises = λ p x is. grows.promises p x is;
      imports = λ i x is. grows.imports i x is;
      answers = λ a x is. ap (λ t. get t a) grows.answers ∙ is;
      questions = λ q x is. ap (λ t. get t q) grows.questions ∙ is;
    })
    (ap (λ w. w.over) grows.waiting) (λ n v is. ap (λ m. get m.embargoes n) grows.marks ∙ is)
    (λ c g there off fits. marks_same old taken c g grows.marks (ap (λ w. w.over.embargoes) grows.waiting) fits) (omega (arith, grows.tickets))

-- A Resolve says what an import came to.
open_import : (kind : ImportKind) (o : Option (Option Cap)) → is_open_promise kind o ≡ true → o ≡ Some None
open_import import_kinds.Promise None e = absurd (true≢false (sym e))
open_import import_kinds.Promise (Some None) e = refl
open_import import_kinds.Promise (Some (Some v)) e = absurd (true≢false (sym e))
open_import import_kinds.Hosted None e = absurd (true≢false (sym e))
open_import import_kinds.Hosted (Some None) e = absurd (true≢false (sym e))
open_import import_kinds.Hosted (Some (Some v)) e = absurd (true≢false (sym e))

releases_quiet : (ids : List ℕ) → NoneLeaves (releases_of ids)
releases_quiet [] s = refl
releases_quiet (i ∷ ids) s = releases_quiet ids s

taken_resolution : (old : State) (r : Resolution) (taken : Cap × State) → Within old None [] → old.waiting.over ≡ none_over → TakeResolution old r (Ok taken)
    → Passes old taken.1 × (taken.1.waiting.calls ≡ old.waiting.calls) × ((i : ℕ) → get old.values.imports i ≡ Some None → get taken.1.values.imports i ≡ Some None)
taken_resolution old (resolutions.Cap d) taken w none does =
    let well = take_keeps None [] old d taken w none does in
    (taken_passes old taken.1 well.1, ap (λ w. w.calls) well.1.waiting, λ i is. well.1.imports i None is)
taken_resolution old (resolutions.Exception x) taken w none does =
    rw (ok_in _ _ does) ((same_closes old old refl refl refl refl).passes, refl, λ i is. is)
taken_resolution old (resolutions.Unknown n) taken w none does = absurd does

not_false : (b : Bool) → not b ≡ false → b ≡ true
not_false true e = refl
not_false false e = absurd (true≢false e)

resolve_by : (old : State) (r : Resolve) (o : Option (Counted ImportKind)) (done : Done) → Within old None [] → old.waiting.over ≡ none_over → ResolveOf old r o (Ok done) → DoesQuietly old done
resolve_by old r None done w none does =
    rw (ok_in _ _ does) (closes_quietly old (releases_of (given_back r.resolution)) old (same_closes old old refl refl refl refl) (releases_quiet (given_back r.resolution)))
resolve_by old r (Some entry) done w none does =
    let F = fault_if (not (is_open_promise entry.kept (get old.values.imports r.promise_id))) faults.NotAnOpenPromise in
    let R = Then (TakeResolution old r.resolution) (λ taken out. out ≡ Ok ([], resolved taken.1 r.promise_id taken.0)) in
    let open_ = open_import entry.kept (get old.values.imports r.promise_id) (not_false _ (not_met (not (is_open_promise entry.kept (get old.values.imports r.promise_id))) faults.NotAnOpenPromise (no_faults {A = Done} F R done does))) in
    let parts = then_out {A = Cap × State} {B = Done} (TakeResolution old r.resolution) _ done (unless_out {A = Done} F R done does) in
    let taken = taken_resolution old r.resolution parts.0 w none parts.1 in
    rw
    (ok_in _ _ parts.2)
    (then_closes old parts.0.1 (resolved parts.0.1 r.promise_id parts.0.0) [] taken.0 taken.1 (import_resolves parts.0.1 r.promise_id parts.0.0 (taken.2 r.promise_id open_)) (λ s. refl))

pub on_resolve : (old : State) (r : Resolve) (done : Done) → Within old None [] → old.waiting.over ≡ none_over → OnResolve old r (Ok done) → DoesQuietly old done
on_resolve old r done w none does = resolve_by old r (get old.counts.imports r.promise_id) done w none does

-- A Bootstrap is answered at once.
pub on_bootstrap : (old : State) (a : ℕ) (done : Done) → Within old None [] → old.waiting.over ≡ none_over → OnBootstrap old a (Ok done) → DoesQuietly old done
on_bootstrap old a done w none does =
    let U = fault_if (is_answering old a) faults.QuestionInUse in
    let R = fault_if (not (has_capacity old.entries.answers)) faults.TableFull in
    let G = GiveAnswer (with_answer old a None) a (bootstrap_outcome old.bootstrap) in
    let unused = not_met (is_answering old a) faults.QuestionInUse (front_empty U R (no_faults {A = Done} (U ++ R) G done does)) in
    let between : State = with_answer old a None in
    let entry : Exchange AnswerEntry = new_exchange (record { ticket = None; is_delivered = false; mentions = []; tied = [] }) in
    let is : get between.entries.answers a ≡ Some entry = put_at old.entries.answers a a entry true (is_itself a) in
    let gives =
    give_done between (origins.Answer a) (bootstrap_outcome old.bootstrap) done (unless_out {A = Done} (U ++ R) G done does)
    (put_at old.values.answers a a None true (is_itself a), ap (λ o. get o.answers a) none ∙ get-empty {X = Outcome} nat_cmp a, rw (is) tt) in
    then_closes old between done.1 done.0
    (grows_passes old between
    (record {
      promises = λ p x is. is;
      imports = λ i x is. is;
      answers = put_grows old.values.answers a None (free_answer old a w unused);
      questions = λ q x is. is;
    })
    refl (λ n v is. is) (λ c g there off fits. marks_same old between c g refl refl fits) (omega arith))
    refl gives.closes gives.quiet
