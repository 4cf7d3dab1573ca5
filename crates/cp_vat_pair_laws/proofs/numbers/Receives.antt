-- What the messages that come change of what a vat counts.
use Rattle.std.specs.Prelude.{◌≡◌, refl, ℕ, ◌+◌, ltb, not, ◌++◌, if◌then◌else◌, Bool, true, false, List, [], ◌∷◌, Option, Some, None, Ok, Err}
use Rattle.std.specs.FinMap.{get, insert}
use Rattle.std.proofs.Common.{sym, true≢false}
use Rattle.cp_tables.specs.Table.{Table}
use Rattle.cp_tables.specs.Counted.{new_counted}
use Rattle.cp_tables.specs.declared.counted.Counted.{Counted}
use Rattle.cp_tables.specs.declared.exchange.Exchange.{Exchange}
use Rattle.cp_tables.specs.declared.exchange.Stage.{Stage}
use Rattle.cp_tables.specs.declared.exchange.Stage.TheVariants as stages
use Rattle.cp_messages.specs.declared.call.Call.{Call}
use Rattle.cp_messages.specs.declared.descriptor.Descriptor.{Descriptor}
use Rattle.cp_messages.specs.declared.descriptor.Descriptor.TheVariants as descriptors
use Rattle.cp_messages.specs.declared.disembargo.DisembargoContext.{DisembargoContext}
use Rattle.cp_messages.specs.declared.disembargo.DisembargoContext.TheVariants as contexts
use Rattle.cp_messages.specs.declared.message.Message.{Message}
use Rattle.cp_messages.specs.declared.message.Message.TheVariants as messages
use Rattle.cp_messages.specs.declared.resolve.Resolution.{Resolution}
use Rattle.cp_messages.specs.declared.resolve.Resolution.TheVariants as resolutions
use Rattle.cp_messages.specs.declared.resolve.Resolve.{Resolve}
use Rattle.cp_messages.specs.declared.returned.Return.{Return}
use Rattle.cp_messages.specs.declared.returned.Returned.{Returned}
use Rattle.cp_messages.specs.declared.returned.Returned.TheVariants as returns
use Rattle.cp_messages.specs.declared.small.Finish.{Finish}
use Rattle.cp_messages.specs.declared.small.Release.{Release}
use Rattle.cp_messages.specs.declared.target.Target.{Target}
use Rattle.cp_messages.specs.declared.target.Target.TheVariants as targets
use Rattle.cp_refs.specs.At.{cap_at}
use Rattle.cp_refs.specs.declared.cap.Cap.{Cap}
use Rattle.cp_refs.specs.declared.cap.Cap.TheVariants as caps
use Rattle.cp_refs.specs.declared.outcome.Outcome.{Outcome}
use Rattle.cp_refs.specs.declared.route.Gate.TheVariants as gates
use Rattle.cp_refs.specs.declared.route.Route.TheVariants as routes
use Rattle.cp_vat_machine.specs.State.{State, Counts, with_exports}
use Rattle.cp_vat_machine.specs.Then.{Done, Then, fault_if}
use Rattle.cp_vat_machine.specs.Capacity.{has_capacity, Fresh, message_fits}
use Rattle.cp_vat_machine.specs.Supported.{is_supported}
use Rattle.cp_vat_machine.specs.Receiving.{answer_of, path_of, held_once_more, held_import, ReceivesAnswer, taken_export, ReceivesCap, ReceivesCaps, release_exports, released}
use Rattle.cp_vat_machine.specs.Give.{GiveAnswer, without_question}
use Rattle.cp_vat_machine.specs.Go.{PendingCall}
use Rattle.cp_vat_machine.specs.Answering.{with_answer, bootstrap_outcome, is_answering, OnBootstrap, target_faults, GoToExport, GoToAnswer, GoToTarget, peer_call, entered, call_faults, OnCall, AtStage, FinishedBy}
use Rattle.cp_vat_machine.specs.Asking.{ReceivesReturned, Settles, ReturnBy, is_asked, ReturnOf}
use Rattle.cp_vat_machine.specs.Resolving.{OnRelease, is_open_promise, TakeResolution, ResolveOf, echo_to, EchoesExport, EchoesAnswer, EchoesTarget, ended_by, OnDisembargo}
use Rattle.cp_vat_machine.specs.Step.{On, ReceivesIf}
use Rattle.cp_vat_machine.specs.declared.entry.AnswerEntry.{AnswerEntry}
use Rattle.cp_vat_machine.specs.declared.entry.ImportKind.{ImportKind}
use Rattle.cp_vat_machine.specs.declared.entry.ImportKind.TheVariants as kinds
use Rattle.cp_vat_machine.specs.declared.entry.QuestionEntry.{QuestionEntry}
use Rattle.cp_vat_machine.specs.declared.fault.PeerFault.{PeerFault}
use Rattle.cp_vat_machine.specs.declared.fault.PeerFault.TheVariants as faults
use Rattle.cp_vat_machine.proofs.Basics.{ok_in, ok_out, then_out, unless_out}
use Rattle.cp_vat_pair_laws.specs.Lives.{IsUsual}
use Rattle.cp_vat_pair_laws.specs.Numbers.{taken_again, taken_first, Changes, unchanged, changed, lowering, RulesChange}
use Rattle.cp_vat_pair_laws.proofs.numbers.Go.{To, answer_to, own_to, go_to, goes_to, leave_to}
use Rattle.cp_vat_pair_laws.proofs.numbers.Does.{does_to}

module _ (start : Counts) where
  -- what is taken in
  held_to : (old : State) (i : ℕ) (kind : ImportKind) (o : Option (Counted ImportKind)) (new : State) → get old.counts.imports i ≡ o → To start old
      → Ok new ≡ held_once_more old i kind o → To start new
  held_to old i kind (Some entry) new there to is = by (ltb entry.count 4294967295) refl is
    where
      by : (b : Bool) → ltb entry.count 4294967295 ≡ b
          → Ok new
          ≡ (if b then Ok (record old { counts = record old.counts { imports = insert old.counts.imports i (record entry { count = entry.count + 1 }) } })
          else Err faults.TableFull)
          → To start new
      by true t is = rw (ok_in _ _ is) (changed to (taken_again i entry there t))
      by false t is = ok_out is
  held_to old i kind None new there to is = by (has_capacity old.counts.imports) is
    where
      by : (b : Bool)
          → Ok new
          ≡ (if b then Ok (
          record old {
            counts = record old.counts { imports = insert old.counts.imports i (new_counted kind) };
            values = record old.values { imports = insert old.values.imports i None };
          }
          ) else Err faults.TableFull)
          → To start new
      by true is = rw (ok_in _ _ is) (changed to (taken_first i kind there))
      by false is = ok_out is

  import_to : (old : State) (i : ℕ) (kind : ImportKind) (taken : Cap × State) → To start old
      → Then (λ held. held ≡ held_import old i kind) (λ new out. out ≡ Ok (caps.Import i, new)) (Ok taken) → To start taken.1
  import_to old i kind taken to is =
      let parts = then_out {A = State} {B = Cap × State} (λ held. held ≡ held_import old i kind) _ taken is in
      rw (ok_in _ _ parts.2) (held_to old i kind (get old.counts.imports i) parts.0 refl to parts.1)

  answered_to : (old : State) (a : ℕ) (path : List ℕ) (o : Option (Option Outcome)) (taken : Cap × State) → To start old → ReceivesAnswer old a path o (Ok taken) → To start taken.1
  answered_to old a path None taken to is = ok_out is
  answered_to old a path (Some (Some outcome)) taken to is = rw (ok_in _ _ is) to
  answered_to old a path (Some None) taken to is =
      let parts = then_out {A = ℕ} {B = Cap × State} (Fresh old.values.promises) _ taken is in
      rw (ok_in _ _ parts.2) to

  exported_to : (old : State) (o : Option (Counted Cap)) (taken : Cap × State) → To start old → Ok taken ≡ taken_export old o → To start taken.1
  exported_to old None taken to is = ok_out is
  exported_to old (Some entry) taken to is = rw (ok_in _ _ is) to

  take_to : (old : State) (d : Descriptor) (taken : Cap × State) → To start old → ReceivesCap old d (Ok taken) → To start taken.1
  take_to old descriptors.None taken to is = rw (ok_in _ _ is) to
  take_to old (descriptors.SenderHosted i) taken to is = import_to old i kinds.Hosted taken to is
  take_to old (descriptors.SenderPromise i) taken to is = import_to old i kinds.Promise taken to is
  take_to old (descriptors.ReceiverHosted e) taken to is = exported_to old (get old.counts.exports e) taken to is
  take_to old (descriptors.ReceiverAnswer answer) taken to is =
      answered_to old answer.question_id (path_of answer.transform) (answer_of old answer.question_id) taken to is
  take_to old (descriptors.ThirdPartyHosted t) taken to is = absurd is
  take_to old (descriptors.Unknown n) taken to is = absurd is

  take_all_to : (table : List Descriptor) (old : State) (taken : List Cap × State) → To start old → ReceivesCaps old table (Ok taken) → To start taken.1
  take_all_to [] old taken to is = rw (ok_in _ _ is) to
  take_all_to (d ∷ table) old taken to is =
      let first = then_out {A = Cap × State} {B = List Cap × State} (ReceivesCap old d) _ taken is in
      let rest = then_out {A = List Cap × State} {B = List Cap × State} (ReceivesCaps first.0.1 table) _ taken first.2 in
      rw (ok_in _ _ rest.2) (take_all_to table first.0.1 rest.0 (take_to old d first.0 to first.1) rest.1)

  -- a Call and a Bootstrap that come
  target_to : (s : State) (call : PendingCall) (target : Target) (done : Done) → To start s → GoToTarget s call target (Ok done) → To start done.1
  target_to s call (targets.ImportedCap e) done to goes = at_export (get s.counts.exports e) goes
    where
      at_export : (o : Option (Counted Cap)) → GoToExport s call o (Ok done) → To start done.1
      at_export None goes = absurd goes
      at_export (Some entry) goes = goes_to start s call entry.kept done to goes
  target_to s call (targets.PromisedAnswer answer) done to goes = at_answer (answer_of s answer.question_id) goes
    where
      at_answer : (o : Option (Option Outcome)) → GoToAnswer s call answer.question_id (path_of answer.transform) o (Ok done) → To start done.1
      at_answer None goes = absurd goes
      at_answer (Some None) goes = go_to start s call (routes.Wait (gates.Answer answer.question_id (path_of answer.transform))) done to goes
      at_answer (Some (Some outcome)) goes = goes_to start s call (cap_at outcome (path_of answer.transform)) done to goes
  target_to s call (targets.Unknown n) done to goes = absurd goes

  come_to : (old : State) (c : Call) (done : Done) → To start old → OnCall old c (Ok done) → To start done.1
  come_to old c done to does =
      let rule = unless_out {A = Done} {F = PeerFault} (call_faults old c) _ done does in
      let taken = then_out {A = List Cap × State} {B = Done} (ReceivesCaps old c.params.cap_table) _ done rule in
      target_to (entered taken.0.1 c.question_id) (peer_call taken.0.1 c taken.0.0) c.target done (take_all_to c.params.cap_table old taken.0 to taken.1) taken.2

  bootstrap_to : (old : State) (a : ℕ) (done : Done) → To start old → OnBootstrap old a (Ok done) → To start done.1
  bootstrap_to old a done to does =
      answer_to start (with_answer old a None) a (bootstrap_outcome old.bootstrap) done to
      (unless_out {A = Done} {F = PeerFault} (fault_if (is_answering old a) faults.QuestionInUse ++ fault_if (not (has_capacity old.entries.answers)) faults.TableFull)
      (GiveAnswer (with_answer old a None) a (bootstrap_outcome old.bootstrap)) done does)

  -- a Return that comes, which lowers nothing
  returned_to : (old : State) (returned : Returned) (taken : Outcome × State) → To start old → ReceivesReturned old returned (Ok taken) → To start taken.1
  returned_to old (returns.Results p) taken to is =
      let parts = then_out {A = List Cap × State} {B = Outcome × State} (ReceivesCaps old p.cap_table) _ taken is in
      rw (ok_in _ _ parts.2) (take_all_to p.cap_table old parts.0 to parts.1)
  returned_to old (returns.Exception x) taken to is = rw (ok_in _ _ is) to
  returned_to old returns.Canceled taken to is = rw (ok_in _ _ is) to
  returned_to old returns.ResultsSentElsewhere taken to is = absurd is
  returned_to old (returns.TakeFromOtherQuestion q) taken to is = absurd is
  returned_to old (returns.AcceptFromThirdParty t) taken to is = absurd is
  returned_to old (returns.Unknown n) taken to is = absurd is

  settles_to : (old : State) (q : ℕ) (forwards : Option ℕ) (outcome : Outcome) (done : Done) → To start old → Settles old q forwards outcome (Ok done) → To start done.1
  settles_to old q None outcome done to does = own_to start old q outcome does.0.stage done to does.2
  settles_to old q (Some a) outcome done to does =
      let parts = then_out {A = Done} {B = Done} (GiveAnswer (without_question old q) a outcome) _ done does in
      rw (ok_in _ _ parts.2) (answer_to start (without_question old q) a outcome parts.0 to parts.1)

  return_by : (old : State) (r : Return) (kept : QuestionEntry) (stage : Stage) (done : Done) → To start old → ReturnBy old r kept stage (Ok done) → To start done.1
  return_by old r kept stages.Open done to does =
      let taken = then_out {A = Outcome × State} {B = Done} (ReceivesReturned old r.returned) _ done does in
      settles_to taken.0.1 r.answer_id kept.forwards taken.0.0 done (returned_to old r.returned taken.0 to taken.1) taken.2
  return_by old r kept stages.Finished done to does = rw (ok_in _ _ does) to
  return_by old r kept stages.Returned done to does = absurd does

  unlowered : (b : Bool) (old : State) (ids : List ℕ) (exports : Table (Counted Cap)) → b ≡ false → Ok exports ≡ (if b then release_exports old.counts.exports ids else Ok old.counts.exports)
      → To start old → To start (with_exports old exports)
  unlowered true old ids exports none is to = absurd (true≢false none)
  unlowered false old ids exports none is to = rw (ok_in _ _ is) to

  return_of : (old : State) (r : Return) (o : Option (Exchange QuestionEntry)) (done : Done) → r.release_param_caps ≡ false → To start old → ReturnOf old r o (Ok done)
      → To start done.1
  return_of old r None done none to does = ok_out does
  return_of old r (Some entry) done none to does =
      let rule = unless_out {A = Done} {F = PeerFault} (fault_if (not (is_asked entry.kept.is_sent entry.stage)) faults.UnknownQuestion) _ done does in
      let lowers = then_out {A = Table (Counted Cap)} {B = Done} _ _ done rule in
      return_by (with_exports old lowers.0) r entry.kept entry.stage done (unlowered r.release_param_caps old entry.kept.mentions lowers.0 none lowers.1 to) lowers.2

  -- a Resolve and a Disembargo that come
  resolution_to : (old : State) (resolution : Resolution) (taken : Cap × State) → To start old → TakeResolution old resolution (Ok taken) → To start taken.1
  resolution_to old (resolutions.Cap d) taken to is = take_to old d taken to is
  resolution_to old (resolutions.Exception x) taken to is = rw (ok_in _ _ is) to
  resolution_to old (resolutions.Unknown n) taken to is = absurd is

  resolve_to : (old : State) (r : Resolve) (o : Option (Counted ImportKind)) (done : Done) → To start old → ResolveOf old r o (Ok done) → To start done.1
  resolve_to old r None done to does = rw (ok_in _ _ does) to
  resolve_to old r (Some entry) done to does =
      let rule = unless_out {A = Done} {F = PeerFault}
      (fault_if (not (is_open_promise entry.kept (get old.values.imports r.promise_id))) faults.NotAnOpenPromise) _ done does in
      let parts = then_out {A = Cap × State} {B = Done} (TakeResolution old r.resolution) _ done rule in
      rw (ok_in _ _ parts.2) (resolution_to old r.resolution parts.0 to parts.1)

  echo_by : (old : State) (n : ℕ) (last : Cap) (done : Done) → To start old → Ok done ≡ echo_to old n last → To start done.1
  echo_by old n (caps.Import i) done to is = rw (ok_in _ _ is) to
  echo_by old n caps.None done to is = ok_out is
  echo_by old n (caps.Object k) done to is = ok_out is
  echo_by old n (caps.Promise p) done to is = ok_out is
  echo_by old n (caps.Pipelined q path) done to is = ok_out is
  echo_by old n (caps.Broken x) done to is = ok_out is

  echoes_by : (old : State) (n : ℕ) (target : Target) (done : Done) → To start old → EchoesTarget old n target (Ok done) → To start done.1
  echoes_by old n (targets.ImportedCap e) done to does = at_export (get old.counts.exports e) does
    where
      at_export : (o : Option (Counted Cap)) → EchoesExport old n o (Ok done) → To start done.1
      at_export None does = absurd does
      at_export (Some entry) does = echo_by old n does.0 done to does.2
  echoes_by old n (targets.PromisedAnswer answer) done to does = at_answer (answer_of old answer.question_id) does
    where
      at_answer : (o : Option (Option Outcome)) → EchoesAnswer old n (path_of answer.transform) o (Ok done) → To start done.1
      at_answer None does = absurd does
      at_answer (Some None) does = ok_out does
      at_answer (Some (Some outcome)) does = echo_by old n does.0 done to does.2
  echoes_by old n (targets.Unknown m) done to does = absurd does

  ends_by : (old : State) (n : ℕ) (o : Option Cap) (done : Done) → To start old → Ok done ≡ ended_by old n o → To start done.1
  ends_by old n None done to is = ok_out is
  ends_by old n (Some cap) done to is = rw (ok_in _ _ is) to

  disembargo_to : (old : State) (context : DisembargoContext) (target : Target) (done : Done) → To start old → OnDisembargo old context target (Ok done) → To start done.1
  disembargo_to old (contexts.SenderLoopback n) target done to does =
      echoes_by old n target done to (unless_out {A = Done} {F = PeerFault} (target_faults old target) _ done does)
  disembargo_to old (contexts.ReceiverLoopback n) target done to does = ends_by old n (get old.marks.embargoes n) done to does
  disembargo_to old contexts.Accept target done to does = absurd does
  disembargo_to old (contexts.Provide q) target done to does = absurd does
  disembargo_to old (contexts.Unknown n) target done to does = absurd does

-- what a message lowers, and then changes
abbrev Lowers : State → Message → State → Type 0
Lowers old m new = (exports : Table (Counted Cap)) × (lowering old m ≡ Ok exports) × Changes (record old.counts { exports = exports }) new.counts

release_lowers : (old : State) (r : Release) (done : Done) → OnRelease old r (Ok done) → Lowers old (messages.Release r) done.1
release_lowers old r done does =
    let parts = then_out {A = Table (Counted Cap)} {B = Done} (λ exports. exports ≡ released old.counts.exports r.id r.reference_count) _ done does in
    rw (ok_in _ _ parts.2) (parts.0, sym parts.1, unchanged)

-- the results of an answer that was given
finish_at : (old : State) (f : Finish) (kept : AnswerEntry) (stage : Stage) (done : Done) → get old.entries.answers f.question_id ≡ Some (record { stage = stage; kept = kept })
    → AtStage old f kept stage (Ok done) → Lowers old (messages.Finish f) done.1
finish_at old f kept stages.Open done is does = rw (ok_in _ _ does, is) (old.counts.exports, by f.release_result_caps, unchanged)
  where
    by : (b : Bool) → (if b then release_exports old.counts.exports [] else Ok old.counts.exports) ≡ Ok old.counts.exports
    by true = refl
    by false = refl
finish_at old f kept stages.Returned done is does =
    let parts = then_out {A = Table (Counted Cap)} {B = Done}
    (λ exports. exports ≡ (if f.release_result_caps then release_exports old.counts.exports kept.mentions else Ok old.counts.exports)) _ done does in
    rw (ok_in _ _ parts.2, is) (parts.0, sym parts.1, unchanged)
finish_at old f kept stages.Finished done is does = ok_out does

finish_lowers : (old : State) (f : Finish) (o : Option (Exchange AnswerEntry)) (done : Done) → get old.entries.answers f.question_id ≡ o → FinishedBy old f o (Ok done)
    → Lowers old (messages.Finish f) done.1
finish_lowers old f None done is does = ok_out does
finish_lowers old f (Some entry) done is does = finish_at old f entry.kept entry.stage done is does

on_lowers : (old : State) (m : Message) (done : Done) → IsUsual m → On old m (Ok done) → Lowers old m done.1
on_lowers old (messages.Unimplemented t) done usual does = absurd usual.1
on_lowers old (messages.Abort x) done usual does = absurd usual.1
on_lowers old (messages.Call c) done usual does = (old.counts.exports, refl, come_to old.counts old c done unchanged does)
on_lowers old (messages.Return r) done usual does =
    (old.counts.exports, refl, return_of old.counts old r (get old.entries.questions r.answer_id) done usual.1.0 unchanged does)
on_lowers old (messages.Finish f) done usual does = finish_lowers old f (get old.entries.answers f.question_id) done refl does
on_lowers old (messages.Resolve r) done usual does = (old.counts.exports, refl, resolve_to old.counts old r (get old.counts.imports r.promise_id) done unchanged does)
on_lowers old (messages.Release r) done usual does = release_lowers old r done does
on_lowers old (messages.Bootstrap b) done usual does = (old.counts.exports, refl, bootstrap_to old.counts old b.question_id done unchanged does)
on_lowers old (messages.Disembargo d) done usual does = (old.counts.exports, refl, disembargo_to old.counts old d.context d.target done unchanged does)
on_lowers old (messages.Other which body) done usual does = absurd does

receives_lowers : (b : Bool) (old : State) (m : Message) (done : Done) → b ≡ true → IsUsual m → ReceivesIf b old m (Ok done) → Lowers old m done.1
receives_lowers true old m done is usual does =
    on_lowers old m done usual (unless_out {A = Done} {F = PeerFault} (fault_if (not (message_fits m)) faults.PayloadTooLarge) (On old m) done does)
receives_lowers false old m done is usual does = absurd (true≢false (sym is))

pub rules_change : RulesChange
rules_change =
    record {
      does = λ old event done does. does_to old.counts old event done unchanged does;
      receives = λ old m done usual does. receives_lowers (is_supported m) old m done usual.0 usual does;
      leaves = λ old last all leave. leave_to old.counts unchanged leave;
    }
