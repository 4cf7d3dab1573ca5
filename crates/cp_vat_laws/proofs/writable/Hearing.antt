-- What a vat sends when a message comes, and what it keeps then.
use Rattle.std.proofs.Common.{◌≡◌, ℕ, suc, ◌+◌, ◌-◌, leb, ltb, ◌==◌, not, ◌&&◌, cond, Bool, true, false, is_none, List, [], ◌∷◌, ◌++◌, length, Option, Some, None, IfSome, Ok, Err, refl, sym, ap, ◌∙◌, subst}
use Rattle.std.specs.List.{list_all, list_any}
use Rattle.std.specs.FinMap.{get, insert, remove}
use Rattle.cp_tree.specs.Node.{Node}
use Rattle.cp_tables.specs.Table.{Table}
use Rattle.cp_tables.specs.Counted.{new_counted, count_of}
use Rattle.cp_tables.specs.declared.counted.Counted.{Counted}
use Rattle.cp_tables.specs.declared.exchange.Exchange.{Exchange}
use Rattle.cp_tables.specs.declared.exchange.Stage.{Stage}
use Rattle.cp_tables.specs.declared.exchange.Stage.TheVariants as stages
use Rattle.cp_tables.proofs.TableLemmas.{every-insert, every-remove}
use Rattle.cp_messages.specs.Written.{message_written}
use Rattle.cp_messages.specs.declared.call.Call.{Call}
use Rattle.cp_messages.specs.declared.descriptor.Descriptor.{Descriptor}
use Rattle.cp_messages.specs.declared.descriptor.Descriptor.TheVariants as descriptors
use Rattle.cp_messages.specs.declared.disembargo.DisembargoContext.{DisembargoContext}
use Rattle.cp_messages.specs.declared.disembargo.DisembargoContext.TheVariants as contexts
use Rattle.cp_messages.specs.declared.message.Message.{Message}
use Rattle.cp_messages.specs.declared.message.Message.TheVariants as messages
use Rattle.cp_messages.specs.declared.resolve.Resolution.{Resolution}
use Rattle.cp_messages.specs.declared.resolve.Resolution.TheVariants as resolutions
use Rattle.cp_messages.specs.declared.resolve.Resolve.{Resolve}
use Rattle.cp_messages.specs.declared.returned.Return.{Return}
use Rattle.cp_messages.specs.declared.returned.Returned.{Returned}
use Rattle.cp_messages.specs.declared.returned.Returned.TheVariants as returns
use Rattle.cp_messages.specs.declared.small.Finish.{Finish}
use Rattle.cp_messages.specs.declared.small.Release.{Release}
use Rattle.cp_messages.specs.declared.target.Target.{Target}
use Rattle.cp_messages.specs.declared.target.Target.TheVariants as targets
use Rattle.cp_refs.specs.At.{cap_at}
use Rattle.cp_refs.specs.declared.cap.Cap.{Cap}
use Rattle.cp_refs.specs.declared.cap.Cap.TheVariants as caps
use Rattle.cp_refs.specs.declared.outcome.Outcome.{Outcome}
use Rattle.cp_refs.specs.declared.route.Gate.TheVariants as gates
use Rattle.cp_refs.specs.declared.route.Route.TheVariants as routes
use Rattle.cp_vat_machine.specs.State.{State, with_exports}
use Rattle.cp_vat_machine.specs.Then.{Done, Then, fault_if}
use Rattle.cp_vat_machine.specs.Capacity.{has_capacity, Fresh, cap_fits, caps_fit, content_fits, message_fits, payload_fits, resolution_fits, returned_fits}
use Rattle.cp_vat_machine.specs.Receiving.{answer_by, answer_of, path_of, unfinished, held_once_more, held_import, less_by, lowered_by, lowered, release_exports, released, times, ReceivesAnswer, taken_export, ReceivesCap, ReceivesCaps}
use Rattle.cp_vat_machine.specs.Give.{GiveAnswer, without_question}
use Rattle.cp_vat_machine.specs.Go.{PendingCall}
use Rattle.cp_vat_machine.specs.Answering.{with_answer, bootstrap_outcome, is_answering, OnBootstrap, target_faults, GoToExport, GoToAnswer, GoToTarget, peer_call, entered, call_faults, OnCall, AtStage, FinishedBy}
use Rattle.cp_vat_machine.specs.Asking.{ReceivesReturned, Settles, ReturnBy, is_asked, ReturnOf}
use Rattle.cp_vat_machine.specs.Resolving.{OnRelease, is_open_promise, TakeResolution, ResolveOf, given_back, releases_of, echo_to, EchoesExport, EchoesAnswer, EchoesTarget, ended_by, OnDisembargo, UnknownToPeer, told}
use Rattle.cp_vat_machine.specs.Step.{On, ReceivesIf, echo_fits, echoed}
use Rattle.cp_vat_machine.specs.declared.effect.Effect.TheVariants as effects
use Rattle.cp_vat_machine.specs.declared.entry.AnswerEntry.{AnswerEntry}
use Rattle.cp_vat_machine.specs.declared.entry.ImportKind.{ImportKind}
use Rattle.cp_vat_machine.specs.declared.entry.ImportKind.TheVariants as kinds
use Rattle.cp_vat_machine.specs.declared.entry.QuestionEntry.{QuestionEntry}
use Rattle.cp_vat_machine.specs.declared.fault.PeerFault.{PeerFault}
use Rattle.cp_vat_machine.specs.declared.fault.PeerFault.TheVariants as faults
use Rattle.cp_vat_laws.specs.Sizes.{AllOf, CapFits, Fits, OutcomeFits, RequestFits, ValuesFit}
use Rattle.cp_vat_laws.proofs.writable.Apart.{ok_in, ok_out, then_out, unless_out}
use Rattle.cp_vat_laws.proofs.writable.Caps.{all_both, at_fits, both}
use Rattle.cp_vat_laws.proofs.writable.Keeping.{AreSent, Good, answer_fits, answer_gone, answer_put, exports_fit, go_fits, goes_fit, own_fits, promise_put, question_gone}

-- ---- exports that are lowered
abbrev AllExported : Table (Counted Cap) → Type 0
AllExported exports = AllOf (λ entry. CapFits entry.kept) exports

less_fits : (exports : Table (Counted Cap)) (e n : ℕ) (o : Option (Counted Cap)) → AllExported exports → IfSome o (λ entry. CapFits entry.kept) → AllExported (less_by exports e n o)
less_fits exports e n None all h = all
less_fits exports e n (Some entry) all h = by (entry.count == n)
  where
    by : (b : Bool) → AllExported (cond b (remove exports e) (insert exports e (record entry { count = entry.count - n })))
    by true = every-remove (λ entry. CapFits entry.kept) exports e all
    by false = every-insert (λ entry. CapFits entry.kept) exports e _ all h

lowered_fits : (ids : List ℕ) (exports : Table (Counted Cap)) → AllExported exports → AllExported (lowered exports ids)
lowered_fits [] exports all = all
lowered_fits (e ∷ ids) exports all = lowered_fits ids (lowered_by exports e 1) (less_fits exports e 1 (get exports e) all (all e))

lower_by : (a b : Bool) (x new : Table (Counted Cap)) → Ok new ≡ cond a (Err faults.UnknownExport) (cond b (Err faults.ReleaseTooLarge) (Ok x)) → new ≡ x
lower_by true b x new is = ok_out is
lower_by false true x new is = ok_out is
lower_by false false x new is = ok_in _ _ is

lower_fits : (exports new : Table (Counted Cap)) (ids : List ℕ) → AllExported exports → Ok new ≡ release_exports exports ids → AllExported new
lower_fits exports new ids all is =
    subst AllExported (sym (lower_by (list_any (λ e. is_none (get exports e)) ids) (list_any (λ e. ltb (count_of exports e) (times e ids)) ids) (lowered exports ids) new is)) (lowered_fits ids exports all)

released_fits : (exports new : Table (Counted Cap)) (e n : ℕ) → AllExported exports → Ok new ≡ released exports e n → AllExported new
released_fits exports new e n all is =
    subst AllExported (sym (lower_by (is_none (get exports e)) (ltb (count_of exports e) n) (lowered_by exports e n) new is)) (less_fits exports e n (get exports e) all (all e))

lower_if_fits : (b : Bool) (exports new : Table (Counted Cap)) (ids : List ℕ) → AllExported exports → Ok new ≡ cond b (release_exports exports ids) (Ok exports) → AllExported new
lower_if_fits true exports new ids all is = lower_fits exports new ids all is
lower_if_fits false exports new ids all is = subst AllExported (sym (ok_in _ _ is)) all

-- what was checked
not_held : {F : Type 0} (b : Bool) (fault : F) → fault_if (not b) fault ≡ [] → b ≡ true
not_held true fault is = refl
not_held false fault is = absurd (cc)

module _ (s : State) (f : Fits s) where
  import_put : (i : ℕ) (o : Option Cap) → IfSome o CapFits → ValuesFit (record s.values { imports = insert s.values.imports i o })
  import_put i o h =
      record {
        promises = f.values_fit.promises;
        imports = every-insert (λ value. IfSome value CapFits) s.values.imports i o f.values_fit.imports h;
        answers = f.values_fit.answers;
        questions = f.values_fit.questions;
      }

  -- ---- what is taken in
  held_fits : (i : ℕ) (kind : ImportKind) (o : Option (Counted ImportKind)) (new : State) → Ok new ≡ held_once_more s i kind o → Fits new
  held_fits i kind (Some entry) new is = by (ltb entry.count 4294967295) is
    where
      by : (b : Bool) → Ok new ≡ cond b (Ok (record s { counts = record s.counts { imports = insert s.counts.imports i (record entry { count = entry.count + 1 }) } })) (Err faults.TableFull) → Fits new
      by true is = rw (ok_in _ _ is) f
      by false is = ok_out is
  held_fits i kind None new is = by (has_capacity s.counts.imports) is
    where
      by : (b : Bool)
          → Ok new
          ≡ cond b (Ok (record s { counts = record s.counts { imports = insert s.counts.imports i (new_counted kind) }; values = record s.values { imports = insert s.values.imports i None } })) (Err faults.TableFull)
          → Fits new
      by true is = rw (ok_in _ _ is) (record { values_fit = import_put i None tt; exports_fit = f.exports_fit; calls_fit = f.calls_fit; over_fits = f.over_fits; embargoes_fit = f.embargoes_fit })
      by false is = ok_out is

  import_fits : (i : ℕ) (kind : ImportKind) (taken : Cap × State) → Then (λ held. held ≡ held_import s i kind) (λ new out. out ≡ Ok (caps.Import i, new)) (Ok taken) → CapFits taken.0 × Fits taken.1
  import_fits i kind taken is =
      let parts = then_out {A = State} {B = Cap × State} (λ held. held ≡ held_import s i kind) _ taken is in
      rw (ok_in _ _ parts.2) (refl, held_fits i kind (get s.counts.imports i) parts.0 parts.1)

  unfinished_fits : (stage : Stage) (o : Option (Option Outcome)) → IfSome o (λ outcome. IfSome outcome OutcomeFits) → IfSome (unfinished stage o) (λ outcome. IfSome outcome OutcomeFits)
  unfinished_fits stages.Open o h = h
  unfinished_fits stages.Finished o h = tt
  unfinished_fits stages.Returned o h = h

  kept_answer : (entry : Option (Exchange AnswerEntry)) (o : Option (Option Outcome)) → IfSome o (λ outcome. IfSome outcome OutcomeFits) → IfSome (answer_by entry o) (λ outcome. IfSome outcome OutcomeFits)
  kept_answer None o h = tt
  kept_answer (Some entry) o h = unfinished_fits entry.stage o h

  answer_kept : (a : ℕ) → IfSome (answer_of s a) (λ outcome. IfSome outcome OutcomeFits)
  answer_kept a = kept_answer (get s.entries.answers a) (get s.values.answers a) (f.values_fit.answers a)

  answered_fits : (a : ℕ) (path : List ℕ) (o : Option (Option Outcome)) (taken : Cap × State) → IfSome o (λ outcome. IfSome outcome OutcomeFits) → ReceivesAnswer s a path o (Ok taken) → CapFits taken.0 × Fits taken.1
  answered_fits a path None taken h is = ok_out is
  answered_fits a path (Some (Some outcome)) taken h is = rw (ok_in _ _ is) (at_fits outcome path h, f)
  answered_fits a path (Some None) taken h is =
      let parts = then_out {A = ℕ} {B = Cap × State} (Fresh s.values.promises) _ taken is in
      rw (ok_in _ _ parts.2) (refl, record { values_fit = promise_put s f parts.0 None tt; exports_fit = f.exports_fit; calls_fit = f.calls_fit; over_fits = f.over_fits; embargoes_fit = f.embargoes_fit })

  exported_fits : (o : Option (Counted Cap)) (taken : Cap × State) → IfSome o (λ entry. CapFits entry.kept) → Ok taken ≡ taken_export s o → CapFits taken.0 × Fits taken.1
  exported_fits None taken h is = ok_out is
  exported_fits (Some entry) taken h is = rw (ok_in _ _ is) (h, f)

  take_fits : (d : Descriptor) (taken : Cap × State) → ReceivesCap s d (Ok taken) → CapFits taken.0 × Fits taken.1
  take_fits descriptors.None taken is = rw (ok_in _ _ is) (refl, f)
  take_fits (descriptors.SenderHosted i) taken is = import_fits i kinds.Hosted taken is
  take_fits (descriptors.SenderPromise i) taken is = import_fits i kinds.Promise taken is
  take_fits (descriptors.ReceiverHosted e) taken is = exported_fits (get s.counts.exports e) taken (f.exports_fit e) is
  take_fits (descriptors.ReceiverAnswer answer) taken is =
      answered_fits answer.question_id (path_of answer.transform) (answer_of s answer.question_id) taken (answer_kept answer.question_id) is
  take_fits (descriptors.ThirdPartyHosted t) taken is = absurd is
  take_fits (descriptors.Unknown n) taken is = absurd is

take_all_fits : (table : List Descriptor) (s : State) (f : Fits s) (taken : List Cap × State) → ReceivesCaps s table (Ok taken) → (list_all cap_fits taken.0 ≡ true) × (length taken.0 ≡ length table) × Fits taken.1
take_all_fits [] s f taken is = rw (ok_in _ _ is) (refl, refl, f)
take_all_fits (d ∷ table) s f taken is =
    let first = then_out {A = Cap × State} {B = List Cap × State} (ReceivesCap s d) _ taken is in
    let rest = then_out {A = List Cap × State} {B = List Cap × State} (ReceivesCaps first.0.1 table) _ taken first.2 in
    let one = take_fits s f d first.0 first.1 in
    let more = take_all_fits table first.0.1 one.1 rest.0 rest.1 in
    rw (ok_in _ _ rest.2) (all_both _ _ one.0 more.0, ap suc more.1, more.2)

-- a table of capabilities that was taken in from a table that fits
caps_taken : (table : List Cap) (length_of : ℕ) → list_all cap_fits table ≡ true → length table ≡ length_of → leb length_of 1024 ≡ true → caps_fit table ≡ true
caps_taken table n all same few = all_both _ _ (ap (λ m. leb m 1024) same ∙ few) all

module _ (s : State) (f : Fits s) where
  -- ---- a Call and a Bootstrap that come
  target_goes : (call : PendingCall) (target : Target) (done : Done) → RequestFits call.request → GoToTarget s call target (Ok done) → Good done
  target_goes call (targets.ImportedCap e) done h goes = at_export (get s.counts.exports e) (f.exports_fit e) goes
    where
      at_export : (o : Option (Counted Cap)) → IfSome o (λ entry. CapFits entry.kept) → GoToExport s call o (Ok done) → Good done
      at_export None kept goes = absurd goes
      at_export (Some entry) kept goes = goes_fit s f call entry.kept done h kept goes
  target_goes call (targets.PromisedAnswer answer) done h goes = at_answer (answer_of s answer.question_id) (answer_kept s f answer.question_id) goes
    where
      at_answer : (o : Option (Option Outcome)) → IfSome o (λ outcome. IfSome outcome OutcomeFits) → GoToAnswer s call answer.question_id (path_of answer.transform) o (Ok done) → Good done
      at_answer None kept goes = absurd goes
      at_answer (Some None) kept goes = go_fits s f call (routes.Wait (gates.Answer answer.question_id (path_of answer.transform))) done h tt goes
      at_answer (Some (Some outcome)) kept goes = goes_fit s f call (cap_at outcome (path_of answer.transform)) done h (at_fits outcome (path_of answer.transform) kept) goes
  target_goes call (targets.Unknown n) done h goes = absurd goes

  with_answer_fits : (a : ℕ) (ticket : Option ℕ) → Fits (with_answer s a ticket)
  with_answer_fits a ticket = record { values_fit = answer_put s f a None tt; exports_fit = f.exports_fit; calls_fit = f.calls_fit; over_fits = f.over_fits; embargoes_fit = f.embargoes_fit }

call_comes : (s : State) (f : Fits s) (c : Call) (done : Done) → payload_fits c.params ≡ true → OnCall s c (Ok done) → Good done
call_comes s f c done h does =
    let rule = unless_out {A = Done} {F = PeerFault} (call_faults s c) _ done does in
    let taken = then_out {A = List Cap × State} {B = Done} (ReceivesCaps s c.params.cap_table) _ done rule.1 in
    let fits = take_all_fits c.params.cap_table s f taken.0 taken.1 in
    let sizes = payload_sizes c.params.content c.params.cap_table _ h in
    target_goes (entered taken.0.1 c.question_id) (with_answer_fits taken.0.1 fits.2 c.question_id (Some taken.0.1.next_ticket)) (peer_call taken.0.1 c taken.0.0) c.target done
    (all_both _ _ sizes.0 (caps_taken taken.0.0 _ fits.0 fits.1 sizes.1)) taken.2
  where
    payload_sizes : (content : Node) (table : List Descriptor) (b : Bool) → (content_fits content && leb (length table) 1024 && b) ≡ true → (content_fits content ≡ true) × (leb (length table) 1024 ≡ true)
    payload_sizes content table b h = both _ _ (both _ _ h).0

bootstrap_comes : (s : State) (f : Fits s) (a : ℕ) (done : Done) → OnBootstrap s a (Ok done) → Good done
bootstrap_comes s f a done does =
    answer_fits (with_answer s a None) (with_answer_fits s f a None) a (bootstrap_outcome s.bootstrap) done (outcome_of s.bootstrap)
    (unless_out {A = Done} {F = PeerFault} (fault_if (is_answering s a) faults.QuestionInUse ++ fault_if (not (has_capacity s.entries.answers)) faults.TableFull)
    (GiveAnswer (with_answer s a None) a (bootstrap_outcome s.bootstrap)) done does).1
  where
    outcome_of : (o : Option ℕ) → OutcomeFits (bootstrap_outcome o)
    outcome_of (Some k) = refl
    outcome_of None = refl

module _ (s : State) (f : Fits s) where
  -- ---- a Return that comes
  returned_taken : (returned : Returned) (taken : Outcome × State) → returned_fits returned ≡ true → ReceivesReturned s returned (Ok taken) → OutcomeFits taken.0 × Fits taken.1
  returned_taken (returns.Results p) taken h is =
      let parts = then_out {A = List Cap × State} {B = Outcome × State} (ReceivesCaps s p.cap_table) _ taken is in
      let fits = take_all_fits p.cap_table s f parts.0 parts.1 in
      let sizes = both (content_fits p.content) (leb (length p.cap_table) 1024) (both _ _ h).0 in
      rw (ok_in _ _ parts.2) (all_both _ _ sizes.0 (caps_taken parts.0.0 _ fits.0 fits.1 sizes.1), fits.2)
  returned_taken (returns.Exception x) taken h is = rw (ok_in _ _ is) (h, f)
  returned_taken returns.Canceled taken h is = rw (ok_in _ _ is) (refl, f)
  returned_taken returns.ResultsSentElsewhere taken h is = absurd is
  returned_taken (returns.TakeFromOtherQuestion q) taken h is = absurd is
  returned_taken (returns.AcceptFromThirdParty t) taken h is = absurd is
  returned_taken (returns.Unknown n) taken h is = absurd is

  without_question_fits : (q : ℕ) → Fits (without_question s q)
  without_question_fits q = record { values_fit = question_gone s f q; exports_fit = f.exports_fit; calls_fit = f.calls_fit; over_fits = f.over_fits; embargoes_fit = f.embargoes_fit }

settles_fits : (s : State) (f : Fits s) (q : ℕ) (forwards : Option ℕ) (outcome : Outcome) (done : Done) → OutcomeFits outcome → Settles s q forwards outcome (Ok done) → Good done
settles_fits s f q None outcome done h does = own_fits s f q outcome does.0.stage done h does.2
settles_fits s f q (Some a) outcome done h does =
    let parts = then_out {A = Done} {B = Done} (GiveAnswer (without_question s q) a outcome) _ done does in
    let given = answer_fits (without_question s q) (without_question_fits s f q) a outcome parts.0 h parts.1 in
    rw (ok_in _ _ parts.2) ((tt, given.0), given.1)

return_by : (s : State) (f : Fits s) (r : Return) (kept : QuestionEntry) (stage : Stage) (done : Done) → returned_fits r.returned ≡ true → ReturnBy s r kept stage (Ok done) → Good done
return_by s f r kept stages.Open done h does =
    let taken = then_out {A = Outcome × State} {B = Done} (ReceivesReturned s r.returned) _ done does in
    let fits = returned_taken s f r.returned taken.0 h taken.1 in
    settles_fits taken.0.1 fits.1 r.answer_id kept.forwards taken.0.0 done fits.0 taken.2
return_by s f r kept stages.Finished done h does = rw (ok_in _ _ does) (tt, without_question_fits s f r.answer_id)
return_by s f r kept stages.Returned done h does = absurd does

module _ (s : State) (f : Fits s) where
  return_of : (r : Return) (o : Option (Exchange QuestionEntry)) (done : Done) → returned_fits r.returned ≡ true → ReturnOf s r o (Ok done) → Good done
  return_of r None done h does = ok_out does
  return_of r (Some entry) done h does =
      let rule = unless_out {A = Done} {F = PeerFault} (fault_if (not (is_asked entry.kept.is_sent entry.stage)) faults.UnknownQuestion) _ done does in
      let lowers = then_out {A = Table (Counted Cap)} {B = Done} _ _ done rule.1 in
      return_by (with_exports s lowers.0) (exports_fit s f lowers.0 (lower_if_fits r.release_param_caps s.counts.exports lowers.0 entry.kept.mentions f.exports_fit lowers.1)) r entry.kept entry.stage done h lowers.2

  -- ---- a Finish, a Release, a Resolve and a Disembargo that come
  finish_at : (fin : Finish) (kept : AnswerEntry) (stage : Stage) (done : Done) → AtStage s fin kept stage (Ok done) → Good done
  finish_at fin kept stages.Open done does = rw (ok_in _ _ does) (tt, f)
  finish_at fin kept stages.Returned done does =
      let parts = then_out {A = Table (Counted Cap)} {B = Done} (λ exports. exports ≡ (cond fin.release_result_caps (release_exports s.counts.exports kept.mentions) (Ok s.counts.exports))) _ done does in
      let lowered = lower_if_fits fin.release_result_caps s.counts.exports parts.0 kept.mentions f.exports_fit parts.1 in
      rw (ok_in _ _ parts.2) (tt, record { values_fit = answer_gone s f fin.question_id; exports_fit = lowered; calls_fit = f.calls_fit; over_fits = f.over_fits; embargoes_fit = f.embargoes_fit })
  finish_at fin kept stages.Finished done does = ok_out does

  finished_by : (fin : Finish) (o : Option (Exchange AnswerEntry)) (done : Done) → FinishedBy s fin o (Ok done) → Good done
  finished_by fin None done does = ok_out does
  finished_by fin (Some entry) done does = finish_at fin entry.kept entry.stage done does

  release_comes : (r : Release) (done : Done) → OnRelease s r (Ok done) → Good done
  release_comes r done does =
      let parts = then_out {A = Table (Counted Cap)} {B = Done} (λ exports. exports ≡ released s.counts.exports r.id r.reference_count) _ done does in
      rw (ok_in _ _ parts.2) (tt, exports_fit s f parts.0 (released_fits s.counts.exports parts.0 r.id r.reference_count f.exports_fit parts.1))

  resolution_taken : (resolution : Resolution) (taken : Cap × State) → resolution_fits resolution ≡ true → TakeResolution s resolution (Ok taken) → CapFits taken.0 × Fits taken.1
  resolution_taken (resolutions.Cap d) taken h is = take_fits s f d taken is
  resolution_taken (resolutions.Exception x) taken h is = rw (ok_in _ _ is) (h, f)
  resolution_taken (resolutions.Unknown n) taken h is = absurd is

  releases_sent : (ids : List ℕ) → AreSent (releases_of ids)
  releases_sent [] = tt
  releases_sent (i ∷ ids) = (tt, releases_sent ids)

  resolve_by : (r : Resolve) (o : Option (Counted ImportKind)) (done : Done) → resolution_fits r.resolution ≡ true → ResolveOf s r o (Ok done) → Good done
  resolve_by r None done h does = rw (ok_in _ _ does) (releases_sent (given_back r.resolution), f)
  resolve_by r (Some entry) done h does =
      let rule = unless_out {A = Done} {F = PeerFault} (fault_if (not (is_open_promise entry.kept (get s.values.imports r.promise_id))) faults.NotAnOpenPromise) _ done does in
      let parts = then_out {A = Cap × State} {B = Done} (TakeResolution s r.resolution) _ done rule.1 in
      let taken = resolution_taken r.resolution parts.0 h parts.1 in
      let kept = taken.1 in
      rw (ok_in _ _ parts.2) (tt, record { values_fit = import_put parts.0.1 kept r.promise_id (Some parts.0.0) taken.0; exports_fit = kept.exports_fit; calls_fit = kept.calls_fit; over_fits = kept.over_fits; embargoes_fit = kept.embargoes_fit })

  echo_by : (n : ℕ) (last : Cap) (done : Done) → Ok done ≡ echo_to s n last → Good done
  echo_by n (caps.Import i) done is = rw (ok_in _ _ is) ((tt, tt), f)
  echo_by n caps.None done is = ok_out is
  echo_by n (caps.Object k) done is = ok_out is
  echo_by n (caps.Promise p) done is = ok_out is
  echo_by n (caps.Pipelined q path) done is = ok_out is
  echo_by n (caps.Broken x) done is = ok_out is

  echoes_by : (n : ℕ) (target : Target) (done : Done) → EchoesTarget s n target (Ok done) → Good done
  echoes_by n (targets.ImportedCap e) done does = at_export (get s.counts.exports e) does
    where
      at_export : (o : Option (Counted Cap)) → EchoesExport s n o (Ok done) → Good done
      at_export None does = absurd does
      at_export (Some entry) does = echo_by n does.0 done does.2
  echoes_by n (targets.PromisedAnswer answer) done does = at_answer (answer_of s answer.question_id) does
    where
      at_answer : (o : Option (Option Outcome)) → EchoesAnswer s n (path_of answer.transform) o (Ok done) → Good done
      at_answer None does = absurd does
      at_answer (Some None) does = ok_out does
      at_answer (Some (Some outcome)) does = echo_by n does.0 done does.2
  echoes_by n (targets.Unknown m) done does = absurd does

  ends_by : (n : ℕ) (o : Option Cap) (done : Done) → IfSome o CapFits → Ok done ≡ ended_by s n o → Good done
  ends_by n None done h is = ok_out is
  ends_by n (Some c) done h is =
      rw (ok_in _ _ is) (
        tt,
        record {
          values_fit = f.values_fit;
          exports_fit = f.exports_fit;
          calls_fit = f.calls_fit;
          over_fits =
              record {
                answers = f.over_fits.answers;
                promises = f.over_fits.promises;
                questions = f.over_fits.questions;
                embargoes = every-insert CapFits s.waiting.over.embargoes n c f.over_fits.embargoes h;
              };
          embargoes_fit = every-remove CapFits s.marks.embargoes n f.embargoes_fit;
        },
      )

  disembargo_comes : (context : DisembargoContext) (target : Target) (done : Done) → OnDisembargo s context target (Ok done) → Good done
  disembargo_comes (contexts.SenderLoopback n) target done does = echoes_by n target done (unless_out {A = Done} {F = PeerFault} (target_faults s target) _ done does).1
  disembargo_comes (contexts.ReceiverLoopback n) target done does = ends_by n (get s.marks.embargoes n) done (f.embargoes_fit n) does
  disembargo_comes contexts.Accept target done does = absurd does
  disembargo_comes (contexts.Provide q) target done does = absurd does
  disembargo_comes (contexts.Unknown n) target done does = absurd does

  unknown_comes : (o : Option Message) (done : Done) → UnknownToPeer s o (Ok done) → Good done
  unknown_comes (Some (messages.Resolve r)) done does =
      let parts = then_out {A = Table (Counted Cap)} {B = Done} (λ exports. exports ≡ release_exports s.counts.exports (given_back r.resolution)) _ done does in
      rw (ok_in _ _ parts.2) (tt, exports_fit s f parts.0 (lower_fits s.counts.exports parts.0 (given_back r.resolution) f.exports_fit parts.1))
  unknown_comes None done does = ok_out does
  unknown_comes (Some (messages.Unimplemented t)) done does = ok_out does
  unknown_comes (Some (messages.Abort x)) done does = ok_out does
  unknown_comes (Some (messages.Call c)) done does = ok_out does
  unknown_comes (Some (messages.Return r)) done does = ok_out does
  unknown_comes (Some (messages.Finish fin)) done does = ok_out does
  unknown_comes (Some (messages.Release r)) done does = ok_out does
  unknown_comes (Some (messages.Bootstrap b)) done does = ok_out does
  unknown_comes (Some (messages.Disembargo d)) done does = ok_out does
  unknown_comes (Some (messages.Other which body)) done does = ok_out does

  on_fits : (m : Message) (done : Done) → message_fits m ≡ true → On s m (Ok done) → Good done
  on_fits (messages.Unimplemented t) done h does = unknown_comes (told t) done does
  on_fits (messages.Abort x) done h does = rw (ok_in _ _ does) ((tt, tt), f)
  on_fits (messages.Call c) done h does = call_comes s f c done (both _ _ h).1 does
  on_fits (messages.Return r) done h does = return_of r (get s.entries.questions r.answer_id) done h does
  on_fits (messages.Finish fin) done h does = finished_by fin (get s.entries.answers fin.question_id) done does
  on_fits (messages.Resolve r) done h does = resolve_by r (get s.counts.imports r.promise_id) done h does
  on_fits (messages.Release r) done h does = release_comes r done does
  on_fits (messages.Bootstrap b) done h does = bootstrap_comes s f b.question_id done does
  on_fits (messages.Disembargo d) done h does = disembargo_comes d.context d.target done does
  on_fits (messages.Other which body) done h does = absurd does

  echoed_fits : (m : Message) (done : Done) → Ok done ≡ echoed s m → Good done
  echoed_fits m done is = by (echo_fits (message_written (messages.Unimplemented (message_written m)))) refl is
    where
      by : (b : Bool) → echo_fits (message_written (messages.Unimplemented (message_written m))) ≡ b
          → Ok done ≡ cond b (Ok (effects.Send (messages.Unimplemented (message_written m)) ∷ [], s)) (Err faults.EchoTooLarge) → Good done
      by true fits is = rw (ok_in _ _ is) ((fits, tt), f)
      by false fits is = ok_out is

  pub receives_fits : (b : Bool) (m : Message) (done : Done) → ReceivesIf b s m (Ok done) → Good done
  receives_fits true m done does =
      let rule = unless_out {A = Done} {F = PeerFault} (fault_if (not (message_fits m)) faults.PayloadTooLarge) (On s m) done does in
      on_fits m done (not_held (message_fits m) faults.PayloadTooLarge rule.0) rule.1
  receives_fits false m done does = echoed_fits m done does
