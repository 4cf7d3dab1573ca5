-- Calls, Bootstraps, Finishes, Releases and Disembargoes that come, as the accounts see them.
use Rattle.std.specs.Prelude.{◌≡◌, refl, ℕ, ◌-◌, ◌==◌, ltb, not, ◌++◌, if◌then◌else◌, Bool, true, false, List, [], ◌∷◌, Option, Some, None, is_none, Ok, Err}
use Rattle.std.specs.List.{list_any}
use Rattle.std.specs.FinMap.{get, insert, remove}
use Rattle.std.proofs.Common.{arith}
use Rattle.cp_tables.specs.Table.{Table}
use Rattle.cp_tables.specs.Counted.{count_of}
use Rattle.cp_tables.specs.Exchange.{new_exchange}
use Rattle.cp_tables.specs.declared.counted.Counted.{Counted}
use Rattle.cp_tables.specs.declared.exchange.Exchange.{Exchange}
use Rattle.cp_tables.specs.declared.exchange.Stage.{Stage}
use Rattle.cp_tables.specs.declared.exchange.Stage.TheVariants as stages
use Rattle.cp_messages.specs.declared.call.Call.{Call}
use Rattle.cp_messages.specs.declared.disembargo.DisembargoContext.{DisembargoContext}
use Rattle.cp_messages.specs.declared.disembargo.DisembargoContext.TheVariants as contexts
use Rattle.cp_messages.specs.declared.disembargo.Disembargo.{Disembargo}
use Rattle.cp_messages.specs.declared.message.Message.TheVariants as messages
use Rattle.cp_messages.specs.declared.small.Finish.{Finish}
use Rattle.cp_messages.specs.declared.small.Release.{Release}
use Rattle.cp_messages.specs.declared.target.Target.{Target}
use Rattle.cp_messages.specs.declared.target.Target.TheVariants as targets
use Rattle.cp_refs.specs.At.{cap_at}
use Rattle.cp_refs.specs.declared.cap.Cap.{Cap}
use Rattle.cp_refs.specs.declared.cap.Cap.TheVariants as caps
use Rattle.cp_refs.specs.declared.outcome.Outcome.{Outcome}
use Rattle.cp_refs.specs.declared.route.Gate.TheVariants as gates
use Rattle.cp_refs.specs.declared.route.Route.TheVariants as routes
use Rattle.cp_vat_machine.specs.State.{State}
use Rattle.cp_vat_machine.specs.Then.{Done, fault_if}
use Rattle.cp_vat_machine.specs.Capacity.{has_capacity}
use Rattle.cp_vat_machine.specs.InUse.{caps_of}
use Rattle.cp_vat_machine.specs.Receiving.{answer_of, path_of, times, ReceivesCaps, less_by, lowered_by, lowered, release_exports, released}
use Rattle.cp_vat_machine.specs.Give.{GiveAnswer}
use Rattle.cp_vat_machine.specs.Go.{PendingCall}
use Rattle.cp_vat_machine.specs.Answering.{with_answer, bootstrap_outcome, is_answering, OnBootstrap, target_faults, GoToExport, GoToAnswer, GoToTarget, peer_call, entered, call_faults, OnCall, AtStage, FinishedBy, OnFinish}
use Rattle.cp_vat_machine.specs.Resolving.{OnRelease, echo_to, EchoesExport, EchoesAnswer, EchoesTarget, ended_by, OnDisembargo}
use Rattle.cp_vat_machine.specs.declared.entry.AnswerEntry.{AnswerEntry}
use Rattle.cp_vat_machine.specs.declared.fault.PeerFault.{PeerFault}
use Rattle.cp_vat_machine.specs.declared.fault.PeerFault.TheVariants as faults
use Rattle.cp_vat_machine.proofs.Basics.{ok_in, ok_out, then_out, unless_out, put_at}
use Rattle.cp_vat_pair_laws.specs.Accounts.{accounts_of, kept_account, new_account}
use Rattle.cp_vat_pair_laws.specs.Orderly.{ArePlainExports, IsPlainExport, IsOrderly, IsHeldAlone, Goes, Heeds}
use Rattle.cp_vat_pair_laws.proofs.counts.rules.Accounts.{finish_heard, release_heard}
use Rattle.cp_vat_pair_laws.proofs.counts.rules.TwoParts.{hears_both}
use Rattle.cp_vat_pair_laws.proofs.counts.rules.Plain.{IsPlainTable, put_plain, gone_plain, answers_put, answers_gone}
use Rattle.cp_vat_pair_laws.proofs.counts.rules.Give.{answer_goes}
use Rattle.cp_vat_pair_laws.proofs.counts.rules.Go.{go_goes, goto_goes}
use Rattle.cp_vat_pair_laws.proofs.counts.rules.Take.{TakenIn, take_all_in}

-- a call goes to its target
export_goes : (s : State) (call : PendingCall) (o : Option (Counted Cap)) (done : Done) → IsOrderly s → IsHeldAlone s call.origin → GoToExport s call o (Ok done) → Goes s done.0 done.1
export_goes s call None done orderly may goes = absurd goes
export_goes s call (Some entry) done orderly may goes = goto_goes s call entry.kept done orderly may goes

asked_goes : (s : State) (call : PendingCall) (a : ℕ) (path : List ℕ) (o : Option (Option Outcome)) (done : Done) → IsOrderly s → IsHeldAlone s call.origin
    → GoToAnswer s call a path o (Ok done) → Goes s done.0 done.1
asked_goes s call a path None done orderly may goes = absurd goes
asked_goes s call a path (Some None) done orderly may goes = go_goes s call (routes.Wait (gates.Answer a path)) done orderly may goes
asked_goes s call a path (Some (Some outcome)) done orderly may goes = goto_goes s call (cap_at outcome path) done orderly may goes

target_goes : (s : State) (call : PendingCall) (target : Target) (done : Done) → IsOrderly s → IsHeldAlone s call.origin → GoToTarget s call target (Ok done) → Goes s done.0 done.1
target_goes s call (targets.ImportedCap e) done orderly may goes = export_goes s call (get s.counts.exports e) done orderly may goes
target_goes s call (targets.PromisedAnswer answer) done orderly may goes =
    asked_goes s call answer.question_id (path_of answer.transform) (answer_of s answer.question_id) done orderly may goes
target_goes s call (targets.Unknown n) done orderly may goes = absurd goes

-- a Call comes
opened_at : (table before : Table (Exchange AnswerEntry)) (a p : ℕ) (kept : AnswerEntry) (b : Bool) → (a == p) ≡ b → kept.mentions ≡ []
    → kept_account (get table p) ≡ kept_account (get before p)
    → kept_account (get (insert table a (new_exchange kept)) p) ≡ (if b then Some (new_account []) else kept_account (get before p))
opened_at table before a p kept true t none same = rw (put_at table a p (new_exchange kept) true t, none) refl
opened_at table before a p kept false t none same = rw (put_at table a p (new_exchange kept) false t) same

call_enters : (old mid : State) (c : Call) → TakenIn old c.params.cap_table mid → IsOrderly old → Heeds old (messages.Call c) [] (entered mid c.question_id)
call_enters old mid c taken orderly = (
  record {
    mid = accounts_of (entered mid c.question_id);
    came =
        record {
          exports = λ e. rw (taken.exports) (omega arith);
          imports = taken.counted;
          questions = λ q. rw (taken.questions) refl;
          answers = λ p. opened_at mid.entries.answers old.entries.answers c.question_id p
              (record { ticket = Some mid.next_ticket; is_delivered = false; mentions = []; tied = [] }) (c.question_id == p) refl refl (taken.answers p);
        };
    usual = tt;
    posts = refl;
  },
  record {
    held = rw (taken.calls, taken.questions) orderly.held;
    values = taken.values orderly.values;
    answers = answers_put mid.values.answers c.question_id None tt (rw (taken.given) orderly.answers);
    exports = rw (taken.exports) orderly.exports;
  },
)

pub call_heeds : (old : State) (c : Call) (done : Done) → IsOrderly old → OnCall old c (Ok done) → Heeds old (messages.Call c) done.0 done.1
call_heeds old c done orderly does =
    let rule = unless_out {A = Done} {F = PeerFault} (call_faults old c) _ done does in
    let taken = then_out {A = List Cap × State} {B = Done} (ReceivesCaps old c.params.cap_table) _ done rule in
    let mid : State = entered taken.0.1 c.question_id in
    let enters = call_enters old taken.0.1 c (take_all_in c.params.cap_table old taken.0 taken.1) orderly in
    let goes = target_goes mid (peer_call taken.0.1 c taken.0.0) c.target done enters.1 tt taken.2 in
    (hears_both old mid done.1 (messages.Call c) [] done.0 enters.0 goes.0, goes.1)

-- a Bootstrap comes
bootstrap_plain : (o : Option ℕ) → IsPlainTable (caps_of (bootstrap_outcome o))
bootstrap_plain (Some k) = refl
bootstrap_plain None = refl

bootstrap_enters : (old : State) (a : ℕ) → IsOrderly old → Heeds old (messages.Bootstrap (record { question_id = a })) [] (with_answer old a None)
bootstrap_enters old a orderly = (
  record {
    mid = accounts_of (with_answer old a None);
    came =
        record {
          exports = λ e. omega arith;
          imports = λ i. omega arith;
          questions = λ q. refl;
          answers = λ p. opened_at old.entries.answers old.entries.answers a p (record { ticket = None; is_delivered = false; mentions = []; tied = [] }) (a == p) refl refl refl;
        };
    usual = tt;
    posts = refl;
  },
  record { held = orderly.held; values = orderly.values; answers = answers_put old.values.answers a None tt orderly.answers; exports = orderly.exports },
)

pub bootstrap_heeds : (old : State) (a : ℕ) (done : Done) → IsOrderly old → OnBootstrap old a (Ok done) → Heeds old (messages.Bootstrap (record { question_id = a })) done.0 done.1
bootstrap_heeds old a done orderly does =
    let gives : GiveAnswer (with_answer old a None) a (bootstrap_outcome old.bootstrap) (Ok done)
    = unless_out {A = Done} {F = PeerFault} (fault_if (is_answering old a) faults.QuestionInUse ++ fault_if (not (has_capacity old.entries.answers)) faults.TableFull)
    (GiveAnswer (with_answer old a None) a (bootstrap_outcome old.bootstrap)) done does in
    let enters = bootstrap_enters old a orderly in
    let goes = answer_goes (with_answer old a None) a (bootstrap_outcome old.bootstrap) done enters.1 (bootstrap_plain old.bootstrap) gives in
    (hears_both old (with_answer old a None) done.1 (messages.Bootstrap (record { question_id = a })) [] done.0 enters.0 goes.0, goes.1)

-- exports that are lowered
less_plain : (exports : Table (Counted Cap)) (e n f : ℕ) (o : Option (Counted Cap)) → IsPlainExport o → ArePlainExports exports → IsPlainExport (get (less_by exports e n o) f)
less_plain exports e n f None plain all = all f
less_plain exports e n f (Some entry) plain all = by (entry.count == n)
  where
    by : (b : Bool) → IsPlainExport (get (if b then remove exports e else insert exports e (record entry { count = entry.count - n })) f)
    by true = gone_plain exports e f (e == f) refl all
    by false = put_plain exports e f (record entry { count = entry.count - n }) (e == f) refl plain all

less_all_plain : (exports : Table (Counted Cap)) (e n : ℕ) → ArePlainExports exports → ArePlainExports (lowered_by exports e n)
less_all_plain exports e n all f = less_plain exports e n f (get exports e) (all e) all

lowered_plain : (ids : List ℕ) (exports : Table (Counted Cap)) → ArePlainExports exports → ArePlainExports (lowered exports ids)
lowered_plain [] exports all = all
lowered_plain (e ∷ ids) exports all = lowered_plain ids (lowered_by exports e 1) (less_all_plain exports e 1 all)

pub lower_plain : (exports new : Table (Counted Cap)) (ids : List ℕ) → ArePlainExports exports → Ok new ≡ release_exports exports ids → ArePlainExports new
lower_plain exports new ids all is =
    by (list_any (λ e. is_none (get exports e)) ids) (list_any (λ e. ltb (count_of exports e) (times e ids)) ids) is
  where
    by : (b c : Bool) → Ok new ≡ (if b then Err faults.UnknownExport else (if c then Err faults.ReleaseTooLarge else Ok (lowered exports ids))) → ArePlainExports new
    by true c e = ok_out e
    by false true e = ok_out e
    by false false e = rw (ok_in _ _ e) (lowered_plain ids exports all)

released_plain : (exports new : Table (Counted Cap)) (e n : ℕ) → ArePlainExports exports → Ok new ≡ released exports e n → ArePlainExports new
released_plain exports new e n all is = by (is_none (get exports e)) (ltb (count_of exports e) n) is
  where
    by : (b c : Bool) → Ok new ≡ (if b then Err faults.UnknownExport else (if c then Err faults.ReleaseTooLarge else Ok (lowered_by exports e n))) → ArePlainExports new
    by true c is = ok_out is
    by false true is = ok_out is
    by false false is = rw (ok_in _ _ is) (less_all_plain exports e n all)

-- a Release comes, and a Finish
pub release_heeds : (old : State) (r : Release) (done : Done) → IsOrderly old → OnRelease old r (Ok done) → Heeds old (messages.Release r) done.0 done.1
release_heeds old r done orderly does =
    let parts = then_out {A = Table (Counted Cap)} {B = Done} (λ exports. exports ≡ released old.counts.exports r.id r.reference_count) _ done does in (
      release_heard old r done does,
      rw
          (ok_in _ _ parts.2)
          (record {
            held = orderly.held;
            values = orderly.values;
            answers = orderly.answers;
            exports = released_plain old.counts.exports parts.0 r.id r.reference_count orderly.exports parts.1;
          }),
    )

pub lower_if_plain : (b : Bool) (exports new : Table (Counted Cap)) (ids : List ℕ) → ArePlainExports exports → Ok new ≡ (if b then release_exports exports ids else Ok exports) → ArePlainExports new
lower_if_plain true exports new ids all is = lower_plain exports new ids all is
lower_if_plain false exports new ids all is = rw (ok_in _ _ is) all

finish_orderly : (old : State) (f : Finish) (kept : AnswerEntry) (stage : Stage) (done : Done) → IsOrderly old → AtStage old f kept stage (Ok done) → IsOrderly done.1
finish_orderly old f kept stages.Open done orderly does =
    rw (ok_in _ _ does) (record { held = orderly.held; values = orderly.values; answers = orderly.answers; exports = orderly.exports })
finish_orderly old f kept stages.Returned done orderly does =
    let parts = then_out {A = Table (Counted Cap)} {B = Done}
    (λ exports. exports ≡ (if f.release_result_caps then release_exports old.counts.exports kept.mentions else Ok old.counts.exports)) _ done does in
    rw
    (ok_in _ _ parts.2)
    (record {
      held = orderly.held;
      values = orderly.values;
      answers = answers_gone old.values.answers f.question_id orderly.answers;
      exports = lower_if_plain f.release_result_caps old.counts.exports parts.0 kept.mentions orderly.exports parts.1;
    })
finish_orderly old f kept stages.Finished done orderly does = ok_out does

finished_by : (old : State) (f : Finish) (o : Option (Exchange AnswerEntry)) (done : Done) → IsOrderly old → FinishedBy old f o (Ok done) → IsOrderly done.1
finished_by old f None done orderly does = ok_out does
finished_by old f (Some entry) done orderly does = finish_orderly old f entry.kept entry.stage done orderly does

pub finish_heeds : (old : State) (f : Finish) (done : Done) → IsOrderly old → OnFinish old f (Ok done) → Heeds old (messages.Finish f) done.0 done.1
finish_heeds old f done orderly does = (finish_heard old f done does, finished_by old f (get old.entries.answers f.question_id) done orderly does)

-- a Disembargo comes
echo_heeds : (old : State) (d : Disembargo) (n : ℕ) (last : Cap) (done : Done) → IsOrderly old → Ok done ≡ echo_to old n last → Heeds old (messages.Disembargo d) done.0 done.1
echo_heeds old d n (caps.Import i) done orderly is =
    rw
    (ok_in _ _ is) (
      record {
        mid = accounts_of old;
        came = record { exports = λ e. omega arith; imports = λ i. omega arith; questions = λ q. refl; answers = λ a. refl };
        usual = ((refl, tt), tt);
        posts = (accounts_of old, record { exports = λ e. omega arith; imports = λ i. omega arith; questions = λ q. refl; answers = λ a. refl }, refl);
      },
      orderly,
    )
echo_heeds old d n caps.None done orderly is = ok_out is
echo_heeds old d n (caps.Object k) done orderly is = ok_out is
echo_heeds old d n (caps.Promise p) done orderly is = ok_out is
echo_heeds old d n (caps.Pipelined q path) done orderly is = ok_out is
echo_heeds old d n (caps.Broken x) done orderly is = ok_out is

echoes_export : (old : State) (d : Disembargo) (n : ℕ) (o : Option (Counted Cap)) (done : Done) → IsOrderly old → EchoesExport old n o (Ok done)
    → Heeds old (messages.Disembargo d) done.0 done.1
echoes_export old d n None done orderly does = absurd does
echoes_export old d n (Some entry) done orderly does = echo_heeds old d n does.0 done orderly does.2

echoes_answer : (old : State) (d : Disembargo) (n : ℕ) (path : List ℕ) (o : Option (Option Outcome)) (done : Done) → IsOrderly old → EchoesAnswer old n path o (Ok done)
    → Heeds old (messages.Disembargo d) done.0 done.1
echoes_answer old d n path None done orderly does = absurd does
echoes_answer old d n path (Some None) done orderly does = ok_out does
echoes_answer old d n path (Some (Some outcome)) done orderly does = echo_heeds old d n does.0 done orderly does.2

echoes : (old : State) (d : Disembargo) (n : ℕ) (target : Target) (done : Done) → IsOrderly old → EchoesTarget old n target (Ok done)
    → Heeds old (messages.Disembargo d) done.0 done.1
echoes old d n (targets.ImportedCap e) done orderly does = echoes_export old d n (get old.counts.exports e) done orderly does
echoes old d n (targets.PromisedAnswer answer) done orderly does =
    echoes_answer old d n (path_of answer.transform) (answer_of old answer.question_id) done orderly does
echoes old d n (targets.Unknown m) done orderly does = absurd does

ends : (old : State) (d : Disembargo) (n : ℕ) (o : Option Cap) (done : Done) → IsOrderly old → Ok done ≡ ended_by old n o → Heeds old (messages.Disembargo d) done.0 done.1
ends old d n None done orderly is = ok_out is
ends old d n (Some cap) done orderly is =
    rw
    (ok_in _ _ is) (
      record {
        mid = accounts_of old;
        came = record { exports = λ e. omega arith; imports = λ i. omega arith; questions = λ q. refl; answers = λ a. refl };
        usual = tt;
        posts = refl;
      },
      record { held = orderly.held; values = orderly.values; answers = orderly.answers; exports = orderly.exports },
    )

pub disembargo_heeds : (old : State) (d : Disembargo) (context : DisembargoContext) (done : Done) → IsOrderly old → OnDisembargo old context d.target (Ok done)
    → Heeds old (messages.Disembargo d) done.0 done.1
disembargo_heeds old d (contexts.SenderLoopback n) done orderly does =
    echoes old d n d.target done orderly (unless_out {A = Done} {F = PeerFault} (target_faults old d.target) _ done does)
disembargo_heeds old d (contexts.ReceiverLoopback n) done orderly does = ends old d n (get old.marks.embargoes n) done orderly does
disembargo_heeds old d contexts.Accept done orderly does = absurd does
disembargo_heeds old d (contexts.Provide q) done orderly does = absurd does
disembargo_heeds old d (contexts.Unknown n) done orderly does = absurd does
