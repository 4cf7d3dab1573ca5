-- An expected message meets none of the faults that a vat never meets of another one.
use Rattle.std.specs.Prelude.{◌≡◌, refl, ℕ, ◌≤◌, ◌==◌, not, ◌&&◌, ltb, ◌++◌, if◌then◌else◌, Bool, true, false, List, [], ◌∷◌, Option, Some, None, is_none, is_some, Result, Ok, Err}
use Rattle.std.specs.List.{list_any, AllByRecursion}
use Rattle.std.specs.FinMap.{get}
use Rattle.std.proofs.Common.{arith, ap, sym, true≢false}
use Rattle.std.proofs.lemmas.Bool.Decides.{nat_tests}
use Rattle.cp_tables.specs.Table.{Table}
use Rattle.cp_tables.specs.Counted.{count_of}
use Rattle.cp_tables.specs.declared.counted.Counted.{Counted}
use Rattle.cp_tables.specs.declared.exchange.Exchange.{Exchange}
use Rattle.cp_tables.specs.declared.exchange.Stage.{Stage}
use Rattle.cp_tables.specs.declared.exchange.Stage.TheVariants as stages
use Rattle.cp_messages.specs.declared.call.Call.{Call}
use Rattle.cp_messages.specs.declared.disembargo.DisembargoContext.{DisembargoContext}
use Rattle.cp_messages.specs.declared.disembargo.DisembargoContext.TheVariants as contexts
use Rattle.cp_messages.specs.declared.message.Message.{Message}
use Rattle.cp_messages.specs.declared.message.Message.TheVariants as messages
use Rattle.cp_messages.specs.declared.resolve.Resolution.{Resolution}
use Rattle.cp_messages.specs.declared.resolve.Resolution.TheVariants as resolutions
use Rattle.cp_messages.specs.declared.resolve.Resolve.{Resolve}
use Rattle.cp_messages.specs.declared.returned.Return.{Return}
use Rattle.cp_messages.specs.declared.returned.Returned.{Returned}
use Rattle.cp_messages.specs.declared.returned.Returned.TheVariants as returns
use Rattle.cp_messages.specs.declared.small.Finish.{Finish}
use Rattle.cp_messages.specs.declared.small.Release.{Release}
use Rattle.cp_messages.specs.declared.target.Target.{Target}
use Rattle.cp_messages.specs.declared.target.Target.TheVariants as targets
use Rattle.cp_refs.specs.declared.cap.Cap.{Cap}
use Rattle.cp_refs.specs.declared.cap.Cap.TheVariants as caps
use Rattle.cp_refs.specs.declared.outcome.Outcome.{Outcome}
use Rattle.cp_vat_machine.specs.State.{State, with_exports}
use Rattle.cp_vat_machine.specs.Then.{Done, fault_if}
use Rattle.cp_vat_machine.specs.Capacity.{has_capacity, has_ticket, message_fits}
use Rattle.cp_vat_machine.specs.Receiving.{answer_of, path_of, times, ReceivesCaps, lowered, release_exports, lowered_by, released}
use Rattle.cp_vat_machine.specs.Give.{GiveAnswer, without_question}
use Rattle.cp_vat_machine.specs.Supported.{is_supported}
use Rattle.cp_vat_machine.specs.Answering.{with_answer, bootstrap_outcome, is_answering, OnBootstrap, target_faults, call_faults, entered, peer_call, OnCall, AtStage, FinishedBy}
use Rattle.cp_vat_machine.specs.Asking.{ReceivesReturned, Settles, ReturnBy, is_asked, ReturnOf}
use Rattle.cp_vat_machine.specs.Resolving.{OnRelease, is_open_promise, TakeResolution, ResolveOf, echo_to, EchoesExport, EchoesAnswer, EchoesTarget, ended_by, OnDisembargo}
use Rattle.cp_vat_machine.specs.Step.{On, ReceivesIf, Receives}
use Rattle.cp_vat_machine.specs.declared.entry.AnswerEntry.{AnswerEntry}
use Rattle.cp_vat_machine.specs.declared.entry.ImportKind.{ImportKind}
use Rattle.cp_vat_machine.specs.declared.entry.QuestionEntry.{QuestionEntry}
use Rattle.cp_vat_machine.specs.declared.fault.PeerFault.{PeerFault}
use Rattle.cp_vat_machine.specs.declared.fault.PeerFault.TheVariants as faults
use Rattle.cp_vat_machine.proofs.Basics.{is_itself}
use Rattle.cp_vat_pair_laws.specs.Accounts.{Account, accounts_of, asked_account, kept_account, lowerable, results_in}
use Rattle.cp_vat_pair_laws.specs.Accounts as accounts
use Rattle.cp_vat_pair_laws.specs.VatPair.{VatPair, Side, end_of}
use Rattle.cp_vat_pair_laws.specs.Lives.{IsUsual}
use Rattle.cp_vat_pair_laws.specs.Expected.{HoldsAlways, IsAwaited, IsExpected}
use Rattle.cp_vat_pair_laws.specs.Spared.{IsOther, AreSpared}
use Rattle.cp_vat_pair_laws.proofs.counts.Expected.{NextAgrees, next_by, always_at}
use Rattle.cp_vat_pair_laws.proofs.counts.RulesMeetNoFault.{IsSpared, ok_spared, err_spared, is_spared, unless_spared, then_spared, answer_spared, own_spared, target_spared, take_spared, take_all_spared}

-- faults that may be met
abbrev AllOther : List PeerFault → Type 0
AllOther list = AllByRecursion IsOther list

if_other : (b : Bool) (fault : PeerFault) → IsOther fault → AllOther (fault_if b fault)
if_other true fault other = (other, tt)
if_other false fault other = tt

if_never : (b : Bool) (fault : PeerFault) → b ≡ false → AllOther (fault_if b fault)
if_never true fault never = absurd (true≢false never)
if_never false fault never = tt

both_other : (one more : List PeerFault) → AllOther one → AllOther more → AllOther (one ++ more)
both_other [] more all rest = rest
both_other (fault ∷ one) more all rest = (all.0, both_other one more all.1 rest)

target_other : (s : State) (target : Target) → AllOther (target_faults s target)
target_other s (targets.ImportedCap e) = if_other (is_none (get s.counts.exports e)) faults.UnknownExport tt
target_other s (targets.PromisedAnswer answer) = if_other (is_none (answer_of s answer.question_id)) faults.UnknownAnswer tt
target_other s (targets.Unknown n) = tt

-- a Call and a Bootstrap
none_kept : (o : Option (Exchange AnswerEntry)) → kept_account o ≡ None → is_some o ≡ false
none_kept None is = refl
none_kept (Some entry) is = absurd (true≢false (ap is_some is))

call_spared : (old : State) (c : Call) (out : Result Done PeerFault) → (accounts_of old).answers c.question_id ≡ None → OnCall old c out → IsSpared out
call_spared old c out free does =
    unless_spared (call_faults old c) _ out
    (both_other
    (fault_if (is_answering old c.question_id) faults.QuestionInUse ++ target_faults old c.target)
    (fault_if (not (has_capacity old.entries.answers && has_ticket old)) faults.TableFull)
    (both_other (fault_if (is_answering old c.question_id) faults.QuestionInUse) (target_faults old c.target)
    (if_never (is_answering old c.question_id) faults.QuestionInUse (none_kept (get old.entries.answers c.question_id) free)) (target_other old c.target))
    (if_other (not (has_capacity old.entries.answers && has_ticket old)) faults.TableFull tt))
    (λ rule. then_spared (ReceivesCaps old c.params.cap_table) _ out (take_all_spared old c.params.cap_table)
    (λ taken first rest. target_spared (entered taken.1 c.question_id) (peer_call taken.1 c taken.0) c.target out rest) rule) does

bootstrap_spared : (old : State) (a : ℕ) (out : Result Done PeerFault) → (accounts_of old).answers a ≡ None → OnBootstrap old a out → IsSpared out
bootstrap_spared old a out free does =
    unless_spared (fault_if (is_answering old a) faults.QuestionInUse ++ fault_if (not (has_capacity old.entries.answers)) faults.TableFull) _ out
    (both_other (fault_if (is_answering old a) faults.QuestionInUse) (fault_if (not (has_capacity old.entries.answers)) faults.TableFull)
    (if_never (is_answering old a) faults.QuestionInUse (none_kept (get old.entries.answers a) free))
    (if_other (not (has_capacity old.entries.answers)) faults.TableFull tt))
    (answer_spared (with_answer old a None) a (bootstrap_outcome old.bootstrap) out) does

-- a Return
taken_spared : (old : State) (returned : Returned) (out : Result (Outcome × State) PeerFault) → ReceivesReturned old returned out → IsSpared out
taken_spared old (returns.Results p) out is = then_spared (ReceivesCaps old p.cap_table) _ out (take_all_spared old p.cap_table) (λ taken first end. ok_spared out _ end) is
taken_spared old (returns.Exception x) out is = ok_spared out _ is
taken_spared old returns.Canceled out is = ok_spared out _ is
taken_spared old returns.ResultsSentElsewhere out is = absurd is
taken_spared old (returns.TakeFromOtherQuestion q) out is = absurd is
taken_spared old (returns.AcceptFromThirdParty t) out is = absurd is
taken_spared old (returns.Unknown n) out is = absurd is

settles_spared : (old : State) (q : ℕ) (forwards : Option ℕ) (outcome : Outcome) (out : Result Done PeerFault) → Settles old q forwards outcome out → IsSpared out
settles_spared old q None outcome out does = own_spared old q outcome out does
settles_spared old q (Some a) outcome out does =
    then_spared (GiveAnswer (without_question old q) a outcome) _ out (answer_spared (without_question old q) a outcome) (λ done first end. ok_spared out _ end) does

return_by : (old : State) (r : Return) (kept : QuestionEntry) (stage : Stage) (out : Result Done PeerFault) → ReturnBy old r kept stage out → IsSpared out
return_by old r kept stages.Open out does =
    then_spared (ReceivesReturned old r.returned) _ out (taken_spared old r.returned) (λ taken first rest. settles_spared taken.1 r.answer_id kept.forwards taken.0 out rest) does
return_by old r kept stages.Finished out does = ok_spared out _ does
return_by old r kept stages.Returned out does = absurd does

is_awaited : (b : Bool) (stage : Stage) (mentions : List ℕ) → IsAwaited (if b then Some (record { stage = stage; kept = mentions }) else None) → not (is_asked b stage) ≡ false
is_awaited false stage mentions waits = absurd waits
is_awaited true stages.Open mentions waits = refl
is_awaited true stages.Finished mentions waits = refl
is_awaited true stages.Returned mentions waits = absurd waits

unlowered : (b : Bool) (exports : Table (Counted Cap)) (ids : List ℕ) → b ≡ false → IsSpared (if b then release_exports exports ids else Ok exports)
unlowered true exports ids never = absurd (true≢false never)
unlowered false exports ids never = tt

return_of : (old : State) (r : Return) (o : Option (Exchange QuestionEntry)) (out : Result Done PeerFault) → r.release_param_caps ≡ false → IsAwaited (asked_account o) → ReturnOf old r o out
    → IsSpared out
return_of old r None out keeps waits does = absurd waits
return_of old r (Some entry) out keeps waits does =
    unless_spared (fault_if (not (is_asked entry.kept.is_sent entry.stage)) faults.UnknownQuestion) _ out
    (if_never (not (is_asked entry.kept.is_sent entry.stage)) faults.UnknownQuestion (is_awaited entry.kept.is_sent entry.stage entry.kept.mentions waits))
    (λ rule. then_spared (λ exports. exports ≡ (if r.release_param_caps then release_exports old.counts.exports entry.kept.mentions else Ok old.counts.exports)) _ out
    (λ o is. is_spared o _ is (unlowered r.release_param_caps old.counts.exports entry.kept.mentions keeps))
    (λ exports first rest. return_by (with_exports old exports) r entry.kept entry.stage out rest) rule) does

-- what fits is lowered
fits_test : (n count : ℕ) → n ≤ count → ltb count n ≡ false
fits_test n count fits = grind (arith, nat_tests)

none_passes : (exports : Table (Counted Cap)) (all part : List ℕ) → ((e : ℕ) → times e all ≤ count_of exports e)
    → list_any (λ e. ltb (count_of exports e) (times e all)) part ≡ false
none_passes exports all [] fits = refl
none_passes exports all (e ∷ part) fits = rw (fits_test (times e all) (count_of exports e) (fits e)) (none_passes exports all part fits)

lower_spared : (exports : Table (Counted Cap)) (ids : List ℕ) → ((e : ℕ) → times e ids ≤ count_of exports e) → IsSpared (release_exports exports ids)
lower_spared exports ids fits = by (list_any (λ e. is_none (get exports e)) ids) (list_any (λ e. ltb (count_of exports e) (times e ids)) ids) (none_passes exports ids ids fits)
  where
    by : (b c : Bool) → c ≡ false → IsSpared (if b then Err faults.UnknownExport else (if c then Err faults.ReleaseTooLarge else Ok (lowered exports ids)))
    by true c never = tt
    by false true never = absurd (true≢false never)
    by false false never = tt

released_spared : (exports : Table (Counted Cap)) (e n : ℕ) → n ≤ count_of exports e → IsSpared (released exports e n)
released_spared exports e n fits = by (is_none (get exports e)) (ltb (count_of exports e) n) (fits_test n (count_of exports e) fits)
  where
    by : (b c : Bool) → c ≡ false → IsSpared (if b then Err faults.UnknownExport else (if c then Err faults.ReleaseTooLarge else Ok (lowered_by exports e n)))
    by true c never = tt
    by false true never = absurd (true≢false never)
    by false false never = tt

-- a Release and a Finish
if_same : (b : Bool) (n count : ℕ) → b ≡ true → (if b then n else 0) ≤ count → n ≤ count
if_same true n count is fits = fits
if_same false n count is fits = absurd (true≢false (sym is))

release_spared : (old : State) (r : Release) (out : Result Done PeerFault)
    → ((e : ℕ) → (if r.id == e then r.reference_count else 0) ≤ count_of old.counts.exports e) → OnRelease old r out → IsSpared out
release_spared old r out fits does =
    then_spared (λ exports. exports ≡ released old.counts.exports r.id r.reference_count) _ out
    (λ o is. is_spared o _ is
    (released_spared old.counts.exports r.id r.reference_count
    (if_same (r.id == r.id) r.reference_count (count_of old.counts.exports r.id) (is_itself r.id) (fits r.id))))
    (λ exports first end. ok_spared out _ end) does

lower_if_spared : (b : Bool) (exports : Table (Counted Cap)) (ids : List ℕ) → ((e : ℕ) → (if b then times e ids else 0) ≤ count_of exports e)
    → IsSpared (if b then release_exports exports ids else Ok exports)
lower_if_spared true exports ids fits = lower_spared exports ids fits
lower_if_spared false exports ids fits = tt

finish_at : (old : State) (f : Finish) (kept : AnswerEntry) (stage : Stage) (out : Result Done PeerFault)
    → ((e : ℕ) → (if f.release_result_caps then times e (accounts.results_at stage kept.mentions) else 0) ≤ count_of old.counts.exports e)
    → AtStage old f kept stage out → IsSpared out
finish_at old f kept stages.Open out fits does = ok_spared out _ does
finish_at old f kept stages.Returned out fits does =
    then_spared (λ exports. exports ≡ (if f.release_result_caps then release_exports old.counts.exports kept.mentions else Ok old.counts.exports)) _ out
    (λ o is. is_spared o _ is (lower_if_spared f.release_result_caps old.counts.exports kept.mentions fits)) (λ exports first end. ok_spared out _ end) does
finish_at old f kept stages.Finished out fits does = err_spared out faults.UnknownAnswer does tt

finished_by : (old : State) (f : Finish) (o : Option (Exchange AnswerEntry)) (out : Result Done PeerFault)
    → ((e : ℕ) → (if f.release_result_caps then times e (results_in (kept_account o)) else 0) ≤ count_of old.counts.exports e) → FinishedBy old f o out → IsSpared out
finished_by old f None out fits does = err_spared out faults.UnknownAnswer does tt
finished_by old f (Some entry) out fits does = finish_at old f entry.kept entry.stage out fits does

-- a Resolve
resolution_spared : (old : State) (resolution : Resolution) (out : Result (Cap × State) PeerFault) → TakeResolution old resolution out → IsSpared out
resolution_spared old (resolutions.Cap d) out is = take_spared old d out is
resolution_spared old (resolutions.Exception x) out is = ok_spared out _ is
resolution_spared old (resolutions.Unknown n) out is = absurd is

resolve_spared : (old : State) (r : Resolve) (o : Option (Counted ImportKind)) (out : Result Done PeerFault) → ResolveOf old r o out → IsSpared out
resolve_spared old r None out does = ok_spared out _ does
resolve_spared old r (Some entry) out does =
    unless_spared (fault_if (not (is_open_promise entry.kept (get old.values.imports r.promise_id))) faults.NotAnOpenPromise) _ out
    (if_other (not (is_open_promise entry.kept (get old.values.imports r.promise_id))) faults.NotAnOpenPromise tt)
    (λ rule. then_spared (TakeResolution old r.resolution) _ out (resolution_spared old r.resolution) (λ taken first end. ok_spared out _ end) rule) does

-- a Disembargo
echo_spared : (old : State) (n : ℕ) (last : Cap) → IsSpared (echo_to old n last)
echo_spared old n (caps.Import i) = tt
echo_spared old n caps.None = tt
echo_spared old n (caps.Object k) = tt
echo_spared old n (caps.Promise p) = tt
echo_spared old n (caps.Pipelined q path) = tt
echo_spared old n (caps.Broken x) = tt

echoes_export : (old : State) (n : ℕ) (o : Option (Counted Cap)) (out : Result Done PeerFault) → EchoesExport old n o out → IsSpared out
echoes_export old n None out does = absurd does
echoes_export old n (Some entry) out does = is_spared out _ does.2 (echo_spared old n does.0)

echoes_answer : (old : State) (n : ℕ) (path : List ℕ) (o : Option (Option Outcome)) (out : Result Done PeerFault) → EchoesAnswer old n path o out → IsSpared out
echoes_answer old n path None out does = absurd does
echoes_answer old n path (Some None) out does = err_spared out faults.DisembargoTarget does tt
echoes_answer old n path (Some (Some outcome)) out does = is_spared out _ does.2 (echo_spared old n does.0)

echoes_spared : (old : State) (n : ℕ) (target : Target) (out : Result Done PeerFault) → EchoesTarget old n target out → IsSpared out
echoes_spared old n (targets.ImportedCap e) out does = echoes_export old n (get old.counts.exports e) out does
echoes_spared old n (targets.PromisedAnswer answer) out does = echoes_answer old n (path_of answer.transform) (answer_of old answer.question_id) out does
echoes_spared old n (targets.Unknown m) out does = absurd does

ended_spared : (old : State) (n : ℕ) (o : Option Cap) → IsSpared (ended_by old n o)
ended_spared old n None = tt
ended_spared old n (Some cap) = tt

disembargo_spared : (old : State) (context : DisembargoContext) (target : Target) (out : Result Done PeerFault) → OnDisembargo old context target out → IsSpared out
disembargo_spared old (contexts.SenderLoopback n) target out does =
    unless_spared (target_faults old target) _ out (target_other old target) (echoes_spared old n target out) does
disembargo_spared old (contexts.ReceiverLoopback n) target out does = is_spared out _ does (ended_spared old n (get old.marks.embargoes n))
disembargo_spared old contexts.Accept target out does = absurd does
disembargo_spared old (contexts.Provide q) target out does = absurd does
disembargo_spared old (contexts.Unknown n) target out does = absurd does

-- any message
on_spared : (old : State) (m : Message) (out : Result Done PeerFault) → IsUsual m → IsExpected (accounts_of old) m
    → ((e : ℕ) → accounts.lowered_by (lowerable (accounts_of old)) m e ≤ count_of old.counts.exports e) → On old m out → IsSpared out
on_spared old (messages.Unimplemented t) out usual expected fits does = absurd usual.1
on_spared old (messages.Abort x) out usual expected fits does = absurd usual.1
on_spared old (messages.Call c) out usual expected fits does = call_spared old c out expected does
on_spared old (messages.Return r) out usual expected fits does = return_of old r (get old.entries.questions r.answer_id) out usual.1.0 expected does
on_spared old (messages.Finish f) out usual expected fits does = finished_by old f (get old.entries.answers f.question_id) out fits does
on_spared old (messages.Resolve r) out usual expected fits does = resolve_spared old r (get old.counts.imports r.promise_id) out does
on_spared old (messages.Release r) out usual expected fits does = release_spared old r out fits does
on_spared old (messages.Bootstrap b) out usual expected fits does = bootstrap_spared old b.question_id out expected does
on_spared old (messages.Disembargo d) out usual expected fits does = disembargo_spared old d.context d.target out does
on_spared old (messages.Other which body) out usual expected fits does = absurd does

receives_if : (b : Bool) (old : State) (m : Message) (out : Result Done PeerFault) → b ≡ true → (On old m out → IsSpared out) → ReceivesIf b old m out → IsSpared out
receives_if true old m out is on does =
    unless_spared (fault_if (not (message_fits m)) faults.PayloadTooLarge) (On old m) out (if_other (not (message_fits m)) faults.PayloadTooLarge tt) on does
receives_if false old m out is on does = absurd (true≢false (sym is))

pub receives_spared : (old : State) (m : Message) (out : Result Done PeerFault) → IsUsual m → IsExpected (accounts_of old) m
    → ((e : ℕ) → accounts.lowered_by (lowerable (accounts_of old)) m e ≤ count_of old.counts.exports e) → Receives old m out → IsSpared out
receives_spared old m out usual expected fits does = receives_if (is_supported m) old m out usual.0 (on_spared old m out usual expected fits) does

spared_at : (w : VatPair) (side : Side) (m : Message) (rest : List Message) (fault : PeerFault) → NextAgrees w side m rest → Receives (end_of w side).vat m (Err fault) → IsOther fault
spared_at w side m rest fault agree does =
    let next = next_by w side m rest agree in
    receives_spared (end_of w side).vat m (Err fault) agree.usual.0 next.expected next.fits does

pub are_spared : HoldsAlways AreSpared
are_spared = always_at AreSpared (λ w agree side m rest fault is. spared_at w side m rest fault (rw is at (agree side)))
