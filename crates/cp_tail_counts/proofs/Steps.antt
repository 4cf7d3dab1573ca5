-- What a step of an open vat does to its accounts.
use Rattle.std.specs.Prelude.{◌≡◌, refl, ℕ, ◌⊎◌, ◌++◌, ◌&&◌, not, if◌then◌else◌, Bool, true, false, List, [], ◌∷◌, Option, Some, None, is_some, is_none, IsTrue, Result, Ok, Err}
use Rattle.std.specs.List.{AllByRecursion}
use Rattle.std.specs.FinMap.{get}
use Rattle.std.proofs.Common.{arith, true≢false, ap, ◌∙◌, inl, inr}
use Rattle.cp_tables.specs.Counted.{count_of}
use Rattle.cp_tables.specs.Table.{Table}
use Rattle.cp_tables.specs.declared.counted.Counted.{Counted}
use Rattle.cp_tables.specs.declared.exchange.Exchange.{Exchange}
use Rattle.cp_tables.specs.declared.exchange.Stage.{Stage}
use Rattle.cp_tables.specs.declared.exchange.Stage.TheVariants as stages
use Rattle.cp_messages.specs.Written.{message_written}
use Rattle.cp_messages.specs.declared.descriptor.Descriptor.{Descriptor}
use Rattle.cp_messages.specs.declared.descriptor.Descriptor.TheVariants as descriptors
use Rattle.cp_messages.specs.declared.message.Message.{Message}
use Rattle.cp_messages.specs.declared.message.Message.TheVariants as messages
use Rattle.cp_messages.specs.declared.resolve.Resolution.{Resolution}
use Rattle.cp_messages.specs.declared.resolve.Resolution.TheVariants as resolutions
use Rattle.cp_messages.specs.declared.resolve.Resolve.{Resolve}
use Rattle.cp_messages.specs.declared.returned.Return.{Return}
use Rattle.cp_messages.specs.declared.small.Finish.{Finish}
use Rattle.cp_refs.specs.declared.cap.Cap.{Cap}
use Rattle.cp_vat_machine.specs.State.{State, with_exports}
use Rattle.cp_vat_machine.specs.Then.{Done, Then, Unless, fault_if}
use Rattle.cp_vat_machine.specs.Capacity.{Fresh, has_capacity, has_ticket, message_fits}
use Rattle.cp_vat_machine.specs.Supported.{is_supported}
use Rattle.cp_vat_machine.specs.Receiving.{release_exports, released}
use Rattle.cp_vat_machine.specs.Writing.{mentioned_by}
use Rattle.cp_vat_machine.specs.Answering.{is_answering, AtStage, FinishedBy, target_faults}
use Rattle.cp_vat_machine.specs.Asking.{is_asked, ReturnOf}
use Rattle.cp_vat_machine.specs.InUse.{is_import_used, is_promise_used, is_unsettled}
use Rattle.cp_vat_machine.specs.Doing.{without_import, without_promise}
use Rattle.cp_vat_machine.specs.Resolving.{release_of, given_back, releases_of, is_open_promise, TakeResolution, ResolveOf, told, UnknownToPeer}
use Rattle.cp_vat_machine.specs.Calling.{OwnDone}
use Rattle.cp_vat_machine.specs.Step.{On, ReceivesIf, Does, Follows, all_left, found_full, Step, was_closed, ran_out, refused, did, received, faulted}
use Rattle.cp_vat_machine.specs.declared.effect.Effect.{Effect}
use Rattle.cp_vat_machine.specs.declared.entry.AnswerEntry.{AnswerEntry}
use Rattle.cp_vat_machine.specs.declared.entry.ImportKind.{ImportKind}
use Rattle.cp_vat_machine.specs.declared.entry.QuestionEntry.{QuestionEntry}
use Rattle.cp_vat_machine.specs.declared.event.Event.{Event}
use Rattle.cp_vat_machine.specs.declared.event.Event.TheVariants as events
use Rattle.cp_vat_machine.specs.declared.event.Value.{Value}
use Rattle.cp_vat_machine.specs.declared.event.Value.TheVariants as values
use Rattle.cp_vat_machine.specs.declared.fault.PeerFault.{PeerFault}
use Rattle.cp_vat_machine.specs.declared.fault.PeerFault.TheVariants as faults
use Rattle.cp_vat_machine.specs.declared.fault.VatFault.{VatFault}
use Rattle.cp_vat_machine.specs.declared.fault.VatFault.TheVariants as refusals
use Rattle.cp_vat_machine.proofs.Basics.{ok_in, ok_out, then_out, unless_out, or_full_out, all_both}
use Rattle.cp_vat_pair_laws.specs.Accounts.{Accounts, accounts_of, asked_account, kept_account, Sent}
use Rattle.cp_vat_pair_laws.specs.Expected.{IsExpected, IsAwaited, IsKept}
use Rattle.cp_vat_pair_laws.specs.VatPair.{messages_sent}
use Rattle.cp_vat_pair_laws.specs.Lives.{IsOfKind, AreUsual}
use Rattle.cp_vat_pair_laws.specs.Posting.{Posts}
use Rattle.cp_vat_pair_laws.specs.Orderly.{IsOrderly}
use Rattle.cp_vat_pair_laws.proofs.counts.Moves.{closed_open}
use Rattle.cp_vat_pair_laws.proofs.counts.rules.TwoParts.{sends_both, hears_both}
use Rattle.cp_vat_pair_laws.proofs.counts.rules.Does.{does_goes}
use Rattle.cp_vat_pair_laws.proofs.counts.rules.Receives.{receives_heeds, follows_goes, echo_goes}
use Rattle.cp_tail_calls.specs.Serving.{is_message}
use Rattle.cp_tail_counts.specs.Behind.{Gets, KeepsParams}
use Rattle.cp_tail_counts.proofs.Quiet.{IsQuiet, AreQuiet, leave_quiet, call_quiet, bootstrap_quiet, gives_quiet, resolve_quiet, finish_quiet, come_quiet, opens_quiet, return_quiet, finished_quiet, disembargo_quiet}

-- ---- what is sent is supported
abbrev pub AreSupported : List Message → Type 0
AreSupported ms = AllByRecursion (λ m. IsTrue (is_supported m) × KeepsParams m) ms

params_of : (m : Message) → IsOfKind m → KeepsParams m
params_of (messages.Return r) kind = kind.0
params_of m kind = tt

supported_of : (ms : List Message) → AreUsual ms → AreSupported ms
supported_of [] usual = tt
supported_of (m ∷ ms) usual = ((usual.0.0, params_of m usual.0.1), supported_of ms usual.1)

-- ---- a message that is at no fault is expected
first_fault : {F : Type 0} {A : Type 0} (b : Bool) (fault : F) (more : List F) (Rule : Result A F → Type 0) (x : A) → Unless (fault_if b fault ++ more) Rule (Ok x) → b ≡ false
first_fault true fault more Rule x does = ok_out does
first_fault false fault more Rule x does = refl

first_of_three : {F : Type 0} {A : Type 0} (b : Bool) (fault : F) (more last : List F) (Rule : Result A F → Type 0) (x : A) → Unless (fault_if b fault ++ more ++ last) Rule (Ok x)
    → b ≡ false
first_of_three true fault more last Rule x does = ok_out does
first_of_three false fault more last Rule x does = refl

only_fault : {F : Type 0} {A : Type 0} (b : Bool) (fault : F) (Rule : Result A F → Type 0) (x : A) → Unless (fault_if b fault) Rule (Ok x) → b ≡ false
only_fault true fault Rule x does = ok_out does
only_fault false fault Rule x does = refl

not_answering : (o : Option (Exchange AnswerEntry)) → is_some o ≡ false → kept_account o ≡ None
not_answering None is = refl
not_answering (Some entry) is = absurd (true≢false is)

due_by : (is_sent : Bool) (stage : Stage) (kept : List ℕ) → not (is_asked is_sent stage) ≡ false
    → IsAwaited (if is_sent then Some (record { stage = stage; kept = kept }) else None)
due_by true stages.Open kept is = tt
due_by true stages.Finished kept is = tt
due_by true stages.Returned kept is = absurd (true≢false is)
due_by false stages.Open kept is = absurd (true≢false is)
due_by false stages.Finished kept is = absurd (true≢false is)
due_by false stages.Returned kept is = absurd (true≢false is)

return_due : (old : State) (r : Return) (o : Option (Exchange QuestionEntry)) (done : Done) → ReturnOf old r o (Ok done) → IsAwaited (asked_account o)
return_due old r None done does = ok_out does
return_due old r (Some entry) done does =
    due_by entry.kept.is_sent entry.stage entry.kept.mentions (only_fault (not (is_asked entry.kept.is_sent entry.stage)) faults.UnknownQuestion _ done does)

finish_due : (old : State) (f : Finish) (o : Option (Exchange AnswerEntry)) (done : Done) → FinishedBy old f o (Ok done) → IsKept (kept_account o)
finish_due old f None done does = ok_out does
finish_due old f (Some entry) done does = by entry.stage does
  where
    by : (stage : Stage) → AtStage old f entry.kept stage (Ok done) → IsKept (Some (record { stage = stage; kept = entry.kept.mentions }))
    by stages.Open does = tt
    by stages.Returned does = tt
    by stages.Finished does = ok_out does

on_expected : (old : State) (m : Message) (done : Done) → On old m (Ok done) → IsExpected (accounts_of old) m
on_expected old (messages.Call c) done does =
    not_answering (get old.entries.answers c.question_id) (first_of_three (is_answering old c.question_id) faults.QuestionInUse
    (target_faults old c.target) (fault_if (not (has_capacity old.entries.answers && has_ticket old)) faults.TableFull) _ done does)
on_expected old (messages.Bootstrap b) done does =
    not_answering (get old.entries.answers b.question_id) (first_fault (is_answering old b.question_id) faults.QuestionInUse (fault_if (not (has_capacity old.entries.answers)) faults.TableFull) _ done does)
on_expected old (messages.Return r) done does = return_due old r (get old.entries.questions r.answer_id) done does
on_expected old (messages.Finish f) done does = finish_due old f (get old.entries.answers f.question_id) done does
on_expected old (messages.Unimplemented t) done does = tt
on_expected old (messages.Abort x) done does = tt
on_expected old (messages.Resolve r) done does = tt
on_expected old (messages.Release r) done does = tt
on_expected old (messages.Disembargo d) done does = tt
on_expected old (messages.Other which body) done does = tt

-- ---- imports that are given back
-- nothing is, or the import that a Resolve named which came too late
abbrev pub Late : Message → List Effect → Type 0
Late (messages.Resolve x) by = (i : ℕ) × (rest : List Effect) × (given_back x.resolution ≡ i ∷ []) × (by ≡ release_of i 1 ∷ rest) × AreQuiet rest
Late m by = ⊥

late_by : (x : Resolve) (ids : List ℕ) (rest : List Effect) → given_back x.resolution ≡ ids → AreQuiet rest → ids ≡ [] ⊎ ((i : ℕ) × (ids ≡ i ∷ []))
    → AreQuiet (releases_of ids ++ rest) ⊎ Late (messages.Resolve x) (releases_of ids ++ rest)
late_by x ids rest named quiet (inl none) = inl (rw (none) quiet)
late_by x ids rest named quiet (inr one) = inr (one.0, rest, named ∙ one.1, ap (λ (ids : List ℕ). releases_of ids ++ rest) one.1, quiet)

one_named : (x : Resolve) → given_back x.resolution ≡ [] ⊎ ((i : ℕ) × (given_back x.resolution ≡ i ∷ []))
one_named x = by x.resolution
  where
    by_descriptor : (d : Descriptor) → mentioned_by d ≡ [] ⊎ ((i : ℕ) × (mentioned_by d ≡ i ∷ []))
    by_descriptor (descriptors.SenderHosted i) = inr (i, refl)
    by_descriptor (descriptors.SenderPromise i) = inr (i, refl)
    by_descriptor other = inl refl

    by : (resolution : Resolution) → given_back resolution ≡ [] ⊎ ((i : ℕ) × (given_back resolution ≡ i ∷ []))
    by (resolutions.Cap d) = by_descriptor d
    by other = inl refl

resolve_gives : (old : State) (x : Resolve) (o : Option (Counted ImportKind)) (done : Done) (rest : List Effect) → ResolveOf old x o (Ok done) → AreQuiet rest
    → AreQuiet (done.0 ++ rest) ⊎ Late (messages.Resolve x) (done.0 ++ rest)
resolve_gives old x None done rest does quiet = rw (ok_in _ _ does) (late_by x (given_back x.resolution) rest refl quiet (one_named x))
resolve_gives old x (Some entry) done rest does quiet =
    let rule = unless_out {A = Done} {F = PeerFault}
    (fault_if (not (is_open_promise entry.kept (get old.values.imports x.promise_id))) faults.NotAnOpenPromise) _ done does in
    let parts = then_out {A = Cap × State} {B = Done} (TakeResolution old x.resolution) _ done rule in
    inl (rw (ok_in _ _ parts.2) quiet)

unknown_quiet : (old : State) (o : Option Message) (done : Done) → UnknownToPeer old o (Ok done) → AreQuiet done.0
unknown_quiet old (Some (messages.Resolve r)) done does =
    let parts = then_out {A = Table (Counted Cap)} {B = Done} (λ exports. exports ≡ release_exports old.counts.exports (given_back r.resolution)) _ done does in
    rw (ok_in _ _ parts.2) tt
unknown_quiet old None done does = ok_out does
unknown_quiet old (Some m) done does = ok_out does

release_quiet : (old : State) (i n : ℕ) (done : Done) → Then (λ exports. exports ≡ released old.counts.exports i n) (λ exports out. out ≡ Ok ([], with_exports old exports)) (Ok done)
    → AreQuiet done.0
release_quiet old i n done does =
    let parts = then_out {A = Table (Counted Cap)} {B = Done} (λ exports. exports ≡ released old.counts.exports i n) _ done does in
    rw (ok_in _ _ parts.2) tt

on_gives : (old : State) (m : Message) (done : Done) (rest : List Effect) → On old m (Ok done) → AreQuiet rest → AreQuiet (done.0 ++ rest) ⊎ Late m (done.0 ++ rest)
on_gives old (messages.Call c) done rest does quiet = inl (all_both IsQuiet done.0 rest (come_quiet old c done does) quiet)
on_gives old (messages.Bootstrap b) done rest does quiet = inl (all_both IsQuiet done.0 rest (opens_quiet old b.question_id done does) quiet)
on_gives old (messages.Return r) done rest does quiet =
    inl (all_both IsQuiet done.0 rest (return_quiet old r (get old.entries.questions r.answer_id) done does) quiet)
on_gives old (messages.Finish f) done rest does quiet =
    inl (all_both IsQuiet done.0 rest (finished_quiet old f (get old.entries.answers f.question_id) done does) quiet)
on_gives old (messages.Resolve r) done rest does quiet = resolve_gives old r (get old.counts.imports r.promise_id) done rest does quiet
on_gives old (messages.Release r) done rest does quiet = inl (all_both IsQuiet done.0 rest (release_quiet old r.id r.reference_count done does) quiet)
on_gives old (messages.Disembargo d) done rest does quiet = inl (all_both IsQuiet done.0 rest (disembargo_quiet old d.context d.target done does) quiet)
on_gives old (messages.Unimplemented t) done rest does quiet = inl (all_both IsQuiet done.0 rest (unknown_quiet old (told t) done does) quiet)
on_gives old (messages.Abort x) done rest does quiet = inl (rw (ok_in _ _ does) (tt, quiet))
on_gives old (messages.Other which body) done rest does quiet = absurd does

follows_quiet : (mid new : State) (rest : List Effect) → new.is_closed ≡ false → Follows mid rest new → AreQuiet rest
follows_quiet mid new rest open_ (all_left left) = leave_quiet left
follows_quiet mid new rest open_ (found_full left all shut) = closed_open shut open_

-- ---- a message comes
pub record Hears (old new : State) (m : Message) (by : List Effect) : Type 0 where
  pub mid : Accounts
  pub gets : Gets (accounts_of old) m mid
  pub posts : Posts mid (messages_sent by) (accounts_of new)
  pub supported : AreSupported (messages_sent by)
  pub gives : AreQuiet by ⊎ (IsTrue (is_supported m) × Late m by)
  pub orderly : IsOrderly new

hears_if : (b : Bool) (old mid new : State) (m : Message) (first rest : List Effect) → is_supported m ≡ b → IsOrderly old → new.is_closed ≡ false
    → ReceivesIf b old m (Ok (first, mid)) → Follows mid rest new → Hears old new m (first ++ rest)
hears_if true old mid new m first rest supported orderly open_ does follows =
    let on = unless_out {A = Done} {F = PeerFault} (fault_if (not (message_fits m)) faults.PayloadTooLarge) (On old m) (first, mid) does in
    let heeds = receives_heeds old m (first, mid) supported orderly (rw (supported) does) in
    let goes = follows_goes mid new rest open_ heeds.1 follows in
    let all = hears_both old mid new m first rest heeds.0 goes.0 in
    record {
      mid = all.mid;
      gets = rw (supported) (on_expected old m (first, mid) on, all.came);
      posts = all.posts;
      supported = supported_of (messages_sent (first ++ rest)) all.usual;
      gives = by (on_gives old m (first, mid) rest on (follows_quiet mid new rest open_ follows));
      orderly = goes.1;
    }
  where
    by : AreQuiet (first ++ rest) ⊎ Late m (first ++ rest) → AreQuiet (first ++ rest) ⊎ (IsTrue (is_supported m) × Late m (first ++ rest))
    by (inl quiet) = inl quiet
    by (inr late) = inr (supported, late)
hears_if false old mid new m first rest supported orderly open_ does follows =
    let echo = echo_goes old m (first, mid) does in
    let goes = follows_goes mid new rest open_ (rw (echo.0) orderly) follows in
    record {
      mid = accounts_of old;
      gets = rw (supported) refl;
      posts = rw (echo.1) (accounts_of mid, rw (echo.0) (echo_sent (accounts_of old) m), goes.0.posts);
      supported = rw (echo.1) ((refl, tt), supported_of (messages_sent rest) goes.0.usual);
      gives = inl (rw (echo.1) (tt, follows_quiet mid new rest open_ follows));
      orderly = goes.1;
    }
  where
    echo_sent : (accounts : Accounts) (m : Message) → Sent accounts (messages.Unimplemented (message_written m)) accounts
    echo_sent accounts m = record { exports = λ e. omega arith; imports = λ i. omega arith; questions = λ q. refl; answers = λ a. refl }

abbrev HearsAs : State → State → Event → Result Value VatFault → List Effect → Type 0
HearsAs old new (events.Receive m) (Ok value) by = Hears old new m by
HearsAs old new event result by = Unit {0}

hears_step : {old new : State} {event : Event} {result : Result Value VatFault} {by : List Effect} → IsOrderly old → new.is_closed ≡ false → Step old event result by new
    → HearsAs old new event result by
hears_step orderly open_ (was_closed event shut) = closed_open shut open_
hears_step orderly open_ (ran_out event was shut) = closed_open shut open_
hears_step {old = old} orderly open_ (refused {fault = fault} event was does) = by event does
  where
    by : (event : Event) → Does old event (Err fault) → HearsAs old old event (Err fault) []
    by (events.Receive m) does = tt
    by other does = tt
hears_step {old = old} {new = new} orderly open_ (did {value = value} {all = all} event first rest mid was does follows same) = by event does
  where
    by : (event : Event) → Does old event (Ok (value, first, mid)) → HearsAs old new event (Ok value) all
    by (events.Receive m) does = absurd does
    by other does = tt
hears_step {old = old} {new = new} orderly open_ (received m first rest mid was does follows same) =
    rw (same) (hears_if (is_supported m) old mid new m first rest refl orderly open_ does follows)
hears_step orderly open_ (faulted m was does shut) = closed_open shut open_

pub hears : (old new : State) (m : Message) (by : List Effect) (value : Value) → IsOrderly old → new.is_closed ≡ false → Step old (events.Receive m) (Ok value) by new → Hears old new m by
hears old new m by value orderly open_ step = hears_step orderly open_ step

-- ---- the application calls
-- nothing is given back, or an import with its whole count
pub record Whole (old : State) (by : List Effect) : Type 0 where
  pub import_ : ℕ
  pub rest : List Effect
  pub first : by ≡ release_of import_ (count_of old.counts.imports import_) ∷ rest
  pub quiet : AreQuiet rest

pub record Acts (old new : State) (by : List Effect) : Type 0 where
  pub posts : Posts (accounts_of old) (messages_sent by) (accounts_of new)
  pub supported : AreSupported (messages_sent by)
  pub gives : AreQuiet by ⊎ Whole old by
  pub orderly : IsOrderly new

does_gives : (old : State) (event : Event) (value : Value) (first rest : List Effect) (mid : State) → Does old event (Ok (value, first, mid)) → AreQuiet rest
    → AreQuiet (first ++ rest) ⊎ Whole old (first ++ rest)
does_gives old (events.Receive m) value first rest mid does quiet = absurd does
does_gives old events.Bootstrap value first rest mid does quiet = inl (all_both IsQuiet first rest (bootstrap_quiet old (value, first, mid) does) quiet)
does_gives old (events.Call cap request) value first rest mid does quiet = inl (all_both IsQuiet first rest (call_quiet old cap request (value, first, mid) does) quiet)
does_gives old (events.Answer origin outcome) value first rest mid does quiet =
    inl (all_both IsQuiet first rest (gives_quiet old origin outcome (value, first, mid) does) quiet)
does_gives old events.Promise value first rest mid does quiet =
    let parts = then_out {A = ℕ} {B = OwnDone} (Fresh old.values.promises) _ (value, first, mid) (or_full_out _ _ does) in
    inl (rw (ap (λ (done : OwnDone). done.1) (ok_in _ _ parts.2)) quiet)
does_gives old (events.Resolve p cap) value first rest mid does quiet = inl (all_both IsQuiet first rest (resolve_quiet old p cap (value, first, mid) does) quiet)
does_gives old (events.Finish q) value first rest mid does quiet = inl (all_both IsQuiet first rest (finish_quiet old q (value, first, mid) does) quiet)
does_gives old (events.Release i) value first rest mid does quiet =
    let is = unless_out {A = OwnDone} {F = VatFault}
    (fault_if (is_import_used old i) refusals.InUse ++ fault_if (is_none (get old.counts.imports i)) refusals.UnknownImport)
    (λ out. out ≡ Ok (values.Nothing, release_of i (count_of old.counts.imports i) ∷ [], without_import old i)) (value, first, mid) does in
    inr (
    record {
      import_ = i;
      rest = rest;
      first = ap (λ (done : OwnDone). done.1 ++ rest) (ok_in _ _ is);
      quiet = quiet;
    }
    )
does_gives old (events.Forget p) value first rest mid does quiet =
    let is = unless_out {A = OwnDone} {F = VatFault}
    (fault_if (is_none (get old.values.promises p)) refusals.UnknownPromise ++ fault_if (is_unsettled (get old.values.promises p)) refusals.Unsettled
    ++ fault_if (is_promise_used old p) refusals.InUse)
    (λ out. out ≡ Ok (values.Nothing, [], without_promise old p)) (value, first, mid) does in
    inl (rw (ap (λ (done : OwnDone). done.1) (ok_in _ _ is)) quiet)
does_gives old events.Idle value first rest mid does quiet = inl (rw (ap (λ (done : OwnDone). done.1) (ok_in _ _ does)) quiet)

abbrev ActsBy : Result Value VatFault → State → State → List Effect → Type 0
ActsBy (Ok value) old new by = Acts old new by
ActsBy (Err fault) old new by = Unit {0}

acts_step : {old new : State} {event : Event} {result : Result Value VatFault} {by : List Effect} → IsOrderly old → new.is_closed ≡ false → is_message event ≡ false
    → Step old event result by new → ActsBy result old new by
acts_step orderly open_ call (was_closed event shut) = tt
acts_step orderly open_ call (ran_out event was shut) = tt
acts_step orderly open_ call (refused event was does) = tt
acts_step {old = old} {new = new} orderly open_ call (did {value = value} event first rest mid was does follows same) =
    let goes = does_goes old event (value, first, mid) orderly does in
    let on = follows_goes mid new rest open_ goes.1 follows in
    let all = sends_both old mid new first rest goes.0 on.0 in
    rw
    (same)
    (record {
      posts = all.posts;
      supported = supported_of (messages_sent (first ++ rest)) all.usual;
      gives = does_gives old event value first rest mid does (follows_quiet mid new rest open_ follows);
      orderly = on.1;
    })
acts_step orderly open_ call (received m first rest mid was does follows same) = absurd (true≢false call)
acts_step orderly open_ call (faulted m was does shut) = absurd (true≢false call)

pub acts : (old new : State) (event : Event) (by : List Effect) (value : Value) → IsOrderly old → new.is_closed ≡ false → is_message event ≡ false
    → Step old event (Ok value) by new → Acts old new by
acts old new event by value orderly open_ call step = acts_step orderly open_ call step
