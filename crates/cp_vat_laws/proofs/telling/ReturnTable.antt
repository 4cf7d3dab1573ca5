-- What a Return bears is taken in as the outcome that is given.
use Rattle.std.specs.Prelude.{◌≡◌, refl, ℕ, ◌+◌, ◌==◌, ltb, Bool, true, false, if◌then◌else◌, List, [], ◌∷◌, Option, Some, None, Result, Ok, Err}
use Rattle.std.specs.List.{AllZip, Contains}
use Rattle.std.specs.Option.{option_map}
use Rattle.std.specs.FinMap.{get, insert}
use Rattle.std.proofs.Common.{arith, ap, subst, sym, ◌∙◌}
use Rattle.std.proofs.lemmas.List.Elements.{Contains-append_left, Contains-append_right}
use Rattle.cp_tables.specs.declared.counted.Counted.{Counted}
use Rattle.cp_tables.specs.declared.exchange.Exchange.{Exchange}
use Rattle.cp_tables.specs.declared.exchange.Stage.{Stage}
use Rattle.cp_messages.specs.declared.descriptor.Descriptor.{Descriptor}
use Rattle.cp_messages.specs.declared.descriptor.Descriptor.TheVariants as descriptors
use Rattle.cp_messages.specs.declared.returned.Returned.{Returned}
use Rattle.cp_messages.specs.declared.returned.Returned.TheVariants as returns
use Rattle.cp_refs.specs.declared.cap.Cap.{Cap}
use Rattle.cp_refs.specs.declared.cap.Cap.TheVariants as caps
use Rattle.cp_refs.specs.declared.outcome.Outcome.{Outcome}
use Rattle.cp_vat_machine.specs.State.{State}
use Rattle.cp_vat_machine.specs.Then.{Then}
use Rattle.cp_vat_machine.specs.Capacity.{has_capacity, Fresh}
use Rattle.cp_vat_machine.specs.Writing.{IsExport}
use Rattle.cp_vat_machine.specs.Receiving.{path_of, held_once_more, held_import, unfinished, answer_by, answer_of, tie, tied, ReceivesAnswer, taken_export, ReceivesCap, ReceivesCaps}
use Rattle.cp_vat_machine.specs.Asking.{ReceivesReturned}
use Rattle.cp_vat_machine.specs.Trace.{Turn}
use Rattle.cp_vat_machine.specs.Telling.{is_finished, was_finished, IsNewPromise, IsTiedAs, EachHasItsOwn, TakenAnswer, TakenAs, Brings}
use Rattle.cp_vat_machine.specs.declared.entry.AnswerEntry.{AnswerEntry}
use Rattle.cp_vat_machine.specs.declared.entry.ImportKind.{ImportKind}
use Rattle.cp_vat_machine.specs.declared.entry.ImportKind.TheVariants as kinds
use Rattle.cp_vat_machine.specs.declared.entry.Tied.{Tied}
use Rattle.cp_vat_machine.specs.declared.fault.PeerFault.{PeerFault}
use Rattle.cp_vat_machine.specs.declared.fault.PeerFault.TheVariants as faults
use Rattle.cp_vat_machine.proofs.Basics.{some_out, none_out, is_equal, is_itself, ok_in, ok_out, then_out, put_at}
use Rattle.cp_vat_laws.proofs.order.Call.{free_at}

-- the stage of an answer
abbrev pub stage_of : Option (Exchange AnswerEntry) → Option Stage
stage_of o = option_map (λ entry. entry.stage) o

abbrev by_stage : Option Stage → Option (Option Outcome) → Option (Option Outcome)
by_stage None v = None
by_stage (Some stage) v = unfinished stage v

stage_answers : (o : Option (Exchange AnswerEntry)) (v : Option (Option Outcome)) → answer_by o v ≡ by_stage (stage_of o) v
stage_answers None v = refl
stage_answers (Some entry) v = refl

abbrev stage_finished : Option Stage → Bool
stage_finished None = false
stage_finished (Some stage) = is_finished stage

stage_was : (o : Option (Exchange AnswerEntry)) → was_finished o ≡ stage_finished (stage_of o)
stage_was None = refl
stage_was (Some entry) = refl

pub same_finished : (o p : Option (Exchange AnswerEntry)) → stage_of o ≡ stage_of p → was_finished o ≡ was_finished p
same_finished o p same = stage_was o ∙ ap stage_finished same ∙ sym (stage_was p)

-- What was taken in since a state: exports are of what they were, promises that came are open, and answers are at their stages.
pub record IsSince (old s : State) : Type 0 where
  pub exports : (e : ℕ) (entry : Counted Cap) → get s.counts.exports e ≡ Some entry → IsExport old e entry.kept
  pub promises : (p : ℕ) (x : Option Cap) → get old.values.promises p ≡ Some x → get s.values.promises p ≡ Some x
  pub settled : (p : ℕ) (v : Cap) → get s.values.promises p ≡ Some (Some v) → get old.values.promises p ≡ Some (Some v)
  pub answers : s.values.answers ≡ old.values.answers
  pub questions : s.values.questions ≡ old.values.questions
  pub stages : (a : ℕ) → stage_of (get s.entries.answers a) ≡ stage_of (get old.entries.answers a)

-- what is tied to an answer stays so
abbrev pub TiedStay : State → State → Type 0
TiedStay s t =
    (a : ℕ) (entry : Exchange AnswerEntry) (x : Tied) → get s.entries.answers a ≡ Some entry → Contains entry.kept.tied x
    → (later : Exchange AnswerEntry) × (get t.entries.answers a ≡ Some later) × Contains later.kept.tied x

tied_not : (s : State) → TiedStay s s
tied_not s a entry x is has = (entry, is, has)

tied_both : (s t u : State) → TiedStay s t → TiedStay t u → TiedStay s u
tied_both s t u one more a entry x is has = let first = one a entry x is has in more a first.0 x first.1 first.2

-- and it does so until the turn ends, while it is open
abbrev pub TiedLast : State → State → Type 0
TiedLast s last =
    (a : ℕ) (entry : Exchange AnswerEntry) (x : Tied) → get s.entries.answers a ≡ Some entry → Contains entry.kept.tied x → get last.values.promises x.promise ≡ Some None
    → (later : Exchange AnswerEntry) × (get last.entries.answers a ≡ Some later) × Contains later.kept.tied x

last_then : (s t last : State) → TiedStay s t → TiedLast t last → TiedLast s last
last_then s t last stay end a entry x is has open_ = let first = stay a entry x is has in end a first.0 x first.1 first.2 open_

-- An import is held once more.
held_since : (old s : State) (i : ℕ) (kind : ImportKind) (o : Option (Counted ImportKind)) (new : State) → IsSince old s → Ok new ≡ held_once_more s i kind o → IsSince old new × TiedStay s new
held_since old s i kind (Some entry) new since is = by (ltb entry.count 4294967295) is
  where
    by : (b : Bool) → Ok new
        ≡ (if b then Ok (record s { counts = record s.counts { imports = insert s.counts.imports i (record entry { count = entry.count + 1 }) } }) else Err faults.TableFull)
        → IsSince old new × TiedStay s new
    by true e =
        rw (ok_in _ _ e) (
          record {
            exports = since.exports;
            promises = since.promises;
            settled = since.settled;
            answers = since.answers;
            questions = since.questions;
            stages = since.stages;
          },
          λ a entry x is has. (entry, is, has),
        )
    by false e = ok_out e
held_since old s i kind None new since is = by (has_capacity s.counts.imports) is
  where
    by : (b : Bool) → Ok new
        ≡ (if b then Ok (
        record s {
          counts = record s.counts { imports = insert s.counts.imports i (Rattle.cp_tables.specs.Counted.new_counted kind) };
          values = record s.values { imports = insert s.values.imports i None };
        }
        ) else Err faults.TableFull)
        → IsSince old new × TiedStay s new
    by true e =
        rw (ok_in _ _ e) (
          record {
            exports = since.exports;
            promises = since.promises;
            settled = since.settled;
            answers = since.answers;
            questions = since.questions;
            stages = since.stages;
          },
          λ a entry x is has. (entry, is, has),
        )
    by false e = ok_out e

-- A new promise is tied to an answer.
module _ (old s : State) (a : ℕ) (path : List ℕ) (p : ℕ) (entry : Exchange AnswerEntry) (is : get s.entries.answers a ≡ Some entry) (unused : get s.values.promises p ≡ None)
    (since : IsSince old s) where
  abbrev new_tied : Tied
  new_tied = record { promise = p; path = path }

  abbrev changed : Exchange AnswerEntry
  changed = record entry { kept = tie p path entry.kept }

  answers_are : (tied s a path p).entries.answers ≡ insert s.entries.answers a changed
  answers_are = rw (is) refl

  tied_promises : (q : ℕ) (b : Bool) → (p == q) ≡ b → (x : Option Cap) → get old.values.promises q ≡ Some x → get (insert s.values.promises p None) q ≡ Some x
  tied_promises q true e x at = none_out (sym unused ∙ ap (λ n. get s.values.promises n) (is_equal p q e) ∙ since.promises q x at)
  tied_promises q false e x at = put_at s.values.promises p q None false e ∙ since.promises q x at

  tied_settled : (q : ℕ) (b : Bool) → (p == q) ≡ b → (v : Cap) → get (insert s.values.promises p None) q ≡ Some (Some v) → get old.values.promises q ≡ Some (Some v)
  tied_settled q true e v at = none_out (some_out (sym (put_at s.values.promises p q None true e) ∙ at))
  tied_settled q false e v at = since.settled q v (sym (put_at s.values.promises p q None false e) ∙ at)

  tied_stages : (b : ℕ) (c : Bool) → (a == b) ≡ c → stage_of (get (insert s.entries.answers a changed) b) ≡ stage_of (get old.entries.answers b)
  tied_stages b true e =
      ap stage_of (put_at s.entries.answers a b changed true e) ∙ sym (ap stage_of is) ∙ ap (λ n. stage_of (get s.entries.answers n)) (is_equal a b e) ∙ since.stages b
  tied_stages b false e = ap stage_of (put_at s.entries.answers a b changed false e) ∙ since.stages b

  tied_since : IsSince old (tied s a path p)
  tied_since =
      record {
        exports = since.exports;
        promises = λ q x at. tied_promises q (p == q) refl x at;
        settled = λ q v at. tied_settled q (p == q) refl v at;
        answers = since.answers;
        questions = since.questions;
        stages = λ b. ap (λ t. stage_of (get t b)) answers_are ∙ tied_stages b (a == b) refl;
      }

  stay_by : (b : ℕ) (c : Bool) → (a == b) ≡ c → (was : Exchange AnswerEntry) (x : Tied) → get s.entries.answers b ≡ Some was → Contains was.kept.tied x
      → (later : Exchange AnswerEntry) × (get (insert s.entries.answers a changed) b ≡ Some later) × Contains later.kept.tied x
  stay_by b true e was x at has =
      let same : was ≡ entry = some_out (sym at ∙ ap (λ n. get s.entries.answers n) (sym (is_equal a b e)) ∙ is) in
      (changed, put_at s.entries.answers a b changed true e, Contains-append_left entry.kept.tied (new_tied ∷ []) x (subst (λ w. Contains w.kept.tied x) same has))
  stay_by b false e was x at has = (was, put_at s.entries.answers a b changed false e ∙ at, has)

  tied_stay : TiedStay s (tied s a path p)
  tied_stay b was x at has =
      let there = stay_by b (a == b) refl was x at has in
      (there.0, ap (λ t. get t b) answers_are ∙ there.1, there.2)

  now_tied : (later : Exchange AnswerEntry) × (get (tied s a path p).entries.answers a ≡ Some later) × Contains later.kept.tied new_tied
  now_tied = (
    changed,
    ap (λ t. get t a) answers_are ∙ put_at s.entries.answers a a changed true (is_itself a),
    Contains-append_right entry.kept.tied (new_tied ∷ []) new_tied (0, omega arith, refl),
  )

-- an answer that isn't given has an entry
has_entry : (o : Option (Exchange AnswerEntry)) (v : Option (Option Outcome)) (x : Option Outcome) → answer_by o v ≡ Some x → (entry : Exchange AnswerEntry) × (o ≡ Some entry)
has_entry None v x e = none_out e
has_entry (Some entry) v x e = (entry, refl)

answer_since : (old s : State) (a : ℕ) → IsSince old s → answer_of old a ≡ answer_of s a
answer_since old s a since =
    stage_answers (get old.entries.answers a) (get old.values.answers a) ∙ ap (λ o. by_stage o (get old.values.answers a)) (sym (since.stages a))
    ∙ ap (λ t. by_stage (stage_of (get s.entries.answers a)) (get t a)) (sym since.answers) ∙ sym (stage_answers (get s.entries.answers a) (get s.values.answers a))

absent : (old s : State) (p : ℕ) → IsSince old s → get s.values.promises p ≡ None → (o : Option (Option Cap)) → get old.values.promises p ≡ o → o ≡ None
absent old s p since unused None is = refl
absent old s p since unused (Some x) is = none_out (sym unused ∙ since.promises p x is)

-- Each descriptor is taken in as its capability.
abbrev Taken : Turn → State → Descriptor → Cap × State → Type 0
Taken turn s d taken = IsSince turn.before taken.1 × TiedStay s taken.1 × (TiedLast taken.1 turn.after → TakenAs turn d taken.0)

module _ (turn : Turn) where
  tied_taken : (s : State) (a : ℕ) (path : List ℕ) (p : ℕ) → IsSince turn.before s → answer_of s a ≡ Some None → get s.values.promises p ≡ None
      → IsSince turn.before (tied s a path p) × TiedStay s (tied s a path p)
      × (TiedLast (tied s a path p) turn.after → (q : ℕ) × (◌≡◌ {A = Cap} (caps.Promise p) (caps.Promise q)) × IsNewPromise turn a path q)
  tied_taken s a path p since at unused =
      let entry = has_entry (get s.entries.answers a) (get s.values.answers a) None at in
      let now = now_tied turn.before s a path p entry.0 entry.1 unused since in (
        tied_since turn.before s a path p entry.0 entry.1 unused since,
        tied_stay turn.before s a path p entry.0 entry.1 unused since,
        λ last. (
          p,
          refl,
          (
            absent turn.before s p since unused (get turn.before.values.promises p) refl,
            λ open_. last a now.0 (record { promise = p; path = path }) now.1 now.2 open_,
          ),
        ),
      )

  answer_taken : (s : State) (a : ℕ) (path : List ℕ) (o : Option (Option Outcome)) (taken : Cap × State) → IsSince turn.before s → answer_of s a ≡ o → ReceivesAnswer s a path o (Ok taken)
      → IsSince turn.before taken.1 × TiedStay s taken.1 × (TiedLast taken.1 turn.after → TakenAnswer turn a path o taken.0)
  answer_taken s a path None taken since at is = ok_out is
  answer_taken s a path (Some (Some outcome)) taken since at is = rw (ok_in _ _ is) (since, tied_not s, λ last. refl)
  answer_taken s a path (Some None) taken since at is =
      let parts = then_out {A = ℕ} {B = Cap × State} (Fresh s.values.promises) _ taken is in
      rw (ok_in _ _ parts.2) (tied_taken s a path parts.0 since at (free_at s.values.promises parts.0 parts.1))

  export_taken : (s : State) (e : ℕ) (o : Option (Counted Cap)) (taken : Cap × State) → IsSince turn.before s → get s.counts.exports e ≡ o → Ok taken ≡ taken_export s o
      → Taken turn s (descriptors.ReceiverHosted e) taken
  export_taken s e None taken since at is = ok_out is
  export_taken s e (Some entry) taken since at is = rw (ok_in _ _ is) (since, tied_not s, λ last. since.exports e entry at)

  import_taken : (s : State) (i : ℕ) (kind : ImportKind) (taken : Cap × State) → IsSince turn.before s
      → Then (λ (held : Result State PeerFault). held ≡ held_import s i kind) (λ new out. out ≡ Ok (caps.Import i, new)) (Ok taken)
      → IsSince turn.before taken.1 × TiedStay s taken.1 × (taken.0 ≡ caps.Import i)
  import_taken s i kind taken since is =
      let parts = then_out {A = State} {B = Cap × State} (λ held. held ≡ held_import s i kind) _ taken is in
      let held = held_since turn.before s i kind (get s.counts.imports i) parts.0 since parts.1 in
      rw (ok_in _ _ parts.2) (held.0, held.1, refl)

  take_taken : (s : State) (d : Descriptor) (taken : Cap × State) → IsSince turn.before s → ReceivesCap s d (Ok taken) → Taken turn s d taken
  take_taken s descriptors.None taken since is = rw (ok_in _ _ is) (since, tied_not s, λ last. refl)
  take_taken s (descriptors.SenderHosted i) taken since is = let held = import_taken s i kinds.Hosted taken since is in (held.0, held.1, λ last. held.2)
  take_taken s (descriptors.SenderPromise i) taken since is = let held = import_taken s i kinds.Promise taken since is in (held.0, held.1, λ last. held.2)
  take_taken s (descriptors.ReceiverHosted e) taken since is = export_taken s e (get s.counts.exports e) taken since refl is
  take_taken s (descriptors.ReceiverAnswer answer) taken since is =
      let a = answer.question_id in
      let path = path_of answer.transform in
      let there = answer_taken s a path (answer_of s a) taken since refl is in
      (there.0, there.1, λ last. subst (λ o. TakenAnswer turn a path o taken.0) (sym (answer_since turn.before s a since)) (there.2 last))
  take_taken s (descriptors.ThirdPartyHosted t) taken since is = absurd is
  take_taken s (descriptors.Unknown n) taken since is = absurd is

-- every state is since itself
since_self : (s : State) → IsSince s s
since_self s = record { exports = λ e entry at. (entry.count, at); promises = λ p x at. at; settled = λ p v at. at; answers = refl; questions = refl; stages = λ a. refl }

-- a promise stays as it is while a descriptor is taken in
promises_stay : (turn : Turn) (s : State) (d : Descriptor) (taken : Cap × State) → ReceivesCap s d (Ok taken) → (p : ℕ) (x : Option Cap) → get s.values.promises p ≡ Some x → get taken.1.values.promises p ≡ Some x
promises_stay turn s d taken is = (take_taken (record turn { before = s }) s d taken (since_self s) is).0.promises

module _ (turn : Turn) where
  -- A receiverAnswer of an answer that wasn't given is taken in as a promise that was free, and is open then.
  tied_new : (s : State) (d : Descriptor) (taken : Cap × State) (p : ℕ) → IsSince turn.before s → ReceivesCap s d (Ok taken) → IsTiedAs turn d taken.0 p
      → (get s.values.promises p ≡ None) × (get taken.1.values.promises p ≡ Some None)
  tied_new s (descriptors.ReceiverAnswer answer) taken p since is tie =
      let a = answer.question_id in
      let path = path_of answer.transform in
      let there = subst (λ o. ReceivesAnswer s a path o (Ok taken)) (sym (answer_since turn.before s a since) ∙ tie.0) is in
      let parts = then_out {A = ℕ} {B = Cap × State} (Fresh s.values.promises) (λ q out. out ≡ Ok (caps.Promise q, tied s a path q)) taken there in
      let made : taken ≡ (caps.Promise parts.0, tied s a path parts.0) = ok_in _ _ parts.2 in
      let same_cap : ◌≡◌ {A = Cap} (caps.Promise parts.0) (caps.Promise p) = sym (ap (λ (x : Cap × State). x.0) made) ∙ tie.1 in
      let same : parts.0 ≡ p = cc in (
        subst (λ q. get s.values.promises q ≡ None) same (free_at s.values.promises parts.0 parts.1),
        ap (λ (x : Cap × State). get x.1.values.promises p) made
            ∙ subst (λ q. get (insert s.values.promises parts.0 None) q ≡ Some None) same (put_at s.values.promises parts.0 parts.0 None true (is_itself parts.0)),
      )
  tied_new s descriptors.None taken p since is tie = absurd tie
  tied_new s (descriptors.SenderHosted i) taken p since is tie = absurd tie
  tied_new s (descriptors.SenderPromise i) taken p since is tie = absurd tie
  tied_new s (descriptors.ReceiverHosted e) taken p since is tie = absurd tie
  tied_new s (descriptors.ThirdPartyHosted t) taken p since is tie = absurd tie
  tied_new s (descriptors.Unknown n) taken p since is tie = absurd tie

  -- none is taken in as a promise that exists
  none_tied : (table : List Descriptor) (s : State) (taken : List Cap × State) (p : ℕ) → IsSince turn.before s → get s.values.promises p ≡ Some None → ReceivesCaps s table (Ok taken)
      → AllZip (λ d cap. ¬ (IsTiedAs turn d cap p)) table taken.0
  none_tied [] s taken p since there is = rw (ok_in _ _ is) tt
  none_tied (d ∷ table) s taken p since there is =
      let first = then_out {A = Cap × State} {B = List Cap × State} (ReceivesCap s d) _ taken is in
      let rest = then_out {A = List Cap × State} {B = List Cap × State} (ReceivesCaps first.0.1 table) _ taken first.2 in
      let here = take_taken turn s d first.0 since first.1 in
      let more = none_tied table first.0.1 rest.0 p here.0 (promises_stay turn s d first.0 first.1 p None there) rest.1 in
      rw (ok_in _ _ rest.2) (λ tie. none_out (sym (tied_new s d first.0 p since first.1 tie).0 ∙ there), more)

  pub all_taken : (table : List Descriptor) (s : State) (taken : List Cap × State) → IsSince turn.before s → ReceivesCaps s table (Ok taken)
      → IsSince turn.before taken.1 × TiedStay s taken.1 × (TiedLast taken.1 turn.after → AllZip (TakenAs turn) table taken.0) × EachHasItsOwn turn table taken.0
  all_taken [] s taken since is = rw (ok_in _ _ is) (since, tied_not s, λ last. tt, tt)
  all_taken (d ∷ table) s taken since is =
      let first = then_out {A = Cap × State} {B = List Cap × State} (ReceivesCap s d) _ taken is in
      let rest = then_out {A = List Cap × State} {B = List Cap × State} (ReceivesCaps first.0.1 table) _ taken first.2 in
      let here = take_taken turn s d first.0 since first.1 in
      let more = all_taken table first.0.1 rest.0 here.0 rest.1 in
      let alone = λ (p : ℕ) (tie : IsTiedAs turn d first.0.0 p). none_tied table first.0.1 rest.0 p here.0 (tied_new s d first.0 p since first.1 tie).1 rest.1 in
      rw (ok_in _ _ rest.2) (
        more.0,
        tied_both s first.0.1 rest.0.1 here.1 more.1,
        λ last. (here.2 (last_then first.0.1 rest.0.1 turn.after more.1 last), more.2 last),
        (alone, more.3),
      )

  -- So what a Return bears is brought.
  pub returned_taken : (returned : Returned) (s : State) (taken : Outcome × State) → IsSince turn.before s → ReceivesReturned s returned (Ok taken)
      → IsSince turn.before taken.1 × (TiedLast taken.1 turn.after → Brings turn returned taken.0)
  returned_taken (returns.Results p) s taken since is =
      let parts = then_out {A = List Cap × State} {B = Outcome × State} (ReceivesCaps s p.cap_table) _ taken is in
      let all = all_taken p.cap_table s parts.0 since parts.1 in
      rw (ok_in _ _ parts.2) (all.0, λ last. (parts.0.0, refl, all.2 last, all.3))
  returned_taken (returns.Exception x) s taken since is = rw (ok_in _ _ is) (since, λ last. refl)
  returned_taken returns.Canceled s taken since is = rw (ok_in _ _ is) (since, λ last. refl)
  returned_taken returns.ResultsSentElsewhere s taken since is = absurd is
  returned_taken other s taken since is = absurd is
