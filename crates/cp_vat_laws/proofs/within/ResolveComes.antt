-- A Release, a Resolve, a Disembargo, an Unimplemented and an Abort that come.
use Rattle.std.specs.Prelude.{◌≡◌, refl, ℕ, ◌==◌, not, cond, Bool, true, false, List, [], ◌∷◌, Option, Some, None, is_some, IfSome, Result, Ok}
use Rattle.std.specs.FinMap.{get, insert, remove, FinMap, retain_keys, get-retain_keys, slice_cmp-IsAntisymmetric, nat_cmp-IsAntisymmetric}
use Rattle.std.specs.Ordering.{nat_cmp}
use Rattle.std.specs.Cmp.Lexicographic.{slice_cmp}
use Rattle.std.proofs.Common.{ap, sym, ◌∙◌, true≢false}
use Rattle.cp_tables.specs.Table.{Table}
use Rattle.cp_tables.specs.declared.counted.Counted.{Counted}
use Rattle.cp_messages.specs.declared.target.Target.{Target}
use Rattle.cp_messages.specs.declared.target.Target.TheVariants as targets
use Rattle.cp_messages.specs.declared.small.Release.{Release}
use Rattle.cp_messages.specs.declared.resolve.Resolution.{Resolution}
use Rattle.cp_messages.specs.declared.resolve.Resolution.TheVariants as resolutions
use Rattle.cp_messages.specs.declared.resolve.Resolve.{Resolve}
use Rattle.cp_messages.specs.declared.disembargo.DisembargoContext.{DisembargoContext}
use Rattle.cp_messages.specs.declared.disembargo.DisembargoContext.TheVariants as contexts
use Rattle.cp_messages.specs.declared.message.Message.{Message}
use Rattle.cp_messages.specs.declared.message.Message.TheVariants as messages
use Rattle.cp_refs.specs.Route.{HasRoute}
use Rattle.cp_refs.specs.declared.cap.Cap.{Cap}
use Rattle.cp_refs.specs.declared.cap.Cap.TheVariants as caps
use Rattle.cp_refs.specs.declared.call.WaitingCall.{WaitingCall}
use Rattle.cp_refs.specs.declared.outcome.Outcome.{Outcome}
use Rattle.cp_refs.specs.declared.route.Gate.{Gate}
use Rattle.cp_refs.specs.declared.route.Gate.TheVariants as gates
use Rattle.cp_vat_machine.specs.State.{State, gave, none_over}
use Rattle.cp_vat_machine.specs.Then.{Done, Then, fault_if}
use Rattle.cp_vat_machine.specs.Local.{IsThere, HasWaiting, IsImportMark, IsExportable, IsEmbargoOf, import_value, path_value, IsPathMark}
use Rattle.cp_vat_machine.specs.declared.fault.PeerFault.{PeerFault}
use Rattle.cp_vat_machine.specs.Receiving.{answer_of, path_of, release_exports, released}
use Rattle.cp_vat_machine.specs.Answering.{target_faults}
use Rattle.cp_vat_machine.specs.Calling.{mark_of}
use Rattle.cp_vat_machine.specs.Resolving.{OnRelease, given_back, is_open_promise, TakeResolution, resolved, ResolveOf, OnResolve, echo_to, EchoesExport, EchoesAnswer, EchoesTarget, is_under, embargo_ended, ended_by, OnDisembargo, UnknownToPeer, closed}
use Rattle.cp_vat_machine.specs.declared.entry.ImportKind.{ImportKind}
use Rattle.cp_vat_machine.specs.declared.entry.ImportKind.TheVariants as import_kinds
use Rattle.cp_vat_machine.specs.declared.fault.PeerFault.TheVariants as faults
use Rattle.cp_vat_machine.proofs.Basics.{not_false, some_out, none_out, ok_in, then_out, is_equal, other_number, put_at, gone_at, unless_out, ok_out}
use Rattle.cp_vat_laws.specs.Within.{Within, AllKept, IsPlain, IsFit, IsUngivenIf}
use Rattle.cp_vat_laws.proofs.Tables.{here_of, there_of, each_gone, each_kept, no_faults, not_met}
use Rattle.cp_vat_laws.proofs.within.Follows.{all_end}
use Rattle.cp_vat_laws.proofs.within.Settle.{any_promise, any_question, any_embargo}
use Rattle.cp_vat_laws.proofs.within.AllKept.{values_map, import_put}
use Rattle.cp_vat_laws.proofs.within.StaysThere.{same_route}
use Rattle.cp_vat_laws.proofs.within.Exports.{fewer_exports, lower_fewer, released_fewer}
use Rattle.cp_vat_laws.proofs.within.Take.{grows_not, export_fit, take_keeps, TakenWell}

-- exports are given back
pub release_keeps : (s : State) (r : Release) (done : Done) → Within s None [] → OnRelease s r (Ok done) → Within done.1 None []
release_keeps s r done h does =
    let parts = then_out {A = Table (Counted Cap)} {B = Done} (λ exports. exports ≡ released s.counts.exports r.id r.reference_count) _ done does in
    rw (ok_in _ _ parts.2) (fewer_exports h parts.0 (released_fewer s.counts.exports parts.0 r.id r.reference_count h.counts parts.1))

-- a Resolve that the peer doesn't know
unknown_resolve : (s : State) (r : Resolve) (done : Done) → Within s None [] → UnknownToPeer s (Some (messages.Resolve r)) (Ok done) → Within done.1 None []
unknown_resolve s r done h does =
    let parts = then_out {A = Table (Counted Cap)} {B = Done} (λ exports. exports ≡ release_exports s.counts.exports (given_back r.resolution)) _ done does in
    rw (ok_in _ _ parts.2) (fewer_exports h parts.0 (lower_fewer s.counts.exports parts.0 (given_back r.resolution) h.counts parts.1))

pub unknown_keeps : (s : State) (o : Option Message) (done : Done) → Within s None [] → UnknownToPeer s o (Ok done) → Within done.1 None []
unknown_keeps s None done h does = ok_out does
unknown_keeps s (Some (messages.Resolve r)) done h does = unknown_resolve s r done h does
unknown_keeps s (Some (messages.Unimplemented t)) done h does = ok_out does
unknown_keeps s (Some (messages.Abort x)) done h does = ok_out does
unknown_keeps s (Some (messages.Call c)) done h does = ok_out does
unknown_keeps s (Some (messages.Return r)) done h does = ok_out does
unknown_keeps s (Some (messages.Finish f)) done h does = ok_out does
unknown_keeps s (Some (messages.Release r)) done h does = ok_out does
unknown_keeps s (Some (messages.Bootstrap b)) done h does = ok_out does
unknown_keeps s (Some (messages.Disembargo d)) done h does = ok_out does
unknown_keeps s (Some (messages.Other which body)) done h does = ok_out does

-- a vat that is closed holds what it held
pub closed_keeps : (s : State) → Within s None [] → Within (closed s) None []
closed_keeps s h =
    record {
      over_answers = h.over_answers;
      over_promises = h.over_promises;
      over_questions = h.over_questions;
      over_embargoes = h.over_embargoes;
      gifts = h.gifts;
      answers = h.answers;
      questions = h.questions;
      waiting = h.waiting;
      forwards = h.forwards;
      wire = h.wire;
      forwarding = h.forwarding;
      gates_kept = h.gates_kept;
      sendable = h.sendable;
      tied = h.tied;
      untied = h.untied;
      owned = h.owned;
      counts = h.counts;
      imported = h.imported;
      exports = h.exports;
      one_export = h.one_export;
      there = h.there;
      ends = h.ends;
      embargoed = h.embargoed;
      plain = h.plain;
      finished = h.finished;
      answers_valued = h.answers_valued;
      questions_valued = h.questions_valued;
      imports_valued = h.imports_valued;
      import_marks = h.import_marks;
      path_marks = h.path_marks;
      one_mark = h.one_mark;
      waited_for = h.waited_for;
    }

-- An import came to something.
module _ {s : State} (h : Within s None []) (i : ℕ) (v : Cap) (was : get s.values.imports i ≡ Some None) (fit : IsFit s v) where
  abbrev resolved_state : State
  resolved_state = resolved s i v

  resolved_fit : (c : Cap) → IsFit s c → IsFit resolved_state c
  resolved_fit c f = (f.0, f.1, same_route s.values resolved_state.values refl refl c f.2)

  resolved_there : AllKept (IsThere resolved_state) resolved_state
  resolved_there = record {
    values_ = import_put (IsThere resolved_state) s.values h.there.values_ i (Some v) (λ w e. rw (← some_out e) fit.1);
    calls_ = h.there.calls_;
    embargoes_ = h.there.embargoes_;
    exports_ = h.there.exports_;
  }

  valued : (j : ℕ) (b : Bool) → (i == j) ≡ b → is_some (get s.counts.imports j) ≡ is_some (get (insert s.values.imports i (Some v)) j)
  valued j true t =
      let there : get s.values.imports j ≡ Some None = rw (← is_equal i j t) was in
      h.imports_valued j ∙ ap is_some there ∙ sym (ap is_some (put_at s.values.imports i j (Some v) true t))
  valued j false t = h.imports_valued j ∙ sym (ap is_some (put_at s.values.imports i j (Some v) false t))

  none_yet : (embargo : Option ℕ) (value : Option Cap) → IsEmbargoOf s None embargo → IsEmbargoOf resolved_state value embargo
  none_yet None value is = tt
  none_yet (Some n) value is = absurd (true≢false (sym is.1))

  mark_resolved : (j : ℕ) (embargo : Option ℕ) (b : Bool) → (i == j) ≡ b → IsImportMark s j embargo → IsImportMark resolved_state j embargo
  mark_resolved j embargo true t mark =
      let there : get s.values.imports j ≡ Some None = rw (← is_equal i j t) was in
      (mark.0, rw (put_at s.values.imports i j (Some v) true t) (none_yet embargo (Some v) (rw there at mark.1)))
  mark_resolved j embargo false t mark = (mark.0, rw (put_at s.values.imports i j (Some v) false t) mark.1)

  pub import_resolved : Within resolved_state None []
  import_resolved =
      let new : State = resolved_state in
      record {
        over_answers = h.over_answers;
        over_promises = h.over_promises;
        over_questions = h.over_questions;
        over_embargoes = h.over_embargoes;
        gifts = λ gate cap is. resolved_fit cap (h.gifts gate cap is);
        answers = h.answers;
        questions = h.questions;
        waiting = h.waiting;
        forwards = h.forwards;
        wire = h.wire;
        forwarding = h.forwarding;
        gates_kept = h.gates_kept;
        sendable = h.sendable;
        tied = h.tied;
        untied = h.untied;
        owned = h.owned;
        counts = h.counts;
        imported = h.imported;
        exports = h.exports;
        one_export = h.one_export;
        there = resolved_there;
        ends = all_end new (import_put (HasRoute new.values) s.values
            (values_map (HasRoute s.values) (HasRoute new.values) s.values (same_route s.values new.values refl refl) h.ends.values_) i (Some v)
            (λ w e. rw (← some_out e) (resolved_fit v fit).2)) resolved_there;
        embargoed = h.embargoed;
        plain = import_put IsPlain s.values h.plain i (Some v) (λ w e. rw (← some_out e) fit.0);
        finished = h.finished;
        answers_valued = h.answers_valued;
        questions_valued = h.questions_valued;
        imports_valued = λ j. valued j (i == j) refl;
        import_marks = λ j. here_of _ (get s.marks.imports j) (λ embargo is.
            mark_resolved j embargo (i == j) refl (there_of (IsImportMark s j) (get s.marks.imports j) embargo is (h.import_marks j)));
        path_marks = h.path_marks;
        one_mark = h.one_mark;
        waited_for = h.waited_for;
      }

resolution_keeps : (s : State) (resolution : Resolution) (taken : Cap × State) → Within s None [] → s.waiting.over ≡ none_over
    → TakeResolution s resolution (Ok taken) → TakenWell s None [] taken
resolution_keeps s (resolutions.Cap d) taken h still is = take_keeps None [] s d taken h still is
resolution_keeps s (resolutions.Exception x) taken h still is = rw (ok_in _ _ is) (h, grows_not s, (refl, tt, (1, refl)))
resolution_keeps s (resolutions.Unknown n) taken h still is = absurd is

open_promise : (kind : ImportKind) (o : Option (Option Cap)) → is_open_promise kind o ≡ true → o ≡ Some None
open_promise import_kinds.Promise (Some None) is = refl
open_promise import_kinds.Promise (Some (Some v)) is = absurd (true≢false (sym is))
open_promise import_kinds.Promise None is = absurd (true≢false (sym is))
open_promise import_kinds.Hosted (Some None) is = absurd (true≢false (sym is))
open_promise import_kinds.Hosted (Some (Some v)) is = absurd (true≢false (sym is))
open_promise import_kinds.Hosted None is = absurd (true≢false (sym is))

resolve_of : (s : State) (r : Resolve) (o : Option (Counted ImportKind)) (done : Done) → Within s None [] → s.waiting.over ≡ none_over
    → ResolveOf s r o (Ok done) → Within done.1 None []
resolve_of s r None done h still does = rw (ok_in _ _ does) h
resolve_of s r (Some entry) done h still does =
    let refusals : List PeerFault = fault_if (not (is_open_promise entry.kept (get s.values.imports r.promise_id))) faults.NotAnOpenPromise in
    let Rule : Result Done PeerFault → Type 0 = Then (TakeResolution s r.resolution) (λ taken out. out ≡ Ok ([], resolved taken.1 r.promise_id taken.0)) in
    let rule = unless_out {A = Done} {F = PeerFault} refusals Rule done does in
    let none = no_faults {A = Done} {F = PeerFault} refusals Rule done does in
    let was = open_promise entry.kept (get s.values.imports r.promise_id)
    (not_false _ (not_met (not (is_open_promise entry.kept (get s.values.imports r.promise_id))) faults.NotAnOpenPromise none)) in
    let parts = then_out {A = Cap × State} {B = Done} (TakeResolution s r.resolution) _ done rule in
    let one = resolution_keeps s r.resolution parts.0 h still parts.1 in
    rw (ok_in _ _ parts.2) (import_resolved one.0 r.promise_id parts.0.0 (one.1.imports r.promise_id None was) one.2)

pub resolve_keeps : (s : State) (r : Resolve) (done : Done) → Within s None [] → s.waiting.over ≡ none_over → OnResolve s r (Ok done) → Within done.1 None []
resolve_keeps s r done h still does = resolve_of s r (get s.counts.imports r.promise_id) done h still does

-- An embargo ends.
under_key : (m : FinMap (slice_cmp nat_cmp) (Option ℕ)) (n : ℕ) (key : List ℕ)
    → get (retain_keys m (λ k. not (is_under n (get m k)))) key ≡ cond (not (is_under n (get m key))) (get m key) None
under_key m n key =
    get-retain_keys m (λ k. not (is_under n (get m k))) key
    (λ x tie. ap (λ k. not (is_under n (get m k))) (sym (slice_cmp-IsAntisymmetric nat_cmp-IsAntisymmetric key x tie)))

under_number : (m : Table (Option ℕ)) (n i : ℕ) → get (retain_keys m (λ k. not (is_under n (get m k)))) i ≡ cond (not (is_under n (get m i))) (get m i) None
under_number m n i =
    get-retain_keys m (λ k. not (is_under n (get m k))) i (λ x tie. ap (λ k. not (is_under n (get m k))) (sym (nat_cmp-IsAntisymmetric i x tie)))

kept_of_cond : (b : Bool) (o : Option (Option ℕ)) (x : Option ℕ) → cond (not b) o None ≡ Some x → (o ≡ Some x) × (b ≡ false)
kept_of_cond true o x is = none_out is
kept_of_cond false o x is = (is, refl)

module _ {s : State} (h : Within s None []) (n : ℕ) (value : Cap) (was : get s.marks.embargoes n ≡ Some value) where
  abbrev ended_state : State
  ended_state = embargo_ended s n value

  value_fit : IsFit s value
  value_fit = export_fit h value (there_of (IsExportable s) (get s.marks.embargoes n) value was (h.embargoed n))

  over_ended : (m : ℕ) (c : Cap) (b : Bool) → (n == m) ≡ b → get (insert s.waiting.over.embargoes n value) m ≡ Some c
      → get (remove s.marks.embargoes n) m ≡ None
  over_ended m c true t is = gone_at s.marks.embargoes n m true t
  over_ended m c false t is = gone_at s.marks.embargoes n m false t ∙ h.over_embargoes m c (sym (put_at s.waiting.over.embargoes n m value false t) ∙ is)

  gift_ended : (m : ℕ) (c : Cap) (b : Bool) → (n == m) ≡ b → get (insert s.waiting.over.embargoes n value) m ≡ Some c → IsFit ended_state c
  gift_ended m c true t is = rw (← some_out (sym (put_at s.waiting.over.embargoes n m value true t) ∙ is)) value_fit
  gift_ended m c false t is = h.gifts (gates.Embargo m) c (sym (put_at s.waiting.over.embargoes n m value false t) ∙ is)

  gifts_ended : (gate : Gate) (c : Cap) → gave ended_state.waiting.over gate ≡ Some c → IsFit ended_state c
  gifts_ended (gates.Answer a path) c is = h.gifts (gates.Answer a path) c is
  gifts_ended (gates.Promise p) c is = h.gifts (gates.Promise p) c is
  gifts_ended (gates.Question q path) c is = h.gifts (gates.Question q path) c is
  gifts_ended (gates.Embargo m) c is = gift_ended m c (n == m) refl is

  gate_ended : (gate : Gate) → IsUngivenIf s (gave s.waiting.over gate) gate → IsUngivenIf ended_state (gave ended_state.waiting.over gate) gate
  gate_ended (gates.Answer a path) is = is
  gate_ended (gates.Promise p) is = any_promise ended_state p (gave ended_state.waiting.over (gates.Promise p))
  gate_ended (gates.Question q path) is = any_question ended_state q path (gave ended_state.waiting.over (gates.Question q path))
  gate_ended (gates.Embargo m) is = any_embargo ended_state m (gave ended_state.waiting.over (gates.Embargo m))

  ended_there : AllKept (IsThere ended_state) ended_state
  ended_there = record {
    values_ = h.there.values_;
    calls_ = h.there.calls_;
    embargoes_ = each_gone (λ m. IsThere s) (λ m. IsThere ended_state) s.marks.embargoes n h.there.embargoes_ (λ m c other is x. x);
    exports_ = h.there.exports_;
  }

  -- a mark that isn't under it keeps its embargo
  embargo_left : (v : Option Cap) (embargo : Option ℕ) → is_under n (Some embargo) ≡ false → IsEmbargoOf s v embargo → IsEmbargoOf ended_state v embargo
  embargo_left v None other is = tt
  embargo_left v (Some m) other is = (is.0 ∙ sym (gone_at s.marks.embargoes n m false (other_number m n other)), is.1)

  import_left : (j : ℕ) (o : Option (Option ℕ)) → get s.marks.imports j ≡ o → IfSome (get ended_state.marks.imports j) (IsImportMark ended_state j)
  import_left j None at = rw (under_number s.marks.imports n j, at) tt
  import_left j (Some embargo) at = by (is_under n (Some embargo)) refl
    where
      by : (b : Bool) → is_under n (Some embargo) ≡ b → IfSome (get ended_state.marks.imports j) (IsImportMark ended_state j)
      by true t = rw (under_number s.marks.imports n j, at, t) tt
      by false t =
          let mark = there_of (IsImportMark s j) (get s.marks.imports j) embargo at (h.import_marks j) in
          rw (under_number s.marks.imports n j, at, t) (mark.0, embargo_left (import_value (get s.values.imports j)) embargo t mark.1)

  path_ended : (key : List ℕ) (embargo : Option ℕ) → is_under n (Some embargo) ≡ false → IsPathMark s key embargo → IsPathMark ended_state key embargo
  path_ended [] embargo other mark = absurd mark
  path_ended (q ∷ path) embargo other mark = (mark.0, embargo_left (path_value (get s.values.questions q) path) embargo other mark.1)

  path_left : (key : List ℕ) (o : Option (Option ℕ)) → get s.marks.paths key ≡ o → IfSome (get ended_state.marks.paths key) (IsPathMark ended_state key)
  path_left key None at = rw (under_key s.marks.paths n key, at) tt
  path_left key (Some embargo) at = by (is_under n (Some embargo)) refl
    where
      by : (b : Bool) → is_under n (Some embargo) ≡ b → IfSome (get ended_state.marks.paths key) (IsPathMark ended_state key)
      by true t = rw (under_key s.marks.paths n key, at, t) tt
      by false t = rw (under_key s.marks.paths n key, at, t)
          (path_ended key embargo t (there_of (IsPathMark s key) (get s.marks.paths key) embargo at (h.path_marks key)))

  mark_left : (c : Cap) (m : ℕ) → mark_of ended_state c ≡ Some (Some m) → mark_of s c ≡ Some (Some m)
  mark_left (caps.Import i) m is = (kept_of_cond (is_under n (get s.marks.imports i)) (get s.marks.imports i) (Some m)
      (sym (under_number s.marks.imports n i) ∙ is)).0
  mark_left (caps.Pipelined q path) m is = (kept_of_cond (is_under n (get s.marks.paths (q ∷ path))) (get s.marks.paths (q ∷ path)) (Some m)
      (sym (under_key s.marks.paths n (q ∷ path)) ∙ is)).0
  mark_left caps.None m is = none_out is
  mark_left (caps.Object k) m is = none_out is
  mark_left (caps.Promise p) m is = none_out is
  mark_left (caps.Broken x) m is = none_out is

  pub embargo_ends : Within ended_state None []
  embargo_ends =
      let new : State = ended_state in
      record {
        over_answers = h.over_answers;
        over_promises = h.over_promises;
        over_questions = h.over_questions;
        over_embargoes = λ m value is. over_ended m value (n == m) refl is;
        gifts = gifts_ended;
        answers = h.answers;
        questions = h.questions;
        waiting = h.waiting;
        forwards = h.forwards;
        wire = h.wire;
        forwarding = h.forwarding;
        gates_kept = each_kept (λ t (c : WaitingCall). IsUngivenIf s (gave s.waiting.over c.gate) c.gate)
            (λ t (c : WaitingCall). IsUngivenIf new (gave new.waiting.over c.gate) c.gate) s.waiting.calls 0 h.gates_kept (λ t call is. gate_ended call.gate);
        sendable = h.sendable;
        tied = h.tied;
        untied = h.untied;
        owned = h.owned;
        counts = h.counts;
        imported = h.imported;
        exports = h.exports;
        one_export = h.one_export;
        there = ended_there;
        ends = all_end new h.ends.values_ ended_there;
        embargoed = each_gone (λ m. IsExportable s) (λ m. IsExportable new) s.marks.embargoes n h.embargoed (λ m c other is x. x);
        plain = h.plain;
        finished = h.finished;
        answers_valued = h.answers_valued;
        questions_valued = h.questions_valued;
        imports_valued = h.imports_valued;
        import_marks = λ j. import_left j (get s.marks.imports j) refl;
        path_marks = λ key. path_left key (get s.marks.paths key) refl;
        one_mark = λ c d m is also. h.one_mark c d m (mark_left c m is) (mark_left d m also);
        waited_for = each_gone (λ m value. HasWaiting s m) (λ m value. HasWaiting new m) s.marks.embargoes n h.waited_for (λ m value other is x. x);
      }

echo_keeps : (s : State) (n : ℕ) (last : Cap) (done : Done) → Within s None [] → Ok done ≡ echo_to s n last → Within done.1 None []
echo_keeps s n (caps.Import i) done h is = rw (ok_in _ _ is) h
echo_keeps s n caps.None done h is = ok_out is
echo_keeps s n (caps.Object k) done h is = ok_out is
echo_keeps s n (caps.Promise p) done h is = ok_out is
echo_keeps s n (caps.Pipelined q path) done h is = ok_out is
echo_keeps s n (caps.Broken x) done h is = ok_out is

export_echoes : (s : State) (n : ℕ) (o : Option (Counted Cap)) (done : Done) → Within s None [] → EchoesExport s n o (Ok done) → Within done.1 None []
export_echoes s n None done h does = absurd does
export_echoes s n (Some entry) done h does = echo_keeps s n does.0 done h does.2

answer_echoes : (s : State) (n : ℕ) (path : List ℕ) (o : Option (Option Outcome)) (done : Done) → Within s None [] → EchoesAnswer s n path o (Ok done)
    → Within done.1 None []
answer_echoes s n path None done h does = absurd does
answer_echoes s n path (Some None) done h does = ok_out does
answer_echoes s n path (Some (Some outcome)) done h does = echo_keeps s n does.0 done h does.2

echoes_keeps : (s : State) (n : ℕ) (target : Target) (done : Done) → Within s None [] → EchoesTarget s n target (Ok done) → Within done.1 None []
echoes_keeps s n (targets.ImportedCap e) done h does = export_echoes s n (get s.counts.exports e) done h does
echoes_keeps s n (targets.PromisedAnswer answer) done h does = answer_echoes s n (path_of answer.transform) (answer_of s answer.question_id) done h does
echoes_keeps s n (targets.Unknown m) done h does = absurd does

ends_keeps : (s : State) (n : ℕ) (o : Option Cap) (done : Done) → Within s None [] → get s.marks.embargoes n ≡ o → Ok done ≡ ended_by s n o
    → Within done.1 None []
ends_keeps s n None done h was is = ok_out is
ends_keeps s n (Some value) done h was is = rw (ok_in _ _ is) (embargo_ends h n value was)

pub disembargo_keeps : (s : State) (context : DisembargoContext) (target : Target) (done : Done) → Within s None [] → OnDisembargo s context target (Ok done)
    → Within done.1 None []
disembargo_keeps s (contexts.SenderLoopback n) target done h does =
    echoes_keeps s n target done h (unless_out {A = Done} {F = PeerFault} (target_faults s target) (EchoesTarget s n target) done does)
disembargo_keeps s (contexts.ReceiverLoopback n) target done h does = ends_keeps s n (get s.marks.embargoes n) done h refl does
disembargo_keeps s contexts.Accept target done h does = absurd does
disembargo_keeps s (contexts.Provide q) target done h does = absurd does
disembargo_keeps s (contexts.Unknown n) target done h does = absurd does
