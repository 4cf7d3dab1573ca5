-- What holds between events holds within one, and again where no gate is over.
use Rattle.std.specs.Prelude.{◌≡◌, refl, ℕ, false, List, map, flat_map, Option, Some, None, IfSome, option_to_list}
use Rattle.std.specs.List.{list_any, AllByRecursion}
use Rattle.std.specs.Ordering.{nat_cmp}
use Rattle.std.specs.FinMap.{get, values, get-empty}
use Rattle.std.proofs.Common.{arith, ap, sym, ◌∙◌}
use Rattle.cp_tables.specs.declared.counted.Counted.{Counted}
use Rattle.cp_tables.specs.declared.exchange.Exchange.{Exchange}
use Rattle.cp_tables.specs.declared.exchange.Stage.{Stage}
use Rattle.cp_tables.specs.declared.exchange.Stage.TheVariants as stages
use Rattle.cp_refs.specs.Route.{HasRoute}
use Rattle.cp_refs.specs.Values.{ValueMaps}
use Rattle.cp_refs.specs.declared.cap.Cap.{Cap}
use Rattle.cp_refs.specs.declared.call.WaitingCall.{WaitingCall}
use Rattle.cp_refs.specs.declared.outcome.Outcome.{Outcome}
use Rattle.cp_refs.specs.declared.route.Gate.{Gate}
use Rattle.cp_refs.specs.declared.route.Gate.TheVariants as gates
use Rattle.cp_refs.specs.declared.values.QuestionState.{QuestionState}
use Rattle.cp_vat_machine.specs.State.{State, gave, none_over, with_over}
use Rattle.cp_vat_machine.specs.InUse.{waiting_calls, kept_caps, caps_given, caps_of, is_pipelined_of, is_at_question, is_question_used}
use Rattle.cp_vat_machine.specs.Local.{Local, all_caps, values_kept, IsLeft, IsThere, IsWaiting, IsUngivenAt}
use Rattle.cp_vat_machine.specs.Local as local
use Rattle.cp_vat_machine.specs.declared.entry.QuestionEntry.{QuestionEntry}
use Rattle.cp_vat_machine.proofs.Basics.{none_out, or_first, or_second, all_front, all_back, all_both}
use Rattle.cp_vat_laws.specs.Keeping.{LocalIsWithin, WithinIsLocal}
use Rattle.cp_vat_laws.specs.Within.{HasAnswerPlace, HasQuestionPlace, WaitsFor, AreValues, AllKept, IsPlain, IsUngivenIf, IsOff}
use Rattle.cp_vat_laws.proofs.Tables.{each_kept, all_values, value_of, all_flat, flat_all, all_map, map_all, none_pass, pass_none, here_of}

-- one value, or none
pub value_in : (P : Cap → Type 0) (o : Option Cap) (v : Cap) → o ≡ Some v → AllByRecursion P (option_to_list o) → P v
value_in P o v is h = (rw is at h).0

pub given_in : (P : Cap → Type 0) (o : Option Outcome) (v : Outcome) → o ≡ Some v → AllByRecursion P (caps_given o) → AllByRecursion P (caps_of v)
given_in P o v is h = rw is at h

listed_value : (P : Cap → Type 0) (o : Option Cap) → ((v : Cap) → o ≡ Some v → P v) → AllByRecursion P (option_to_list o)
listed_value P None h = tt
listed_value P (Some v) h = (h v refl, tt)

listed_given : (P : Cap → Type 0) (o : Option Outcome) → ((v : Outcome) → o ≡ Some v → AllByRecursion P (caps_of v)) → AllByRecursion P (caps_given o)
listed_given P None h = tt
listed_given P (Some v) h = h v refl

-- the lists of values, and by their numbers
module _ (vals : ValueMaps) where
  abbrev promises_in : List Cap
  promises_in = flat_map option_to_list (values vals.promises)

  abbrev imports_in : List Cap
  imports_in = flat_map option_to_list (values vals.imports)

  abbrev answers_in : List Cap
  answers_in = flat_map caps_given (values vals.answers)

  abbrev questions_in : List Cap
  questions_in = flat_map (λ question. caps_given question.outcome) (values vals.questions)

module _ (P : Cap → Type 0) (vals : ValueMaps) where
  by_number : AllByRecursion P (promises_in vals) → AllByRecursion P (imports_in vals) → AllByRecursion P (answers_in vals)
      → AllByRecursion P (questions_in vals) → AreValues P vals
  by_number promises imports answers questions =
      record {
        promises = λ p v is. value_in P (Some v) v refl (value_of (λ o. AllByRecursion P (option_to_list o)) vals.promises p (Some v) is
            (flat_all P option_to_list (values vals.promises) promises));
        imports = λ p v is. value_in P (Some v) v refl (value_of (λ o. AllByRecursion P (option_to_list o)) vals.imports p (Some v) is
            (flat_all P option_to_list (values vals.imports) imports));
        answers = λ a v is. value_of (λ o. AllByRecursion P (caps_given o)) vals.answers a (Some v) is (flat_all P caps_given (values vals.answers) answers);
        questions = λ q question v is given.
            given_in P question.outcome v given
            (value_of (λ (x : QuestionState). AllByRecursion P (caps_given x.outcome)) vals.questions q question is
            (flat_all P (λ (x : QuestionState). caps_given x.outcome) (values vals.questions) questions));
      }

  module _ (h : AreValues P vals) where
    list_promises : AllByRecursion P (promises_in vals)
    list_promises = all_flat P option_to_list (values vals.promises)
        (all_values (λ o. AllByRecursion P (option_to_list o)) vals.promises
        (λ p. here_of _ (get vals.promises p) (λ o is. listed_value P o (λ v e. h.promises p v (is ∙ ap (λ x. Some x) e)))))

    list_imports : AllByRecursion P (imports_in vals)
    list_imports = all_flat P option_to_list (values vals.imports)
        (all_values (λ o. AllByRecursion P (option_to_list o)) vals.imports
        (λ p. here_of _ (get vals.imports p) (λ o is. listed_value P o (λ v e. h.imports p v (is ∙ ap (λ x. Some x) e)))))

    list_answers : AllByRecursion P (answers_in vals)
    list_answers = all_flat P caps_given (values vals.answers)
        (all_values (λ o. AllByRecursion P (caps_given o)) vals.answers
        (λ p. here_of _ (get vals.answers p) (λ o is. listed_given P o (λ v e. h.answers p v (is ∙ ap (λ x. Some x) e)))))

    list_questions : AllByRecursion P (questions_in vals)
    list_questions = all_flat P (λ (x : QuestionState). caps_given x.outcome) (values vals.questions)
        (all_values (λ (x : QuestionState). AllByRecursion P (caps_given x.outcome)) vals.questions
        (λ q. here_of _ (get vals.questions q) (λ question is. listed_given P question.outcome (λ v e. h.questions q question v is e))))

module _ (P : Cap → Type 0) (s : State) where
  pub kept_of : AllByRecursion P (all_caps s) → AllKept P s
  kept_of h =
      let before = all_front P _ (map (λ entry. entry.kept) (values s.counts.exports)) h in
      let front = all_front P _ (values s.marks.embargoes) before in
      let kept = all_front P (kept_caps s) (imports_in s.values) front in
      let given = all_front P _ (flat_map (λ call. call.request.caps) (waiting_calls s)) kept in
      let first = all_front P _ (questions_in s.values) given in
      record {
        values_ = by_number P s.values (all_front P (promises_in s.values) _ first) (all_back P (kept_caps s) (imports_in s.values) front)
            (all_back P (promises_in s.values) _ first) (all_back P _ (questions_in s.values) given);
        calls_ = λ t. here_of _ (get s.waiting.calls t) (λ (call : WaitingCall) is. value_of (λ (c : WaitingCall). AllByRecursion P c.request.caps) s.waiting.calls t call is
            (flat_all P (λ (c : WaitingCall). c.request.caps) (waiting_calls s) (all_back P _ (flat_map (λ call. call.request.caps) (waiting_calls s)) kept)));
        embargoes_ = λ n. here_of _ (get s.marks.embargoes n) (λ c is. value_of P s.marks.embargoes n c is (all_back P _ (values s.marks.embargoes) before));
        exports_ = λ e. here_of _ (get s.counts.exports e) (λ (entry : Counted Cap) is. value_of (λ (c : Counted Cap). P c.kept) s.counts.exports e entry is
            (map_all P (λ (c : Counted Cap). c.kept) (values s.counts.exports) (all_back P _ (map (λ entry. entry.kept) (values s.counts.exports)) h)));
      }

  pub of_kept : AllKept P s → AllByRecursion P (all_caps s)
  of_kept h =
      all_both P _ _
      (all_both P _ _
      (all_both P _ _
      (all_both P _ _
      (all_both P _ _ (all_both P _ _ (list_promises P s.values h.values_) (list_answers P s.values h.values_)) (list_questions P s.values h.values_))
      (all_flat P (λ (c : WaitingCall). c.request.caps) (waiting_calls s) (all_values (λ (c : WaitingCall). AllByRecursion P c.request.caps) s.waiting.calls h.calls_)))
      (list_imports P s.values h.values_))
      (all_values P s.marks.embargoes h.embargoes_))
      (all_map P (λ (c : Counted Cap). c.kept) (values s.counts.exports) (all_values (λ (c : Counted Cap). P c.kept) s.counts.exports h.exports_))

  pub values_of : AllByRecursion P (values_kept s) → AreValues P s.values
  values_of h =
      let given = all_front P _ (questions_in s.values) h in
      let first = all_front P _ (answers_in s.values) given in
      by_number P s.values (all_front P (promises_in s.values) _ first) (all_back P (promises_in s.values) _ first) (all_back P _ (answers_in s.values) given)
      (all_back P _ (questions_in s.values) h)

  pub of_values : AreValues P s.values → AllByRecursion P (values_kept s)
  of_values h =
      all_both P _ _
      (all_both P _ _ (all_both P _ _ (list_promises P s.values h) (list_imports P s.values h)) (list_answers P s.values h))
      (list_questions P s.values h)

-- no gate is over
pub none_gave : (gate : Gate) → gave none_over gate ≡ None
none_gave (gates.Answer a path) = rw (get-empty {X = Outcome} nat_cmp a) refl
none_gave (gates.Promise p) = get-empty {X = Cap} nat_cmp p
none_gave (gates.Question q path) = rw (get-empty {X = Outcome} nat_cmp q) refl
none_gave (gates.Embargo n) = get-empty {X = Cap} nat_cmp n

no_outcome : (o : Option Outcome) (n : ℕ) (outcome : Outcome) → o ≡ get (none_over.answers) n → o ≡ Some outcome → ⊥
no_outcome o n outcome is also = none_out (sym (is ∙ get-empty {X = Outcome} nat_cmp n) ∙ also)

-- nobody waits for a finished question
module _ (s : State) (q : ℕ) where
  pub unused_off : is_question_used s q ≡ false → (ticket : ℕ) → IfSome (get s.waiting.calls ticket) (IsOff q)
  unused_off h ticket = here_of _ (get s.waiting.calls ticket) (λ (call : WaitingCall) is. (
    value_of (λ (c : WaitingCall). is_at_question q c.gate ≡ false) s.waiting.calls ticket call is
        (none_pass (λ (c : WaitingCall). is_at_question q c.gate) (waiting_calls s) (or_first _ _ h)),
    value_of (λ (c : WaitingCall). list_any (is_pipelined_of q) c.request.caps ≡ false) s.waiting.calls ticket call is
        (none_pass (λ (c : WaitingCall). list_any (is_pipelined_of q) c.request.caps) (waiting_calls s)
        (or_second (list_any (λ (c : WaitingCall). is_at_question q c.gate) (waiting_calls s)) _ h)),
  ))

  off_unused : ((ticket : ℕ) → IfSome (get s.waiting.calls ticket) (IsOff q)) → is_question_used s q ≡ false
  off_unused h =
      let gates = pass_none (λ (c : WaitingCall). is_at_question q c.gate) (waiting_calls s)
      (all_values (λ (c : WaitingCall). is_at_question q c.gate ≡ false) s.waiting.calls
      (each_kept (λ t. IsOff q) (λ t (c : WaitingCall). is_at_question q c.gate ≡ false) s.waiting.calls 0 h (λ t c is off. off.0))) in
      let tables = pass_none (λ (c : WaitingCall). list_any (is_pipelined_of q) c.request.caps) (waiting_calls s)
      (all_values (λ (c : WaitingCall). list_any (is_pipelined_of q) c.request.caps ≡ false) s.waiting.calls
      (each_kept (λ t. IsOff q) (λ t (c : WaitingCall). list_any (is_pipelined_of q) c.request.caps ≡ false) s.waiting.calls 0 h (λ t c is off. off.1))) in
      rw (gates) tables

left_unused : (s : State) (q : ℕ) (stage : Stage) → stage ≡ stages.Finished → IsLeft s q stage → is_question_used s q ≡ false
left_unused s q stage is h = rw is at h

left_at : (s : State) (q : ℕ) (stage : Stage) → (stage ≡ stages.Finished → is_question_used s q ≡ false) → IsLeft s q stage
left_at s q stages.Finished h = h refl
left_at s q stages.Open h = tt
left_at s q stages.Returned h = tt

pub ungiven_if : (s : State) (gate : Gate) (o : Option Cap) → o ≡ None → IsUngivenAt s gate → IsUngivenIf s o gate
ungiven_if s gate o is h = rw (is) h

ungiven_at : (s : State) (gate : Gate) (o : Option Cap) → o ≡ None → IsUngivenIf s o gate → IsUngivenAt s gate
ungiven_at s gate o is h = rw is at h

pub local_is_within : LocalIsWithin
local_is_within s h =
    record {
      over_answers = λ a outcome is none. no_outcome (get s.waiting.over.answers a) a outcome (ap (λ o. get o.answers a) h.none_over_) is;
      over_promises = λ p value is none. none_out (sym (ap (λ o. get o.promises p) h.none_over_ ∙ get-empty {X = Cap} nat_cmp p) ∙ is);
      over_questions = λ q outcome question is there none. no_outcome (get s.waiting.over.questions q) q outcome (ap (λ o. get o.questions q) h.none_over_) is;
      over_embargoes = λ n value is. none_out (sym (ap (λ o. get o.embargoes n) h.none_over_ ∙ get-empty {X = Cap} nat_cmp n) ∙ is);
      gifts = λ gate cap is. none_out (sym (ap (λ o. gave o gate) h.none_over_ ∙ none_gave gate) ∙ is);
      answers = each_kept (local.HasAnswerPlace s) (HasAnswerPlace s None) s.entries.answers 0 h.answers (λ a entry is p open_. omega (arith, p open_));
      questions = each_kept (local.HasQuestionPlace s) (HasQuestionPlace s None) s.entries.questions 0 h.questions
          (λ q entry is p open_. omega (arith, p open_));
      waiting = each_kept (IsWaiting s) (WaitsFor s) s.waiting.calls 0 h.waiting (λ t call is w. (w.ticketed, w.given, w.whose));
      forwards = h.forwards;
      wire = λ q. here_of _ (get s.entries.questions q) (λ entry is not. rw is at (h.wire q));
      forwarding = h.forwarding;
      gates_kept = each_kept (λ t (call : WaitingCall). IsUngivenAt s call.gate)
          (λ t (call : WaitingCall). IsUngivenIf s (gave s.waiting.over call.gate) call.gate) s.waiting.calls 0 h.gates_kept
          (λ t call is. ungiven_if s call.gate (gave s.waiting.over call.gate) (ap (λ o. gave o call.gate) h.none_over_ ∙ none_gave call.gate));
      sendable = h.sendable;
      tied = λ p. omega (arith, h.tied p);
      untied = h.untied;
      owned = h.owned;
      counts = h.counts;
      imported = h.imported;
      exports = h.exports;
      one_export = h.one_export;
      there = kept_of (IsThere s) s h.there;
      ends = kept_of (HasRoute s.values) s h.ends;
      embargoed = h.embargoed;
      plain = values_of IsPlain s h.no_paths;
      finished = λ q entry is at. unused_off s q (left_unused s q entry.stage at (rw is at (h.finished q)));
      answers_valued = h.answers_valued;
      questions_valued = h.questions_valued;
      imports_valued = h.imports_valued;
      import_marks = h.import_marks;
      path_marks = h.path_marks;
      one_mark = h.one_mark;
      waited_for = h.waited_for;
    }

pub within_is_local : WithinIsLocal
within_is_local s h none =
    let new : State = with_over s none_over in
    record {
      none_over_ = refl;
      answers = each_kept (HasAnswerPlace s None) (local.HasAnswerPlace new) s.entries.answers 0 h.answers (λ a entry is p open_. omega (arith, p open_));
      questions = each_kept (HasQuestionPlace s None) (local.HasQuestionPlace new) s.entries.questions 0 h.questions
          (λ q entry is p open_. omega (arith, p open_));
      waiting = each_kept (WaitsFor s) (IsWaiting new) s.waiting.calls 0 h.waiting (λ t call is w. record { ticketed = w.0; given = w.1; whose = w.2 });
      forwards = h.forwards;
      wire = λ q. here_of _ (get s.entries.questions q) (λ entry is. (rw is at (h.wire q)) refl);
      forwarding = h.forwarding;
      gates_kept = λ t. here_of _ (get s.waiting.calls t) (λ (call : WaitingCall) is.
          ungiven_at s call.gate (gave s.waiting.over call.gate) (rw is at (none t)) (rw is at (h.gates_kept t)));
      sendable = h.sendable;
      tied = λ p. omega (arith, h.tied p);
      untied = h.untied;
      owned = h.owned;
      counts = h.counts;
      imported = h.imported;
      exports = h.exports;
      one_export = h.one_export;
      there = of_kept (IsThere s) s h.there;
      ends = of_kept (HasRoute s.values) s h.ends;
      embargoed = h.embargoed;
      no_paths = of_values IsPlain s h.plain;
      finished = λ q. here_of _ (get s.entries.questions q) (λ (entry : Exchange QuestionEntry) is.
          left_at new q entry.stage (λ at. off_unused s q (h.finished q entry is at)));
      answers_valued = h.answers_valued;
      questions_valued = h.questions_valued;
      imports_valued = h.imports_valued;
      import_marks = h.import_marks;
      path_marks = h.path_marks;
      one_mark = h.one_mark;
      waited_for = h.waited_for;
    }
