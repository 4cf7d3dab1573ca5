-- What follows of an open vat: which calls don't wait, which answers aren't forwarded, and which capabilities have a route.
use Rattle.std.specs.Prelude.{◌≡◌, refl, ℕ, ◌==◌, cond, Bool, true, false, List, Option, Some, None, is_some, option_to_list}
use Rattle.std.specs.List.{list_any, AllByRecursion}
use Rattle.std.specs.FinMap.{get}
use Rattle.std.proofs.Common.{arith, ap, sym, true≢false}
use Rattle.cp_tables.specs.declared.exchange.Exchange.{Exchange}
use Rattle.cp_tables.specs.declared.exchange.Stage.TheVariants as stages
use Rattle.cp_refs.specs.Route.{HasRoute, promise_way, outcome_way, question_way}
use Rattle.cp_refs.specs.declared.cap.Cap.{Cap}
use Rattle.cp_refs.specs.declared.cap.Cap.TheVariants as caps
use Rattle.cp_refs.specs.declared.call.WaitingCall.{WaitingCall}
use Rattle.cp_refs.specs.declared.call.Origin.{Origin}
use Rattle.cp_refs.specs.declared.call.Origin.TheVariants as origins
use Rattle.cp_refs.specs.declared.outcome.Outcome.{Outcome}
use Rattle.cp_refs.specs.declared.values.QuestionState.{QuestionState}
use Rattle.cp_refs.specs.declared.values.QuestionKind.{QuestionKind}
use Rattle.cp_vat_machine.specs.State.{State}
use Rattle.cp_vat_machine.specs.InUse.{caps_of, is_pipelined_of, is_local_path}
use Rattle.cp_vat_machine.specs.Local.{is_origin, waiting_of, is_forwarding, forwarding_of, IsTicketOf, ForwardsRightly, IsThere, IsExportable, QuestionIs}
use Rattle.cp_vat_machine.specs.declared.entry.QuestionEntry.{QuestionEntry}
use Rattle.cp_vat_machine.specs.declared.entry.Tied.{Tied}
use Rattle.cp_vat_machine.proofs.Basics.{some_out, none_out, is_equal, is_itself}
use Rattle.cp_vat_laws.specs.Within.{Within, WaitsFor, AreValues, AllKept, IsPlain}
use Rattle.cp_vat_laws.proofs.Tables.{here_of, there_of, none_counted, within_sum}
use Rattle.cp_vat_laws.proofs.within.Ways.{HasEnd, route_of_end}
use Rattle.cp_vat_laws.proofs.within.AllKept.{at_path, kept_map}

-- origins that are the same
pub same_origin : (one other : Origin) → is_origin one other ≡ true → one ≡ other
same_origin (origins.Answer a) (origins.Answer b) is = ap origins.Answer (sym (is_equal b a is))
same_origin (origins.Own q) (origins.Own p) is = ap origins.Own (sym (is_equal p q is))
same_origin (origins.Answer a) (origins.Own q) is = absurd (true≢false (sym is))
same_origin (origins.Own q) (origins.Answer a) is = absurd (true≢false (sym is))

pub origin_itself : (origin : Origin) → is_origin origin origin ≡ true
origin_itself (origins.Answer a) = is_itself a
origin_itself (origins.Own q) = is_itself q

pub not_true : (b : Bool) → (b ≡ true → ⊥) → b ≡ false
not_true true h = absurd (h refl)
not_true false h = refl

forwards_one : (a : ℕ) (o : Option ℕ) → list_any (λ b. b == a) (option_to_list o) ≡ true → o ≡ Some a
forwards_one a None is = absurd (true≢false (sym is))
forwards_one a (Some b) is = by (b == a) refl is
  where
    by : (t : Bool) → (b == a) ≡ t → list_any (λ b. b == a) (option_to_list (Some b)) ≡ true → Some b ≡ Some a
    by true t is = ap (λ n. Some n) (is_equal b a t)
    by false t is = absurd (true≢false (sym (rw t at is)))

module _ {s : State} {hand : Option Origin} {next : List Tied} (h : Within s hand next) where
  -- no call waits of an origin that isn't open, and none is forwarded
  pub none_waits : (origin : Origin) → ((ticket : ℕ) → IsTicketOf s origin ticket → ⊥) → waiting_of s origin ≡ 0
  none_waits origin none =
      none_counted (λ (call : WaitingCall). is_origin origin call.origin) s.waiting.calls
      (λ t. here_of _ (get s.waiting.calls t) (λ (call : WaitingCall) is. not_true _ (λ same.
      let waits = there_of (WaitsFor s t) (get s.waiting.calls t) call is (h.waiting t) in
      none t (rw (same_origin origin call.origin same) waits.2))))

  pub forwards_open : (a : ℕ) (o ticket : Option ℕ) → o ≡ Some a → ForwardsRightly s o ticket → (t : ℕ) × IsTicketOf s (origins.Answer a) t
  forwards_open a None ticket is f = none_out is
  forwards_open a (Some b) None is f = absurd f
  forwards_open a (Some b) (Some t) is f = (t, rw (← some_out is) f)

  pub none_forwards : (a : ℕ) → ((ticket : ℕ) → IsTicketOf s (origins.Answer a) ticket → ⊥) → forwarding_of s a ≡ 0
  none_forwards a none =
      none_counted (is_forwarding a) s.entries.questions
      (λ q. here_of _ (get s.entries.questions q) (λ (entry : Exchange QuestionEntry) is. not_true _ (λ same.
      let right = there_of (λ (e : Exchange QuestionEntry). ForwardsRightly s e.kept.forwards e.kept.ticket) (get s.entries.questions q) entry is
      (h.forwards q) in
      let found = forwards_open a entry.kept.forwards entry.kept.ticket (forwards_one a entry.kept.forwards same) right in
      none found.0 found.1)))

  -- where none waits of an origin, a waiting call has another one
  pub waits_of_other : (origin : Origin) (ticket : ℕ) (call : WaitingCall) → waiting_of s origin ≡ 0 → get s.waiting.calls ticket ≡ Some call
      → is_origin origin call.origin ≡ false
  waits_of_other origin ticket call none is = not_true _ (λ same.
      let one : ◌≡◌ {A = ℕ} (cond (is_origin origin call.origin) 1 0) 1 = rw (same) refl in
      let within = within_sum (λ (c : WaitingCall). cond (is_origin origin c.origin) 1 0) s.waiting.calls ticket call is in
      omega (arith, one, within, none))

  pub forwards_other : (a q : ℕ) (entry : Exchange QuestionEntry) → forwarding_of s a ≡ 0 → get s.entries.questions q ≡ Some entry
      → is_forwarding a entry ≡ false
  forwards_other a q entry none is = not_true _ (λ same.
      let one : ◌≡◌ {A = ℕ} (cond (is_forwarding a entry) 1 0) 1 = rw (same) refl in
      let within = within_sum (λ e. cond (is_forwarding a e) 1 0) s.entries.questions q entry is in
      omega (arith, one, within, none))

question_absent : (o : Option QuestionState) → QuestionIs None o → o ≡ None
question_absent None is = refl
question_absent (Some x) is = absurd is

-- a number without a question has no value
pub none_valued : {s : State} {hand : Option Origin} {next : List Tied} → Within s hand next → (q : ℕ) → get s.entries.questions q ≡ None
    → get s.values.questions q ≡ None
none_valued {s = s} h q fresh = question_absent (get s.values.questions q) (rw fresh at (h.questions_valued q))

pub never_finished : {Y : Type 0} → stages.Open ≡ stages.Finished → Y
never_finished is = absurd (cc)

-- what is there has a route, where values have
module _ (s : State) (values_end : AreValues (HasRoute s.values) s.values) where
  promise_end : (p : ℕ) (o : Option (Option Cap)) → get s.values.promises p ≡ o → is_some o ≡ true → HasEnd s.values (promise_way p o)
  promise_end p None is there = absurd (true≢false (sym there))
  promise_end p (Some None) is there = (0, refl)
  promise_end p (Some (Some value)) is there = values_end.promises p value is

  outcome_end : (kind : QuestionKind) (q : ℕ) (path : List ℕ) (o : Option Outcome)
      → ((outcome : Outcome) → o ≡ Some outcome → AllByRecursion (HasRoute s.values) (caps_of outcome))
      → HasEnd s.values (outcome_way kind q path o)
  outcome_end kind q path None all = (0, refl)
  outcome_end kind q path (Some outcome) all = at_path (HasRoute s.values) outcome path (1, refl) (λ x. (1, refl)) (all outcome refl)

  question_end : (q : ℕ) (path : List ℕ) (o : Option QuestionState) → get s.values.questions q ≡ o → is_some o ≡ true → HasEnd s.values (question_way q path o)
  question_end q path None is there = absurd (true≢false (sym there))
  question_end q path (Some question) is there = outcome_end question.kind q path question.outcome
      (λ outcome given. values_end.questions q question outcome is given)

  pub there_ends : (cap : Cap) → IsThere s cap → HasRoute s.values cap
  there_ends caps.None there = (1, refl)
  there_ends (caps.Object k) there = (1, refl)
  there_ends (caps.Promise p) there = route_of_end s.values (caps.Promise p) (promise_end p (get s.values.promises p) refl there)
  there_ends (caps.Import i) there = (1, refl)
  there_ends (caps.Pipelined q path) there = route_of_end s.values (caps.Pipelined q path) (question_end q path (get s.values.questions q) refl there)
  there_ends (caps.Broken x) there = (1, refl)

  pub all_end : AllKept (IsThere s) s → AllKept (HasRoute s.values) s
  all_end there = kept_map (IsThere s) (HasRoute s.values) s.values s.waiting.calls s.marks.embargoes s.counts.exports there_ends there

-- what is exported is there, and names no question
pub exportable_there : (s : State) (cap : Cap) → IsExportable s cap → IsThere s cap
exportable_there s (caps.Object k) h = tt
exportable_there s (caps.Promise p) h = h
exportable_there s caps.None h = absurd h
exportable_there s (caps.Import i) h = absurd h
exportable_there s (caps.Pipelined q path) h = absurd h
exportable_there s (caps.Broken x) h = absurd h

pub exportable_plain : (s : State) (cap : Cap) → IsExportable s cap → IsPlain cap
exportable_plain s (caps.Object k) h = refl
exportable_plain s (caps.Promise p) h = refl
exportable_plain s caps.None h = absurd h
exportable_plain s (caps.Import i) h = absurd h
exportable_plain s (caps.Pipelined q path) h = absurd h
exportable_plain s (caps.Broken x) h = absurd h

-- such a capability may be sent, and names no finished question
pub plain_sendable : (s : State) (cap : Cap) → IsPlain cap → is_local_path s cap ≡ false
plain_sendable s caps.None h = refl
plain_sendable s (caps.Object k) h = refl
plain_sendable s (caps.Promise p) h = refl
plain_sendable s (caps.Import i) h = refl
plain_sendable s (caps.Pipelined q path) h = absurd (true≢false h)
plain_sendable s (caps.Broken x) h = refl

pub plain_of : (q : ℕ) (cap : Cap) → IsPlain cap → is_pipelined_of q cap ≡ false
plain_of q caps.None h = refl
plain_of q (caps.Object k) h = refl
plain_of q (caps.Promise p) h = refl
plain_of q (caps.Import i) h = refl
plain_of q (caps.Pipelined r path) h = absurd (true≢false h)
plain_of q (caps.Broken x) h = refl
