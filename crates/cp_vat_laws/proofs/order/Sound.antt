-- What holds within an event tells that values are sound, and that nothing was given to a waiting call's origin.
use Rattle.std.specs.Prelude.{◌≡◌, refl, ℕ, ◌+◌, ◌≤◌, not, ◌&&◌, cond, Bool, true, false, List, [], ◌∷◌, map, Option, Some, None, is_some, IfSome}
use Rattle.std.specs.List.{sum_by, AllByRecursion}
use Rattle.std.specs.Ordering.{nat_cmp, eq_by_cmp}
use Rattle.std.specs.FinMap.{get, entries, get-entries}
use Rattle.std.specs.FinMap.Entries.{find}
use Rattle.std.specs.FinSet as set
use Rattle.std.proofs.Common.{arith, ap, sym, ◌∙◌, true≢false}
use Rattle.std.proofs.lemmas.List.Sums.{sum_by-cons}
use Rattle.cp_tables.specs.Table.{Table}
use Rattle.cp_tables.specs.declared.exchange.Exchange.{Exchange}
use Rattle.cp_refs.specs.At.{cap_at}
use Rattle.cp_refs.specs.Route.{HasRoute}
use Rattle.cp_refs.specs.declared.cap.Cap.{Cap}
use Rattle.cp_refs.specs.declared.cap.Cap.TheVariants as caps
use Rattle.cp_refs.specs.declared.call.WaitingCall.{WaitingCall}
use Rattle.cp_refs.specs.declared.call.Origin.{Origin}
use Rattle.cp_refs.specs.declared.call.Origin.TheVariants as origins
use Rattle.cp_refs.specs.declared.outcome.Outcome.{Outcome}
use Rattle.cp_refs.specs.declared.values.QuestionState.{QuestionState}
use Rattle.cp_vat_machine.specs.State.{State}
use Rattle.cp_vat_machine.specs.Go.{without_call}
use Rattle.cp_vat_machine.specs.InUse.{is_unsettled, caps_of}
use Rattle.cp_vat_machine.specs.Local.{one_if, is_open_stage, tied_to, IsThere, IsExportable, IsTicketOf, AnswerIs, OwnIs, QuestionIs}
use Rattle.cp_vat_machine.specs.Exits.{given_to}
use Rattle.cp_vat_machine.specs.declared.entry.AnswerEntry.{AnswerEntry}
use Rattle.cp_vat_machine.specs.declared.entry.QuestionEntry.{QuestionEntry}
use Rattle.cp_vat_machine.specs.declared.entry.Tied.{Tied}
use Rattle.cp_vat_laws.specs.Within.{IsPlain, IsFit, Within, WaitsFor}
use Rattle.cp_vat_machine.proofs.Basics.{some_out, none_out, is_itself}
use Rattle.cp_vat_laws.proofs.order.Basics.{there_is}
use Rattle.cp_vat_laws.proofs.order.Passes.{is_found, IsKept, IsOfThisEnd, Sound}
use Rattle.cp_vat_laws.proofs.order.Settle.{AreOpen, one_more}
use Rattle.cp_vat_laws.proofs.order.Give.{IsUngiven, are_open_same}
use Rattle.cp_vat_laws.proofs.within.AllKept.{at_path}

-- a plain capability that is there is found
found_there : (s : State) (c : Cap) → IsThere s c → is_found s.values c ≡ true
found_there s caps.None h = refl
found_there s (caps.Object k) h = refl
found_there s (caps.Promise p) h = h
found_there s (caps.Import i) h = refl
found_there s (caps.Pipelined q path) h = refl
found_there s (caps.Broken x) h = refl

kept_fit : (s : State) (c : Cap) → IsFit s c → IsKept s c
kept_fit s c h = record { plain_ = h.0; found = found_there s c h.1; ends = h.2 }

of_this_end : (s : State) (c : Cap) → IsExportable s c → IsOfThisEnd c
of_this_end s caps.None h = absurd h
of_this_end s (caps.Object k) h = tt
of_this_end s (caps.Promise p) h = tt
of_this_end s (caps.Import i) h = absurd h
of_this_end s (caps.Pipelined q path) h = absurd h
of_this_end s (caps.Broken x) h = absurd h

none_by : {X : Type 0} (o : Option X) → ((x : X) → o ≡ Some x → ⊥) → o ≡ None
none_by None h = refl
none_by (Some x) h = absurd (h x refl)

module _ (s : State) (hand : Option Origin) (next : List Tied) (w : Within s hand next) where
  kept_at : (o : Outcome) (path : List ℕ) → AllByRecursion IsPlain (caps_of o) → AllByRecursion (IsThere s) (caps_of o) → AllByRecursion (HasRoute s.values) (caps_of o)
      → IsKept s (cap_at o path)
  kept_at o path plain there ends =
      record {
        plain_ = at_path IsPlain o path refl (λ x. refl) plain;
        found = found_there s (cap_at o path) (at_path (IsThere s) o path tt (λ x. tt) there);
        ends = at_path (HasRoute s.values) o path (1, refl) (λ x. (1, refl)) ends;
      }

  pub sound_within : Sound s
  sound_within =
      record {
        promises = λ p v is. record { plain_ = w.plain.promises p v is; found = found_there s v (w.there.values_.promises p v is); ends = w.ends.values_.promises p v is };
        imports = λ i v is. record { plain_ = w.plain.imports i v is; found = found_there s v (w.there.values_.imports i v is); ends = w.ends.values_.imports i v is };
        answers = λ a o path is. kept_at o path (w.plain.answers a o is) (w.there.values_.answers a o is) (w.ends.values_.answers a o is);
        questions = λ q question o path is e. kept_at o path (w.plain.questions q question o is e) (w.there.values_.questions q question o is e) (w.ends.values_.questions q question o is e);
        gifts = λ g c e. kept_fit s c (w.gifts g c e);
        embargoes =
            λ n v is. (
              of_this_end s v (there_is (IsExportable s) (get s.marks.embargoes n) v is (w.embargoed n)),
              found_there s v (there_is (IsThere s) (get s.marks.embargoes n) v is (w.there.embargoes_ n)),
              there_is (HasRoute s.values) (get s.marks.embargoes n) v is (w.ends.embargoes_ n),
            );
        opens =
            record {
              open_promises = λ p is. none_by (get s.waiting.over.promises p) (λ v e. w.over_promises p v e is);
              open_answers = λ a is. none_by (get s.waiting.over.answers a) (λ o e. w.over_answers a o e is);
              open_questions = λ q question is none. none_by (get s.waiting.over.questions q) (λ o e. w.over_questions q o question e is none);
            };
      }

  -- the answer of a ticket is open
  pub answer_open : (a : ℕ) (entry : Exchange AnswerEntry) → get s.entries.answers a ≡ Some entry → is_open_stage entry.stage ≡ true → (o : Option (Option Outcome))
      → get s.values.answers a ≡ o → AnswerIs (get s.entries.answers a) o → o ≡ Some None
  answer_open a entry is open_ None at h = absurd (by (rw (is) at h))
    where
      by : AnswerIs (Some entry) None → ⊥
      by h = h
  answer_open a entry is open_ (Some None) at h = refl
  answer_open a entry is open_ (Some (Some outcome)) at h = absurd (true≢false (by (rw (is) at h) ∙ ap not open_))
    where
      by : AnswerIs (Some entry) (Some (Some outcome)) → true ≡ not (is_open_stage entry.stage)
      by h = h

  pub question_open : (q : ℕ) (entry : Exchange QuestionEntry) → get s.entries.questions q ≡ Some entry → is_open_stage entry.stage ≡ true → entry.kept.forwards ≡ None
      → (o : Option QuestionState) → get s.values.questions q ≡ o → QuestionIs (get s.entries.questions q) o
      → (question : QuestionState) × (o ≡ Some question) × (question.outcome ≡ None)
  question_open q entry is open_ own None at h = absurd (by (rw (is, own) at h))
    where
      by : OwnIs None entry.stage None → ⊥
      by h = h
  question_open q entry is open_ own (Some question) at h = (question, refl, closed question.outcome (by (rw (is, own) at h)))
    where
      by : OwnIs None entry.stage (Some question) → is_some question.outcome ≡ not (is_open_stage entry.stage)
      by h = h

      closed : (o : Option Outcome) → is_some o ≡ not (is_open_stage entry.stage) → o ≡ None
      closed None e = refl
      closed (Some o) e = absurd (true≢false (e ∙ ap not open_))

-- one entry is within the sum of all
module _ {X : Type 0} (f : X → ℕ) (q : ℕ) (x : X) where
  within_by : (e : ℕ × X) (es : List (ℕ × X)) (b : Bool) → (find nat_cmp q es ≡ Some x → f x ≤ sum_by f (map (λ e. e.1) es)) → cond b (Some e.1) (find nat_cmp q es) ≡ Some x
      → f x ≤ f e.1 + sum_by f (map (λ e. e.1) es)
  within_by e es true more is = omega (arith, ap f (some_out is))
  within_by e es false more is = omega (arith, more is)

  within_all : (es : List (ℕ × X)) → find nat_cmp q es ≡ Some x → f x ≤ sum_by f (map (λ e. e.1) es)
  within_all [] is = none_out is
  within_all (e ∷ es) is = omega (arith, within_by e es (eq_by_cmp nat_cmp q e.0) (within_all es) is, sum_by-cons f e.1 (map (λ e. e.1) es))

  pub within_table : (table : Table X) → get table q ≡ Some x → f x ≤ sum_by f (map (λ e. e.1) (entries table))
  within_table table is = within_all (entries table) (sym (get-entries table q) ∙ is)

-- a promise that is tied once, and once at most
pub is_open : (o : Option (Option Cap)) → is_unsettled o ≡ true → o ≡ Some None
is_open None h = absurd (true≢false (sym h))
is_open (Some None) h = refl
is_open (Some (Some value)) h = absurd (true≢false (sym h))

pub tied_once : (unsettled own : Bool) (n : ℕ) → 1 + n ≤ one_if (unsettled && own) → (unsettled ≡ true) × (n ≡ 0)
tied_once true true n h = (refl, omega (arith, h))
tied_once true false n h = absurd (never n h)
  where
    never : (n : ℕ) → 1 + n ≤ 0 → ⊥
    never n h = omega (arith, h)
tied_once false own n h = absurd (never n h)
  where
    never : (n : ℕ) → 1 + n ≤ 0 → ⊥
    never n h = omega (arith, h)

all_open : (s : State) (tied : List Tied) → Sound s
    → ((p : ℕ) → tied_to p tied ≤ one_if (is_unsettled (get s.values.promises p) && not (set.contains s.entries.own_promises p))) → AreOpen s tied
all_open s [] sound h = tt
all_open s (tied ∷ more) sound h =
    let p = tied.promise in
    let all : tied_to p (tied ∷ more) ≡ 1 + tied_to p more = one_more p tied more ∙ ap (λ c. cond c 1 0 + tied_to p more) (is_itself p) in
    let once = tied_once (is_unsettled (get s.values.promises p)) (not (set.contains s.entries.own_promises p)) (tied_to p more) (rw (← all) (h p)) in
    let open_ = is_open (get s.values.promises p) once.0 in
    (open_, sound.opens.open_promises p open_, once.1, all_open s more sound (λ r. omega (arith, h r, one_more r tied more)))

pub tied_open : (s : State) (hand : Option Origin) → Within s hand [] → (a : ℕ) (entry : Exchange AnswerEntry) → get s.entries.answers a ≡ Some entry → AreOpen s entry.kept.tied
tied_open s hand w a entry is =
    all_open s entry.kept.tied (sound_within s hand [] w)
    (λ p. omega (arith, w.tied p, within_table (λ e. tied_to p e.kept.tied) a entry s.entries.answers is))

-- Nothing was given to the origin of a ticket.
pub ticket_ungiven : (s : State) (hand : Option Origin) → Within s hand [] → (origin : Origin) (ticket : ℕ) → IsTicketOf s origin ticket → IsUngiven s origin
ticket_ungiven s hand w (origins.Answer a) ticket (entry, is, open_, bears) =
    let value = answer_open s hand [] w a entry is open_ (get s.values.answers a) refl (w.answers_valued a) in
    (value, (sound_within s hand [] w).opens.open_answers a value, rw (is) (tied_open s hand w a entry is))
ticket_ungiven s hand w (origins.Own q) ticket (entry, is, open_, bears, own) =
    let value = question_open s hand [] w q entry is open_ own (get s.values.questions q) refl (w.questions_valued q) in
    (value.0, value.1, value.2, (sound_within s hand [] w).opens.open_questions q value.0 value.1 value.2)

without_ungiven : (s : State) (call : WaitingCall) (origin : Origin) → IsUngiven s origin → IsUngiven (without_call s call) origin
without_ungiven s call (origins.Answer a) h = (h.0, h.1, by (get s.entries.answers a) h.2)
  where
    by : (o : Option (Exchange AnswerEntry)) → IfSome o (λ entry. AreOpen s entry.kept.tied) → IfSome o (λ entry. AreOpen (without_call s call) entry.kept.tied)
    by None k = tt
    by (Some entry) k = are_open_same s (without_call s call) entry.kept.tied refl refl k
without_ungiven s call (origins.Own q) h = h

ungiven_none : (s : State) (origin : Origin) → IsUngiven s origin → given_to s.waiting.over origin ≡ None
ungiven_none s (origins.Answer a) h = h.1
ungiven_none s (origins.Own q) h = h.3

-- So it is for a call that waits.
pub waiting_ungiven : (s : State) (call : WaitingCall) → Within s None [] → get s.waiting.calls call.ticket ≡ Some call
    → IsTicketOf s call.origin call.ticket × IsUngiven (without_call s call) call.origin × (given_to s.waiting.over call.origin ≡ None)
waiting_ungiven s call w is =
    let waits = there_is (WaitsFor s call.ticket) (get s.waiting.calls call.ticket) call is (w.waiting call.ticket) in
    let ungiven = ticket_ungiven s None w call.origin call.ticket waits.2 in
    (waits.2, without_ungiven s call call.origin ungiven, ungiven_none s call.origin ungiven)
