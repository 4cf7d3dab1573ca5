-- What the application's other calls do.
use Rattle.std.specs.Prelude.{◌≡◌, refl, ℕ, ◌+◌, ◌==◌, ◌||◌, not, Bool, true, false, List, [], ◌∷◌, Option, Some, None, is_some, IsTrue, option_to_list, Result, Ok, ◌++◌, ◌&&◌, is_none, flat_map}
use Rattle.std.specs.List.{list_any, AllByRecursion}
use Rattle.std.specs.FinMap.{get, insert, remove, values, get-empty, entries, get-entries}
use Rattle.std.specs.Ordering.{nat_cmp, eq_by_cmp}
use Rattle.std.specs.Cmp.{nat_cmp_total}
use Rattle.std.specs.FinMap.Entries.{find}
use Rattle.std.specs.FinSet as set
use Rattle.std.specs.FinSet.{contains-insert, contains-remove}
use Rattle.std.proofs.Common.{inl, inr, arith, ap, sym, ◌∙◌, true≢false}
use Rattle.std.proofs.lemmas.Bool.Decides.{nat_tests}
use Rattle.cp_tables.specs.declared.counted.Counted.{Counted}
use Rattle.cp_tables.specs.declared.exchange.Exchange.{Exchange}
use Rattle.cp_tables.specs.declared.exchange.Stage.{Stage}
use Rattle.cp_tables.specs.declared.exchange.Stage.TheVariants as stages
use Rattle.cp_tables.specs.Counted.{IsCount}
use Rattle.cp_refs.specs.Route.{promise_way, question_way, HasRoute}
use Rattle.cp_refs.specs.declared.cap.Cap.{Cap}
use Rattle.cp_refs.specs.declared.cap.Cap.TheVariants as caps
use Rattle.cp_refs.specs.declared.call.WaitingCall.{WaitingCall}
use Rattle.cp_refs.specs.declared.call.Origin.{Origin}
use Rattle.cp_refs.specs.declared.call.Origin.TheVariants as origins
use Rattle.cp_refs.specs.declared.outcome.Outcome.{Outcome}
use Rattle.cp_refs.specs.declared.values.QuestionState.{QuestionState}
use Rattle.cp_refs.specs.declared.values.QuestionKind.TheVariants as kinds
use Rattle.cp_vat_machine.specs.State.{State, gave, none_over}
use Rattle.cp_vat_machine.specs.Then.{Done, OrFull, fault_if}
use Rattle.cp_vat_machine.specs.Capacity.{Fresh, cap_fits, outcome_fits}
use Rattle.cp_vat_machine.specs.Give.{Give, settled, Settle}
use Rattle.cp_vat_machine.specs.InUse.{caps_of, waiting_calls, kept_caps, caps_given, value_unless, other_values, is_import, is_promise, is_at_promise, is_pipelined, is_unsettled, is_import_used, is_promise_used, has_question, has_promise, has_import}
use Rattle.cp_vat_machine.specs.Local.{is_open_stage, one_if, tied_to, tied_in, IsThere, is_wire, IsSentIf, IsOpenIf, IsExportable, IsImportMark}
use Rattle.cp_vat_machine.specs.declared.entry.AnswerEntry.{AnswerEntry}
use Rattle.cp_vat_machine.specs.declared.entry.QuestionEntry.{QuestionEntry}
use Rattle.cp_vat_machine.specs.declared.fault.PeerFault.{PeerFault}
use Rattle.cp_vat_machine.specs.Calling.{OwnDone, not_all, mark_of}
use Rattle.cp_vat_machine.specs.Doing.{Quietly, DoBootstrap, is_ungiven, is_ungiven_answer, is_ungiven_question, awaits, answer_refusals, DoAnswer, promise_made, DoPromise, is_made, is_settled, resolve_refusals, value_refusals, Resolves, DoResolve, without_import, DoRelease, without_promise, DoForget, DoIdle}
use Rattle.cp_vat_machine.specs.declared.fault.VatFault.{VatFault}
use Rattle.cp_vat_machine.specs.declared.fault.VatFault.TheVariants as refusals
use Rattle.cp_vat_machine.proofs.Basics.{not_false, some_out, none_out, ok_in, then_out, is_equal, is_itself, other_number, put_at, gone_at, ok_out, unless_out, or_full_out, or_first, or_second, all_front, all_back}
use Rattle.cp_vat_laws.specs.Within.{Within, is_in_hand, HasAnswerPlace, HasQuestionPlace, AllKept, AreValues, IsPlain, IsFit, AreTiedRightly}
use Rattle.cp_vat_laws.proofs.Tables.{here_of, there_of, gone_cases, each_gone, each_kept, all_of, no_faults, front_empty, back_empty, not_met, none_pass, value_of, flat_all}
use Rattle.cp_vat_laws.proofs.within.AllKept.{at_path, values_map, values_both, both_all, kept_map, promise_put, promise_gone, import_gone}
use Rattle.cp_vat_laws.proofs.within.Follows.{all_end, there_ends}
use Rattle.cp_vat_laws.proofs.within.Take.{fresh_is}
use Rattle.cp_vat_laws.proofs.within.Give.{IsToGive, give_answer_keeps}
use Rattle.cp_vat_laws.proofs.within.GiveOwn.{IsToSettle, give_own_keeps}
use Rattle.cp_vat_laws.proofs.within.Ways.{IsWayKept, same_way, ways_kept, promise_leads, question_leads}
use Rattle.cp_vat_laws.proofs.within.Between.{none_gave, value_in, given_in}
use Rattle.cp_vat_laws.proofs.within.StaysThere.{fresh_kept, exportable_stays, there_stays, put_stays, plain_route, plain_routes, same_route}
use Rattle.cp_vat_laws.proofs.within.Settle.{settle_keeps}
use Rattle.cp_vat_laws.proofs.within.InHand.{alone_none}
use Rattle.cp_vat_laws.proofs.within.Asks.{question_asked}
use Rattle.cp_vat_laws.proofs.within.Call.{all_pass, all_named, named_there}

both_parts : (a b : Bool) → (a && b) ≡ true → (a ≡ true) × (b ≡ true)
both_parts true b is = (refl, is)
both_parts false b is = absurd (true≢false (sym is))

quietly_out : (Rule : Result Done PeerFault → Type 0) (done : OwnDone) → Quietly Rule (Ok done) → (inner : Done) × Rule (Ok inner) × (inner.1 ≡ done.2)
quietly_out Rule done quiet =
    let parts = then_out {A = Done} {B = OwnDone} Rule _ done quiet in
    (parts.0, parts.1, sym (ap (λ (x : OwnDone). x.2) (ok_in _ _ parts.2)))

-- a Bootstrap is asked for
pub do_bootstrap_keeps : (s : State) (done : OwnDone) → Within s None [] → s.waiting.over ≡ none_over → DoBootstrap s (Ok done) → Within done.2 None []
do_bootstrap_keeps s done h still does =
    let rule = or_full_out _ done does in
    let parts = then_out {A = ℕ} {B = OwnDone} (Fresh s.entries.questions) _ done rule in
    let not_over : get s.waiting.over.questions parts.0 ≡ None = ap (λ o. get o.questions parts.0) still ∙ get-empty {X = Outcome} nat_cmp parts.0 in
    rw
    (ok_in _ _ parts.2)
    (question_asked h parts.0 kinds.Wire None true None (fresh_is s.entries.questions (Ok parts.0) parts.1) not_over (alone_none (origins.Own parts.0)) refl
    (λ not. (refl, refl)))

-- An outcome is given by the application.
answer_awaits : (s : State) (a : ℕ) (o : Option (Exchange AnswerEntry)) → Within s None [] → get s.entries.answers a ≡ o → is_ungiven_answer o ≡ true
    → IsToGive s None a
answer_awaits s a None h was is = absurd (true≢false (sym is))
answer_awaits s a (Some entry) h was is =
    let parts = by entry.stage is in
    let place = there_of (HasAnswerPlace s None a) (get s.entries.answers a) entry was (h.answers a) parts.0 in
    let one : ◌≡◌ {A = ℕ} (one_if entry.kept.is_delivered) 1 = rw (parts.1) refl in
    record { alone = alone_none (origins.Answer a); waits = omega (arith, place, one); forwarded = omega (arith, place, one) }
  where
    by : (stage : Stage) → is_ungiven entry.kept.is_delivered stage ≡ true → IsTrue (is_open_stage stage) × (entry.kept.is_delivered ≡ true)
    by stages.Open e = (refl, e)
    by stages.Finished e = (refl, e)
    by stages.Returned e = absurd (true≢false (sym e))

question_awaits : (s : State) (q : ℕ) (o : Option (Exchange QuestionEntry)) → Within s None [] → get s.entries.questions q ≡ o → is_ungiven_question o ≡ true
    → IsToSettle s None q
question_awaits s q None h was is = absurd (true≢false (sym is))
question_awaits s q (Some entry) h was is =
    let parts = by entry.stage is in
    let place = there_of (HasQuestionPlace s None q) (get s.entries.questions q) entry was (h.questions q) parts.0 in
    let one : ◌≡◌ {A = ℕ} (one_if entry.kept.is_delivered) 1 = rw (parts.1) refl in
    let unsent : ◌≡◌ {A = ℕ} (one_if entry.kept.is_sent) 0 = omega (arith, place, one) in
    let open_if = there_of (λ (e : Exchange QuestionEntry). IsOpenIf e.kept.forwards e) (get s.entries.questions q) entry was (h.forwarding q) in
    record {
      alone = alone_none (origins.Own q);
      waits = omega (arith, place, one);
      own = λ e at. ap (λ (x : Exchange QuestionEntry). x.kept.forwards) (some_out (sym at ∙ was)) ∙ not_forwarded entry.kept.forwards unsent open_if;
      sent = λ e at. there_of (λ (x : Exchange QuestionEntry). is_in_hand None (origins.Own q) ≡ false → IsSentIf (is_wire (get s.values.questions q)) x.kept)
          (get s.entries.questions q) e at (h.wire q) refl;
    }
  where
    by : (stage : Stage) → is_ungiven entry.kept.is_delivered stage ≡ true → IsTrue (is_open_stage stage) × (entry.kept.is_delivered ≡ true)
    by stages.Open e = (refl, e)
    by stages.Finished e = (refl, e)
    by stages.Returned e = absurd (true≢false (sym e))

    never : ◌≡◌ {A = ℕ} 1 0 → ⊥
    never e = omega (arith, e)

    not_forwarded : (o : Option ℕ) → one_if entry.kept.is_sent ≡ 0 → IsOpenIf o entry → o ≡ None
    not_forwarded None unsent open_if = refl
    not_forwarded (Some a) unsent open_if = absurd (never (rw open_if.1 at unsent))

awaited_gives : (s : State) (origin : Origin) (outcome : Outcome) (done : Done) → Within s None [] → awaits s origin ≡ true
    → AllByRecursion (IsFit s) (caps_of outcome) → Give s origin outcome (Ok done)
    → Within done.1 None []
awaited_gives s (origins.Answer a) outcome done h is fit gives = give_answer_keeps s None a outcome done h
    (answer_awaits s a (get s.entries.answers a) h refl is) fit gives
awaited_gives s (origins.Own q) outcome done h is fit gives = give_own_keeps s None q outcome done h
    (question_awaits s q (get s.entries.questions q) h refl is) fit gives

fit_all : (s : State) (table : List Cap) → Within s None [] → AllByRecursion IsPlain table → AllByRecursion (IsThere s) table → AllByRecursion (IsFit s) table
fit_all s table h fit there =
    all_of (λ c. IsPlain c × IsThere s c) (IsFit s) table (λ c x. (x.0, x.1, there_ends s h.ends.values_ c x.1)) (both_all IsPlain (IsThere s) table fit there)

pub do_answer_keeps : (s : State) (origin : Origin) (outcome : Outcome) (done : OwnDone) → Within s None [] → DoAnswer s origin outcome (Ok done)
    → Within done.2 None []
do_answer_keeps s origin outcome done h does =
    let Rule : Result OwnDone VatFault → Type 0 = OrFull (Quietly (Give s origin outcome)) in
    let rule = or_full_out (Quietly (Give s origin outcome)) done (unless_out {A = OwnDone} {F = VatFault} (answer_refusals s origin outcome) Rule done does) in
    let none = no_faults {A = OwnDone} {F = VatFault} (answer_refusals s origin outcome) Rule done does in
    let table : List Cap = caps_of outcome in
    let four = front_empty _ (fault_if (not_all (has_import s) table) refusals.UnknownImport) none in
    let held = all_pass (has_import s) table (not_met _ refusals.UnknownImport
    (back_empty _ (fault_if (not_all (has_import s) table) refusals.UnknownImport) none)) in
    let three = front_empty _ (fault_if (not (outcome_fits outcome)) refusals.TooLarge) four in
    let fit = none_pass is_pipelined table (not_met _ refusals.Unsettled (back_empty _ (fault_if (list_any is_pipelined table) refusals.Unsettled) three)) in
    let two = front_empty _ (fault_if (list_any is_pipelined table) refusals.Unsettled) three in
    let promise = all_pass (has_promise s) table (not_met _ refusals.UnknownPromise
    (back_empty _ (fault_if (not_all (has_promise s) table) refusals.UnknownPromise) two)) in
    let one = front_empty (fault_if (not (awaits s origin && not (not_all (has_question s) table))) refusals.UnknownQuestion)
    (fault_if (not_all (has_promise s) table) refusals.UnknownPromise) two in
    let both = both_parts (awaits s origin) (not (not_all (has_question s) table)) (not_false _ (not_met _ refusals.UnknownQuestion one)) in
    let question = all_pass (has_question s) table (is_not (not_all (has_question s) table) both.1) in
    let inner = quietly_out (Give s origin outcome) done rule in
    rw (← inner.2) (awaited_gives s origin outcome inner.0 h both.0 (fit_all s table h fit (all_named h table question promise held)) inner.1)
  where
    is_not : (b : Bool) → not b ≡ true → b ≡ false
    is_not true e = absurd (true≢false (sym e))
    is_not false e = refl

-- a promise of the application's
ties : (p q : ℕ) (b : Bool) → (p == q) ≡ b → eq_by_cmp nat_cmp q p ≡ b
ties p q true t = grind (arith, nat_tests)
ties p q false t = grind (arith, nat_tests)

module _ {s : State} (h : Within s None []) (p : ℕ) (fresh : get s.values.promises p ≡ None) (not_over : get s.waiting.over.promises p ≡ None) where
  abbrev made : State
  made = promise_made s p

  kept_open : (q : ℕ) (o : Option Cap) → get s.values.promises q ≡ Some o → get (insert s.values.promises p None) q ≡ Some o
  kept_open = fresh_kept s.values.promises p None fresh

  made_stays : (c : Cap) → IsThere s c → IsThere made c
  made_stays = there_stays s made (put_stays s.values.promises p None) (λ i x. x) (λ q x. x)

  made_there : AllKept (IsThere made) made
  made_there =
      let moved = kept_map (IsThere s) (IsThere made) s.values s.waiting.calls s.marks.embargoes s.counts.exports made_stays h.there in
      record {
        values_ = promise_put (IsThere made) s.values moved.values_ p None (λ v e. none_out e);
        calls_ = moved.calls_;
        embargoes_ = moved.embargoes_;
        exports_ = moved.exports_;
      }

  over_open : (q : ℕ) (value : Cap) (b : Bool) → (p == q) ≡ b → get s.waiting.over.promises q ≡ Some value → get (insert s.values.promises p None) q ≡ Some None
      → ⊥
  over_open q value true t is at = let same : get s.waiting.over.promises p ≡ Some value = rw (is_equal p q t) is in none_out (sym not_over ∙ same)
  over_open q value false t is at = h.over_promises q value is (sym (put_at s.values.promises p q None false t) ∙ at)

  owns : (q : ℕ) (b : Bool) → (p == q) ≡ b → set.contains (set.insert s.entries.own_promises p) q ≡ (b || set.contains s.entries.own_promises q)
  owns q b t = contains-insert nat_cmp_total s.entries.own_promises p q ∙ ap (λ c. c || set.contains s.entries.own_promises q) (ties p q b t)

  tied_made : (q : ℕ) (b : Bool) → (p == q) ≡ b → AreTiedRightly made [] q
  tied_made q true t =
      let none : get s.values.promises q ≡ None = rw (← is_equal p q t) fresh in
      let old : tied_in s q + tied_to q [] ≡ 0 = rw none at (h.tied q) in
      rw (put_at s.values.promises p q None true t, owns q true t) (omega (arith, old))
  tied_made q false t = rw (put_at s.values.promises p q None false t, owns q false t) (h.tied q)

  owned_made : (q : ℕ) (b : Bool) → (p == q) ≡ b → set.contains (set.insert s.entries.own_promises p) q ≡ true
      → is_some (get (insert s.values.promises p None) q) ≡ true
  owned_made q true t own = ap is_some (put_at s.values.promises p q None true t)
  owned_made q false t own = put_stays s.values.promises p None q (h.owned q (sym (owns q false t) ∙ own))

  pub promise_is_made : Within made None []
  promise_is_made =
      let new : State = made in
      record {
        over_answers = h.over_answers;
        over_promises = λ r value is open_. over_open r value (p == r) refl is open_;
        over_questions = h.over_questions;
        over_embargoes = h.over_embargoes;
        gifts = λ gate cap is. let fit = h.gifts gate cap is in
            (fit.0, made_stays cap fit.1, plain_route s.values new.values h.plain kept_open cap fit.0 fit.2);
        answers = h.answers;
        questions = h.questions;
        waiting = h.waiting;
        forwards = h.forwards;
        wire = h.wire;
        forwarding = h.forwarding;
        gates_kept = h.gates_kept;
        sendable = h.sendable;
        tied = λ r. tied_made r (p == r) refl;
        untied = h.untied;
        owned = λ r own. owned_made r (p == r) refl own;
        counts = h.counts;
        imported = h.imported;
        exports = each_kept (λ e x. IsExportable s x.kept) (λ e x. IsExportable new x.kept) s.counts.exports 0 h.exports
            (λ e x is. exportable_stays s new (put_stays s.values.promises p None) x.kept);
        one_export = h.one_export;
        there = made_there;
        ends = all_end new (promise_put (HasRoute new.values) s.values (plain_routes s.values new.values h.plain kept_open h.ends.values_) p None
            (λ v e. none_out e)) made_there;
        embargoed = each_kept (λ n. IsExportable s) (λ n. IsExportable new) s.marks.embargoes 0 h.embargoed
            (λ n c is. exportable_stays s new (put_stays s.values.promises p None) c);
        plain = promise_put IsPlain s.values h.plain p None (λ v e. none_out e);
        finished = h.finished;
        answers_valued = h.answers_valued;
        questions_valued = h.questions_valued;
        imports_valued = h.imports_valued;
        import_marks = h.import_marks;
        path_marks = h.path_marks;
        one_mark = h.one_mark;
        waited_for = h.waited_for;
      }

pub do_promise_keeps : (s : State) (done : OwnDone) → Within s None [] → s.waiting.over ≡ none_over → DoPromise s (Ok done) → Within done.2 None []
do_promise_keeps s done h still does =
    let rule = or_full_out _ done does in
    let parts = then_out {A = ℕ} {B = OwnDone} (Fresh s.values.promises) _ done rule in
    rw
    (ok_in _ _ parts.2)
    (promise_is_made h parts.0 (fresh_is s.values.promises (Ok parts.0) parts.1) (ap (λ o. get o.promises parts.0) still ∙ get-empty {X = Cap} nat_cmp parts.0))

-- a promise of the application's is settled
unsettled_is : (o : Option (Option Cap)) → is_some o ≡ true → is_settled o ≡ false → o ≡ Some None
unsettled_is None there unset = absurd (true≢false (sym there))
unsettled_is (Some None) there unset = refl
unsettled_is (Some (Some v)) there unset = absurd (true≢false unset)

module _ (s : State) (p : ℕ) (h : Within s None []) (own : set.contains s.entries.own_promises p ≡ true) where
  own_tied : (v : Cap) (q : ℕ) → AreTiedRightly (settled s p v) [] q
  own_tied v q = by (p == q) refl
    where
      none_owned : (u : Bool) → one_if (u && not true) ≡ 0
      none_owned true = refl
      none_owned false = refl

      by : (b : Bool) → (p == q) ≡ b → AreTiedRightly (settled s p v) [] q
      by true t =
          let it : set.contains s.entries.own_promises q ≡ true = rw (← is_equal p q t) own in
          let old : tied_in s q + tied_to q [] ≡ one_if (is_unsettled (get s.values.promises q) && not true) = rw it at (h.tied q) in
          rw (put_at s.values.promises p q (Some v) true t) (omega (arith, old, none_owned (is_unsettled (get s.values.promises q))))
      by false t = rw (put_at s.values.promises p q (Some v) false t) (h.tied q)

resolves_by : (s : State) (p : ℕ) (cap : Cap) (done : OwnDone) → Within s None [] → has_question s cap ≡ true → is_made s p ≡ true → has_promise s cap ≡ true
    → is_settled (get s.values.promises p) ≡ false → Resolves s p cap (Ok done) → Within done.2 None []
resolves_by s p cap done h question own promise unset (inl (cycle, is)) = ok_out is
resolves_by s p cap done h question own promise unset (inr (no_cycle, does)) =
    let Rule : Result OwnDone VatFault → Type 0 = OrFull (Quietly (Settle s p cap)) in
    let rule = or_full_out (Quietly (Settle s p cap)) done (unless_out {A = OwnDone} {F = VatFault} (value_refusals s cap) Rule done does) in
    let none = no_faults {A = OwnDone} {F = VatFault} (value_refusals s cap) Rule done does in
    let two = front_empty _ (fault_if (not (has_import s cap)) refusals.UnknownImport) none in
    let held = not_false _ (not_met _ refusals.UnknownImport (back_empty _ (fault_if (not (has_import s cap)) refusals.UnknownImport) none)) in
    let fit = not_met (is_pipelined cap) refusals.Unsettled
    (front_empty (fault_if (is_pipelined cap) refusals.Unsettled) (fault_if (not (cap_fits cap)) refusals.TooLarge) two) in
    let there = named_there h cap question promise held in
    let inner = quietly_out (Settle s p cap) done rule in
    let open_ = unsettled_is (get s.values.promises p) (h.owned p own) unset in
    rw (← inner.2) (settle_keeps s None [] [] p cap inner.0 h open_ (fit, there, there_ends s h.ends.values_ cap there) (own_tied s p h own) inner.1).0

pub do_resolve_keeps : (s : State) (p : ℕ) (cap : Cap) (done : OwnDone) → Within s None [] → DoResolve s p cap (Ok done) → Within done.2 None []
do_resolve_keeps s p cap done h does =
    let rule = unless_out {A = OwnDone} {F = VatFault} (resolve_refusals s p cap) (Resolves s p cap) done does in
    let none = no_faults {A = OwnDone} {F = VatFault} (resolve_refusals s p cap) (Resolves s p cap) done does in
    let two = front_empty _ (fault_if (is_settled (get s.values.promises p)) refusals.AlreadyResolved) none in
    let unset = not_met _ refusals.AlreadyResolved (back_empty _ (fault_if (is_settled (get s.values.promises p)) refusals.AlreadyResolved) none) in
    let both = both_parts (is_made s p) (has_promise s cap)
    (not_false _ (not_met _ refusals.UnknownPromise (back_empty _ (fault_if (not (is_made s p && has_promise s cap)) refusals.UnknownPromise) two))) in
    let question = not_false _ (not_met _ refusals.UnknownQuestion
    (front_empty (fault_if (not (has_question s cap)) refusals.UnknownQuestion)
    (fault_if (not (is_made s p && has_promise s cap)) refusals.UnknownPromise) two)) in
    resolves_by s p cap done h question both.0 both.1 unset rule

-- what isn't among the capabilities that are kept
abbrev IsKeptOff : (Cap → Bool) → State → Type 0
IsKeptOff test s = list_any test (kept_caps s) ≡ false

module _ (s : State) (test : Cap → Bool) (off : IsKeptOff test s) where
  abbrev Off : Cap → Type 0
  Off c = test c ≡ false

  all_kept : AllByRecursion Off (kept_caps s)
  all_kept = none_pass test (kept_caps s) off

  before_calls : AllByRecursion Off (flat_map option_to_list (values s.values.promises) ++ flat_map caps_given (values s.values.answers) ++ flat_map
      (λ question. caps_given question.outcome) (values s.values.questions))
  before_calls = all_front Off _ (flat_map (λ call. call.request.caps) (waiting_calls s)) all_kept

  before_questions : AllByRecursion Off (flat_map option_to_list (values s.values.promises) ++ flat_map caps_given (values s.values.answers))
  before_questions = all_front Off _ (flat_map (λ question. caps_given question.outcome) (values s.values.questions)) before_calls

  off_promises : (p : ℕ) (v : Cap) → get s.values.promises p ≡ Some (Some v) → Off v
  off_promises p v is = value_in Off (Some v) v refl (value_of (λ o. AllByRecursion Off (option_to_list o)) s.values.promises p (Some v) is
      (flat_all Off option_to_list (values s.values.promises) (all_front Off _ (flat_map caps_given (values s.values.answers)) before_questions)))

  off_answers : (a : ℕ) (outcome : Outcome) → get s.values.answers a ≡ Some (Some outcome) → AllByRecursion Off (caps_of outcome)
  off_answers a outcome is = value_of (λ o. AllByRecursion Off (caps_given o)) s.values.answers a (Some outcome) is
      (flat_all Off caps_given (values s.values.answers) (all_back Off (flat_map option_to_list (values s.values.promises)) _ before_questions))

  off_questions : (q : ℕ) (question : QuestionState) (outcome : Outcome) → get s.values.questions q ≡ Some question → question.outcome ≡ Some outcome
      → AllByRecursion Off (caps_of outcome)
  off_questions q question outcome is given = given_in Off question.outcome outcome given
      (value_of (λ (x : QuestionState). AllByRecursion Off (caps_given x.outcome)) s.values.questions q question is
      (flat_all Off (λ (x : QuestionState). caps_given x.outcome) (values s.values.questions)
      (all_back Off _ (flat_map (λ question. caps_given question.outcome) (values s.values.questions)) before_calls)))

  off_calls : (t : ℕ) (call : WaitingCall) → get s.waiting.calls t ≡ Some call → AllByRecursion Off call.request.caps
  off_calls t call is = value_of (λ (c : WaitingCall). AllByRecursion Off c.request.caps) s.waiting.calls t call is
      (flat_all Off (λ (c : WaitingCall). c.request.caps) (waiting_calls s) (all_back Off _ (flat_map (λ call. call.request.caps) (waiting_calls s)) all_kept))

-- an entry that is found, with its number
module _ {X : Type 0} (P : ℕ × X → Type 0) where
  pair : (a b : ℕ) (y z : X) → a ≡ b → y ≡ z → P (a, y) → P (b, z)
  pair a b y z first second p = rw (← first, ← second) p

  found_pair : (es : List (ℕ × X)) (k : ℕ) (x : X) → find nat_cmp k es ≡ Some x → AllByRecursion P es → P (k, x)
  found_pair [] k x is all = none_out is
  found_pair (e ∷ es) k x is all = by (eq_by_cmp nat_cmp k e.0) refl (found_pair es k x)
    where
      same : (a b : ℕ) → eq_by_cmp nat_cmp a b ≡ true → b ≡ a
      same a b t = grind (arith, nat_tests)

      by : (b : Bool) → eq_by_cmp nat_cmp k e.0 ≡ b → (find nat_cmp k es ≡ Some x → AllByRecursion P es → P (k, x)) → P (k, x)
      by true t more = pair e.0 k e.1 x (same k e.0 t) (some_out (rw t at is)) all.0
      by false t more = more (rw t at is) all.1

-- An import is given back.
module _ {s : State} (h : Within s None []) (still : s.waiting.over ≡ none_over) (i : ℕ) (unused : is_import_used s i ≡ false) where
  abbrev released : State
  released = without_import s i

  kept_off : IsKeptOff (is_import i) s
  kept_off = or_first (list_any (is_import i) (kept_caps s)) _ unused

  import_off : (j : ℕ) (v : Cap) → (i == j) ≡ false → get s.values.imports j ≡ Some (Some v) → is_import i v ≡ false
  import_off j v other is =
      let none = or_second (list_any (is_import i) (kept_caps s)) (list_any (is_import i) (other_values s i)) unused in
      let all = flat_all (λ c. is_import i c ≡ false) (λ (entry : ℕ × Option Cap). value_unless i entry) (entries s.values.imports)
      (none_pass (is_import i) (other_values s i) none) in
      let here = found_pair (λ (entry : ℕ × Option Cap). AllByRecursion (λ c. is_import i c ≡ false) (value_unless i entry)) (entries s.values.imports) j
      (Some v) (sym (get-entries s.values.imports j) ∙ is) all in
      let unless : value_unless i (j, Some v) ≡ v ∷ [] = rw (other_number i j other) refl in
      (rw unless at here).0

  off_import : (c : Cap) → is_import i c ≡ false → IsThere s c → IsThere released c
  off_import caps.None off there = tt
  off_import (caps.Object k) off there = tt
  off_import (caps.Promise p) off there = there
  off_import (caps.Import j) off there = ap is_some (gone_at s.counts.imports i j false (other_number j i off)) ∙ there
  off_import (caps.Pipelined q path) off there = there
  off_import (caps.Broken x) off there = tt

  exportable_off : (c : Cap) → IsExportable s c → is_import i c ≡ false
  exportable_off (caps.Object k) is = refl
  exportable_off (caps.Promise p) is = refl
  exportable_off caps.None is = absurd is
  exportable_off (caps.Import j) is = absurd is
  exportable_off (caps.Pipelined q path) is = absurd is
  exportable_off (caps.Broken x) is = absurd is

  table_off : (table : List Cap) → AllByRecursion (λ c. is_import i c ≡ false) table → AllByRecursion (IsThere s) table
      → AllByRecursion (IsThere released) table
  table_off table off there = all_of (λ c. (is_import i c ≡ false) × IsThere s c) (IsThere released) table (λ c x. off_import c x.0 x.1)
      (both_all (λ c. is_import i c ≡ false) (IsThere s) table off there)

  released_there : AllKept (IsThere released) released
  released_there = record {
    values_ = record {
      promises = λ p v is. off_import v (off_promises s (is_import i) kept_off p v is) (h.there.values_.promises p v is);
      imports = λ j v is. let old = gone_cases s.values.imports i j (Some v) is in off_import v (import_off j v old.0 old.1)
          (h.there.values_.imports j v old.1);
      answers = λ a outcome is. table_off (caps_of outcome) (off_answers s (is_import i) kept_off a outcome is) (h.there.values_.answers a outcome is);
      questions = λ q question outcome is given. table_off (caps_of outcome) (off_questions s (is_import i) kept_off q question outcome is given)
          (h.there.values_.questions q question outcome is given);
    };
    calls_ = λ t. here_of _ (get s.waiting.calls t) (λ (call : WaitingCall) is. table_off call.request.caps (off_calls s (is_import i) kept_off t call is)
        (there_of (λ (c : WaitingCall). AllByRecursion (IsThere s) c.request.caps) (get s.waiting.calls t) call is (h.there.calls_ t)));
    embargoes_ = λ n. here_of _ (get s.marks.embargoes n) (λ c is.
        off_import c (exportable_off c (there_of (IsExportable s) (get s.marks.embargoes n) c is (h.embargoed n)))
        (there_of (IsThere s) (get s.marks.embargoes n) c is (h.there.embargoes_ n)));
    exports_ = λ e. here_of _ (get s.counts.exports e) (λ (x : Counted Cap) is.
        off_import x.kept (exportable_off x.kept (there_of (λ (y : Counted Cap). IsExportable s y.kept) (get s.counts.exports e) x is (h.exports e)))
        (there_of (λ (y : Counted Cap). IsThere s y.kept) (get s.counts.exports e) x is (h.there.exports_ e)));
  }

  valued : (j : ℕ) (b : Bool) → (i == j) ≡ b → is_some (get (remove s.counts.imports i) j) ≡ is_some (get (remove s.values.imports i) j)
  valued j true t = ap is_some (gone_at s.counts.imports i j true t) ∙ sym (ap is_some (gone_at s.values.imports i j true t))
  valued j false t = ap is_some (gone_at s.counts.imports i j false t) ∙ h.imports_valued j ∙ sym (ap is_some (gone_at s.values.imports i j false t))

  mark_left : (j : ℕ) (embargo : Option ℕ) → (i == j) ≡ false → IsImportMark s j embargo → IsImportMark released j embargo
  mark_left j embargo other mark =
      (ap is_some (gone_at s.counts.imports i j false other) ∙ mark.0, rw (gone_at s.values.imports i j false other) mark.1)

  mark_before : (c : Cap) (n : ℕ) → mark_of released c ≡ Some (Some n) → mark_of s c ≡ Some (Some n)
  mark_before (caps.Import j) n is = (gone_cases s.marks.imports i j (Some n) is).1
  mark_before (caps.Pipelined q path) n is = is
  mark_before caps.None n is = none_out is
  mark_before (caps.Object k) n is = none_out is
  mark_before (caps.Promise p) n is = none_out is
  mark_before (caps.Broken x) n is = none_out is

  pub import_released : Within released None []
  import_released =
      let new : State = released in
      record {
        over_answers = h.over_answers;
        over_promises = h.over_promises;
        over_questions = h.over_questions;
        over_embargoes = h.over_embargoes;
        gifts = λ gate cap is. none_out (sym (ap (λ o. gave o gate) still ∙ none_gave gate) ∙ is);
        answers = h.answers;
        questions = h.questions;
        waiting = h.waiting;
        forwards = h.forwards;
        wire = h.wire;
        forwarding = h.forwarding;
        gates_kept = h.gates_kept;
        sendable = h.sendable;
        tied = h.tied;
        untied = h.untied;
        owned = h.owned;
        counts = h.counts;
        imported = each_gone (λ j entry. IsCount entry.count) (λ j entry. IsCount entry.count) s.counts.imports i h.imported (λ j entry other is x. x);
        exports = h.exports;
        one_export = h.one_export;
        there = released_there;
        ends = all_end new (import_gone (HasRoute new.values) s.values
            (values_map (HasRoute s.values) (HasRoute new.values) s.values (same_route s.values new.values refl refl) h.ends.values_) i) released_there;
        embargoed = h.embargoed;
        plain = import_gone IsPlain s.values h.plain i;
        finished = h.finished;
        answers_valued = h.answers_valued;
        questions_valued = h.questions_valued;
        imports_valued = λ j. valued j (i == j) refl;
        import_marks = each_gone (IsImportMark s) (IsImportMark new) s.marks.imports i h.import_marks (λ j embargo other is x. mark_left j embargo other x);
        path_marks = h.path_marks;
        one_mark = λ c d n is also. h.one_mark c d n (mark_before c n is) (mark_before d n also);
        waited_for = h.waited_for;
      }

pub do_release_keeps : (s : State) (i : ℕ) (done : OwnDone) → Within s None [] → s.waiting.over ≡ none_over → DoRelease s i (Ok done) → Within done.2 None []
do_release_keeps s i done h still does =
    let faults_of : List VatFault = fault_if (is_import_used s i) refusals.InUse ++ fault_if (is_none (get s.counts.imports i)) refusals.UnknownImport in
    let rule = unless_out {A = OwnDone} {F = VatFault} faults_of _ done does in
    let none = no_faults {A = OwnDone} {F = VatFault} faults_of _ done does in
    let unused = not_met (is_import_used s i) refusals.InUse
    (front_empty (fault_if (is_import_used s i) refusals.InUse) (fault_if (is_none (get s.counts.imports i)) refusals.UnknownImport) none) in
    rw (ok_in _ _ rule) (import_released h still i unused)

-- A settled promise is dropped.
module _ {s : State} (h : Within s None []) (still : s.waiting.over ≡ none_over) (p : ℕ) (unused : is_promise_used s p ≡ false) where
  abbrev forgotten : State
  forgotten = without_promise s p

  abbrev NotIt : Cap → Type 0
  NotIt c = is_promise p c ≡ false

  abbrev kept_part : Bool
  kept_part = list_any (is_promise p) (kept_caps s)

  abbrev imports_part : Bool
  imports_part = list_any (is_promise p) (flat_map option_to_list (values s.values.imports))

  abbrev open_part : Bool
  open_part = is_unsettled (get s.values.promises p)

  abbrev exports_part : Bool
  exports_part = list_any (λ entry. is_promise p entry.kept) (values s.counts.exports)

  abbrev gates_part : Bool
  gates_part = list_any (λ call. is_at_promise p call.gate) (waiting_calls s)

  abbrev embargoes_part : Bool
  embargoes_part = list_any (is_promise p) (values s.marks.embargoes)

  no_embargoes : embargoes_part ≡ false
  no_embargoes = or_second (kept_part || imports_part || open_part || exports_part || gates_part) embargoes_part unused

  but_embargoes : (kept_part || imports_part || open_part || exports_part || gates_part) ≡ false
  but_embargoes = or_first (kept_part || imports_part || open_part || exports_part || gates_part) embargoes_part unused

  but_gates : (kept_part || imports_part || open_part || exports_part) ≡ false
  but_gates = or_first (kept_part || imports_part || open_part || exports_part) gates_part but_embargoes

  no_exports : exports_part ≡ false
  no_exports = or_second (kept_part || imports_part || open_part) exports_part but_gates

  but_exports : (kept_part || imports_part || open_part) ≡ false
  but_exports = or_first (kept_part || imports_part || open_part) exports_part but_gates

  not_open : open_part ≡ false
  not_open = or_second (kept_part || imports_part) open_part but_exports

  values_part : (kept_part || imports_part) ≡ false
  values_part = or_first (kept_part || imports_part) open_part but_exports

  kept_off_it : IsKeptOff (is_promise p) s
  kept_off_it = or_first kept_part imports_part values_part

  imports_off : (i : ℕ) (v : Cap) → get s.values.imports i ≡ Some (Some v) → NotIt v
  imports_off i v is = value_in NotIt (Some v) v refl (value_of (λ o. AllByRecursion NotIt (option_to_list o)) s.values.imports i (Some v) is
      (flat_all NotIt option_to_list (values s.values.imports) (none_pass (is_promise p) _ (or_second kept_part imports_part values_part))))

  unused_exports : (e : ℕ) (x : Counted Cap) → get s.counts.exports e ≡ Some x → NotIt x.kept
  unused_exports e x is = value_of (λ (y : Counted Cap). NotIt y.kept) s.counts.exports e x is
      (none_pass (λ (y : Counted Cap). is_promise p y.kept) (values s.counts.exports) no_exports)

  unused_embargoes : (n : ℕ) (c : Cap) → get s.marks.embargoes n ≡ Some c → NotIt c
  unused_embargoes n c is = value_of NotIt s.marks.embargoes n c is (none_pass (is_promise p) (values s.marks.embargoes) no_embargoes)

  off_values : AreValues NotIt s.values
  off_values =
      record {
        promises = off_promises s (is_promise p) kept_off_it;
        imports = imports_off;
        answers = off_answers s (is_promise p) kept_off_it;
        questions = off_questions s (is_promise p) kept_off_it;
      }

  there_left : (c : Cap) → NotIt c → IsThere s c → IsThere forgotten c
  there_left caps.None off there = tt
  there_left (caps.Object k) off there = tt
  there_left (caps.Promise q) off there = ap is_some (gone_at s.values.promises p q false (other_number q p off)) ∙ there
  there_left (caps.Import i) off there = there
  there_left (caps.Pipelined q path) off there = there
  there_left (caps.Broken x) off there = tt

  exportable_left : (c : Cap) → NotIt c → IsExportable s c → IsExportable forgotten c
  exportable_left (caps.Object k) off is = tt
  exportable_left (caps.Promise q) off is = ap is_some (gone_at s.values.promises p q false (other_number q p off)) ∙ is
  exportable_left caps.None off is = absurd is
  exportable_left (caps.Import i) off is = absurd is
  exportable_left (caps.Pipelined q path) off is = absurd is
  exportable_left (caps.Broken x) off is = absurd is

  table_left : (table : List Cap) → AllByRecursion NotIt table → AllByRecursion (IsThere s) table → AllByRecursion (IsThere forgotten) table
  table_left table off there = all_of (λ c. NotIt c × IsThere s c) (IsThere forgotten) table (λ c x. there_left c x.0 x.1)
      (both_all NotIt (IsThere s) table off there)

  forgotten_there : AllKept (IsThere forgotten) forgotten
  forgotten_there = record {
    values_ = promise_gone (IsThere forgotten) s.values (values_map (λ c. NotIt c × IsThere s c) (IsThere forgotten) s.values (λ c x. there_left c x.0 x.1)
        (values_both NotIt (IsThere s) s.values off_values h.there.values_)) p;
    calls_ = λ t. here_of _ (get s.waiting.calls t) (λ (call : WaitingCall) is. table_left call.request.caps (off_calls s (is_promise p) kept_off_it t call is)
        (there_of (λ (c : WaitingCall). AllByRecursion (IsThere s) c.request.caps) (get s.waiting.calls t) call is (h.there.calls_ t)));
    embargoes_ = λ n. here_of _ (get s.marks.embargoes n) (λ c is.
        there_left c (unused_embargoes n c is) (there_of (IsThere s) (get s.marks.embargoes n) c is (h.there.embargoes_ n)));
    exports_ = λ e. here_of _ (get s.counts.exports e) (λ (x : Counted Cap) is.
        there_left x.kept (unused_exports e x is) (there_of (λ (y : Counted Cap). IsThere s y.kept) (get s.counts.exports e) x is (h.there.exports_ e)));
  }

  -- ways don't lead to it
  promise_kept : (q : ℕ) (b : Bool) → (p == q) ≡ b → NotIt (caps.Promise q)
      → IsWayKept forgotten.values NotIt (promise_way q (get s.values.promises q)) (promise_way q (get (remove s.values.promises p) q))
  promise_kept q true t off = absurd (true≢false (sym (rw (is_equal p q t) (is_itself q)) ∙ off))
  promise_kept q false t off =
      rw (gone_at s.values.promises p q false t)
      (same_way forgotten.values NotIt (promise_way q (get s.values.promises q))
      (λ c is. off_values.promises q c (promise_leads q (get s.values.promises q) c is)))

  question_kept : (q : ℕ) (path : List ℕ) → IsWayKept forgotten.values NotIt (question_way q path (get s.values.questions q))
      (question_way q path (get s.values.questions q))
  question_kept q path =
      same_way forgotten.values NotIt (question_way q path (get s.values.questions q)) (λ c is.
      let found = question_leads q path (get s.values.questions q) c is in
      rw (found.4) (at_path NotIt found.1 path refl (λ x. refl) (off_values.questions q found.0 found.1 found.2 found.3)))

  forgotten_ends : AreValues (HasRoute forgotten.values) forgotten.values
  forgotten_ends =
      promise_gone (HasRoute forgotten.values) s.values
      (values_map (λ c. NotIt c × HasRoute s.values c) (HasRoute forgotten.values) s.values
      (λ c x. ways_kept s.values forgotten.values NotIt (λ q off. promise_kept q (p == q) refl off) (λ q path off. question_kept q path) c x.0 x.1)
      (values_both NotIt (HasRoute s.values) s.values off_values h.ends.values_)) p

  owns_left : (q : ℕ) (b : Bool) → (p == q) ≡ b → set.contains (set.remove s.entries.own_promises p) q ≡ (not b && set.contains s.entries.own_promises q)
  owns_left q b t = contains-remove nat_cmp_total s.entries.own_promises p q ∙ ap (λ c. not c && set.contains s.entries.own_promises q) (ties p q b t)

  tied_left : (q : ℕ) (b : Bool) → (p == q) ≡ b → AreTiedRightly forgotten [] q
  tied_left q true t =
      let closed : is_unsettled (get s.values.promises q) ≡ false = rw (← is_equal p q t) not_open in
      let old : tied_in s q + tied_to q [] ≡ 0 = rw closed at (h.tied q) in
      rw (gone_at s.values.promises p q true t) (omega (arith, old))
  tied_left q false t = rw (gone_at s.values.promises p q false t, owns_left q false t) (h.tied q)

  owned_left : (q : ℕ) (b : Bool) → (p == q) ≡ b → set.contains (set.remove s.entries.own_promises p) q ≡ true
      → is_some (get (remove s.values.promises p) q) ≡ true
  owned_left q true t own = absurd (true≢false (sym own ∙ owns_left q true t))
  owned_left q false t own = ap is_some (gone_at s.values.promises p q false t) ∙ h.owned q (sym (owns_left q false t) ∙ own)

  pub promise_forgotten : Within forgotten None []
  promise_forgotten =
      let new : State = forgotten in
      record {
        over_answers = h.over_answers;
        over_promises = λ r value is open_. h.over_promises r value is (gone_cases s.values.promises p r None open_).1;
        over_questions = h.over_questions;
        over_embargoes = h.over_embargoes;
        gifts = λ gate cap is. none_out (sym (ap (λ o. gave o gate) still ∙ none_gave gate) ∙ is);
        answers = h.answers;
        questions = h.questions;
        waiting = h.waiting;
        forwards = h.forwards;
        wire = h.wire;
        forwarding = h.forwarding;
        gates_kept = h.gates_kept;
        sendable = h.sendable;
        tied = λ r. tied_left r (p == r) refl;
        untied = h.untied;
        owned = λ r own. owned_left r (p == r) refl own;
        counts = h.counts;
        imported = h.imported;
        exports = λ e. here_of _ (get s.counts.exports e) (λ (x : Counted Cap) is.
            exportable_left x.kept (unused_exports e x is) (there_of (λ (y : Counted Cap). IsExportable s y.kept) (get s.counts.exports e) x is (h.exports e)));
        one_export = h.one_export;
        there = forgotten_there;
        ends = all_end new forgotten_ends forgotten_there;
        embargoed = λ n. here_of _ (get s.marks.embargoes n) (λ c is.
            exportable_left c (unused_embargoes n c is) (there_of (IsExportable s) (get s.marks.embargoes n) c is (h.embargoed n)));
        plain = promise_gone IsPlain s.values h.plain p;
        finished = h.finished;
        answers_valued = h.answers_valued;
        questions_valued = h.questions_valued;
        imports_valued = h.imports_valued;
        import_marks = h.import_marks;
        path_marks = h.path_marks;
        one_mark = h.one_mark;
        waited_for = h.waited_for;
      }

pub do_forget_keeps : (s : State) (p : ℕ) (done : OwnDone) → Within s None [] → s.waiting.over ≡ none_over → DoForget s p (Ok done) → Within done.2 None []
do_forget_keeps s p done h still does =
    let two : List VatFault = fault_if (is_none (get s.values.promises p)) refusals.UnknownPromise ++ fault_if
    (is_unsettled (get s.values.promises p)) refusals.Unsettled in
    let faults_of : List VatFault = two ++ fault_if (is_promise_used s p) refusals.InUse in
    let rule = unless_out {A = OwnDone} {F = VatFault} faults_of _ done does in
    let none = no_faults {A = OwnDone} {F = VatFault} faults_of _ done does in
    rw (ok_in _ _ rule) (promise_forgotten h still p (not_met (is_promise_used s p) refusals.InUse
    (back_empty two (fault_if (is_promise_used s p) refusals.InUse) none)))

pub do_idle_keeps : (s : State) (done : OwnDone) → Within s None [] → DoIdle s (Ok done) → Within done.2 None []
do_idle_keeps s done h does = rw (ok_in _ _ does) h
