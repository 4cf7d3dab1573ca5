-- Exchanges that no run makes.
use Rattle.std.specs.Prelude.{◌≡◌, refl, ℕ, false, List, [], ◌∷◌, ◌++◌, Option, Some, None, Ok, Err}
use Rattle.std.specs.List.{list_any}
use Rattle.std.specs.Ordering.{nat_cmp}
use Rattle.std.specs.Cmp.{nat_cmp_total}
use Rattle.std.specs.FinMap.{get, remove, empty, get-empty, get-insert, get-remove}
use Rattle.std.proofs.Common.{arith, sym, ap, ◌∙◌}
use Rattle.cp_tables.specs.Table.{Table}
use Rattle.cp_tables.specs.declared.counted.Counted.{Counted}
use Rattle.cp_tables.specs.declared.exchange.Exchange.{Exchange}
use Rattle.cp_tables.specs.declared.exchange.Stage.{Stage}
use Rattle.cp_tables.specs.declared.exchange.Stage.TheVariants as stages
use Rattle.cp_messages.specs.declared.message.Message.TheVariants as messages
use Rattle.cp_messages.specs.declared.returned.Returned.{Returned}
use Rattle.cp_messages.specs.declared.target.Target.TheVariants as targets
use Rattle.cp_refs.specs.declared.call.WaitingCall.{WaitingCall}
use Rattle.cp_refs.specs.declared.call.Origin.TheVariants as origins
use Rattle.cp_refs.specs.declared.cap.Cap.{Cap}
use Rattle.cp_refs.specs.declared.cap.Cap.TheVariants as caps
use Rattle.cp_refs.specs.declared.outcome.Outcome.{Outcome}
use Rattle.cp_vat_machine.specs.State.{State, new_state, with_exports}
use Rattle.cp_vat_machine.specs.Then.{Done, OrFull}
use Rattle.cp_vat_machine.specs.Receiving.{released}
use Rattle.cp_vat_machine.specs.Give.{Give, GiveAnswer, GiveBy, given, return_of}
use Rattle.cp_vat_machine.specs.Go.{Leave}
use Rattle.cp_vat_machine.specs.Doing.{DoAnswer, Quietly, answer_refusals}
use Rattle.cp_vat_machine.specs.Step.{Step}
use Rattle.cp_vat_machine.specs.declared.entry.AnswerEntry.{AnswerEntry}
use Rattle.cp_vat_machine.specs.declared.effect.Effect.{Effect}
use Rattle.cp_vat_machine.specs.declared.effect.Effect.TheVariants as effects
use Rattle.cp_vat_machine.specs.declared.event.Event.TheVariants as events
use Rattle.cp_vat_machine.specs.declared.event.Value.{Value}
use Rattle.cp_vat_machine.specs.declared.event.Value.TheVariants as values
use Rattle.cp_vat_machine.specs.declared.fault.PeerFault.TheVariants as faults
use Rattle.test_vat.specs.Rows.{small_call, on_answer, small_request, one_object}
use Rattle.test_vat.specs.OrderRows.{IsNoRun, given_to_another, released_twice, waiting_dropped, other_way_round}
use Rattle.test_vat.proofs.OneWaits.{returned_0}
use Rattle.test_vat.proofs.OneWaits.{s_3', entry_1, held_2, outcome_1, kept_1_now}
use Rattle.test_vat.proofs.Inverts.{is_closing, shows, then_ok, unless_ok, quietly_ok, ok_inj, some_inj, none_not_some, err_not_ok}
use Rattle.test_vat.proofs.Pinned.{object_returned, only_s_1, only_s_2, only_s_3, only_s_4, s_4', answers_object, goes_first, released_by, second_boot}

-- what an answer's outcome does begins with its Return
BeginsByReturn : ℕ → List Effect → Type 0
BeginsByReturn a all = (returned : Returned) × (more : List Effect) × (all ≡ return_of a returned ∷ more)

begins_by : (old : State) (a : ℕ) (outcome : Outcome) (kept : AnswerEntry) (stage : Stage) (done : Done) → GiveBy old a outcome kept stage (Ok done) → BeginsByReturn a done.0
unfolding BeginsByReturn
begins_by old a outcome kept stages.Open done gives =
    let (said, returns, more) = then_ok _ _ done gives in
    let (tied, settles, is) = then_ok _ _ done more in (said.0, tied.0, ap (λ d. d.0) (ok_inj is))
begins_by old a outcome kept stages.Finished done gives = let (tied, settles, is) = then_ok _ _ done gives in (_, tied.0, ap (λ d. d.0) (ok_inj is))
begins_by old a outcome kept stages.Returned done gives = absurd gives

given_begins : (old : State) (a : ℕ) (outcome : Outcome) (done : Done) → GiveAnswer old a outcome (Ok done) → BeginsByReturn a done.0
given_begins old a outcome done (entry, is_kept, gives) = begins_by old a outcome entry.kept entry.stage done gives

answer_begins : (old : State) (a : ℕ) (outcome : Outcome) (value : Value) (first : List Effect) (mid : State) → DoAnswer old (origins.Answer a) outcome (Ok (value, first, mid))
    → BeginsByReturn a first
answer_begins old a outcome value first mid does =
    let origin = origins.Answer a in
    let fits = unless_ok (answer_refusals old origin outcome) (OrFull (Quietly (Give old origin outcome))) (value, first, mid) does in
    given_begins old a outcome (first, mid) (quietly_ok (Give old origin outcome) value first mid fits)

-- the number that the first Return is for
first_answer : List Effect → ℕ
first_answer (effects.Send (messages.Return r) ∷ more) = r.answer_id
first_answer other = 0

others : (all first rest : List Effect) → first_answer all ≡ 2 → BeginsByReturn 1 first → all ≡ first ++ rest → ⊥
unfolding BeginsByReturn first_answer
others all first rest second (returned, more, begins) is = absurd (omega (arith, second, ap first_answer (is ∙ ap (λ f. f ++ rest) begins)))

pub not_to_another : IsNoRun given_to_another
unfolding first_answer
not_to_another (last, (m_1, step_0, (m_2, step_1, (m_3, step_2, end)))) =
    let (first, rest, mid, does, leaving, is) = shows step_2 refl in others _ first rest refl (answer_begins m_2 1 outcome_1 values.Nothing first mid does) is

-- An export that is counted twice is gone with a Release of two, and another Release of it is a fault.
release_both : (exports : Table (Counted Cap)) → get exports 0 ≡ Some (record { count = 2; kept = caps.Object 0 }) → released exports 0 2 ≡ Ok (remove exports 0)
release_both exports is = rw (is) refl

release_none : (exports : Table (Counted Cap)) → get exports 0 ≡ None → released exports 0 1 ≡ Err faults.UnknownExport
release_none exports is = rw (is) refl

gone_0 : (exports : Table (Counted Cap)) → get (remove exports 0) 0 ≡ None
gone_0 exports = get-remove nat_cmp_total exports 0 0

twice : (old mid last : State) → old.waiting.calls ≡ empty → get old.counts.exports 0 ≡ Some (record { count = 2; kept = caps.Object 0 })
    → Step old (events.Receive (messages.Release (record { id = 0; reference_count = 2 }))) (Ok values.Nothing) [] mid
    → Step mid (events.Receive (messages.Release (record { id = 0; reference_count = 1 }))) (Ok values.Nothing) [] last
    → ⊥
twice old mid last none is_counted step_2 step_1 =
    let (lower, is_lower, mid_is) = released_by old mid 0 2 none step_2 in
    let (lowest, is_lowest, last_is) = released_by mid last 0 1 (ap (λ s. s.waiting.calls) mid_is ∙ none) step_1 in
    let is_gone = ok_inj (sym is_lower ∙ release_both old.counts.exports is_counted) in
    let exports_is = ap (λ s. s.counts.exports) mid_is ∙ is_gone in
    err_not_ok (sym (release_none mid.counts.exports (ap (λ e. get e 0) exports_is ∙ gone_0 old.counts.exports)) ∙ is_lowest)

pub not_by_one : IsNoRun released_twice
not_by_one (last, (m_1, step_0, (m_2, step_1, (m_3, step_2, (m_4, step_3, end))))) =
    let (none, is_counted) = second_boot m_2 (rw (only_s_1 m_1 step_0) at step_1) in twice m_2 m_3 m_4 none is_counted step_2 step_3

-- the steps to the call that waits lead to its state
only_3 : (m_1 m_2 m_3 : State) → Step (new_state (Some 0)) (events.Receive (messages.Bootstrap (record { question_id = 0 }))) (Ok values.Nothing) (return_of 0 returned_0 ∷ []) m_1
    → Step m_1 (events.Receive (small_call 1 (targets.ImportedCap 0))) (Ok values.Nothing) (effects.Deliver 0 (origins.Answer 1) 0 small_request ∷ []) m_2
    → Step m_2 (events.Receive (small_call 2 (on_answer 1 0))) (Ok values.Nothing) [] m_3
    → m_3 ≡ s_3'
only_3 m_1 m_2 m_3 step_0 step_1 step_2 =
    let is_2 = only_s_2 m_2 (rw (only_s_1 m_1 step_0) at step_1) in only_s_3 m_3 (rw (is_2) at step_2)

-- The state after the first call's answer, whatever number its export has.
abbrev answered_with : State → ℕ → Table (Counted Cap) → State
answered_with s e exports = given (with_exports s exports) 1 entry_1.kept outcome_1 (object_returned one_object e)

-- what the application's answer leads to
Goes : State → List Effect → Type 0
Goes old all = (e : ℕ) × (exports : Table (Counted Cap)) × (rest : List Effect) × (new : State) × Leave (answered_with old e exports) rest (Ok new)
    × (all ≡ return_of 1 (object_returned one_object e) ∷ rest)

answer_goes : (old new : State) (all : List Effect) → list_any is_closing all ≡ false → get old.entries.answers 1 ≡ Some entry_1
    → Step old (events.Answer (origins.Answer 1) outcome_1) (Ok values.Nothing) all new
    → Goes old all
unfolding Goes
answer_goes old new all quiet_all is_kept step =
    let (first, rest, mid, does, leaving, is) = shows step quiet_all in
    let (e, exports, how, done_is) = answers_object old one_object 5 first mid is_kept does in (
      e,
      exports,
      rest,
      new,
      moved mid (answered_with old e exports) rest new (ap {A = Done} (λ d. d.1) done_is) leaving,
      is ∙ ap {A = Done} (λ d. d.0 ++ rest) done_is,
    )
  where
    moved : (s t : State) (rest : List Effect) (new : State) → s ≡ t → Leave s rest (Ok new) → Leave t rest (Ok new)
    moved s t rest new is leaving = rw (is) at leaving

-- the ticket of the first Deliver after a Return
second_ticket : List Effect → Option ℕ
second_ticket (first ∷ effects.Deliver k origin ticket request ∷ more) = Some ticket
second_ticket other = None

goes_1 : (old new : State) (all : List Effect) → list_any is_closing all ≡ false → get old.entries.answers 1 ≡ Some entry_1 → get old.waiting.calls 0 ≡ None
    → get old.waiting.calls 1 ≡ Some held_2
    → Step old (events.Answer (origins.Answer 1) outcome_1) (Ok values.Nothing) all new
    → second_ticket all ≡ Some 1
unfolding Goes second_ticket
goes_1 old new all quiet_all is_kept none one step =
    let (e, exports, rest, last, leaving, all_is) = answer_goes old new all quiet_all is_kept step in
    let (more, rest_is) = goes_first (answered_with old e exports) last rest none one (rw (get-insert nat_cmp_total old.waiting.over.answers 1 outcome_1 1) refl) leaving in
    ap second_ticket (all_is ∙ ap (λ r. return_of 1 (object_returned one_object e) ∷ r) rest_is)

none_0 : get s_3'.waiting.calls 0 ≡ None
none_0 = simp (get-insert {X = WaitingCall} nat_cmp_total, get-empty {X = WaitingCall} nat_cmp) refl

one_1 : get s_3'.waiting.calls 1 ≡ Some held_2
one_1 = get-insert nat_cmp_total empty 1 held_2 1

pub not_dropped : IsNoRun waiting_dropped
unfolding second_ticket
not_dropped (last, (m_1, step_0, (m_2, step_1, (m_3, step_2, (m_4, step_3, end))))) =
    none_not_some (goes_1 s_3' m_4 _ refl kept_1_now none_0 one_1 (rw (only_3 m_1 m_2 m_3 step_0 step_1 step_2) at step_3))

none_0_again : get s_4'.waiting.calls 0 ≡ None
none_0_again = simp (get-insert {X = WaitingCall} nat_cmp_total, get-empty {X = WaitingCall} nat_cmp) refl

one_1_again : get s_4'.waiting.calls 1 ≡ Some held_2
one_1_again = simp (get-insert {X = WaitingCall} nat_cmp_total) refl

kept_1_last : get s_4'.entries.answers 1 ≡ Some entry_1
kept_1_last = simp (get-insert {X = Exchange AnswerEntry} nat_cmp_total) refl

pub not_other_way_round : IsNoRun other_way_round
unfolding second_ticket
not_other_way_round (last, (m_1, step_0, (m_2, step_1, (m_3, step_2, (m_4, step_3, (m_5, step_4, end)))))) =
    let is_4 = only_s_4 m_4 (rw (only_3 m_1 m_2 m_3 step_0 step_1 step_2) at step_3) in
    absurd (omega (arith, some_inj (goes_1 s_4' m_5 _ refl kept_1_last none_0_again one_1_again (rw (is_4) at step_4))))
