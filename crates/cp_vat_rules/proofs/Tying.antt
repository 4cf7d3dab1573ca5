-- How the promises tied to an answer are settled, one after another.
use Rattle.std.proofs.lemmas.List.{at_drop_more, drop_all}
use Rattle.std.proofs.Common.{◌≡◌, ℕ, ◌+◌, ◌<◌, ◌≤◌, List, [], ◌∷◌, ◌++◌, length, get_or, drop, Some, Result, Ok, Err, sym, ap, ◌∙◌, subst}
use Rattle.std.specs.FinMap.{insert}
use Rattle.cp_tables.specs.Table.{Table}
use Rattle.cp_tables.specs.declared.counted.Counted.{Counted}
use Rattle.cp_tables.specs.declared.exchange.Exchange.{Exchange}
use Rattle.cp_tables.specs.declared.exchange.Stage.TheVariants as stages
use Rattle.cp_messages.specs.declared.returned.Returned.{Returned}
use Rattle.cp_refs.specs.At.{cap_at}
use Rattle.cp_refs.specs.Values.{ValueMaps}
use Rattle.cp_refs.specs.declared.cap.Cap.{Cap}
use Rattle.cp_refs.specs.declared.outcome.Outcome.{Outcome}
use Rattle.cp_vat_machine.specs.State.{State, Over}
use Rattle.cp_vat_machine.specs.Then.{Done}
use Rattle.cp_vat_machine.specs.Answering.{without_answer}
use Rattle.cp_vat_machine.specs.Give.{Settle, SettleTied, given, gone, returned_mentions}
use Rattle.cp_vat_machine.specs.declared.entry.AnswerEntry.{AnswerEntry}
use Rattle.cp_vat_machine.specs.declared.effect.Effect.{Effect}
use Rattle.cp_vat_machine.specs.declared.entry.Tied.{Tied}
use Rattle.cp_vat_machine.specs.declared.fault.PeerFault.{PeerFault}
use Rattle.cp_vat_state.specs.Overs.{over_with}
use Rattle.cp_vat_state.specs.Queue.{Queue, with_over}
use Rattle.cp_vat_state.specs.StateOf.{state_of}
use Rattle.cp_vat_state.specs.declared.gates.Fulfillment.TheVariants as gifts
use Rattle.cp_vat_state.specs.declared.step_fault.StepFault.{StepFault}
use Rattle.cp_vat_state.specs.declared.parts.Core.{Core}
use Rattle.cp_vat_rules.specs.Leading.{with_parts}
use Rattle.cp_vat_rules.specs.Settling.{Settles, over_settled, settling}
use Rattle.cp_vat_rules.specs.declared.settle.SettledPromise.{SettledPromise}
use Rattle.cp_vat_rules.proofs.Giving.{prefixed, settles_on, tied_step, tied_fails, tied_done}
use Rattle.cp_vat_rules.proofs.Backing.{over_more}

-- from the state in which some were settled, with the values, the exports and the promises that were settled so far
module _ (s : State) (start now : ValueMaps) (first mid : Table (Counted Cap)) (outcome : Outcome) (xs : List Tied) (i : ℕ) (none before : List Effect) (settled : List SettledPromise) (from : now ≡ record start { promises = now.promises })
    (so_far : (done : List Effect) × (before ≡ none ++ done) × ((out : Result Done PeerFault) → SettleTied (settling s now.promises mid settled) outcome (drop i xs) out → SettleTied (settling s start.promises first []) outcome xs (prefixed done out))) where
  -- no more are left
  pub tied_ends : length xs ≤ i → (done : List Effect) × (before ≡ none ++ done) × SettleTied (settling s start.promises first []) outcome xs (Ok (done, settling s now.promises mid settled))
  tied_ends past = (so_far.0, so_far.1, tied_done (settling s start.promises first []) (settling s now.promises mid settled) outcome xs i so_far.0 so_far.2 past)

  module _ (same : s.values.questions ≡ start.questions) (t : Tied) (value : Cap) where
    questions_same : s.values.questions ≡ now.questions
    questions_same = same ∙ sym (ap (λ v. v.questions) from)

    -- one can't be settled
    pub tied_stops : {A B : Type 0} (step_fault : StepFault) (before' after after' : List Effect) (new : State → A → State) (last : B → State) → i < length xs → t ≡ get_or xs i t → value ≡ cap_at outcome t.path
        → ((s : State) → s.values.questions ≡ now.questions → Settles (Settle (settling s now.promises mid []) t.promise value) (Err step_fault) before after (new s))
        → Settles (SettleTied (settling s start.promises first []) outcome xs) (Err step_fault) before' after' last
    tied_stops {A} {B} step_fault before' after after' new last inside is given went =
        settles_on A B (Settle (settling s now.promises mid settled) t.promise value) (SettleTied (settling s start.promises first []) outcome xs) step_fault before after before' after' (new (settling s now.promises mid settled)) last
        (λ f r. tied_fails (settling s start.promises first []) (settling s now.promises mid settled) outcome xs i so_far.0 so_far.2 t value f inside is given r)
        (went (settling s now.promises mid settled) questions_same)

    -- one more is settled
    pub tied_goes_on : (one : SettledPromise) (more : List SettledPromise) (next : ValueMaps) (last : Table (Counted Cap)) (after : List Effect) → i < length xs → t ≡ get_or xs i t → value ≡ cap_at outcome t.path
        → ((s : State) → s.values.questions ≡ now.questions → (done : List Effect) × (after ≡ before ++ done) × Settle (settling s now.promises mid []) t.promise value (Ok (done, settling s next.promises last (one ∷ []))))
        → more ≡ settled ++ one ∷ []
        → (done : List Effect) × (after ≡ none ++ done) × ((out : Result Done PeerFault) → SettleTied (settling s next.promises last more) outcome (drop (i + 1) xs) out → SettleTied (settling s start.promises first []) outcome xs (prefixed done out))
    tied_goes_on one more next last after inside is given went pushed =
        let over : over_settled (over_settled s.waiting.over settled) (one ∷ []) ≡ over_settled s.waiting.over more = sym (over_more s.waiting.over settled (one ∷ [])) ∙ sym (ap (over_settled s.waiting.over) pushed) in
        let with_over : Over → State = λ o. record (settling s next.promises last settled) { waiting = record s.waiting { over = o } } in
        let met = went (settling s now.promises mid settled) questions_same in
        let settles = subst (λ q. Settle (settling s now.promises mid settled) t.promise value (Ok (met.0, q))) (ap with_over over) met.2 in
        tied_step (settling s start.promises first []) (settling s now.promises mid settled) outcome xs i so_far.0 so_far.2 t before after (settling s next.promises last more) value inside is given (met.0, met.1, settles) none so_far.1

-- the state that giving an answer leaves, whose tied promises were settled before
pub given_as : (core now : Core) (exports : Table (Counted Cap)) (id : ℕ) (outcome copied : Outcome) (kept : AnswerEntry) (returned : Returned) (ids : List ℕ) (settled : List SettledPromise) (values : ValueMaps) (answers : Table (Exchange AnswerEntry)) (ended gates : Queue)
    → now ≡ record core { values = record core.values { promises = now.values.promises }; exports = now.exports }
    → ended ≡ with_over now.gates (over_with now.gates.waiting.over (gifts.Answer id copied)) → copied ≡ outcome
    → values ≡ record now.values { answers = insert now.values.answers id (Some outcome) }
    → answers ≡ insert now.answers id (record { stage = stages.Returned; kept = record kept { mentions = ids; tied = [] } }) → ids ≡ returned_mentions returned
    → gates ≡ with_over ended (over_settled ended.waiting.over settled)
    → settling (given (with_parts (state_of core) core.values exports) id kept outcome returned) now.values.promises now.exports settled ≡ state_of (record now { values = values; answers = answers; gates = gates })
given_as core now exports id outcome copied kept returned ids settled values answers ended gates is is_ended is_copied is_values is_answers is_ids is_gates =
    let after : Core → State =
    λ n. state_of (
    record n {
      values = record n.values { answers = insert n.values.answers id (Some outcome) };
      answers = insert n.answers id (record { stage = stages.Returned; kept = record kept { mentions = returned_mentions returned; tied = [] } });
      gates = with_over n.gates (over_settled (over_with n.gates.waiting.over (gifts.Answer id outcome)) settled);
    }
    ) in
    rw (is_gates, is_answers, is_ids, is_values, is_ended, is_copied) (sym (ap after is))

-- so after its Finish
pub gone_as : (core now final : Core) (id : ℕ) (outcome copied : Outcome) (settled : List SettledPromise)
    → now ≡ record core { values = record core.values { promises = now.values.promises }; exports = now.exports } → copied ≡ outcome
    → state_of final ≡ settling (gone (state_of now) id copied) now.values.promises now.exports settled
    → settling (gone (state_of core) id outcome) now.values.promises now.exports settled ≡ state_of final
gone_as core now final id outcome copied settled is is_copied ended =
    let after : Core → Outcome → State = λ n o. settling (gone (state_of n) id o) now.values.promises now.exports settled in
    sym (ended ∙ ap (λ n. after n copied) is ∙ ap (λ o. after (record core { values = record core.values { promises = now.values.promises }; exports = now.exports }) o) is_copied)

-- an answer that was finished is taken out once its gate ended, and then the gates of settled promises end
pub finished_as : (core left : Core) (id : ℕ) (outcome : Outcome) (settled : List SettledPromise) (ended gates : Queue)
    → ended ≡ with_over core.gates (over_with core.gates.waiting.over (gifts.Answer id outcome))
    → state_of left ≡ without_answer (state_of (record core { gates = ended })) id
    → gates ≡ with_over left.gates (over_settled left.gates.waiting.over settled)
    → state_of (record left { gates = gates }) ≡ settling (gone (state_of core) id outcome) core.values.promises core.exports settled
finished_as core left id outcome settled ended gates is_ended is_left is_gates =
    let over : State → State = λ s. record s { waiting = record s.waiting { over = over_settled s.waiting.over settled } } in
    rw is_gates (ap over is_left ∙ ap (λ q. over (without_answer (state_of (record core { gates = q })) id)) is_ended)

-- a loop over settled promises that ends the gate of each
module _ (start : Queue) (now next : Queue) (xs : List SettledPromise) (i : ℕ) (so_far : start ≡ with_over now (over_settled now.waiting.over (drop i xs))) where
  -- one more gate ends
  pub gates_go_on : (one : SettledPromise) (value : Cap) → i < length xs → one ≡ get_or xs i one → value ≡ one.value → next ≡ with_over now (over_with now.waiting.over (gifts.Promise one.promise value)) → start ≡ with_over next (over_settled next.waiting.over (drop (i + 1) xs))
  gates_go_on one value inside is copied ended =
      let here : drop i xs ≡ one ∷ drop (i + 1) xs = at_drop_more (λ l. l) xs i one inside ∙ ap (λ d. d ∷ drop (i + 1) xs) (sym is) in
      let after = ended ∙ ap (λ v. with_over now (over_with now.waiting.over (gifts.Promise one.promise v))) copied in
      so_far ∙ ap (λ l. with_over now (over_settled now.waiting.over l)) here ∙ sym (ap (λ q. with_over q (over_settled q.waiting.over (drop (i + 1) xs))) after)

  -- none is left
  pub gates_end : length xs ≤ i → now ≡ start
  gates_end past = sym (so_far ∙ ap (λ l. with_over now (over_settled now.waiting.over l)) (drop_all i xs past))
