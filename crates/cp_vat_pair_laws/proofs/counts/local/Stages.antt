-- Local questions that match their entries are at the stage that is told of them.
use Rattle.std.specs.Prelude.{◌≡◌, refl, ℕ, ◌+◌, ◌||◌, cond, Bool, true, false, List, [], ◌∷◌, Option, Some, None, IfSome}
use Rattle.std.specs.List.{list_any, count_by}
use Rattle.std.specs.FinMap.{get, get-empty}
use Rattle.std.specs.Ordering.{nat_cmp}
use Rattle.std.proofs.Common.{inl, inr, arith, ap, sym, ◌∙◌, true≢false}
use Rattle.std.proofs.lemmas.List.Sums.{sum_by-cons}
use Rattle.cp_tables.specs.declared.exchange.Exchange.{Exchange}
use Rattle.cp_tables.specs.declared.exchange.Stage.{Stage}
use Rattle.cp_tables.specs.declared.exchange.Stage.TheVariants as stages
use Rattle.cp_refs.specs.declared.call.Origin.{Origin}
use Rattle.cp_refs.specs.declared.call.Origin.TheVariants as origins
use Rattle.cp_refs.specs.declared.call.WaitingCall.{WaitingCall}
use Rattle.cp_vat_machine.specs.State.{State, new_state}
use Rattle.cp_vat_machine.specs.InUse.{waiting_calls}
use Rattle.cp_vat_machine.specs.Local.{is_origin, waiting_of, one_if, HasQuestionPlace, Local}
use Rattle.cp_vat_machine.specs.Run.{Moment, Steps}
use Rattle.cp_vat_machine.specs.declared.entry.QuestionEntry.{QuestionEntry}
use Rattle.cp_vat_machine.proofs.Basics.{is_equal, or_first, or_second}
use Rattle.cp_vat_laws.proofs.Tables.{here_of, all_values, pass_none}
use Rattle.cp_vat_pair_laws.specs.LocalQuestions.{LocalQuestion, no_question, local_question, while_called}
use Rattle.cp_vat_pair_laws.specs.Orderly.{IsHeldBack, IsOrderly}
use Rattle.cp_vat_pair_laws.specs.Tallied.{unsent_stage, is_waiting, local_stage}
use Rattle.cp_vat_pair_laws.proofs.NewPairs.{new_orderly}
use Rattle.cp_vat_pair_laws.proofs.counts.local.Matches.{IsGone, Matches}
use Rattle.cp_vat_pair_laws.proofs.counts.local.Steps.{steps_match}

-- a call that waits is of a question that wasn't sent nor delivered
is_own : (q : ℕ) (origin : Origin) → is_origin (origins.Own q) origin ≡ true → origin ≡ origins.Own q
is_own q (origins.Own p) is = ap origins.Own (is_equal p q is)
is_own q (origins.Answer a) is = absurd (true≢false (sym is))

not_waiting : (s : State) (q : ℕ) → IsOrderly s → (IsHeldBack (get s.entries.questions q) → ⊥) → is_waiting s q ≡ false
not_waiting s q orderly not =
    pass_none (λ call. is_origin (origins.Own q) call.origin) (waiting_calls s)
    (all_values (λ call. is_origin (origins.Own q) call.origin ≡ false) s.waiting.calls
    (λ ticket. here_of (λ call. is_origin (origins.Own q) call.origin ≡ false) (get s.waiting.calls ticket) (λ call is. by ticket call is (is_origin (origins.Own q) call.origin) refl)))
  where
    by : (ticket : ℕ) (call : WaitingCall) → get s.waiting.calls ticket ≡ Some call → (b : Bool) → is_origin (origins.Own q) call.origin ≡ b
        → is_origin (origins.Own q) call.origin ≡ false
    by ticket call is true own = absurd (not (orderly.held.back ticket call q is (is_own q call.origin own)))
    by ticket call is false own = own

-- one that was finished, and wasn't delivered, waits
none_counted : {X : Type 0} (p : X → Bool) (xs : List X) → list_any p xs ≡ false → count_by p xs ≡ 0
none_counted p [] none = refl
none_counted p (x ∷ xs) none =
    sum_by-cons (λ x. cond (p x) 1 0) x xs ∙ rw (or_first (p x) (list_any p xs) none) (omega (arith, none_counted p xs (or_second (p x) (list_any p xs) none)))

waits : (s : State) (q : ℕ) (entry : Exchange QuestionEntry) → HasQuestionPlace s q entry → entry.stage ≡ stages.Finished → entry.kept.is_sent ≡ false
    → (is_waiting s q || entry.kept.is_delivered) ≡ true
waits s q entry place finished unsent = by (is_waiting s q) entry.kept.is_delivered refl refl
  where
    placed : waiting_of s (origins.Own q) + one_if entry.kept.is_delivered + one_if entry.kept.is_sent ≡ 1
    placed = place (rw (finished) refl)

    by : (b c : Bool) → is_waiting s q ≡ b → entry.kept.is_delivered ≡ c → (b || c) ≡ true
    by true c is at = refl
    by false true is at = refl
    by false false is at =
        let none : waiting_of s (origins.Own q) ≡ 0 = none_counted (λ call. is_origin (origins.Own q) call.origin) (waiting_calls s) is in
        let sum : 0 + 0 + 0 ≡ 1 = rw (none, at, unsent) at placed in
        absurd (omega (arith, sum))

-- what is told of a question
none_called : (b : Bool) → None ≡ while_called b None
none_called true = refl
none_called false = refl

gone_as : (waiting : Bool) (question : LocalQuestion) → waiting ≡ false → IsGone question → None ≡ while_called (waiting || question.is_delivered) question.stage
gone_as waiting question not (inl none) = rw (none) (none_called (waiting || question.is_delivered))
gone_as waiting question not (inr left) = rw (not, left.0, left.1) refl

stands_as : (b : Bool) (stage : Stage) → (stage ≡ stages.Finished → b ≡ true) → Some stage ≡ while_called b (Some stage)
stands_as true stage must = refl
stands_as false stages.Open must = refl
stands_as false stages.Returned must = refl
stands_as false stages.Finished must = absurd (true≢false (sym (must refl)))

sent_back : (entry : Exchange QuestionEntry) → entry.kept.is_sent ≡ true → IsHeldBack (Some entry) → ⊥
sent_back entry sent back = true≢false (sym sent ∙ back.0.0)

stage_as : (s : State) (q : ℕ) (o : Option (Exchange QuestionEntry)) (question : LocalQuestion) → get s.entries.questions q ≡ o → IsOrderly s → IfSome o (HasQuestionPlace s q)
    → Matches question o → unsent_stage o ≡ local_stage s q question
stage_as s q None question there orderly place is = gone_as (is_waiting s q) question (not_waiting s q orderly (λ back. rw there at back)) is
stage_as s q (Some entry) question there orderly place is = by entry.kept.is_sent refl
  where
    by : (b : Bool) → entry.kept.is_sent ≡ b → unsent_stage (Some entry) ≡ local_stage s q question
    by true sent = rw (sent) (gone_as (is_waiting s q) question (not_waiting s q orderly (λ back. sent_back entry sent (rw there at back))) (rw sent at is))
    by false sent =
        let same = rw sent at is in
        rw (sent, same.0, same.1) (stands_as (is_waiting s q || entry.kept.is_delivered) entry.stage (λ finished. waits s q entry place finished sent))

-- So they are after every list of steps of a new vat that leaves it open.
pub local_as : (bootstrap : Option ℕ) (history : List Moment) (last : State) → Steps (new_state bootstrap) history last → last.is_closed ≡ false → Local last → (q : ℕ)
    → unsent_stage (get last.entries.questions q) ≡ local_stage last q (local_question history q)
local_as bootstrap history last steps open_ local q =
    let all = steps_match history (new_state bootstrap) last (new_orderly bootstrap) steps open_ in
    stage_as last q (get last.entries.questions q) (local_question history q) refl all.1 (local.questions q)
    (all.0 q no_question (rw (get-empty {X = Exchange QuestionEntry} nat_cmp q) (inl refl)))
