-- A question that is refused is answered once, and remembered up to its Finish.
use Rattle.std.proofs.Common.{◌≡◌, ◌≢◌, ◌⊎◌, inl, inr, ℕ, Bool, true, false, true≢false, ◌&&◌, nat_lt, Option, Some, None, refl, sym, ◌∙◌, ap}
use Rattle.std.proofs.lemmas.Bool.{cases_eq}
use Rattle.std.proofs.lemmas.Option.{none-some}
use Rattle.std.specs.List.{list_any}
use Rattle.std.specs.FinMap.{get}
use Rattle.cp_tables.proofs.TableLemmas.{get-insert_same, get-insert_other, get-remove_same, get-remove_other}
use Rattle.cp_messages.specs.declared.descriptor.Descriptor.{Descriptor}
use Rattle.cp_messages.specs.declared.payload.Payload.{Payload}
use Rattle.cp_messages.specs.declared.promised_answer.PromisedAnswer.{PromisedAnswer}
use Rattle.cp_messages.specs.declared.target.Target.{Target}
use Rattle.cp_messages.specs.declared.target.Target.TheVariants as targets
use Rattle.cp_messages.specs.declared.returned.Return.{Return}
use Rattle.cp_messages.specs.declared.returned.Returned.{Returned}
use Rattle.cp_messages.specs.declared.returned.Returned.TheVariants as returns
use Rattle.cp_messages.specs.declared.resolve.Resolve.{Resolve}
use Rattle.cp_messages.specs.declared.resolve.Resolution.{Resolution}
use Rattle.cp_messages.specs.declared.resolve.Resolution.TheVariants as resolutions
use Rattle.cp_messages.specs.declared.call.Call.{Call}
use Rattle.cp_messages.specs.declared.message.Message.{Message}
use Rattle.cp_messages.specs.declared.message.Message.TheVariants as messages
use Rattle.cp_relay.specs.declared.rules.Rules.{Rules}
use Rattle.cp_relay.specs.declared.state.GuardState.{GuardState}
use Rattle.cp_relay.specs.declared.ruling.Cause.{Cause}
use Rattle.cp_relay.specs.declared.ruling.Breach.{Breach}
use Rattle.cp_relay.specs.declared.ruling.Ruling.{Ruling}
use Rattle.cp_relay.specs.declared.ruling.Ruling.TheVariants as rulings
use Rattle.cp_relay.specs.Rules.{follows}
use Rattle.cp_relay.specs.Followed.{Followed, followed_from}
use Rattle.cp_relay.specs.State.{Refused, may_go, is_broken, target_cause, descriptor_cause, limit_cause}
use Rattle.cp_relay.specs.Judged.{most_unfinished, refused_so, call_judged, bootstrap_judged, finish_judged, returned_judged, resolution_judged, target_judged, Judgement, ruled, goes, keeping_of}
use Rattle.cp_relay.specs.Once.{Replies, IsDropped, Asks, Finishes, AnswersFor, Forgets, AnsweredOnce, DropsFinishes, Remembers}

some_is_none : (cause : Cause) → Some cause ≡ None → ⊥
some_is_none cause e = none-some cause (sym e)

-- a Return, a Resolve and a Disembargo go, or close the connection
module _ (P : Ruling → Type 0) (passes : P rulings.Passes → ⊥) (changes : (m : Message) → P (rulings.Changes m) → ⊥) (closes : (b : Breach) → P (rulings.Closes b) → ⊥) (rules : Rules) (refused : Refused) where
  results_not : (r : Return) (payload : Payload) (broken : Bool) → list_any (is_broken refused) payload.cap_table ≡ broken → P (returned_judged rules refused r (returns.Results payload)) → ⊥
  results_not r payload true b g = changes _ (rw b at g)
  results_not r payload false b g = passes (rw b at g)

  taken_not : (r : Return) (question : ℕ) (cause : Option Cause) → get refused question ≡ cause → P (returned_judged rules refused r (returns.TakeFromOtherQuestion question)) → ⊥
  taken_not r question (Some x) t g = changes _ (rw t at g)
  taken_not r question None t g = passes (rw t at g)

  return_not : (r : Return) (returned : Returned) → P (returned_judged rules refused r returned) → ⊥
  return_not r (returns.Results payload) g = results_not r payload (list_any (is_broken refused) payload.cap_table) refl g
  return_not r (returns.TakeFromOtherQuestion question) g = taken_not r question (get refused question) refl g
  return_not r (returns.Exception exception) g = passes g
  return_not r returns.Canceled g = passes g
  return_not r returns.ResultsSentElsewhere g = passes g
  return_not r (returns.AcceptFromThirdParty tree) g = passes g
  return_not r (returns.Unknown number) g = passes g

  cap_not : (r : Resolve) (d : Descriptor) (cause : Option Cause) → descriptor_cause refused d ≡ cause → P (resolution_judged rules refused r (resolutions.Cap d)) → ⊥
  cap_not r d (Some x) t g = changes _ (rw t at g)
  cap_not r d None t g = passes (rw t at g)

  resolve_not : (r : Resolve) (resolution : Resolution) → P (resolution_judged rules refused r resolution) → ⊥
  resolve_not r (resolutions.Cap d) g = cap_not r d (descriptor_cause refused d) refl g
  resolve_not r (resolutions.Exception exception) g = passes g
  resolve_not r (resolutions.Unknown number) g = passes g

  promise_not : (answer : PromisedAnswer) (cause : Option Cause) → get refused answer.question_id ≡ cause → P (target_judged refused (targets.PromisedAnswer answer)) → ⊥
  promise_not answer (Some x) t g = closes _ (rw t at g)
  promise_not answer None t g = passes (rw t at g)

  target_not : (target : Target) → P (target_judged refused target) → ⊥
  target_not (targets.PromisedAnswer answer) g = promise_not answer (get refused answer.question_id) refl g
  target_not (targets.ImportedCap id) g = passes g
  target_not (targets.Unknown number) g = passes g

module _ (rules : Rules) (s : GuardState) where
  -- ---- answers

  refused_replies : (m answer : Message) (question : ℕ) (elsewhere : Bool) (cause : Cause) (strict few : Bool) → rules.strict ≡ strict → nat_lt s.unfinished most_unfinished ≡ few → Asks m question → get s.refused question ≡ None
      → Replies answer (refused_so rules s question elsewhere cause).ruling → AnswersFor rules s m answer (refused_so rules s question elsewhere cause).state
  refused_replies m answer question elsewhere cause true few e k asks first g = absurd (rw e at g)
  refused_replies m answer question elsewhere cause false false e k asks first g = absurd (rw (e, k) at g)
  refused_replies m answer question elsewhere cause false true e k asks first g =
      let is : answer ≡ _ = rw (e, k) at g in
      rw (e, k) (record { question = question; elsewhere = elsewhere; cause = cause; asks = asks; answer_is = is; first = first; remembered = get-insert_same s.refused question cause })

  call_replies : (c : Call) (answer : Message) (reused target limit : Option Cause) (may broken : Bool) → get s.refused c.question_id ≡ reused → may_go rules s c ≡ may → target_cause s.refused c.target ≡ target
      → limit_cause rules.limits s ≡ limit → list_any (is_broken s.refused) c.params.cap_table ≡ broken → Replies answer (call_judged rules s c).ruling → AnswersFor rules s (messages.Call c) answer (call_judged rules s c).state
  call_replies c answer (Some x) target limit may broken r m t l b g = absurd (rw r at g)
  call_replies c answer None target limit false broken r m t l b g = rw (r, m) (refused_replies (messages.Call c) answer c.question_id _ _ rules.strict (nat_lt s.unfinished most_unfinished) refl refl refl r (rw (r, m) at g))
  call_replies c answer None (Some x) limit true broken r m t l b g = rw (r, m, t) (refused_replies (messages.Call c) answer c.question_id _ x rules.strict (nat_lt s.unfinished most_unfinished) refl refl refl r (rw (r, m, t) at g))
  call_replies c answer None None (Some x) true broken r m t l b g = rw (r, m, t, l) (refused_replies (messages.Call c) answer c.question_id _ x rules.strict (nat_lt s.unfinished most_unfinished) refl refl refl r (rw (r, m, t, l) at g))
  call_replies c answer None None None true true r m t l b g = absurd (rw (r, m, t, l, b) at g)
  call_replies c answer None None None true false r m t l b g = absurd (rw (r, m, t, l, b) at g)

  bootstrap_replies : (m answer : Message) (question : ℕ) (reused limit : Option Cause) → Asks m question → get s.refused question ≡ reused → limit_cause rules.limits s ≡ limit → Replies answer (bootstrap_judged rules s question).ruling
      → AnswersFor rules s m answer (bootstrap_judged rules s question).state
  bootstrap_replies m answer question (Some x) limit asks r l g = absurd (rw r at g)
  bootstrap_replies m answer question None (Some x) asks r l g = rw (r, l) (refused_replies m answer question false x rules.strict (nat_lt s.unfinished most_unfinished) refl refl asks r (rw (r, l) at g))
  bootstrap_replies m answer question None None asks r l g = absurd (rw (r, l) at g)

  finish_replies : (answer : Message) (question : ℕ) (cause : Option Cause) → get s.refused question ≡ cause → Replies answer (finish_judged s question).ruling → ⊥
  finish_replies answer question (Some x) r g = rw r at g
  finish_replies answer question None r g = rw r at g

  -- ---- what is dropped

  refused_kept : (question : ℕ) (elsewhere : Bool) (cause : Cause) (strict few : Bool) → rules.strict ≡ strict → nat_lt s.unfinished most_unfinished ≡ few → IsDropped (refused_so rules s question elsewhere cause).ruling → ⊥
  refused_kept question elsewhere cause true few e k g = rw e at g
  refused_kept question elsewhere cause false false e k g = rw (e, k) at g
  refused_kept question elsewhere cause false true e k g = rw (e, k) at g

  call_kept : (c : Call) (reused target limit : Option Cause) (may broken : Bool) → get s.refused c.question_id ≡ reused → may_go rules s c ≡ may → target_cause s.refused c.target ≡ target
      → limit_cause rules.limits s ≡ limit → list_any (is_broken s.refused) c.params.cap_table ≡ broken → IsDropped (call_judged rules s c).ruling → ⊥
  call_kept c (Some x) target limit may broken r m t l b g = rw r at g
  call_kept c None target limit false broken r m t l b g = refused_kept c.question_id _ _ rules.strict (nat_lt s.unfinished most_unfinished) refl refl (rw (r, m) at g)
  call_kept c None (Some x) limit true broken r m t l b g = refused_kept c.question_id _ x rules.strict (nat_lt s.unfinished most_unfinished) refl refl (rw (r, m, t) at g)
  call_kept c None None (Some x) true broken r m t l b g = refused_kept c.question_id _ x rules.strict (nat_lt s.unfinished most_unfinished) refl refl (rw (r, m, t, l) at g)
  call_kept c None None None true true r m t l b g = rw (r, m, t, l, b) at g
  call_kept c None None None true false r m t l b g = rw (r, m, t, l, b) at g

  bootstrap_kept : (question : ℕ) (reused limit : Option Cause) → get s.refused question ≡ reused → limit_cause rules.limits s ≡ limit → IsDropped (bootstrap_judged rules s question).ruling → ⊥
  bootstrap_kept question (Some x) limit r l g = rw r at g
  bootstrap_kept question None (Some x) r l g = refused_kept question false x rules.strict (nat_lt s.unfinished most_unfinished) refl refl (rw (r, l) at g)
  bootstrap_kept question None None r l g = rw (r, l) at g

  finish_dropped : (m : Message) (question : ℕ) (cause : Option Cause) → Finishes m question → get s.refused question ≡ cause → IsDropped (finish_judged s question).ruling → Forgets s m (finish_judged s question).state
  finish_dropped m question (Some x) is r g = rw r (record { question = question; cause = x; finishes = is; refused = r; forgotten = get-remove_same s.refused question })
  finish_dropped m question None is r g = absurd (rw r at g)

  -- ---- what is remembered

  other_than : (question k : ℕ) (cause : Cause) → get s.refused question ≡ Some cause → get s.refused k ≡ None → question ≢ k
  other_than question k cause here none e = some_is_none cause (sym here ∙ ap (get s.refused) e ∙ none)

  refused_remembers : (k : ℕ) (elsewhere : Bool) (why : Cause) (question : ℕ) (cause : Cause) (strict few : Bool) → rules.strict ≡ strict → nat_lt s.unfinished most_unfinished ≡ few → get s.refused k ≡ None → get s.refused question ≡ Some cause
      → get (refused_so rules s k elsewhere why).state.refused question ≡ Some cause
  refused_remembers k elsewhere why question cause true few e n none here = rw e here
  refused_remembers k elsewhere why question cause false false e n none here = rw (e, n) here
  refused_remembers k elsewhere why question cause false true e n none here = rw (e, n) (get-insert_other s.refused k question why (other_than question k cause here none) ∙ here)

  call_remembers : (c : Call) (question : ℕ) (cause : Cause) (reused target limit : Option Cause) (may : Bool) → get s.refused c.question_id ≡ reused → may_go rules s c ≡ may → target_cause s.refused c.target ≡ target
      → limit_cause rules.limits s ≡ limit → get s.refused question ≡ Some cause → get (call_judged rules s c).state.refused question ≡ Some cause
  call_remembers c question cause (Some x) target limit may r m t l here = rw r here
  call_remembers c question cause None target limit false r m t l here = rw (r, m) (refused_remembers c.question_id _ _ question cause rules.strict (nat_lt s.unfinished most_unfinished) refl refl r here)
  call_remembers c question cause None (Some x) limit true r m t l here = rw (r, m, t) (refused_remembers c.question_id _ x question cause rules.strict (nat_lt s.unfinished most_unfinished) refl refl r here)
  call_remembers c question cause None None (Some x) true r m t l here = rw (r, m, t, l) (refused_remembers c.question_id _ x question cause rules.strict (nat_lt s.unfinished most_unfinished) refl refl r here)
  call_remembers c question cause None None None true r m t l here = rw (r, m, t, l) here

  bootstrap_remembers : (k question : ℕ) (cause : Cause) (reused limit : Option Cause) → get s.refused k ≡ reused → limit_cause rules.limits s ≡ limit → get s.refused question ≡ Some cause → get (bootstrap_judged rules s k).state.refused question ≡ Some cause
  bootstrap_remembers k question cause (Some x) limit r l here = rw r here
  bootstrap_remembers k question cause None (Some x) r l here = rw (r, l) (refused_remembers k false x question cause rules.strict (nat_lt s.unfinished most_unfinished) refl refl r here)
  bootstrap_remembers k question cause None None r l here = rw (r, l) here

  finish_remembers : (k question : ℕ) (cause : Cause) (reused : Option Cause) → get s.refused k ≡ reused → get s.refused question ≡ Some cause → get (finish_judged s k).state.refused question ≡ Some cause ⊎ (k ≡ question)
  finish_remembers k question cause None r here = inl (rw r here)
  finish_remembers k question cause (Some x) r here =
      elim (cases_eq question k) [
        | inl same ↦ inr (sym same)
        | inr other ↦ inl (rw r (get-remove_other s.refused k question other ∙ here))
      ]

ruled_once : (rules : Rules) (s : GuardState) (m answer : Message) → Replies answer (ruled rules s m).ruling → AnswersFor rules s m answer (ruled rules s m).state
ruled_once rules s (messages.Call c) answer g =
    call_replies rules s c answer (get s.refused c.question_id) (target_cause s.refused c.target) (limit_cause rules.limits s) (may_go rules s c) (list_any (is_broken s.refused) c.params.cap_table) refl refl refl refl refl g
ruled_once rules s (messages.Bootstrap b) answer g = bootstrap_replies rules s (messages.Bootstrap b) answer b.question_id (get s.refused b.question_id) (limit_cause rules.limits s) refl refl refl g
ruled_once rules s (messages.Finish f) answer g = absurd (finish_replies rules s answer f.question_id (get s.refused f.question_id) refl g)
ruled_once rules s (messages.Return r) answer g = absurd (return_not (Replies answer) (λ x. x) (λ m x. x) (λ b x. x) rules s.refused r r.returned g)
ruled_once rules s (messages.Resolve r) answer g = absurd (resolve_not (Replies answer) (λ x. x) (λ m x. x) (λ b x. x) rules s.refused r r.resolution g)
ruled_once rules s (messages.Disembargo d) answer g = absurd (target_not (Replies answer) (λ x. x) (λ m x. x) (λ b x. x) rules s.refused d.target g)
ruled_once rules s (messages.Unimplemented tree) answer g = absurd g
ruled_once rules s (messages.Abort exception) answer g = absurd g
ruled_once rules s (messages.Release release) answer g = absurd g
ruled_once rules s (messages.Other which body) answer g = absurd g

ruled_drops : (rules : Rules) (s : GuardState) (m : Message) → IsDropped (ruled rules s m).ruling → Forgets s m (ruled rules s m).state
ruled_drops rules s (messages.Call c) g =
    absurd (call_kept rules s c (get s.refused c.question_id) (target_cause s.refused c.target) (limit_cause rules.limits s) (may_go rules s c) (list_any (is_broken s.refused) c.params.cap_table) refl refl refl refl refl g)
ruled_drops rules s (messages.Bootstrap b) g = absurd (bootstrap_kept rules s b.question_id (get s.refused b.question_id) (limit_cause rules.limits s) refl refl g)
ruled_drops rules s (messages.Finish f) g = finish_dropped rules s (messages.Finish f) f.question_id (get s.refused f.question_id) refl refl g
ruled_drops rules s (messages.Return r) g = absurd (return_not IsDropped (λ x. x) (λ m x. x) (λ b x. x) rules s.refused r r.returned g)
ruled_drops rules s (messages.Resolve r) g = absurd (resolve_not IsDropped (λ x. x) (λ m x. x) (λ b x. x) rules s.refused r r.resolution g)
ruled_drops rules s (messages.Disembargo d) g = absurd (target_not IsDropped (λ x. x) (λ m x. x) (λ b x. x) rules s.refused d.target g)
ruled_drops rules s (messages.Unimplemented tree) g = absurd g
ruled_drops rules s (messages.Abort exception) g = absurd g
ruled_drops rules s (messages.Release release) g = absurd g
ruled_drops rules s (messages.Other which body) g = absurd g

ruled_remembers : (rules : Rules) (s : GuardState) (m : Message) (question : ℕ) (cause : Cause) → get s.refused question ≡ Some cause → get (ruled rules s m).state.refused question ≡ Some cause ⊎ Finishes m question
ruled_remembers rules s (messages.Call c) question cause here =
    inl (call_remembers rules s c question cause (get s.refused c.question_id) (target_cause s.refused c.target) (limit_cause rules.limits s) (may_go rules s c) refl refl refl refl here)
ruled_remembers rules s (messages.Bootstrap b) question cause here = inl (bootstrap_remembers rules s b.question_id question cause (get s.refused b.question_id) (limit_cause rules.limits s) refl refl here)
ruled_remembers rules s (messages.Finish f) question cause here = finish_remembers rules s f.question_id question cause (get s.refused f.question_id) refl here
ruled_remembers rules s (messages.Return r) question cause here = inl here
ruled_remembers rules s (messages.Resolve r) question cause here = inl here
ruled_remembers rules s (messages.Disembargo d) question cause here = inl here
ruled_remembers rules s (messages.Unimplemented tree) question cause here = inl here
ruled_remembers rules s (messages.Abort exception) question cause here = inl here
ruled_remembers rules s (messages.Release release) question cause here = inl here
ruled_remembers rules s (messages.Other which body) question cause here = inl here

-- ---- what is kept of a message that goes changes nothing of this

goes_not : (v : Ruling) (answer : Message) → goes v ≡ true → (Replies answer v → ⊥) × (IsDropped v → ⊥)
goes_not rulings.Passes answer g = (λ x. x, λ x. x)
goes_not (rulings.Changes m) answer g = (λ x. x, λ x. x)
goes_not (rulings.Answers m) answer g = absurd (true≢false (sym g))
goes_not rulings.Drops answer g = absurd (true≢false (sym g))
goes_not (rulings.Closes breach) answer g = absurd (true≢false (sym g))

goes_if : (a b : Bool) → (a && b) ≡ true → b ≡ true
goes_if true b e = e
goes_if false b e = absurd (true≢false (sym e))

-- of an answer nothing is kept
replies_so : (rules : Rules) (s : GuardState) (m answer : Message) (j : Judgement) (kept : Followed) (b : Bool) (breach : Option Breach) → (b ≡ true → goes j.ruling ≡ true) → kept.breach ≡ breach → (Replies answer j.ruling → AnswersFor rules s m answer j.state)
    → Replies answer (keeping_of b j kept).ruling → AnswersFor rules s m answer (keeping_of b j kept).state
replies_so rules s m answer j kept false breach go e h g = h g
replies_so rules s m answer j kept true (Some x) go e h g = absurd (rw e at g)
replies_so rules s m answer j kept true None go e h g = absurd ((goes_not j.ruling answer (go refl)).0 (rw e at g))

drops_so : (s : GuardState) (m : Message) (j : Judgement) (kept : Followed) (b : Bool) (breach : Option Breach) → (b ≡ true → goes j.ruling ≡ true) → kept.breach ≡ breach → (IsDropped j.ruling → Forgets s m j.state)
    → IsDropped (keeping_of b j kept).ruling → Forgets s m (keeping_of b j kept).state
drops_so s m j kept false breach go e h g = h g
drops_so s m j kept true (Some x) go e h g = absurd (rw e at g)
drops_so s m j kept true None go e h g = absurd ((goes_not j.ruling m (go refl)).1 (rw e at g))

remembers_so : (question : ℕ) (cause : Cause) (j : Judgement) (kept : Followed) (b : Bool) (breach : Option Breach) → kept.breach ≡ breach → get j.state.refused question ≡ Some cause → get (keeping_of b j kept).state.refused question ≡ Some cause
remembers_so question cause j kept false breach e h = h
remembers_so question cause j kept true (Some x) e h = rw e h
remembers_so question cause j kept true None e h = rw e h

pub answered_once : AnsweredOnce
answered_once rules s m answer g =
    let j = ruled rules s m in
    let kept = followed_from false rules j.state.references m in
    replies_so rules s m answer j kept (follows rules && goes j.ruling) kept.breach (goes_if (follows rules) (goes j.ruling)) refl (ruled_once rules s m answer) g

pub drops_finishes : DropsFinishes
drops_finishes rules s m g =
    let j = ruled rules s m in
    let kept = followed_from false rules j.state.references m in
    drops_so s m j kept (follows rules && goes j.ruling) kept.breach (goes_if (follows rules) (goes j.ruling)) refl (ruled_drops rules s m) g

pub remembers : Remembers
remembers rules s m question cause here =
    let j = ruled rules s m in
    let kept = followed_from false rules j.state.references m in
    elim (ruled_remembers rules s m question cause here) [
      | inl still ↦ inl (remembers_so question cause j kept (follows rules && goes j.ruling) kept.breach refl still)
      | inr finishes ↦ inr finishes
    ]
