-- What a guard lets go is allowed, and what is allowed goes.
use Rattle.std.proofs.Common.{◌≡◌, ◌∙◌, ℕ, Bool, true, false, true≢false, ◌&&◌, nat_lt, List, [], ◌∷◌, map, Option, Some, None, refl, sym, ap, subst}
use Rattle.std.specs.List.{list_any}
use Rattle.std.specs.FinMap.{get}
use Rattle.cp_messages.specs.declared.descriptor.Descriptor.{Descriptor}
use Rattle.cp_messages.specs.declared.payload.Payload.{Payload}
use Rattle.cp_messages.specs.declared.promised_answer.PromisedAnswer.{PromisedAnswer}
use Rattle.cp_messages.specs.declared.target.Target.{Target}
use Rattle.cp_messages.specs.declared.target.Target.TheVariants as targets
use Rattle.cp_messages.specs.declared.returned.Return.{Return}
use Rattle.cp_messages.specs.declared.returned.Returned.{Returned}
use Rattle.cp_messages.specs.declared.returned.Returned.TheVariants as returns
use Rattle.cp_messages.specs.declared.resolve.Resolve.{Resolve}
use Rattle.cp_messages.specs.declared.resolve.Resolution.{Resolution}
use Rattle.cp_messages.specs.declared.resolve.Resolution.TheVariants as resolutions
use Rattle.cp_messages.specs.declared.call.Call.{Call}
use Rattle.cp_messages.specs.declared.message.Message.{Message}
use Rattle.cp_messages.specs.declared.message.Message.TheVariants as messages
use Rattle.cp_relay.specs.declared.rules.Rules.{Rules}
use Rattle.cp_relay.specs.declared.state.GuardState.{GuardState}
use Rattle.cp_relay.specs.declared.references.References.{References}
use Rattle.cp_relay.specs.declared.ruling.Breach.{Breach}
use Rattle.cp_relay.specs.declared.ruling.Cause.{Cause}
use Rattle.cp_relay.specs.declared.ruling.Ruling.TheVariants as rulings
use Rattle.cp_relay.specs.Rules.{follows}
use Rattle.cp_relay.specs.Followed.{Followed, followed_from}
use Rattle.cp_relay.specs.State.{Refused, may_go, is_broken, without_broken, target_cause, descriptor_cause, limit_cause}
use Rattle.cp_relay.specs.Judged.{most_unfinished, refused_so, call_judged, bootstrap_judged, finish_judged, returned_judged, resolution_judged, target_judged, Judgement, ruled, goes as lets, keeping_of}
use Rattle.cp_relay.specs.Allowed.{Goes, IsAllowed, IsAllowedReturn, IsAllowedResolution, OnlyAllowed, AllowedPass}
use Rattle.cp_relay.proofs.Kept.{ruled_from_refs}

module _ (rules : Rules) (s : GuardState) (goes : Message) where
  abbrev is_allowed : Message → Type 0
  is_allowed m = IsAllowed rules s m

  -- a question that is refused doesn't go
  refused_stays : (came : Message) (question : ℕ) (elsewhere : Bool) (cause : Cause) (strict few : Bool) → rules.strict ≡ strict → nat_lt s.unfinished most_unfinished ≡ few → Goes (refused_so rules s question elsewhere cause).ruling came goes → ⊥
  refused_stays came question elsewhere cause true few e k g = rw e at g
  refused_stays came question elsewhere cause false true e k g = rw (e, k) at g
  refused_stays came question elsewhere cause false false e k g = rw (e, k) at g

  -- none stands in the place of each broken capability
  one_whole : (d : Descriptor) (b : Bool) → is_broken s.refused d ≡ b → is_broken s.refused (without_broken s.refused d) ≡ false
  one_whole d true e = rw e refl
  one_whole d false e = rw e e

  none_broken : (ds : List Descriptor) → list_any (is_broken s.refused) (map (without_broken s.refused) ds) ≡ false
  none_broken [] = refl
  none_broken (d ∷ ds) = rw (one_whole d (is_broken s.refused d) refl, none_broken ds) refl

  -- a call that goes is allowed
  call_goes : (c : Call) (reused target limit : Option Cause) (may broken : Bool) → get s.refused c.question_id ≡ reused → may_go rules s c ≡ may → target_cause s.refused c.target ≡ target
      → limit_cause rules.limits s ≡ limit → list_any (is_broken s.refused) c.params.cap_table ≡ broken → Goes (call_judged rules s c).ruling (messages.Call c) goes → is_allowed goes
  call_goes c (Some x) target limit may broken r m t l b g = absurd (rw r at g)
  call_goes c None target limit false broken r m t l b g = absurd (refused_stays (messages.Call c) _ _ _ rules.strict (nat_lt s.unfinished most_unfinished) refl refl (rw (r, m) at g))
  call_goes c None (Some x) limit true broken r m t l b g = absurd (refused_stays (messages.Call c) _ _ _ rules.strict (nat_lt s.unfinished most_unfinished) refl refl (rw (r, m, t) at g))
  call_goes c None None (Some x) true broken r m t l b g = absurd (refused_stays (messages.Call c) _ _ _ rules.strict (nat_lt s.unfinished most_unfinished) refl refl (rw (r, m, t, l) at g))
  call_goes c None None None true false r m t l b g = subst is_allowed (sym (rw (r, m, t, l, b) at g)) (record { method = m; number = r; target = t; params = b })
  call_goes c None None None true true r m t l b g =
      subst is_allowed (sym (rw (r, m, t, l, b) at g)) (record { method = m; number = r; target = t; params = none_broken c.params.cap_table })

  -- so is a Bootstrap
  bootstrap_goes : (m : Message) (question : ℕ) (reused limit : Option Cause) → get s.refused question ≡ reused → limit_cause rules.limits s ≡ limit → Goes (bootstrap_judged rules s question).ruling m goes → (goes ≡ m) × (get s.refused question ≡ None)
  bootstrap_goes m question (Some x) limit r l g = absurd (rw r at g)
  bootstrap_goes m question None (Some x) r l g = absurd (refused_stays m question false x rules.strict (nat_lt s.unfinished most_unfinished) refl refl (rw (r, l) at g))
  bootstrap_goes m question None None r l g = (rw (r, l) at g, r)

  -- and a Finish
  finish_goes : (m : Message) (question : ℕ) (refused : Option Cause) → get s.refused question ≡ refused → Goes (finish_judged s question).ruling m goes → (goes ≡ m) × (get s.refused question ≡ None)
  finish_goes m question (Some x) r g = absurd (rw r at g)
  finish_goes m question None r g = (rw r at g, r)

  -- and a Return
  payload_goes : (r : Return) (payload : Payload) (broken : Bool) → r.returned ≡ returns.Results payload → list_any (is_broken s.refused) payload.cap_table ≡ broken → Goes (returned_judged rules s.refused r (returns.Results payload)) (messages.Return r) goes
      → is_allowed goes
  payload_goes r payload true e b g = subst is_allowed (sym (rw b at g)) (none_broken payload.cap_table)
  payload_goes r payload false e b g = subst is_allowed (sym (rw b at g)) (subst (λ (x : Returned). IsAllowedReturn s.refused x) (sym e) b)

  taken_goes : (r : Return) (question : ℕ) (taken : Option Cause) → r.returned ≡ returns.TakeFromOtherQuestion question → get s.refused question ≡ taken → Goes (returned_judged rules s.refused r (returns.TakeFromOtherQuestion question)) (messages.Return r) goes
      → is_allowed goes
  taken_goes r question (Some x) e t g = subst is_allowed (sym (rw t at g)) tt
  taken_goes r question None e t g = subst is_allowed (sym (rw t at g)) (subst (λ (x : Returned). IsAllowedReturn s.refused x) (sym e) t)

  return_goes : (r : Return) (returned : Returned) → r.returned ≡ returned → Goes (returned_judged rules s.refused r returned) (messages.Return r) goes → is_allowed goes
  return_goes r (returns.Results payload) e g = payload_goes r payload (list_any (is_broken s.refused) payload.cap_table) e refl g
  return_goes r (returns.TakeFromOtherQuestion question) e g = taken_goes r question (get s.refused question) e refl g
  return_goes r (returns.Exception exception) e g = subst is_allowed (sym g) (subst (λ (x : Returned). IsAllowedReturn s.refused x) (sym e) tt)
  return_goes r returns.Canceled e g = subst is_allowed (sym g) (subst (λ (x : Returned). IsAllowedReturn s.refused x) (sym e) tt)
  return_goes r returns.ResultsSentElsewhere e g = subst is_allowed (sym g) (subst (λ (x : Returned). IsAllowedReturn s.refused x) (sym e) tt)
  return_goes r (returns.AcceptFromThirdParty tree) e g = subst is_allowed (sym g) (subst (λ (x : Returned). IsAllowedReturn s.refused x) (sym e) tt)
  return_goes r (returns.Unknown number) e g = subst is_allowed (sym g) (subst (λ (x : Returned). IsAllowedReturn s.refused x) (sym e) tt)

  -- and a Resolve
  cap_goes : (r : Resolve) (d : Descriptor) (cause : Option Cause) → r.resolution ≡ resolutions.Cap d → descriptor_cause s.refused d ≡ cause → Goes (resolution_judged rules s.refused r (resolutions.Cap d)) (messages.Resolve r) goes → is_allowed goes
  cap_goes r d (Some x) e t g = subst is_allowed (sym (rw t at g)) tt
  cap_goes r d None e t g = subst is_allowed (sym (rw t at g)) (subst (λ (x : Resolution). IsAllowedResolution s.refused x) (sym e) t)

  resolve_goes : (r : Resolve) (resolution : Resolution) → r.resolution ≡ resolution → Goes (resolution_judged rules s.refused r resolution) (messages.Resolve r) goes → is_allowed goes
  resolve_goes r (resolutions.Cap d) e g = cap_goes r d (descriptor_cause s.refused d) e refl g
  resolve_goes r (resolutions.Exception exception) e g = subst is_allowed (sym g) (subst (λ (x : Resolution). IsAllowedResolution s.refused x) (sym e) tt)
  resolve_goes r (resolutions.Unknown number) e g = subst is_allowed (sym g) (subst (λ (x : Resolution). IsAllowedResolution s.refused x) (sym e) tt)

  -- and a Disembargo
  promise_goes : (m : Message) (answer : PromisedAnswer) (cause : Option Cause) → get s.refused answer.question_id ≡ cause → Goes (target_judged s.refused (targets.PromisedAnswer answer)) m goes → (goes ≡ m) × (get s.refused answer.question_id ≡ None)
  promise_goes m answer (Some x) t g = absurd (rw t at g)
  promise_goes m answer None t g = (rw t at g, t)

  target_goes : (m : Message) (target : Target) → Goes (target_judged s.refused target) m goes → (goes ≡ m) × (target_cause s.refused target ≡ None)
  target_goes m (targets.PromisedAnswer answer) g = promise_goes m answer (get s.refused answer.question_id) refl g
  target_goes m (targets.ImportedCap id) g = (g, refl)
  target_goes m (targets.Unknown number) g = (g, refl)

-- what goes by the questions that were refused is allowed
only_ruled : (rules : Rules) (s : GuardState) (came goes : Message) → Goes (ruled rules s came).ruling came goes → IsAllowed rules s goes
only_ruled rules s (messages.Call c) goes g =
    call_goes rules s goes c (get s.refused c.question_id) (target_cause s.refused c.target) (limit_cause rules.limits s) (may_go rules s c) (list_any (is_broken s.refused) c.params.cap_table) refl refl refl refl refl g
only_ruled rules s (messages.Bootstrap b) goes g =
    let h = bootstrap_goes rules s goes (messages.Bootstrap b) b.question_id (get s.refused b.question_id) (limit_cause rules.limits s) refl refl g in
    subst (λ (m : Message). IsAllowed rules s m) (sym h.0) h.1
only_ruled rules s (messages.Finish f) goes g =
    let h = finish_goes rules s goes (messages.Finish f) f.question_id (get s.refused f.question_id) refl g in
    subst (λ (m : Message). IsAllowed rules s m) (sym h.0) h.1
only_ruled rules s (messages.Return r) goes g = return_goes rules s goes r r.returned refl g
only_ruled rules s (messages.Resolve r) goes g = resolve_goes rules s goes r r.resolution refl g
only_ruled rules s (messages.Disembargo d) goes g =
    let h = target_goes rules s goes (messages.Disembargo d) d.target g in
    subst (λ (m : Message). IsAllowed rules s m) (sym h.0) h.1
only_ruled rules s (messages.Unimplemented tree) goes g = subst (λ (m : Message). IsAllowed rules s m) (sym g) tt
only_ruled rules s (messages.Abort exception) goes g = subst (λ (m : Message). IsAllowed rules s m) (sym g) tt
only_ruled rules s (messages.Release release) goes g = subst (λ (m : Message). IsAllowed rules s m) (sym g) tt
only_ruled rules s (messages.Other which body) goes g = subst (λ (m : Message). IsAllowed rules s m) (sym g) tt

-- what is kept of a message lets no other go
goes_so : (j : Judgement) (kept : Followed) (b : Bool) (breach : Option Breach) (came goes : Message) → kept.breach ≡ breach → Goes (keeping_of b j kept).ruling came goes → Goes j.ruling came goes
goes_so j kept false breach came goes e g = g
goes_so j kept true (Some x) came goes e g = absurd (rw e at g)
goes_so j kept true None came goes e g = rw e at g

pub only_allowed : OnlyAllowed
only_allowed rules s came goes g =
    let j = ruled rules s came in
    let kept = followed_from false rules j.state.references came in
    only_ruled rules s came goes (goes_so j kept (follows rules && lets j.ruling) kept.breach came goes refl g)

-- what is returned and names no question that was refused goes
return_passes : (rules : Rules) (refused : Refused) (r : Return) (returned : Returned) → IsAllowedReturn refused returned → returned_judged rules refused r returned ≡ rulings.Passes
return_passes rules refused r (returns.Results payload) h = rw h refl
return_passes rules refused r (returns.TakeFromOtherQuestion question) h = rw h refl
return_passes rules refused r (returns.Exception exception) h = refl
return_passes rules refused r returns.Canceled h = refl
return_passes rules refused r returns.ResultsSentElsewhere h = refl
return_passes rules refused r (returns.AcceptFromThirdParty tree) h = refl
return_passes rules refused r (returns.Unknown number) h = refl

resolve_passes : (rules : Rules) (refused : Refused) (r : Resolve) (resolution : Resolution) → IsAllowedResolution refused resolution → resolution_judged rules refused r resolution ≡ rulings.Passes
resolve_passes rules refused r (resolutions.Cap d) h = rw h refl
resolve_passes rules refused r (resolutions.Exception exception) h = refl
resolve_passes rules refused r (resolutions.Unknown number) h = refl

target_passes : (refused : Refused) (target : Target) → target_cause refused target ≡ None → target_judged refused target ≡ rulings.Passes
target_passes refused (targets.PromisedAnswer answer) h = rw h refl
target_passes refused (targets.ImportedCap id) h = refl
target_passes refused (targets.Unknown number) h = refl

ruled_passes : (rules : Rules) (s : GuardState) (m : Message) → IsAllowed rules s m → limit_cause rules.limits s ≡ None → (ruled rules s m).ruling ≡ rulings.Passes
ruled_passes rules s (messages.Call c) h limit = rw (h.number, h.method, h.target, limit, h.params) refl
ruled_passes rules s (messages.Bootstrap b) h limit = rw (h, limit) refl
ruled_passes rules s (messages.Finish f) h limit = rw h refl
ruled_passes rules s (messages.Return r) h limit = return_passes rules s.refused r r.returned h
ruled_passes rules s (messages.Resolve r) h limit = resolve_passes rules s.refused r r.resolution h
ruled_passes rules s (messages.Disembargo d) h limit = target_passes s.refused d.target h
ruled_passes rules s (messages.Unimplemented tree) h limit = refl
ruled_passes rules s (messages.Abort exception) h limit = refl
ruled_passes rules s (messages.Release release) h limit = refl
ruled_passes rules s (messages.Other which body) h limit = refl

-- a message that passes does so where what is kept of it closes nothing
passes_so : (j : Judgement) (kept : Followed) (b : Bool) → j.ruling ≡ rulings.Passes → (b ≡ true → kept.breach ≡ None) → (keeping_of b j kept).ruling ≡ rulings.Passes
passes_so j kept false e k = e
passes_so j kept true e k = rw (k refl) e

first_true : (a b : Bool) → (a && b) ≡ true → a ≡ true
first_true true b e = refl
first_true false b e = absurd (true≢false (sym e))

pub allowed_pass : AllowedPass
allowed_pass rules s m h limit is_kept =
    let j = ruled rules s m in
    let same = ruled_from_refs false rules s m in
    let kept = followed_from false rules j.state.references m in
    passes_so j kept (follows rules && lets j.ruling) (ruled_passes rules s m h limit)
    (λ e. ap (λ (refs : References). (followed_from false rules refs m).breach) same ∙ is_kept (first_true (follows rules) (lets j.ruling) e))
