-- What becomes of a message where rules are on what calls gave, beside what becomes of it by the questions that were refused.
use Rattle.std.proofs.Common.{◌≡◌, ◌⊎◌, inl, inr, ℕ, Bool, true, false, ◌&&◌, ◌==◌, nat_lt, List, [], length, Option, Some, None, refl, sym, ◌∙◌, ap, true≢false}
use Rattle.std.proofs.lemmas.Option.{none-some}
use Rattle.std.specs.FinMap.{get}
use Rattle.cp_messages.specs.declared.call.Call.{Call}
use Rattle.cp_messages.specs.declared.message.Message.{Message}
use Rattle.cp_messages.specs.declared.message.Message.TheVariants as messages
use Rattle.cp_relay.specs.declared.rules.Rules.{Rules}
use Rattle.cp_relay.specs.declared.rules.Grant.{Grant}
use Rattle.cp_messages.specs.declared.returned.Return.{Return}
use Rattle.cp_relay.specs.declared.references.QuestionStage.{QuestionStage}
use Rattle.cp_relay.specs.declared.references.QuestionStage.TheVariants as stages
use Rattle.cp_relay.specs.declared.references.Question.{Question}
use Rattle.cp_relay.specs.declared.references.Side.{Side}
use Rattle.cp_relay.specs.declared.references.References.{References}
use Rattle.cp_relay.specs.declared.state.GuardState.{GuardState}
use Rattle.cp_relay.specs.declared.ruling.Cause.{Cause}
use Rattle.cp_relay.specs.declared.ruling.Breach.{Breach}
use Rattle.cp_relay.specs.declared.ruling.Ruling.{Ruling}
use Rattle.cp_relay.specs.declared.ruling.Ruling.TheVariants as rulings
use Rattle.cp_relay.specs.Rules.{follows}
use Rattle.cp_relay.specs.References.{marks_of, has_room, hosted_numbers, returned_numbers, resolved_number}
use Rattle.cp_relay.specs.Followed.{Between, Followed, asked_by, gained, followed, results_followed, then_closed, return_at, return_by, return_followed, then_answered, resolve_by, followed_from}
use Rattle.cp_relay.specs.State.{may_reach, may_go, target_cause, limit_cause}
use Rattle.cp_relay.specs.Judged.{Judgement, most_unfinished, refused_so, asked, unless_reused, call_judged, finish_by, answered_by, ruled, ruled_back, ruled_from, goes, keeping_of, judged_from, judged}

-- the references stay in each judgement by the questions that were refused
refused_refs : (rules : Rules) (s : GuardState) (question : ℕ) (elsewhere : Bool) (cause : Cause) (strict few : Bool) → rules.strict ≡ strict → nat_lt s.unfinished most_unfinished ≡ few → (refused_so rules s question elsewhere cause).state.references ≡ s.references
refused_refs rules s question elsewhere cause true few e k = rw e refl
refused_refs rules s question elsewhere cause false true e k = rw (e, k) refl
refused_refs rules s question elsewhere cause false false e k = rw (e, k) refl

asked_refs : (rules : Rules) (s : GuardState) (question : ℕ) (elsewhere : Bool) (cause : Option Cause) (v : Ruling) → (asked rules s question elsewhere cause v).state.references ≡ s.references
asked_refs rules s question elsewhere (Some cause) v = refused_refs rules s question elsewhere cause rules.strict _ refl refl
asked_refs rules s question elsewhere None v = refl

unless_refs : (s : GuardState) (question : ℕ) (cause : Option Cause) (j : Judgement) → j.state.references ≡ s.references → (unless_reused s question cause j).state.references ≡ s.references
unless_refs s question (Some cause) j e = refl
unless_refs s question None j e = e

finish_refs : (s : GuardState) (question : ℕ) (cause : Option Cause) → (finish_by s question cause).state.references ≡ s.references
finish_refs s question (Some cause) = refl
finish_refs s question None = refl

answered_refs : (s : GuardState) (question : ℕ) (cause : Option Cause) → (answered_by s question cause).state.references ≡ s.references
answered_refs s question (Some cause) = refl
answered_refs s question None = refl

ruled_refs : (rules : Rules) (s : GuardState) (m : Message) → (ruled rules s m).state.references ≡ s.references
ruled_refs rules s (messages.Call c) = unless_refs s c.question_id (get s.refused c.question_id) _ (asked_refs rules s c.question_id _ _ _)
ruled_refs rules s (messages.Bootstrap b) = unless_refs s b.question_id (get s.refused b.question_id) _ (asked_refs rules s b.question_id false (limit_cause rules.limits s) rulings.Passes)
ruled_refs rules s (messages.Finish f) = finish_refs s f.question_id (get s.refused f.question_id)
ruled_refs rules s (messages.Return r) = refl
ruled_refs rules s (messages.Resolve r) = refl
ruled_refs rules s (messages.Disembargo d) = refl
ruled_refs rules s (messages.Unimplemented tree) = refl
ruled_refs rules s (messages.Abort exception) = refl
ruled_refs rules s (messages.Release release) = refl
ruled_refs rules s (messages.Other which body) = refl

ruled_back_refs : (s : GuardState) (m : Message) → (ruled_back s m).state.references ≡ s.references
ruled_back_refs s (messages.Return r) = answered_refs s r.answer_id (get s.refused r.answer_id)
ruled_back_refs s (messages.Call c) = refl
ruled_back_refs s (messages.Bootstrap b) = refl
ruled_back_refs s (messages.Finish f) = refl
ruled_back_refs s (messages.Resolve r) = refl
ruled_back_refs s (messages.Disembargo d) = refl
ruled_back_refs s (messages.Unimplemented tree) = refl
ruled_back_refs s (messages.Abort exception) = refl
ruled_back_refs s (messages.Release release) = refl
ruled_back_refs s (messages.Other which body) = refl

pub ruled_from_refs : (side : Bool) (rules : Rules) (s : GuardState) (m : Message) → (ruled_from side rules s m).state.references ≡ s.references
ruled_from_refs true rules s m = ruled_back_refs s m
ruled_from_refs false rules s m = ruled_refs rules s m

both_true : (a b : Bool) → (a && b) ≡ true → (a ≡ true) × (b ≡ true)
both_true true true e = (refl, refl)
both_true true false e = absurd (true≢false (sym e))
both_true false b e = absurd (true≢false (sym e))

-- Either the references stay, or the message goes and they are what is kept of it.
abbrev KeptAfter : Bool → Rules → GuardState → Message → Type 0
KeptAfter side rules s m =
    ((judged_from side rules s m).state.references ≡ s.references)
    ⊎ ((goes (judged_from side rules s m).ruling ≡ true) × ((judged_from side rules s m).state.references ≡ (followed_from side rules s.references m).references))

kept_cases : (j : Judgement) (refs : References) (kept : Followed) (b : Bool) (breach : Option Breach) → (b ≡ true → goes j.ruling ≡ true) → kept.breach ≡ breach → j.state.references ≡ refs
    → ((keeping_of b j kept).state.references ≡ refs) ⊎ ((goes (keeping_of b j kept).ruling ≡ true) × ((keeping_of b j kept).state.references ≡ kept.references))
kept_cases j refs kept false breach g e same = inl same
kept_cases j refs kept true (Some x) g e same = inl (rw e same)
kept_cases j refs kept true None g e same = inr (rw e (g refl), rw e refl)

pub kept_after : (side : Bool) (rules : Rules) (s : GuardState) (m : Message) → KeptAfter side rules s m
kept_after side rules s m =
    let j = ruled_from side rules s m in
    let same = ruled_from_refs side rules s m in
    let kept = followed_from side rules j.state.references m in
    elim (kept_cases j s.references kept (follows rules && goes j.ruling) kept.breach (λ e. (both_true (follows rules) (goes j.ruling) e).1) refl same) [
      | inl stay ↦ inl stay
      | inr go ↦ inr (go.0, go.1 ∙ ap (λ (refs : References). (followed_from side rules refs m).references) same)
    ]

-- where it goes, it closes nothing
kept_goes : (j : Judgement) (kept : Followed) (b : Bool) (breach : Option Breach) → (goes j.ruling ≡ true → b ≡ true) → kept.breach ≡ breach → goes (keeping_of b j kept).ruling ≡ true → (kept.breach ≡ None) × ((keeping_of b j kept).state.references ≡ kept.references)
kept_goes j kept false breach all e g = absurd (true≢false (sym (all g)))
kept_goes j kept true (Some x) all e g = absurd (true≢false (sym (rw e at g)))
kept_goes j kept true None all e g = (e, rw e refl)

pub kept_if_goes : (side : Bool) (rules : Rules) (s : GuardState) (m : Message) → follows rules ≡ true → goes (judged_from side rules s m).ruling ≡ true
    → ((followed_from side rules s.references m).breach ≡ None) × ((judged_from side rules s m).state.references ≡ (followed_from side rules s.references m).references)
kept_if_goes side rules s m f g =
    let j = ruled_from side rules s m in
    let same = ruled_from_refs side rules s m in
    let kept = followed_from side rules j.state.references m in
    let h = kept_goes j kept (follows rules && goes j.ruling) kept.breach (λ e. rw (f, e) refl) refl g in
    (sym (ap (λ (refs : References). (followed_from side rules refs m).breach) same) ∙ h.0, h.1 ∙ ap (λ (refs : References). (followed_from side rules refs m).references) same)

-- what goes, goes by the questions that were refused too
goes_by : (j : Judgement) (kept : Followed) (b : Bool) (breach : Option Breach) → kept.breach ≡ breach → goes (keeping_of b j kept).ruling ≡ true → goes j.ruling ≡ true
goes_by j kept false breach e g = g
goes_by j kept true (Some x) e g = absurd (true≢false (sym (rw e at g)))
goes_by j kept true None e g = rw e at g

module _ (rules : Rules) (s : GuardState) where
  refused_stays : (question : ℕ) (elsewhere : Bool) (cause : Cause) (strict few : Bool) → rules.strict ≡ strict → nat_lt s.unfinished most_unfinished ≡ few → goes (refused_so rules s question elsewhere cause).ruling ≡ true → ⊥
  refused_stays question elsewhere cause true few e k g = true≢false (sym (rw e at g))
  refused_stays question elsewhere cause false true e k g = true≢false (sym (rw (e, k) at g))
  refused_stays question elsewhere cause false false e k g = true≢false (sym (rw (e, k) at g))

  call_may : (c : Call) (reused target : Option Cause) (may : Bool) → get s.refused c.question_id ≡ reused → may_go rules s c ≡ may → target_cause s.refused c.target ≡ target → goes (call_judged rules s c).ruling ≡ true → (may ≡ true) × (target ≡ None)
  call_may c (Some x) target may r m t g = absurd (true≢false (sym (rw r at g)))
  call_may c None target false r m t g = absurd (refused_stays c.question_id _ _ rules.strict (nat_lt s.unfinished most_unfinished) refl refl (rw (r, m) at g))
  call_may c None (Some x) true r m t g = absurd (refused_stays c.question_id _ x rules.strict (nat_lt s.unfinished most_unfinished) refl refl (rw (r, m, t) at g))
  call_may c None None true r m t g = (refl, refl)

-- a call that goes may reach what it goes to
pub call_reaches : (rules : Rules) (s : GuardState) (c : Call) → follows rules ≡ true → goes (judged rules s (messages.Call c)).ruling ≡ true → may_reach rules c (marks_of s.references.callee c.target) ≡ true
call_reaches rules s c f g =
    let j = ruled rules s (messages.Call c) in
    let kept = followed_from false rules j.state.references (messages.Call c) in
    let may = call_may rules s c (get s.refused c.question_id) (target_cause s.refused c.target) (may_go rules s c) refl refl refl (goes_by j kept (follows rules && goes j.ruling) kept.breach refl g) in
    rw (f, may.1) at may.0

-- what is found in two steps is what is judged: what becomes of a message by the questions that were refused, and what is kept of it
pub judged_so : (side : Bool) (rules : Rules) (s mid new : GuardState) (m : Message) (v : Ruling) → record { ruling = v; state = mid } ≡ ruled_from side rules s m → follows rules ≡ true → goes v ≡ true
    → record { breach = None; references = new.references } ≡ followed_from side rules mid.references m → new ≡ record mid { references = new.references } → record { ruling = v; state = new } ≡ judged_from side rules s m
judged_so side rules s mid new m v e f g k state = rw (← e, f, g, ← k, ← state) refl

-- where a message closes the connection, what both ends gave stays
abbrev Same : Side → Side → Between → Type 0
Same from to b = (b.from ≡ from) × (b.to ≡ to)

asked_same : (from to : Side) (question marks : ℕ) (numbers : List ℕ) (q : Option Question) (room : Bool) (b : Breach) → (has_room to 1 && has_room from (length numbers)) ≡ room → (asked_by from to question marks numbers q).breach ≡ Some b → Same from to (asked_by from to question marks numbers q)
asked_same from to question marks numbers (Some q) room b r e = (refl, refl)
asked_same from to question marks numbers None true b r e = absurd (none-some b (rw r at e))
asked_same from to question marks numbers None false b r e = rw r (refl, refl)

results_same : (side : Side) (question marks : ℕ) (numbers : List ℕ) (room : Bool) (b : Breach) → has_room side (length numbers) ≡ room → (results_followed side question marks numbers).breach ≡ Some b → (results_followed side question marks numbers).side ≡ side
results_same side question marks numbers true b r e = absurd (none-some b (rw r at e))
results_same side question marks numbers false b r e = rw r refl

then_same : (side given : Side) (question : ℕ) (breach : Option Breach) (b : Breach) → ((x : Breach) → breach ≡ Some x → given ≡ side) → (then_closed question breach given).breach ≡ Some b → (then_closed question breach given).side ≡ side
then_same side given question (Some x) b h e = h x refl
then_same side given question None b h e = absurd (none-some b e)

return_at_same : (side : Side) (r : Return) (marks : ℕ) (stage : QuestionStage) (b : Breach) → (return_at side r marks stage).breach ≡ Some b → (return_at side r marks stage).side ≡ side
return_at_same side r marks stages.Open b e = results_same side r.answer_id marks (returned_numbers r.returned) (has_room side (length (returned_numbers r.returned))) b refl e
return_at_same side r marks stages.Finished b e =
    let given = results_followed side r.answer_id marks (returned_numbers r.returned) in
    then_same side given.side r.answer_id given.breach b (λ x is. results_same side r.answer_id marks (returned_numbers r.returned) (has_room side (length (returned_numbers r.returned))) x refl is) e
return_at_same side r marks stages.Released b e = absurd (none-some b e)
return_at_same side r marks stages.Returned b e = refl

return_same : (side : Side) (r : Return) (q : Option Question) (b : Breach) → (return_by side r q).breach ≡ Some b → (return_by side r q).side ≡ side
return_same side r (Some q) b e = return_at_same side r q.marks q.stage b e
return_same side r None b e = refl

answered_same : (from to side : Side) (r : Return) (breach : Option Breach) (b : Breach) → ((x : Breach) → breach ≡ Some x → side ≡ from) → (then_answered r to breach side).breach ≡ Some b → Same from to (then_answered r to breach side)
answered_same from to side r (Some x) b h e = (h x refl, refl)
answered_same from to side r None b h e = absurd (none-some b e)

resolve_same : (side : Side) (promise : ℕ) (id : Option ℕ) (room : Bool) (b : Breach) → has_room side 1 ≡ room → (resolve_by side promise id).breach ≡ Some b → (resolve_by side promise id).side ≡ side
resolve_same side promise None room b r e = refl
resolve_same side promise (Some id) true b r e = absurd (none-some b (rw r at e))
resolve_same side promise (Some id) false b r e = rw r refl

followed_same : (grants : List Grant) (from to : Side) (m : Message) (b : Breach) → (followed grants from to m).breach ≡ Some b → Same from to (followed grants from to m)
followed_same grants from to (messages.Call c) b e = asked_same from to c.question_id (gained grants to c) (hosted_numbers c.params.cap_table) (get to.questions c.question_id) _ b refl e
followed_same grants from to (messages.Bootstrap x) b e = asked_same from to x.question_id 0 [] (get to.questions x.question_id) _ b refl e
followed_same grants from to (messages.Finish f) b e = absurd (none-some b e)
followed_same grants from to (messages.Release r) b e = absurd (none-some b e)
followed_same grants from to (messages.Return r) b e =
    let sent = return_followed from r in
    answered_same from to sent.side r sent.breach b (λ x is. return_same from r (get from.questions r.answer_id) x is) e
followed_same grants from to (messages.Resolve r) b e = (resolve_same from r.promise_id (resolved_number r.resolution) (has_room from 1) b refl e, refl)
followed_same grants from to (messages.Unimplemented tree) b e = (refl, refl)
followed_same grants from to (messages.Abort exception) b e = (refl, refl)
followed_same grants from to (messages.Disembargo d) b e = (refl, refl)
followed_same grants from to (messages.Other which body) b e = (refl, refl)

followed_from_same : (side : Bool) (rules : Rules) (refs : References) (m : Message) (b : Breach) → (followed_from side rules refs m).breach ≡ Some b → (followed_from side rules refs m).references ≡ refs
followed_from_same true rules refs m b e = let same = followed_same [] refs.callee refs.caller m b e in rw (same.0, same.1) refl
followed_from_same false rules refs m b e = let same = followed_same rules.grants.items refs.caller refs.callee m b e in rw (same.0, same.1) refl

pub closed_so : (side : Bool) (rules : Rules) (s mid new : GuardState) (m : Message) (v : Ruling) (breach : Breach) → record { ruling = v; state = mid } ≡ ruled_from side rules s m → follows rules ≡ true → goes v ≡ true
    → record { breach = Some breach; references = new.references } ≡ followed_from side rules mid.references m → new ≡ record mid { references = new.references } → record { ruling = rulings.Closes breach; state = new } ≡ judged_from side rules s m
closed_so side rules s mid new m v breach e f g k state =
    let same : new.references ≡ mid.references = ap (λ (x : Followed). x.references) k ∙ followed_from_same side rules mid.references m breach (sym (ap (λ (x : Followed). x.breach) k)) in
    let is : new ≡ mid = state ∙ ap (λ (refs : References). record mid { references = refs }) same in
    rw (← e, f, g, ← k, is) refl
