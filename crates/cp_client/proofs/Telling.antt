-- How many events a session may have left to tell, and what a client knows whose questions are the same.
use Rattle.std.proofs.Common.{◌≡◌, ◌∙◌, ◌<◌, ◌≤◌, ◌+◌, ℕ, Bool, true, false, if◌then◌else◌, Option, Some, None, refl, sym, ap, subst, length, arith, is_none, true≢false}
use Rattle.cp_connection.specs.declared.fault.ConnectionFault.{ConnectionFault}
use Rattle.cp_dispatch.specs.declared.event.SessionEvent.{SessionEvent}
use Rattle.cp_dispatch.specs.Rounds.{HandsOver}
use Rattle.cp_dispatch.specs.Work.{Work}
use Rattle.cp_dispatch.specs.declared.event.SessionEvent.TheVariants as told
use Rattle.cp_dispatch.specs.declared.event.Limit.{Limit}
use Rattle.cp_session.specs.declared.progress.Phase.{Phase}
use Rattle.cp_session.specs.declared.progress.Phase.TheVariants as phases
use Rattle.cp_session.specs.Doing.{Tells, ending_by, fault_of, knows_by, told_of}
use Rattle.cp_session.specs.State.{State}
use Rattle.cp_client.specs.Conversation.{Asked, Conversation}
use Rattle.cp_client.specs.Telling.{Knows}

-- one, if it isn't told yet why nothing more is taken
abbrev pub untold : Bool → ℕ
untold true = 0
untold false = 1

-- how many events are left at most
abbrev pub events_left : {H : Type 0} → State H → ℕ
events_left state = length state.service.work.notices + untold state.progress.is_told

-- what is known stays known
untold_then : (event : SessionEvent) (b : Bool) → untold (knows_by (Some event) b) ≤ untold b
untold_then (told.Outcome question outcome) true = omega arith
untold_then (told.Outcome question outcome) false = omega arith
untold_then told.Restless true = omega arith
untold_then told.Restless false = omega arith
untold_then (told.Closed reason) true = omega arith
untold_then (told.Closed reason) false = omega arith
untold_then (told.Fault fault) true = omega arith
untold_then (told.Fault fault) false = omega arith
untold_then (told.Limit limit) true = omega arith
untold_then (told.Limit limit) false = omega arith
untold_then told.Ended true = omega arith
untold_then told.Ended false = omega arith

-- an event that no event brings wasn't told, and is the last
last_told : (b : Bool) (limit : Option Limit) (fault : Option ConnectionFault) (phase : Phase) (event : SessionEvent)
    → Some event ≡ (if b then None else ending_by limit fault phase) → (b ≡ false) × (knows_by (Some event) b ≡ true)
last_told true limit fault phase event is = absurd (true≢false (sym (ap is_none is)))
last_told false (Some limit) fault phase event is = (refl, ap (λ (e : Option SessionEvent). knows_by e false) is)
last_told false None (Some fault) phase event is = (refl, ap (λ (e : Option SessionEvent). knows_by e false) is)
last_told false None None phases.Over event is = (refl, ap (λ (e : Option SessionEvent). knows_by e false) is)
last_told false None None phases.Serving event is = absurd (true≢false (sym (ap is_none is)))
last_told false None None phases.Ending event is = absurd (true≢false (sym (ap is_none is)))
last_told false None None (phases.Draining since) event is = absurd (true≢false (sym (ap is_none is)))

fewer_by : {H : Type 0} (old new : State H) (event : SessionEvent) (notice : Option SessionEvent) (work : Work) → HandsOver old.service.work notice work → Some event ≡ told_of old notice
    → events_left new ≡ length work.notices + untold (knows_by (Some event) old.progress.is_told) → events_left new < events_left old
fewer_by old new event (Some notice) work hands is left = omega (arith, ap length hands.0, untold_then event old.progress.is_told, left)
fewer_by old new event None work hands is left =
    let last = last_told old.progress.is_told old.progress.limit (fault_of old) old.progress.phase event is in
    let same : length work.notices ≡ length old.service.work.notices = ap (λ (w : Work). length w.notices) hands.1 in
    let before : untold old.progress.is_told ≡ 1 = ap (λ (b : Bool). untold b) last.0 in
    let after : untold (knows_by (Some event) old.progress.is_told) ≡ 0 = ap (λ (b : Bool). untold b) last.1 in
    omega (arith, same, before, after, left)

-- an event that was told is left to be told no more
pub fewer_left : {H : Type 0} (old mid new : State H) (event : SessionEvent) → Tells old (Some event) mid → new ≡ mid → events_left new < events_left old
fewer_left {H = H} old mid new event tells same =
    fewer_by old new event tells.notice tells.work tells.hands tells.is
    (ap (λ (s : State H). events_left s) same ∙ ap (λ (s : State H). events_left s) tells.rest)

-- all is known still where the questions are the same
pub knows_asked : {H : Type 0} (old known : Conversation H) (asked : Asked) → asked ≡ known.asked → Knows old known → Knows old (record known { asked = asked })
knows_asked old known asked same knows = subst (λ (t : Asked). Knows old (record known { asked = t })) (sym same) knows
