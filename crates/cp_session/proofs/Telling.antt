-- Which events are told, and what the program knows then.
use Rattle.std.proofs.Common.{◌≡◌, Bool, true, false, Option, Some, None, refl, sym, ap, is_none, true≢false}
use Rattle.cp_connection.specs.declared.fault.ConnectionFault.{ConnectionFault}
use Rattle.cp_dispatch.specs.declared.event.Limit.{Limit}
use Rattle.cp_dispatch.specs.declared.event.SessionEvent.{SessionEvent}
use Rattle.cp_dispatch.specs.Noticed.{is_last}
use Rattle.cp_session.specs.declared.progress.Phase.{Phase}
use Rattle.cp_session.specs.declared.progress.Phase.TheVariants as phases
use Rattle.cp_session.specs.Doing.{ending_by, knows_by, told_if}

-- what isn't the last is told
pub tells_others : (told : Bool) (event : SessionEvent) → is_last event ≡ false → Some event ≡ told_if told event
tells_others true event other = rw other refl
tells_others false event other = refl

-- the last says why nothing more is taken
pub told_last : (told : Bool) (limit : Option Limit) (fault : Option ConnectionFault) (phase : Phase) (event : SessionEvent) → Some event ≡ ending_by limit fault phase
    → knows_by (Some event) told ≡ true
told_last told (Some limit) fault phase event is = ap (λ (e : Option SessionEvent). knows_by e told) is
told_last told None (Some fault) phase event is = ap (λ (e : Option SessionEvent). knows_by e told) is
told_last told None None phases.Over event is = ap (λ (e : Option SessionEvent). knows_by e told) is
told_last told None None phases.Serving event is = absurd (true≢false (sym (ap is_none is)))
told_last told None None phases.Ending event is = absurd (true≢false (sym (ap is_none is)))
told_last told None None (phases.Draining since) event is = absurd (true≢false (sym (ap is_none is)))
