-- A server's work, and what its connection and its objects have of it. No public clause names these.
use Rattle.std.specs.Prelude.{◌≡◌, ℕ, if◌then◌else◌, Bool, true, false, List, [], ◌∷◌, ◌++◌, Option, Some, None, length}
use Rattle.std.specs.FinMap.{empty}
use Rattle.cp_vat_machine.specs.State.{State, none_over}
use Rattle.cp_vat_machine.specs.declared.effect.Effect.{Effect}
use Rattle.cp_vat_machine.specs.declared.effect.Reason.{Reason}
use Rattle.cp_tail_calls.specs.Bridging.{sent_of}
use Rattle.cp_tail_calls.specs.Serving.{closes}
use Rattle.cp_connection.specs.declared.fault.ConnectionFault.{ConnectionFault}
use Rattle.cp_connection.specs.declared.fault.ConnectionFault.TheVariants as faults
use Rattle.cp_connection.specs.Counting.{CountsMore}
use Rattle.cp_connection.specs.Effects.{happening_by, AreFramesOf}
use Rattle.cp_connection.specs.Link.{Link}
use Rattle.cp_dispatch.specs.declared.event.SessionEvent.{SessionEvent}
use Rattle.cp_dispatch.specs.declared.event.SessionEvent.TheVariants as notices
use Rattle.cp_dispatch.specs.Work as objects
use Rattle.cp_serve.specs.Work.{Work}

-- why the vat closed, if an event says so
abbrev pub reason_in : List SessionEvent → Option Reason
reason_in [] = None
reason_in (notices.Closed reason ∷ more) = Some reason
reason_in (other ∷ more) = reason_in more

-- why a connection ended, whose memory sufficed and whose bytes could be read
abbrev pub ended_if : Bool → Option ConnectionFault
ended_if is_closed = if is_closed then Some faults.Closed else None

-- an effect by which the vat closes is left to be worked off, or was
abbrev pub is_over : Option Reason → List Effect → Bool
is_over None effects = closes effects
is_over (Some reason) effects = true

-- A vat is closed where an effect that is left says so; and where one that was worked off did, and then no other is left.
abbrev pub ClosesBy : Option Reason → List Effect → Bool → Type 0
ClosesBy None effects is_closed = closes effects ≡ true → is_closed ≡ true
ClosesBy (Some reason) effects is_closed = (is_closed ≡ true) × (effects ≡ [])

-- between two events of an open vat no gate has ended
abbrev pub IsBetween : State → Type 0
IsBetween s = s.is_closed ≡ false → s.waiting.over ≡ none_over

-- The objects on a connection have what a server's vat has still to do, from when the connection was this one. Both have the same vat, and owe the same. A
-- message is framed when its vat sends it: the messages to be written and those of the effects that are left come after the bytes that were to go out then.
-- What else these effects ask for has happened.
pub record Matches (base : Link) (w : Work) (o : objects.Work) : Type 0 where
  pub vat : o.link.vat ≡ w.vat
  pub no_tails : o.link.tails ≡ None
  pub awaited : o.awaited ≡ w.awaited
  pub given_up : o.given_up ≡ w.given_up
  pub none_call : o.may_call ≡ false
  pub none_asked : o.asked ≡ empty
  pub none_held : o.held ≡ empty
  pub none_given : o.given ≡ empty
  pub happens : o.link.happened ≡ happening_by w.effects
  pub bytes : List ℕ
  pub frames : AreFramesOf base.mode (w.sent ++ sent_of w.effects) bytes
  pub goes_out : o.link.unwritten ≡ base.unwritten ++ bytes
  pub counts : CountsMore base.stats.sent (length (w.sent ++ sent_of w.effects)) o.link.stats.sent
  pub same_stats : o.link.stats ≡ record base.stats { sent = o.link.stats.sent }
  pub same_mode : o.link.mode ≡ base.mode
  pub same_limits : o.link.limits ≡ base.limits
  pub same_reading : o.link.reading ≡ base.reading
  pub ended : o.link.fault ≡ ended_if (is_over w.closed w.effects)
  pub closes_by : ClosesBy w.closed w.effects w.vat.is_closed
  pub between : IsBetween w.vat
  pub reason : reason_in o.notices ≡ w.closed

-- nothing is left to be done
pub record IsAllDone (w : Work) (o : objects.Work) : Type 0 where
  pub matches : Matches o.link w o
  pub none_left : w.effects ≡ []
  pub none_unsent : w.sent ≡ []
