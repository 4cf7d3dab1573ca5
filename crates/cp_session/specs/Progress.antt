-- How far a session is, and which of its limits it meets.
use Rattle.std.specs.Prelude.{◌≡◌, ℕ, ◌+◌, ◌-◌, ◌/◌, ◌<◌, ◌≤◌, ◌^◌, nat_lt, min, if◌then◌else◌, Bool, true, false, Option, Some, None}
use Rattle.cp_connection.specs.declared.excess.Excess.{Excess}
use Rattle.cp_connection.specs.declared.excess.Excess.TheVariants as excesses
use Rattle.cp_connection.specs.declared.fault.ConnectionFault.{ConnectionFault}
use Rattle.cp_session.specs.declared.limits.SessionLimits.{SessionLimits}
use Rattle.cp_dispatch.specs.declared.event.Limit.{Limit}
use Rattle.cp_dispatch.specs.declared.event.Limit.TheVariants as limits
use Rattle.cp_session.specs.declared.progress.Phase.{Phase}
use Rattle.cp_session.specs.declared.progress.Phase.TheVariants as phases
use Rattle.cp_session.specs.declared.progress.Progress.{Progress}

-- a session begins at this time
abbrev pub begun : ℕ → Progress
begun now = record { phase = phases.Serving; moved = now; asked = None; opened = None; is_finished = false; fault = None; limit = None; is_told = false }

-- a byte moved at this time, and the peer wasn't asked since
abbrev pub moved_at : ℕ → Progress → Progress
moved_at now progress = record progress { moved = now; asked = None }

-- how many of these bytes are left once so many were written, unless more were
abbrev pub less : ℕ → Option ℕ → Option ℕ
less count None = None
less count (Some left) = if nat_lt left count then None else Some (left - count)

-- So many bytes were written at this time. Those by which the peer was asked don't count.
abbrev pub written_by : Option ℕ → ℕ → Progress → Progress
written_by (Some left) now progress = record progress { asked = Some left }
written_by None now progress = moved_at now progress

abbrev pub written_at : ℕ → ℕ → Progress → Progress
written_at count now progress = written_by (less count progress.asked) now progress

-- Since when the open message comes, once bytes were taken that leave one open or not.
abbrev pub opened_by : Option ℕ → Bool → ℕ → Option ℕ
opened_by opened false now = None
opened_by None true now = Some now
opened_by (Some since) true now = Some since

-- the phase after which nothing more is taken
abbrev pub ended : Phase → Phase
ended phases.Serving = phases.Ending
ended other = other

-- nothing more is taken
abbrev pub stopped : Progress → Progress
stopped progress = record progress { phase = ended progress.phase; opened = None }

-- the fault that came first
abbrev pub first_of : Option ConnectionFault → ConnectionFault → ConnectionFault
first_of None fault = fault
first_of (Some first) fault = first

-- nothing is left to be done
abbrev pub over : Progress → Progress
over progress = record progress { phase = phases.Over; opened = None }

-- all went out, by this time
abbrev pub left : Progress → ℕ → Progress
left progress now = record progress { phase = if progress.is_finished then phases.Over else phases.Draining now }

-- the phase once the connection ended, if it did
abbrev pub phase_by : Option ConnectionFault → Phase → Phase
phase_by None phase = phase
phase_by (Some fault) phase = ended phase

-- since when the open message comes, unless the connection ended
abbrev pub opened_unless : Option ConnectionFault → Option ℕ → Option ℕ
opened_unless None opened = opened
opened_unless (Some fault) opened = None

-- once the connection ended nothing more is taken
abbrev pub heeding : Option ConnectionFault → Progress → Progress
heeding fault progress = record progress { phase = phase_by fault progress.phase; opened = opened_unless fault progress.opened }

-- nothing more is taken, for this fault, if there was none before
abbrev pub failed : Progress → ConnectionFault → Progress
failed progress fault = stopped (record progress { fault = Some (first_of progress.fault fault) })

-- nothing more is taken, as the peer's bytes ended
abbrev pub finished : Progress → Progress
finished progress = stopped (record progress { is_finished = true })

-- bytes were taken at this time, and this many of an open message came
abbrev pub taken_at : Progress → ℕ → ℕ → Progress
taken_at progress now came = record (moved_at now progress) { opened = opened_by progress.opened (nat_lt 0 came) now }

-- where the peer's close was waited for, nothing is left to be done
abbrev pub closing : Phase → Progress → Progress
closing (phases.Draining since) progress = over progress
closing other progress = progress

-- the peer's bytes ended once nothing was taken
abbrev pub ended_again : Progress → Progress
ended_again progress = closing progress.phase (finished progress)

-- something is to go out yet, or may be
abbrev pub IsAtWork : Phase → Type 0
IsAtWork phases.Serving = Unit {0}
IsAtWork phases.Ending = Unit {0}
IsAtWork (phases.Draining since) = ⊥
IsAtWork phases.Over = ⊥

-- the peer's close is waited for
abbrev pub IsDraining : Phase → Type 0
IsDraining phases.Serving = ⊥
IsDraining phases.Ending = ⊥
IsDraining (phases.Draining since) = Unit {0}
IsDraining phases.Over = ⊥

-- from then to now the time went by
abbrev pub WentBy : ℕ → ℕ → ℕ → Type 0
WentBy since time now = time ≤ now - since

-- its open message has come for too long
abbrev pub IsSlow : SessionLimits → Progress → ℕ → Type 0
IsSlow allowed progress now = (since : ℕ) × (progress.opened ≡ Some since) × WentBy since allowed.message now

-- The limits that it meets, where this many bytes are kept for it. While its peer's close is waited for, that time alone counts.
abbrev pub Meets : SessionLimits → Progress → ℕ → ℕ → Limit → Type 0
Meets allowed progress kept now limits.Message = IsAtWork progress.phase × IsSlow allowed progress now
Meets allowed progress kept now limits.Idle = IsAtWork progress.phase × WentBy progress.moved allowed.idle now
Meets allowed progress kept now limits.Closing = (since : ℕ) × (progress.phase ≡ phases.Draining since) × WentBy since allowed.closing now
Meets allowed progress kept now limits.Kept = IsAtWork progress.phase × (allowed.kept < kept)

-- what is too much where this limit is met, and is told to the peer: that too much is kept, while its bytes are taken
abbrev pub kept_excess : Phase → Option Excess
kept_excess phases.Serving = Some excesses.Kept
kept_excess other = None

abbrev pub excess_by : Limit → Phase → Option Excess
excess_by limits.Kept phase = kept_excess phase
excess_by other phase = None

-- nothing more is taken where the peer is told what is too much; else nothing is left to be done
abbrev pub ended_by : Option Excess → Progress → Progress
ended_by (Some excess) progress = stopped progress
ended_by None progress = over progress

-- this limit is met
abbrev pub met : Limit → Progress → Progress
met limit progress = ended_by (excess_by limit progress.phase) (record progress { limit = Some limit })

-- Time passed, and this many bytes are kept: a limit is met, and of that this excess is told to the peer; or none is met, and nothing is told.
pub data TicksTo (allowed : SessionLimits) (old : Progress) (kept now : ℕ) (told : Option Excess) (new : Progress) : Type 0 where
  meets : (limit : Limit) → Meets allowed old kept now limit → told ≡ excess_by limit old.phase → new ≡ met limit old → TicksTo allowed old kept now told new
  meets_none : ((limit : Limit) → Meets allowed old kept now limit → ⊥) → told ≡ None → new ≡ old → TicksTo allowed old kept now told new

-- the time so much later, if a clock gets there
abbrev pub after : ℕ → ℕ → Option ℕ
after since time = if nat_lt (since + time) (2 ^ 64) then Some (since + time) else None

-- the earlier of two times
abbrev pub earlier : Option ℕ → Option ℕ → Option ℕ
earlier (Some one) (Some other) = Some (min one other)
earlier None other = other
earlier (Some one) None = Some one

-- when the open message has come for too long
abbrev pub message_deadline : SessionLimits → Option ℕ → Option ℕ
message_deadline allowed None = None
message_deadline allowed (Some since) = after since allowed.message

-- when it meets the next limit of time, if no byte moves before
abbrev pub deadline_of : SessionLimits → Progress → Phase → Option ℕ
deadline_of allowed progress phases.Serving = earlier (after progress.moved allowed.idle) (message_deadline allowed progress.opened)
deadline_of allowed progress phases.Ending = earlier (after progress.moved allowed.idle) (message_deadline allowed progress.opened)
deadline_of allowed progress (phases.Draining since) = after since allowed.closing
deadline_of allowed progress phases.Over = None

-- The time before this one by half of that.
abbrev pub before_by : ℕ → Option ℕ → Option ℕ
before_by time None = None
before_by time (Some at) = Some (at - time / 2)

-- When a peer that all was written to is asked, if no byte moves before: once half of the time is over in which one has to, and once only.
abbrev pub ask_by : SessionLimits → Progress → Phase → Option ℕ → Option ℕ
ask_by allowed progress phase (Some left) = None
ask_by allowed progress phases.Serving None = before_by allowed.idle (after progress.moved allowed.idle)
ask_by allowed progress phases.Ending None = None
ask_by allowed progress (phases.Draining since) None = None
ask_by allowed progress phases.Over None = None
