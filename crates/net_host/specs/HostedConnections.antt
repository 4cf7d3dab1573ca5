-- A connection of a host, and what is done with it.
use Rattle.std.specs.Prelude.{◌≡◌, ◌≢◌, ◌≤◌, ◌<◌, ◌⊎◌, ℕ, ℤ, true, List, [], ◌∷◌, ◌++◌, Option, Some, None, length, take}
use Rattle.std.specs.FinMap as map
use Rattle.std.specs.IoError.{error_kind, raw_os_error}
use Rattle.std.specs.declared.io.Error.{Error}
use Rattle.std.specs.declared.io.ErrorKind.TheVariants as kinds
use Rattle.cp_connection.specs.declared.event.ConnectionStats.{ConnectionStats}
use Rattle.cp_objects.specs.declared.letters.Letter.{Letter}
use Rattle.cp_objects.specs.declared.letters.LetterBody.{LetterBody}
use Rattle.cp_objects.specs.ObjectTable.{ObjectTableKind}
use Rattle.cp_dispatch.specs.declared.event.SessionEvent.{SessionEvent}
use Rattle.cp_session.specs.Budget.{Keeping}
use Rattle.cp_dispatch.specs.declared.event.SessionEvent.TheVariants as events
use Rattle.cp_dispatch.specs.declared.event.Limit.{Limit}
use Rattle.cp_dispatch.specs.declared.event.Limit.TheVariants as limits
use Rattle.cp_session.specs.declared.progress.Phase.TheVariants as phases
use Rattle.cp_session.specs.Doing as doing
use Rattle.cp_session.specs.Doing.{Delivers, IsRefused, KeepsRest, MayTake, Ticks, Writes, due_of}
use Rattle.cp_session.specs.Kept.{kept_of}
use Rattle.cp_session.specs.Progress.{IsDraining, Meets}
use Rattle.cp_session.specs.Runs.{Transfer, Runs, nothing}
use Rattle.cp_session.specs.State.{State, link_of}
use Rattle.net_sockets.specs.declared.listener.Peer.{Peer}
use Rattle.net_sockets.specs.Flow.{Flow, Moves, Rests}
use Rattle.net_sockets.specs.Reading.{failure_of, flow_of, may_read, may_write}
use Rattle.net_host.specs.declared.allowance.Allowance.{Allowance}
use Rattle.net_host.specs.declared.end.End.{End}
use Rattle.net_host.specs.declared.end.End.TheVariants as ends
use Rattle.net_host.specs.declared.end.Ended.{Ended}
use Rattle.net_host.specs.declared.hosted_connection.HostedConnection.{HostedConnection}
use Rattle.net_host.specs.declared.pending.PendingConnection.{PendingConnection}
use Rattle.net_host.specs.declared.hosted_connection.Turn.{Turn}
use Rattle.net_host.specs.declared.hosted_connection.Turn.TheVariants as turns
use Rattle.net_host.specs.Feeding.{AreAt}
use Rattle.net_host.specs.Timing.{ComesBy}
use Rattle.net_host.specs.Waking.{HandsAll, HandsOut}

-- A connection: its number, its peer, its session, what was read of its stream and not taken, how it ended, once an event said so, the system's code of the error
-- that its stream gave last, if it gave one and that had a code, and what goes through its socket.
pub record Served (H : Type 0) : Type 0 where
  pub number : ℕ
  pub peer : Peer
  pub session : State H
  pub rest : List ℕ
  pub end : Option End
  pub failure : Option (Option ℤ)
  pub flow : Flow

-- a connection by its parts
abbrev pub served_of : {S D H : Type 0} → (S → State H) → (D → Flow) → HostedConnection S D → Served H
served_of state flow hosted = record {
  number = hosted.number;
  peer = hosted.peer;
  session = state hosted.session;
  rest = hosted.rest.items;
  end = hosted.end;
  failure = failure_of hosted.stream;
  flow = flow_of flow hosted.stream;
}

-- what was taken of its peer, and sent to it
abbrev pub stats_of : {H : Type 0} → Served H → ConnectionStats
stats_of served = (link_of served.session).stats

-- it ended in this way
abbrev pub ended_of : {H : Type 0} → Served H → End → Ended
ended_of served end = record { number = served.number; peer = served.peer; end = end; stats = stats_of served }

-- how many bytes are kept for it
abbrev pub kept_by : {H : Type 0} → ObjectTableKind H → Served H → ℕ
kept_by table served = kept_of served.session.service.work (table.guests served.session.objects)

-- something waits to be written, and its stream may take bytes
abbrev pub CanWrite : {S D H : Type 0} → (S → State H) → HostedConnection S D → Type 0
CanWrite state hosted = (may_write hosted.stream ≡ true) × ((link_of (state hosted.session)).unwritten ≢ [])

-- there may be bytes of the peer, or its end
abbrev pub MayHaveBytes : {S D H : Type 0} → (S → State H) → HostedConnection S D → Type 0
MayHaveBytes state hosted = (may_read hosted.stream ≡ true) ⊎ (hosted.rest.items ≢ [])

-- bytes are taken, or dropped, and there may be some
abbrev pub CanTake : {S D H : Type 0} → (S → State H) → HostedConnection S D → Type 0
CanTake state hosted =
    let session = state hosted.session in
    (IsDraining session.progress.phase ⊎ MayTake session) × MayHaveBytes state hosted

-- a connection of which nothing was read
abbrev pub new_served : {D H : Type 0} → (D → Flow) → PendingConnection D → State H → Served H
new_served flow pending session =
    record { number = pending.number; peer = pending.peer; session = session; rest = []; end = None; failure = failure_of pending.stream; flow = flow_of flow pending.stream }

-- a limit of time is met by now, unless a byte moves, or an object is to be woken by now
abbrev pub IsOverdue : {H : Type 0} → ObjectTableKind H → State H → ℕ → Type 0
IsOverdue table session now = ComesBy now (due_of table session)

-- more is kept for it than its own limit while its peer's bytes are taken, and its peer is told so
abbrev pub IsTooMuch : {H : Type 0} → ObjectTableKind H → State H → Type 0
IsTooMuch table session = (session.progress.phase ≡ phases.Serving) × (session.limits.kept < kept_of session.service.work (table.guests session.objects))

-- how a connection ended, if an event says so
abbrev pub end_of : SessionEvent → Option End
end_of (events.Outcome question outcome) = None
end_of events.Restless = None
end_of (events.Closed reason) = Some (ends.Closed reason)
end_of (events.Fault fault) = Some (ends.Fault fault)
end_of (events.Limit limit) = Some (ends.Limit limit)
end_of events.Ended = Some ends.Ended

-- what is known of its end, once something more may be
abbrev pub or_before : Option End → Option End → Option End
or_before known None = known
or_before known (Some end) = Some end

-- what is known of its end once these events were handed out
abbrev pub end_after : Option End → List SessionEvent → Option End
end_after known [] = known
end_after known (event ∷ more) = end_after (or_before known (end_of event)) more

-- an event was handed out
abbrev pub heard : {H : Type 0} → SessionEvent → Served H → Served H
heard event old = record old { end = or_before old.end (end_of event) }

-- its end: what is known of it, or else the other
abbrev pub end_or : Option End → End → End
end_or None other = other
end_or (Some end) other = end

-- this is the error that its stream gave last, or memory ran out
abbrev pub HasFailed : {H : Type 0} → Served H → Error → Type 0
HasFailed last error = (last.failure ≡ Some (raw_os_error error)) ⊎ (error_kind error ≡ kinds.OutOfMemory)

-- it ended as memory ran out, if no event said before how it did
abbrev pub IsShort : {H : Type 0} → Served H → End → Type 0
IsShort last end = (error : Error) × (error_kind error ≡ kinds.OutOfMemory) × (end ≡ end_or last.end (ends.Failed error))

-- it doesn't take in a letter, as memory ran out
abbrev pub IsUndelivered : {H : Type 0} → Served H → Served H → Type 0
IsUndelivered old new = KeepsRest old.session new.session × (new ≡ record old { session = new.session })

-- its stream failed with this error, and neither gave nor took bytes
abbrev pub FailsBy : {H : Type 0} → Served H → Error → Served H → Type 0
FailsBy old error new = Rests old.flow new.flow × (new ≡ record old { failure = Some (raw_os_error error); flow = new.flow })

-- Why a connection is closed that may keep so many bytes, though its stream didn't fail: memory ran out; its session is over; or more is kept for it. What events
-- said before comes first.
pub data IsWhy {H : Type 0} (table : ObjectTableKind H) (most : ℕ) (last : Served H) (end : End) : Type 0 where
  is_short : IsShort last end → IsWhy table most last end
  is_over : last.session.progress.phase ≡ phases.Over → end ≡ end_or last.end ends.Ended → IsWhy table most last end
  is_full : most < kept_by table last → end ≡ end_or last.end (ends.Limit limits.Kept) → IsWhy table most last end

module _ {H : Type 0} (table : ObjectTableKind H) where
  -- A connection went on. Its session was given what was left of its stream and what came of it, in order and each byte once, but what is left now, and was told of
  -- each end of the stream. What it was told that was written its stream took. Nothing else was done with its session: the program made no call and woke no object, no letter was delivered or handed out, its peer wasn't refused, and no time passed.
  -- All that was done with it was done at this time. What is known of its end is what events said.
  pub record Serves (now : ℕ) (old : Served H) (came left : List ℕ) (new : Served H) : Type 0 where
    pub number : new.number ≡ old.number
    pub peer : new.peer ≡ old.peer
    pub transfer : Transfer
    pub runs : Runs table old.session transfer new.session
    pub no_call : transfer.called ≡ []
    pub unroused : transfer.roused ≡ []
    pub unrefused : transfer.refused ≡ []
    pub unticked : transfer.ticked ≡ []
    pub undelivered : transfer.delivered ≡ []
    pub unsent : transfer.sent ≡ []
    pub at_once : AreAt now transfer.times
    pub in_order : old.rest ++ came ≡ transfer.given ++ left
    pub flow : Moves old.flow came (length transfer.ended) transfer.written new.flow
    pub end : new.end ≡ end_after old.end transfer.told

  -- it went on, keeps what is left, and its stream didn't fail
  abbrev pub Proceeds : ℕ → Served H → Served H → Type 0
  Proceeds now old new = (came : List ℕ) × Serves now old came new.rest new × (new.failure ≡ old.failure)

  -- it went on for the last time, with what came of its stream
  abbrev pub StopsAfter : ℕ → Served H → List ℕ → Served H → Type 0
  StopsAfter now old came new = (left : List ℕ) × Serves now old came left new

  -- It went on with these bytes, or that end, which its stream gave just before.
  abbrev pub TakesIn : ℕ → Served H → List ℕ → ℕ → List ℕ → Served H → Type 0
  TakesIn now old came ended left new = (before : Flow) → Moves before came ended [] old.flow → Serves now (record old { flow = before }) came left new

  -- it did, and for the last time, as memory ran out
  abbrev pub StopsShort : ℕ → Served H → List ℕ → ℕ → Error → Served H → Type 0
  StopsShort now old came ended error new =
      ((before : Flow) → Moves before came ended [] old.flow → StopsAfter now (record old { flow = before }) came new) × (error_kind error ≡ kinds.OutOfMemory)

  -- it went on for the last time
  abbrev pub Stops : ℕ → Served H → Served H → Type 0
  Stops now old new = (came : List ℕ) × StopsAfter now old came new

  -- it went on for the last time, as its stream failed with this error, or memory ran out
  abbrev pub Breaks : ℕ → Served H → Error → Served H → Type 0
  Breaks now old error new = Stops now old new × HasFailed new error

  -- its session was closed, as its stream failed: its objects were told their end
  abbrev pub Shuts : ℕ → Served H → Served H → Type 0
  Shuts now old new = doing.Closes table old.session now new.session × (new ≡ record old { session = new.session })

  -- Events of its session were handed out, and nothing else was done. What is known of its end is what they said.
  abbrev pub Hears : Served H → Served H → Type 0
  Hears old new =
      (told : List SessionEvent) × Runs table old.session (record nothing { told = told }) new.session
      × (new.session.progress.phase ≡ old.session.progress.phase) × (new ≡ record old { session = new.session; end = end_after old.end told })

  -- its stream took this many of the bytes that waited, at this time
  pub data Sends (old : Served H) (count now : ℕ) (new : Served H) : Type 0 where
    none : count ≡ 0 → Rests old.flow new.flow → new ≡ record old { flow = new.flow } → Sends old count now new
    some : Writes table old.session count now new.session → Moves old.flow [] 0 (take count (link_of old.session).unwritten) new.flow
        → new ≡ record old { session = new.session; flow = new.flow } → Sends old count now new

  -- its session handed out all letters to others
  abbrev pub HandsOver : Served H → List Letter → Served H → Type 0
  HandsOver old sent new = HandsAll table old.session sent new.session × (new ≡ record old { session = new.session })

  -- its session handed out these
  abbrev pub HandsSome : Served H → List Letter → Served H → Type 0
  HandsSome old sent new = HandsOut table old.session sent new.session × (new ≡ record old { session = new.session })

  -- where more is kept for a session than this, it refused its peer
  pub data Minds (most now : ℕ) (old new : State H) : Type 0 where
    minds_none : kept_of old.service.work (table.guests old.objects) ≤ most → new ≡ old → Minds most now old new
    minds_full : most < kept_of old.service.work (table.guests old.objects) → IsRefused table old now new → Minds most now old new

  -- It went on; time passed for its session, up to this time; where more was kept for it than this its peer was refused; and events were handed out.
  pub record Passes (most now : ℕ) (old new : Served H) : Type 0 where
    pub worked : Served H
    pub proceeds : Proceeds now old worked
    pub ticked : State H
    pub ticks : Ticks table worked.session now ticked
    pub minded : State H
    pub minds : Minds most now ticked minded
    pub hears : Hears (record worked { session = minded }) new

  -- it did, and all letters were handed out
  pub record Works (most now : ℕ) (old : Served H) (sent : List Letter) (new : Served H) : Type 0 where
    pub told : Served H
    pub passes : Passes most now old told
    pub hands : HandsOver told sent new

  -- It went on for the last time, before any letter was handed out: its stream failed, or memory ran out, and it was closed; or nothing failed yet.
  pub data Lasts (most now : ℕ) (old new : Served H) : Type 0 where
    breaks_off : (error : Error) (broken : Served H) → Breaks now old error broken → Shuts now broken new → Lasts most now old new
    passes_on : Passes most now old new → Lasts most now old new

  -- its session handed out all letters to others, or these, as memory ran out for more
  abbrev pub HandsUp : Served H → List Letter → Served H → Type 0
  HandsUp old sent new = HandsOver old sent new ⊎ HandsSome old sent new

  -- Memory ran out for it: it was closed, these letters were handed out, and this is how it ended.
  abbrev pub LeavesShort : ℕ → Served H → List Letter → End → Served H → Type 0
  LeavesShort now old sent end new =
      (closed : Served H) × (last : Served H) × Shuts now old closed × HandsUp closed sent last × IsShort last end × (new ≡ record last { end = None })

  -- It went on for the last time, as its stream failed with this error, or memory ran out, and it was closed. All letters were handed
  -- out; or memory ran out for that, once these were.
  pub data Fails (most now : ℕ) (old : Served H) (sent : List Letter) (error : Error) (new : Served H) : Type 0 where
    fails_whole : (broken last : Served H) → Breaks now old error broken → Shuts now broken last → HandsOver last sent new → Fails most now old sent error new
    fails_short : (last : Served H) → Lasts most now old last → HandsSome last sent new → error_kind error ≡ kinds.OutOfMemory → Fails most now old sent error new

  -- It went on for the last time, and this is how it ended: its stream failed, or memory ran out; or nothing failed, and this is why. All letters were handed out; or
  -- memory ran out for that, once these were.
  pub data EndsBy (most now : ℕ) (old : Served H) (letters : List Letter) (last : Served H) (end : End) : Type 0 where
    ends_broken : (broken served : Served H) (error : Error) → Breaks now old error broken → Shuts now broken served → HandsOver served letters last
        → end ≡ end_or last.end (ends.Failed error) → EndsBy most now old letters last end
    ends_whole : Works most now old letters last → IsWhy table most last end → EndsBy most now old letters last end
    ends_unnoted : (worked : Served H) (sent more : List Letter) → Works most now old sent worked → LeavesShort now worked more end last → letters ≡ sent ++ more
        → EndsBy most now old letters last end
    ends_short : (served : Served H) → Lasts most now old served → HandsSome served letters last → IsShort last end → EndsBy most now old letters last end

  -- It went on; by this time its session met no limit, but the one of which its peer is told. No more is kept for it than this.
  pub record Stays (most now : ℕ) (old : Served H) (sent : List Letter) (new : Served H) : Type 0 where
    pub works : Works most now old sent new
    pub unmet : (limit : Limit)
        → Meets works.passes.worked.session.limits works.passes.worked.session.progress (kept_by table works.passes.worked) now limit
        → IsTooMuch table works.passes.worked.session
    pub within : kept_by table new ≤ most

  -- it is closed, has its number and its peer, and took and sent no more than when it went on for the last time
  abbrev pub Closes : ℕ → ℕ → Served H → List Letter → End → Served H → Type 0
  Closes most now old sent end new =
      (new.number ≡ old.number) × (new.peer ≡ old.peer) × (last : Served H) × EndsBy most now old sent last end × (stats_of new ≡ stats_of last)

  -- what a turn at this time does with it, where so many bytes may be kept for it
  abbrev pub Visits : ℕ → ℕ → Served H → List Letter → Turn → Served H → Type 0
  Visits most now old sent (turns.Over end) new = Closes most now old sent end new
  Visits most now old sent turns.More new = Stays most now old sent new
  Visits most now old sent turns.Waits new = Stays most now old sent new

  -- it takes in a letter of another connection
  abbrev pub TakesLetter : LetterBody → Served H → Served H → Type 0
  TakesLetter body old new = Delivers table body old.session new.session × (new ≡ record old { session = new.session })

-- the letters are those of before, and then these
abbrev pub Adds : List Letter → (List Letter → Type 0) → List Letter → Type 0
Adds before P after = (sent : List Letter) × (after ≡ before ++ sent) × P sent

-- Of a turn and its parts: what it sends comes after the letters of before.
module _ {H : Type 0} (table : ObjectTableKind H) where
  abbrev pub VisitsAdding : Allowance → Served H → List Letter → Turn → Served H → List Letter → Type 0
  VisitsAdding allowed old before turn new after = Adds before (λ sent. Visits table allowed.kept allowed.now old sent turn new) after

  abbrev pub ClosesAdding : Allowance → Served H → List Letter → End → Served H → List Letter → Type 0
  ClosesAdding allowed old before end new after = Adds before (λ sent. Closes table allowed.kept allowed.now old sent end new) after

  abbrev pub LeavesAdding : ℕ → Served H → List Letter → End → Served H → List Letter → Type 0
  LeavesAdding now old before end new after = Adds before (λ sent. LeavesShort table now old sent end new) after

  abbrev pub HandsAdding : Served H → List Letter → Served H → List Letter → Type 0
  HandsAdding old before new after = Adds before (λ sent. HandsOver table old sent new) after

  abbrev pub HandsSomeAdding : Served H → List Letter → Served H → List Letter → Type 0
  HandsSomeAdding old before new after = Adds before (λ sent. HandsSome table old sent new) after

  abbrev pub StaysAdding : Allowance → Served H → List Letter → Served H → List Letter → Type 0
  StaysAdding allowed old before new after = Adds before (λ sent. Stays table allowed.kept allowed.now old sent new) after

  abbrev pub WorksAdding : Allowance → Served H → List Letter → Served H → List Letter → Type 0
  WorksAdding allowed old before new after = Adds before (λ sent. Works table allowed.kept allowed.now old sent new) after

  abbrev pub FailsAdding : Allowance → Served H → List Letter → Error → Served H → List Letter → Type 0
  FailsAdding allowed old before error new after = Adds before (λ sent. Fails table allowed.kept allowed.now old sent error new) after

-- a budget notes how much is kept for the connection of this number, or forgets it
abbrev pub noting : Keeping → ℕ → ℕ → Keeping
noting budget number bytes = record budget { kept = map.insert budget.kept number bytes }

abbrev pub forgetting : Keeping → ℕ → Keeping
forgetting budget number = record budget { kept = map.remove budget.kept number }

-- a turn's budget has what is kept for a connection that goes on, and forgets one that ended
abbrev pub Accounts : Turn → ℕ → ℕ → Keeping → Keeping → Type 0
Accounts (turns.Over end) number bytes old new = new ≡ forgetting old number
Accounts turns.More number bytes old new = new ≡ noting old number bytes
Accounts turns.Waits number bytes old new = new ≡ noting old number bytes
