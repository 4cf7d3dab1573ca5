-- The connections of a host, and what is done with them.
use Rattle.std.specs.Prelude.{◌≡◌, ◌≢◌, ◌%◌, ◌^◌, Contains, ℕ, true, List, [], ◌∷◌, ◌++◌, Option, Some, None, option_map, option_to_list}
use Rattle.std.specs.FinMap as map
use Rattle.slab.specs.Slab.{Slab, get}
use Rattle.cp_connection.specs.declared.event.ConnectionStats.{ConnectionStats}
use Rattle.cp_refs.specs.Memory.{counted}
use Rattle.cp_objects.specs.declared.letters.Letter.{Letter}
use Rattle.cp_objects.specs.declared.letters.LetterBody.TheVariants as bodies
use Rattle.cp_objects.specs.declared.waker.Waker.{Waker}
use Rattle.cp_objects.specs.Letters.{bounced}
use Rattle.cp_objects.specs.ObjectTable.{ObjectTableKind}
use Rattle.cp_session.specs.Budget.{IsWithin, Keeping, allowed}
use Rattle.cp_session.specs.declared.options.SessionOptions.{SessionOptions}
use Rattle.cp_session.specs.Doing.{due_of}
use Rattle.cp_session.specs.Progress.{earlier}
use Rattle.cp_session.specs.State.{State, new_state}
use Rattle.net_sockets.specs.Flow.{Flow}
use Rattle.net_sockets.specs.Reading.{failure_of}
use Rattle.net_sockets.specs.Sockets.{flow_of_socket}
use Rattle.net_host.specs.declared.end.End.{End}
use Rattle.net_host.specs.declared.end.Ended.{Ended}
use Rattle.net_host.specs.declared.event_loop.EventLoop.{EventLoop}
use Rattle.net_host.specs.declared.hosted_connection.HostedConnection.{HostedConnection}
use Rattle.net_host.specs.declared.host.SessionHost.{SessionHost}
use Rattle.net_host.specs.declared.host.HostEvent.{HostEvent}
use Rattle.net_host.specs.declared.host.HostEvent.TheVariants as all_news
use Rattle.net_host.specs.declared.host.Look.{Look}
use Rattle.net_host.specs.declared.host.Look.TheVariants as looks
use Rattle.net_host.specs.declared.limits.HostLimits.{HostLimits}
use Rattle.net_host.specs.declared.pending.PendingConnection.{PendingConnection}
use Rattle.net_host.specs.declared.config.HostConfig.{HostConfig}
use Rattle.net_host.specs.HostedConnections.{Served, kept_by, served_of, new_served, forgetting, noting, EndsBy, IsOverdue, IsUndelivered, LeavesShort, Stays, TakesLetter, stats_of}
use Rattle.net_host.specs.Limits.{pool_of, share_of}
use Rattle.net_host.specs.Timing.{ComesBy}
use Rattle.net_host.specs.Waking.{key_of, session_of}

-- The connections that are served, by their keys, the ends of which there was no news yet, what may be kept for all together, and the letters that are to be delivered,
-- in order; when limits of time are looked at next, if a connection has one; and the milliseconds since the host began, at its last look at the clock.
pub record Floor (H : Type 0) : Type 0 where
  pub served : ℕ → Option (Served H)
  pub ended : List Ended
  pub budget : Keeping
  pub letters : List Letter
  pub due : Option ℕ
  pub now : ℕ

-- the connections that a slab has, by their keys
abbrev pub seen : {S D H : Type 0} → (S → State H) → (D → Flow) → Slab (HostedConnection S D) → ℕ → Option (Served H)
seen state flow guests key = option_map (served_of state flow) (get guests key)

-- the connections of an event loop
abbrev pub floor_of : {S D H : Type 0} → (S → State H) → (D → Flow) → EventLoop S D → Floor H
floor_of state flow event_loop = record { served = seen state flow event_loop.guests; ended = event_loop.ended.items; budget = event_loop.budget; letters = event_loop.letters.items; due = event_loop.time.sweep_at; now = event_loop.time.at }

-- the connections of a host
abbrev pub connections_of : {S H : Type 0} → (S → State H) → SessionHost S → Floor H
connections_of state host = floor_of state flow_of_socket host.event_loop

-- the key of each connection that meets a limit of time by now is among these
abbrev pub HasOverdue : {S D H : Type 0} → ObjectTableKind H → (S → State H) → Slab (HostedConnection S D) → ℕ → List ℕ → Type 0
HasOverdue {S = S} {D = D} table state guests now keys = (key : ℕ) (hosted : HostedConnection S D) → get guests key ≡ Some hosted → IsOverdue table (state hosted.session) now → Contains keys key

-- the stream of the connection that waits for its objects, if one does, didn't fail
abbrev pub IsFresh : {D : Type 0} → Option (PendingConnection D) → Type 0
IsFresh None = Unit {0}
IsFresh (Some pending) = failure_of pending.stream ≡ None

-- nobody is served by a host with these limits
abbrev pub nobody : {H : Type 0} → HostLimits → Floor H
nobody limits = record { served = λ key. None; ended = []; budget = record { share = share_of limits; pool = pool_of limits; kept = map.empty }; letters = []; due = None; now = 0 }

-- the number of a connection in the budget, by its key (there is no memory for 2^32 connections)
abbrev pub number_of : ℕ → ℕ
number_of key = key % 2 ^ 32

-- how the session of a connection goes: the peer's Bootstrap gets object 0, the objects may call, and nobody else holds imports
abbrev pub options_of : HostConfig → SessionOptions
options_of plan = record {
  mode = plan.mode;
  messages = plan.messages;
  bootstrap = Some 0;
  may_call = true;
  releases_idle = true;
  limits = plan.limits.session;
}

module _ {H : Type 0} where
  -- under one key there is this now, and under each other one what there was
  pub record Puts (old : ℕ → Option (Served H)) (key : ℕ) (slot : Option (Served H)) (new : ℕ → Option (Served H)) : Type 0 where
    pub here : new key ≡ slot
    pub elsewhere : (other : ℕ) → other ≢ key → new other ≡ old other

  -- nothing was done with any connection, though the host may have looked at the clock
  pub record Rests (old new : Floor H) : Type 0 where
    pub same : (key : ℕ) → new.served key ≡ old.served key
    pub ended : new.ended ≡ old.ended
    pub budget : new.budget ≡ old.budget
    pub letters : new.letters ≡ old.letters
    pub due : new.due ≡ old.due

  -- how many bytes may be kept for the connection under a key
  abbrev pub most_for : Floor H → ℕ → ℕ
  most_for floor key = counted (allowed floor.budget (number_of key))

  -- the budget has how much is kept for the connection under a key, or forgets it
  abbrev pub Notes : Floor H → ℕ → ℕ → Floor H → Type 0
  Notes old key bytes new = new.budget ≡ noting old.budget (number_of key) bytes

  abbrev pub Forgets : Floor H → ℕ → Floor H → Type 0
  Forgets old key new = new.budget ≡ forgetting old.budget (number_of key)

  -- the connection is served whose session has this number
  pub record IsServed (floor : Floor H) (session : ℕ) (one : Served H) : Type 0 where
    pub there : floor.served (key_of session) ≡ Some one
    pub named : session_of one.number (key_of session) ≡ session

  -- a letter says that an object is to be woken, after the others
  abbrev pub waking : Floor H → Waker → Floor H
  waking floor waker = record floor { letters = floor.letters ++ record { to = waker.session; body = bodies.Wake waker.object } ∷ [] }

  -- news of its end is to come, with its number and peer, and what it took and sent
  abbrev pub QueuesEnd : Floor H → Served H → End → ConnectionStats → Floor H → Type 0
  QueuesEnd old one end stats new = new.ended ≡ old.ended ++ record { number = one.number; peer = one.peer; end = end; stats = stats } ∷ []

  -- News of an end is that of the first connection of whose end there was none: its number, its peer, how it ended, and what it took and sent. Other news is told, or
  -- that all is over, only where there was news of each end.
  abbrev pub Tells : Floor H → Option HostEvent → Floor H → Type 0
  Tells old (Some (all_news.Ended number peer end stats)) new =
      (new.served ≡ old.served) × (old.ended ≡ record { number = number; peer = peer; end = end; stats = stats } ∷ new.ended) × (new.budget ≡ old.budget) × (new.letters ≡ old.letters) × (new.due ≡ old.due)
  Tells old other new = (new ≡ old) × (old.ended ≡ [])

module _ {H : Type 0} (table : ObjectTableKind H) where
  -- A connection's deadline: when it meets a limit of time, if no byte moves before, or an object of it is to be woken. This is no later than any of theirs.
  abbrev pub AwaitsEach : Option ℕ → (ℕ → Option (Served H)) → Type 0
  AwaitsEach due served = (key deadline : ℕ) (one : Served H) → served key ≡ Some one → due_of table one.session ≡ Some deadline → ComesBy deadline due

  -- this is the first of their deadlines, if there is one
  pub record IsFirst (due : Option ℕ) (served : ℕ → Option (Served H)) : Type 0 where
    pub each : AwaitsEach due served
    pub is_one : (first : ℕ) → due ≡ Some first → (key : ℕ) × (one : Served H) × (served key ≡ Some one) × (due_of table one.session ≡ Some first)

  -- a connection more is served, and nothing was done with any other
  pub record Begins (old : Floor H) (one : Served H) (new : Floor H) : Type 0 where
    pub key : ℕ
    pub free : old.served key ≡ None
    pub puts : Puts old.served key (Some one) new.served
    pub ended : new.ended ≡ old.ended
    pub budget : new.budget ≡ old.budget
    pub letters : new.letters ≡ old.letters
    pub due : new.due ≡ earlier old.due (due_of table one.session)

  -- A connection that waited for its objects is served with them from this time on. They know the number of their session.
  abbrev pub SeatsAt : {D : Type 0} → (D → Flow) → ℕ → HostConfig → PendingConnection D → H → Floor H → Floor H → Type 0
  SeatsAt flow now plan pending objects old new =
      (seated : H) × (seat : Begins old (new_served flow pending (new_state (options_of plan) seated now)) new)
      × table.is_in (session_of pending.number seat.key) objects seated

  -- The connection that waited, if one did, is served from the host's time on.
  abbrev pub Seats : {D : Type 0} → (D → Flow) → HostConfig → Option (PendingConnection D) → H → Floor H → Floor H → Type 0
  Seats flow plan None objects old new = new ≡ old
  Seats flow plan (Some pending) objects old new = SeatsAt flow old.now plan pending objects old new

  -- limits of time are looked at by the deadline of this connection
  abbrev pub Awaits : Floor H → Served H → Floor H → Type 0
  Awaits old next new = new.due ≡ earlier old.due (due_of table next.session)

  -- One connection has a turn, at the host's time. It goes on; or it ended, is served no more, and news of that is to come, with its number and peer, and what it took
  -- and sent. What it sends to others is to be delivered, in order. Or the first letter is delivered, to the session that it is for; or that isn't served any more,
  -- and what bounces is to be delivered last; or memory ran out for it, and its connection ended. Nothing was done with any other. Where one goes on, limits of time
  -- are looked at by its deadline. Or they were looked at, and are when the first is met.
  pub data Turns (old new : Floor H) : Type 0 where
    rests : Rests old new → Turns old new
    goes_on : (key : ℕ) (one next : Served H) (sent : List Letter) → old.served key ≡ Some one → Stays table (most_for old key) old.now one sent next
        → Puts old.served key (Some next) new.served → new.ended ≡ old.ended → Notes old key (kept_by table next) new → new.letters ≡ old.letters ++ sent
        → Awaits old next new → Turns old new
    ends : (key : ℕ) (one last : Served H) (sent : List Letter) (end : End) → old.served key ≡ Some one → EndsBy table (most_for old key) old.now one sent last end
        → Puts old.served key None new.served → QueuesEnd old one end (stats_of last) new → Forgets old key new → new.letters ≡ old.letters ++ sent
        → new.due ≡ old.due → Turns old new
    delivers : (letter : Letter) (one next : Served H) → old.letters ≡ letter ∷ new.letters → IsServed old letter.to one → TakesLetter table letter.body one next
        → Puts old.served (key_of letter.to) (Some next) new.served → new.ended ≡ old.ended → new.budget ≡ old.budget → Awaits old next new → Turns old new
    bounces : (letter : Letter) (rest : List Letter) → old.letters ≡ letter ∷ rest → ((one : Served H) → IsServed old letter.to one → ⊥)
        → new.letters ≡ rest ++ option_to_list (bounced letter) → ((key : ℕ) → new.served key ≡ old.served key) → new.ended ≡ old.ended
        → new.budget ≡ old.budget → new.due ≡ old.due → Turns old new
    delivers_short : (letter : Letter) (one failed last : Served H) (rest sent : List Letter) (end : End) → old.letters ≡ letter ∷ rest → IsServed old letter.to one
        → IsUndelivered one failed → LeavesShort table old.now failed sent end last → new.letters ≡ rest ++ sent
        → Puts old.served (key_of letter.to) None new.served → QueuesEnd old one end (stats_of last) new → Forgets old (key_of letter.to) new
        → new.due ≡ old.due → Turns old new
    sweeps : ((key : ℕ) → new.served key ≡ old.served key) → new.ended ≡ old.ended → new.budget ≡ old.budget → new.letters ≡ old.letters
        → IsFirst new.due new.served → Turns old new

  -- turns, one after another, and nothing else
  pub data Rounds (first : Floor H) : Floor H → Type 0 where
    begins : Rounds first first
    turns : {mid new : Floor H} → Rounds first mid → Turns mid new → Rounds first new

  -- turns, and then news
  abbrev pub Reports : Floor H → Option HostEvent → Floor H → Type 0
  Reports old news new = (mid : Floor H) × Rounds old mid × Tells mid news new

  -- what is so once a host looked for news
  abbrev pub LooksOn : Floor H → Look → Floor H → Type 0
  LooksOn old looks.Nothing new = Rounds old new
  LooksOn old (looks.HostEvent news) new = Reports old (Some news) new
  LooksOn old looks.Over new = Reports old None new

  -- Whatever turns and news there are: where no more is kept for all than their shares and the pool, it stays so.
  abbrev pub ReportsWithin : Type 0
  ReportsWithin = (old new : Floor H) (news : Option HostEvent) → Reports old news new → IsWithin old.budget → IsWithin new.budget

  -- limits of time are looked at by the deadline of each connection
  abbrev pub AwaitsAll : Floor H → Type 0
  AwaitsAll floor = AwaitsEach floor.due floor.served

  -- Whatever turns and news there are, and whatever connections begin: it stays so that limits of time are looked at by the deadline of each.
  abbrev pub ReportsAwaited : Type 0
  ReportsAwaited = (old new : Floor H) (news : Option HostEvent) → Reports old news new → AwaitsAll old → AwaitsAll new

  abbrev pub BeginsAwaited : Type 0
  BeginsAwaited = (old new : Floor H) (one : Served H) → Begins old one new → AwaitsAll old → AwaitsAll new
