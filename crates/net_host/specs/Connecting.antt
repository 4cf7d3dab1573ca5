-- The connections that a host makes to other servers.
use Rattle.std.specs.Prelude.{◌≡◌, ◌⊎◌, ℕ, ◌+◌, ◌-◌, ◌^◌, min, [], None, Ok}
use Rattle.cp_refs.specs.declared.cap.Cap.TheVariants as caps
use Rattle.cp_vat_machine.specs.declared.event.Event.TheVariants as machine
use Rattle.cp_vat_machine.specs.declared.event.Value.TheVariants as values
use Rattle.cp_objects.specs.declared.objects.Objects.{Objects}
use Rattle.cp_objects.specs.declared.shared_cap.LentCap.{LentCap}
use Rattle.cp_objects.specs.Context.{shared_of}
use Rattle.cp_objects.specs.Delivering.{sharing_so}
use Rattle.cp_objects.specs.Grown.{grown}
use Rattle.cp_objects.specs.Objects.{in_session, objects_of}
use Rattle.cp_objects.specs.ObjectTable.{ObjectTableKind}
use Rattle.cp_objects.specs.ServedObject.{ServedObjectKind}
use Rattle.cp_session.specs.declared.options.SessionOptions.{SessionOptions}
use Rattle.cp_session.specs.Doing.{Did}
use Rattle.cp_session.specs.declared.session.SessionOver.{SessionOver}
use Rattle.cp_session.specs.State.{State, new_state, state_of}
use Rattle.net_sockets.specs.declared.listener.Peer.{Peer}
use Rattle.net_sockets.specs.declared.stream.StreamSocket.{StreamSocket}
use Rattle.net_sockets.specs.Flow.{Flow}
use Rattle.net_sockets.specs.Reading.{failure_of}
use Rattle.net_sockets.specs.Sockets.{flow_of_socket}
use Rattle.net_host.specs.declared.config.HostConfig.{HostConfig}
use Rattle.net_host.specs.declared.host.SessionHost.{SessionHost}
use Rattle.net_host.specs.declared.pending.PendingConnection.{PendingConnection}
use Rattle.net_host.specs.declared.event_loop.EventLoop.{EventLoop}
use Rattle.net_host.specs.Floor.{Begins, Floor, connections_of, floor_of, options_of}
use Rattle.net_host.specs.HostedConnections.{new_served}
use Rattle.net_host.specs.RosterOf.{roster}
use Rattle.net_host.specs.Waking.{session_of}

-- how the session of a connection goes that is made from here: it is not closed for silence
abbrev pub own_options_of : HostConfig → SessionOptions
own_options_of plan = record (options_of plan) { limits = record plan.limits.session { idle = 2 ^ 64 - 1 } }

-- the number of the connection that is made from here after so many
abbrev pub outgoing : ℕ → ℕ
outgoing made = 2 ^ 31 + made

-- how many were made from here, with one more
abbrev pub one_more : ℕ → ℕ
one_more made = min (made + 1) (2 ^ 64 - 1)

module _ {H : Type 0} (table : ObjectTableKind H) where
  -- A connection that was begun from here is served with these objects from the host's time on, in the session of this number. Its peer was asked for its bootstrap
  -- capability by the question of number 0.
  abbrev pub Asks : {D : Type 0} → (D → Flow) → HostConfig → PendingConnection D → ℕ → H → Floor H → Floor H → Type 0
  Asks flow plan pending number objects old new =
      (seated : H) × (session : State H) × (seat : Begins table old (new_served flow pending session) new) × (number ≡ session_of pending.number seat.key)
      × table.is_in number objects seated × Did (new_state (own_options_of plan) seated old.now) machine.Bootstrap (Ok (values.Question 0)) session

  -- it is, in the session that is next
  abbrev pub AsksNext : {S D : Type 0} → (S → State H) → (D → Flow) → HostConfig → PendingConnection D → H → EventLoop S D → EventLoop S D → Type 0
  AsksNext state flow plan pending objects old new =
      Asks flow plan pending (session_of pending.number old.guests.vacant_key) objects (floor_of state flow old) (floor_of state flow new)

-- its peer's bootstrap capability is lent by its objects, which are those of its session
abbrev pub LendsBootstrap : {A : Type 0} → Objects A → LentCap → Objects A → Type 0
LendsBootstrap objects shared ready =
    (shared ≡ shared_of (caps.Pipelined 0 []) (in_session shared.session (objects_of objects)).context)
    × (objects_of ready ≡ sharing_so (caps.Pipelined 0 []) (in_session shared.session (objects_of objects)))

-- A connection is made from here to this peer, of the number after those that were, and served with these objects, which lend its peer's bootstrap capability.
abbrev pub Connects : {A : Type 0} → ServedObjectKind A A → Peer → Objects A → ℕ → LentCap → SessionHost (SessionOver (Objects A)) → SessionHost (SessionOver (Objects A)) → Type 0
Connects kind peer objects number shared old new =
    (pending : PendingConnection StreamSocket) × (ready : Objects _) × (number ≡ min (outgoing old.made) (2 ^ 64 - 1)) × (pending.number ≡ number) × (pending.peer ≡ peer)
    × (failure_of pending.stream ≡ None) × LendsBootstrap objects shared ready
    × Asks (grown kind) flow_of_socket old.plan pending shared.session ready (connections_of state_of old) (connections_of state_of new)

-- Of what else a host knows: one connection more is served, and one more was made from here.
abbrev pub Joins : {S : Type 0} → SessionHost S → SessionHost S → Type 0
Joins old new =
    (roster new ≡ record (roster old) { served = (roster old).served + 1 }) × (new.made ≡ one_more old.made) × (new.pending ≡ old.pending)

-- No connection more is served. The number may have been used up.
abbrev pub StaysAlone : {S : Type 0} → SessionHost S → SessionHost S → Type 0
StaysAlone old new = (roster new ≡ roster old) × ((new.made ≡ old.made) ⊎ (new.made ≡ one_more old.made)) × (new.pending ≡ old.pending)
