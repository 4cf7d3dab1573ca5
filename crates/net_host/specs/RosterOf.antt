-- A host by the number of its connections, and by its time.
use Rattle.std.specs.Prelude.{ℕ, option_map}
use Rattle.slab.specs.Slab.{slab_len}
use Rattle.net_host.specs.declared.host.SessionHost.{SessionHost}
use Rattle.net_sockets.specs.Incoming.{came_of, count_of}
use Rattle.net_host.specs.Roster.{Roster}

-- what a host knows of the number of its connections, and when its program is to be told
abbrev pub roster : {S : Type 0} → SessionHost S → Roster
roster host = record {
  plan = host.plan;
  count = count_of host.incoming;
  came = came_of host.incoming;
  served = slab_len host.event_loop.guests;
  awaits = option_map (λ pending. (pending.number, pending.peer)) host.pending;
  alarm = host.alarm;
}

-- the milliseconds since a host began, at its last look at the clock
abbrev pub now_of : {S : Type 0} → SessionHost S → ℕ
now_of host = host.event_loop.time.at
