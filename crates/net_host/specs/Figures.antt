-- What a host did and holds, as numbers.
use Rattle.std.specs.Prelude.{◌≡◌, ◌+◌, ℕ}
use Rattle.std.specs.List.{sum_by}
use Rattle.slab.specs.Slab.{Slab, entries, slab_len}
use Rattle.cp_connection.specs.declared.event.ConnectionStats.{ConnectionStats}
use Rattle.cp_objects.specs.ObjectTable.{ObjectTableKind}
use Rattle.cp_refs.specs.Memory.{counted}
use Rattle.cp_session.specs.Kept.{kept_of}
use Rattle.cp_session.specs.State.{State, link_of}
use Rattle.net_host.specs.declared.figures.HostFigures.{HostFigures}
use Rattle.net_host.specs.declared.host.SessionHost.{SessionHost}
use Rattle.net_host.specs.declared.hosted_connection.HostedConnection.{HostedConnection}

-- a connection is counted too, for which so much is kept
abbrev pub with_one : HostFigures → ℕ → ConnectionStats → HostFigures
with_one it kept stats = record it {
  kept = counted (it.kept + kept);
  messages = counted (it.messages + stats.messages);
  bytes = counted (it.bytes + stats.bytes);
  sent = counted (it.sent + stats.sent);
}

-- what a connection took and sent, which stands under a key
abbrev pub stats_at : {S D H : Type 0} → (S → State H) → ℕ × HostedConnection S D → ConnectionStats
stats_at state entry = (link_of (state entry.1.session)).stats

-- the bytes that are kept for it
abbrev pub kept_at : {S D H : Type 0} → ObjectTableKind H → (S → State H) → ℕ × HostedConnection S D → ℕ
kept_at table state entry = kept_of (state entry.1.session).service.work (table.guests (state entry.1.session).objects)

module _ {S D H : Type 0} (table : ObjectTableKind H) (state : S → State H) where
  -- These numbers are the sums of those of all connections that a slab has, as far as a u64 counts.
  pub record SumsUp (guests : Slab (HostedConnection S D)) (it : HostFigures) : Type 0 where
    pub served : it.served ≡ slab_len guests
    pub kept : it.kept ≡ counted (sum_by (kept_at table state) (entries guests))
    pub messages : it.messages ≡ counted (sum_by (λ entry. (stats_at state entry).messages) (entries guests))
    pub bytes : it.bytes ≡ counted (sum_by (λ entry. (stats_at state entry).bytes) (entries guests))
    pub sent : it.sent ≡ counted (sum_by (λ entry. (stats_at state entry).sent) (entries guests))

-- these numbers are of all connections that a host serves
abbrev pub IsOfAll : {S H : Type 0} → ObjectTableKind H → (S → State H) → SessionHost S → HostFigures → Type 0
IsOfAll table state host it = SumsUp table state host.event_loop.guests it
