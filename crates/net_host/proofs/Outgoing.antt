-- A connection that is made from here.
use Rattle.std.proofs.Common.{◌≡◌, ◌∙◌, ℕ, ◌+◌, ◌-◌, ◌^◌, [], None, Ok, min, inr, refl, sym, ap, subst}
use Rattle.slab.specs.Slab.{slab_len}
use Rattle.cp_refs.specs.declared.cap.Cap.TheVariants as caps
use Rattle.cp_objects.specs.declared.objects.Objects.{Objects}
use Rattle.cp_objects.specs.declared.shared_cap.LentCap.{LentCap}
use Rattle.cp_objects.specs.Context.{shared_of}
use Rattle.cp_objects.specs.Delivering.{sharing_so}
use Rattle.cp_objects.specs.Grown.{grown}
use Rattle.cp_objects.specs.Objects.{in_session, objects_of}
use Rattle.cp_objects.specs.ServedObject.{ServedObjectKind}
use Rattle.cp_session.specs.declared.session.SessionOver.{SessionOver}
use Rattle.cp_session.specs.State.{State, state_of}
use Rattle.net_sockets.specs.declared.listener.Peer.{Peer}
use Rattle.net_sockets.specs.declared.stream.StreamSocket.{StreamSocket}
use Rattle.net_sockets.specs.Reading.{failure_of}
use Rattle.net_sockets.specs.Sockets.{flow_of_socket}
use Rattle.net_host.specs.declared.event_loop.EventLoop.{EventLoop}
use Rattle.net_host.specs.declared.host.SessionHost.{SessionHost}
use Rattle.net_host.specs.declared.pending.PendingConnection.{PendingConnection}
use Rattle.net_host.specs.Connecting.{Asks, Connects, Joins, StaysAlone, one_more, outgoing}
use Rattle.net_host.specs.Floor.{Rests, connections_of}
use Rattle.net_host.specs.RosterOf.{roster}
use Rattle.net_host.specs.Waking.{session_of}
use Rattle.net_host.proofs.Floors.{rests_none}

module _ {A : Type 0} (kind : ServedObjectKind A A) where
  -- it is made, once its number is counted and its objects have their session and lend what its peer gives
  pub connects_so : (peer : Peer) (objects mid ready : Objects A) (number session : ℕ) (shared : LentCap) (pending : PendingConnection StreamSocket)
      (old counted new : SessionHost (SessionOver (Objects A))) → counted ≡ record old { made = one_more old.made } → number ≡ min (outgoing old.made) (2 ^ 64 - 1) → pending.number ≡ number
      → pending.peer ≡ peer → failure_of pending.stream ≡ None → session ≡ session_of number counted.event_loop.guests.vacant_key → objects_of mid ≡ in_session session (objects_of objects)
      → shared ≡ shared_of (caps.Pipelined 0 []) (objects_of mid).context → objects_of ready ≡ sharing_so (caps.Pipelined 0 []) (objects_of mid)
      → Asks (grown kind) flow_of_socket counted.plan pending (session_of pending.number counted.event_loop.guests.vacant_key) ready (connections_of state_of counted) (connections_of state_of new)
      → Connects kind peer objects number shared old new
  connects_so peer objects mid ready number session shared pending old counted new counts numbered named comes unfailed next in_it shares lent asks =
      let is : shared.session ≡ session = ap (λ (x : LentCap). x.session) shares ∙ ap (λ o. o.context.this.session) in_it in
      let mid_is = in_it ∙ ap (λ n. in_session n (objects_of objects)) (sym is) in
      let number_is = is ∙ next ∙ ap (λ n. session_of n counted.event_loop.guests.vacant_key) (sym named) in (
        pending,
        ready,
        numbered,
        named,
        comes,
        unfailed,
        (shares ∙ ap (λ o. shared_of (caps.Pipelined 0 []) o.context) mid_is, lent ∙ ap (λ o. sharing_so (caps.Pipelined 0 []) o) mid_is),
        subst (λ n. Asks (grown kind) flow_of_socket old.plan pending n ready (connections_of state_of old) (connections_of state_of new)) (sym number_is)
            (subst
            (λ (h : SessionHost (SessionOver (Objects A))). Asks (grown kind) flow_of_socket h.plan pending (session_of pending.number counted.event_loop.guests.vacant_key) ready
            (connections_of state_of h) (connections_of state_of new))
            counts asks),
      )

module _ {S : Type 0} where
  -- one more is served, and was counted
  pub joins_so : (old counted : SessionHost S) (next : EventLoop S StreamSocket) → counted ≡ record old { made = one_more old.made }
      → slab_len next.guests ≡ slab_len counted.event_loop.guests + 1 → Joins old (record counted { event_loop = next })
  joins_so old counted next counts more = (
    ap (λ (h : SessionHost S). record (roster h) { served = slab_len next.guests }) counts
        ∙ ap (λ n. record (roster old) { served = n }) (more ∙ ap (λ (h : SessionHost S). slab_len h.event_loop.guests + 1) counts),
    ap (λ (h : SessionHost S). h.made) counts,
    ap (λ (h : SessionHost S). h.pending) counts,
  )

  -- as many are served, though one was counted
  pub counted_so : (old counted : SessionHost S) → counted ≡ record old { made = one_more old.made } → StaysAlone old counted
  counted_so old counted counts =
      (ap (λ (h : SessionHost S). roster h) counts, inr (ap (λ (h : SessionHost S). h.made) counts), ap (λ (h : SessionHost S). h.pending) counts)

  pub lost_so : (old counted : SessionHost S) (next : EventLoop S StreamSocket) → counted ≡ record old { made = one_more old.made }
      → slab_len next.guests ≡ slab_len counted.event_loop.guests → StaysAlone old (record counted { event_loop = next })
  lost_so old counted next counts same = (
    ap (λ (h : SessionHost S). record (roster h) { served = slab_len next.guests }) counts
        ∙ ap (λ n. record (roster old) { served = n }) (same ∙ ap (λ (h : SessionHost S). slab_len h.event_loop.guests) counts),
    inr (ap (λ (h : SessionHost S). h.made) counts),
    ap (λ (h : SessionHost S). h.pending) counts,
  )

module _ {S H : Type 0} (state : S → State H) where
  -- nothing was done with any connection where one is counted
  pub rests_counted : (old counted : SessionHost S) → counted ≡ record old { made = one_more old.made } → Rests (connections_of state old) (connections_of state counted)
  rests_counted old counted counts =
      subst (λ (h : SessionHost S). Rests (connections_of state old) (connections_of state h)) (sym counts) (rests_none (connections_of state old))

  -- nor after that
  pub rests_since : (old counted new : SessionHost S) → counted ≡ record old { made = one_more old.made } → Rests (connections_of state counted) (connections_of state new)
      → Rests (connections_of state old) (connections_of state new)
  rests_since old counted new counts rests = subst (λ (h : SessionHost S). Rests (connections_of state h) (connections_of state new)) counts rests
