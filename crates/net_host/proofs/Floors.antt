-- How turns follow each other, and what a slab of connections shows of them.
use Rattle.std.proofs.Common.{◌≡◌, ◌≢◌, ◌∙◌, ℕ, List, [], ◌∷◌, Option, Some, None, IsSome, Ok, inl, inr, refl, sym, ap, subst, ◌≤◌, Bool, cond, is_some, arith}
use Rattle.std.specs.Option.{option_map}
use Rattle.std.proofs.lemmas.Bool.{cases_eq}
use Rattle.std.proofs.lemmas.List.Sums.{sum_by-set}
use Rattle.slab.specs.Slab.{Slab, Updates, get, slab_len, with_value}
use Rattle.slab.proofs.SlabLemmas.{ContainsKey-within, Updates-with_value}
use Rattle.cp_connection.specs.declared.event.ConnectionStats.{ConnectionStats}
use Rattle.cp_objects.specs.declared.letters.Letter.{Letter}
use Rattle.cp_objects.specs.ObjectTable.{ObjectTableKind}
use Rattle.cp_session.specs.Doing.{Did, due_of}
use Rattle.cp_vat_machine.specs.declared.event.Event.TheVariants as machine
use Rattle.cp_vat_machine.specs.declared.event.Value.TheVariants as values
use Rattle.cp_session.specs.Progress.{earlier}
use Rattle.cp_session.specs.State.{State, new_state}
use Rattle.net_sockets.specs.Flow.{Flow}
use Rattle.net_sockets.specs.declared.listener.Peer.{Peer}
use Rattle.net_host.proofs.Leaving.{left_number, left_peer}
use Rattle.net_host.specs.declared.end.End.{End}
use Rattle.net_host.specs.declared.end.Ended.{Ended}
use Rattle.net_host.specs.declared.event_loop.EventLoop.{EventLoop}
use Rattle.net_host.specs.declared.hosted_connection.HostedConnection.{HostedConnection}
use Rattle.net_host.specs.declared.host.HostEvent.{HostEvent}
use Rattle.net_host.specs.declared.pending.PendingConnection.{PendingConnection}
use Rattle.net_host.specs.declared.config.HostConfig.{HostConfig}
use Rattle.net_host.specs.declared.host.HostEvent.TheVariants as all_news
use Rattle.net_host.specs.Connecting.{Asks, own_options_of}
use Rattle.net_host.specs.Floor.{Begins, Floor, IsServed, Puts, Reports, Rests, Rounds, Seats, SeatsAt, Tells, begins, floor_of, options_of, seen, turns}
use Rattle.net_host.specs.HostedConnections.{IsUndelivered, LeavesShort, Served, new_served, served_of, stats_of}
use Rattle.net_host.specs.Roster.{Accepts, Roster}
use Rattle.net_host.specs.Waking.{key_of, session_of}

module _ {H : Type 0} {table : ObjectTableKind H} where
  -- turns, and more of them
  pub rounds_both : {a b c : Floor H} → Rounds table a b → Rounds table b c → Rounds table a c
  rounds_both h begins = h
  rounds_both h (turns before one) = turns (rounds_both h before) one

  -- turns, and then more of them and news
  pub reports_after : {a b : Floor H} (news : Option HostEvent) (c : Floor H) → Rounds table a b → Reports table b news c → Reports table a news c
  reports_after news c h k = (k.0, rounds_both h k.1, k.2)

pub rests_none : {H : Type 0} (floor : Floor H) → Rests floor floor
rests_none floor = record { same = λ key. refl; ended = refl; budget = refl; letters = refl; due = refl }

-- the key is this one
pub written_at : {H : Type 0} {old new : ℕ → Option (Served H)} {key at : ℕ} {slot : Option (Served H)} → key ≡ at → Puts old key slot new → Puts old at slot new
written_at {old = old} {new = new} {slot = slot} is puts = subst (λ k. Puts old k slot new) is puts

module _ {S D : Type 0} where
  -- a key that has a connection has one
  pub is_there : (s : Slab (HostedConnection S D)) (key : ℕ) (hosted : HostedConnection S D) → Some hosted ≡ get s key → IsSome (get s key)
  is_there s key hosted e = subst (λ o. IsSome o) e refl

  -- as many are there
  pub as_many : (s : Slab (HostedConnection S D)) (key : ℕ) (hosted new : HostedConnection S D) → Some hosted ≡ get s key → slab_len (with_value s key new) ≤ slab_len s
  as_many s key hosted new e =
      let present = is_there s key hosted e in
      let one : ◌≡◌ {A = ℕ} (cond (is_some (get s key)) 1 0) 1 = ap (λ (b : Bool). cond b 1 0) present in
      omega (arith, sum_by-set (λ o. cond (is_some o) 1 0) s.slots key (Some new) None (ContainsKey-within s key present), one)

module _ {S D H : Type 0} (state : S → State H) (flow : D → Flow) where
  -- a key has another connection, or none
  pub seen_puts : (old new : Slab (HostedConnection S D)) (key : ℕ) (slot : Option (HostedConnection S D)) → Updates old new key slot → Puts (seen state flow old) key (option_map (served_of state flow) slot) (seen state flow new)
  seen_puts old new key slot updates = record {
    here = ap (λ o. option_map (served_of state flow) o) updates.changed;
    elsewhere = λ other differs. ap (λ o. option_map (served_of state flow) o) (updates.others other differs);
  }

  -- a connection was written over
  pub seen_written : (s : Slab (HostedConnection S D)) (key : ℕ) (hosted new : HostedConnection S D) → Some hosted ≡ get s key → Puts (seen state flow s) key (Some (served_of state flow new)) (seen state flow (with_value s key new))
  seen_written s key hosted new e = seen_puts s (with_value s key new) key (Some new) (Updates-with_value s key new (is_there s key hosted e))

  -- one was written over that shows the same
  pub seen_kept : (s : Slab (HostedConnection S D)) (key : ℕ) (hosted new : HostedConnection S D) → Some hosted ≡ get s key → served_of state flow new ≡ served_of state flow hosted → (other : ℕ) → seen state flow (with_value s key new) other ≡ seen state flow s other
  seen_kept s key hosted new e same other =
      let puts = seen_written s key hosted new e in
      elim (cases_eq other key) [
        | inl is ↦ ap (λ k. seen state flow (with_value s key new) k) is ∙ puts.here ∙ ap (λ x. Some x) same ∙ ap (λ o. option_map (served_of state flow) o) e ∙ ap (λ k. seen state flow s k) (sym is)
        | inr differs ↦ puts.elsewhere other differs
      ]

  -- one was written over, and then taken out
  pub seen_taken : (s new : Slab (HostedConnection S D)) (key : ℕ) (hosted last : HostedConnection S D) → Some hosted ≡ get s key → Updates (with_value s key last) new key None → Puts (seen state flow s) key None (seen state flow new)
  seen_taken s new key hosted last e updates =
      let puts = seen_written s key hosted last e in
      record {
        here = ap (λ o. option_map (served_of state flow) o) updates.changed;
        elsewhere = λ other differs. ap (λ o. option_map (served_of state flow) o) (updates.others other differs) ∙ puts.elsewhere other differs;
      }

module _ {S D H : Type 0} (state : S → State H) (flow : D → Flow) where
  -- no connection is under the key of a session
  pub unserved_none : (old : EventLoop S D) (to key : ℕ) → key ≡ key_of to → None ≡ get old.guests key → (one : Served H)
      → IsServed (floor_of state flow old) to one → ⊥
  unserved_none old to key at none one served =
      absurd (cc (served.there, ap (λ k. seen state flow old.guests k) at, ap (λ o. option_map (served_of state flow) o) none))

  abbrev number_in : Option (Served H) → ℕ
  number_in None = 0
  number_in (Some one) = one.number

  -- the one that is has a session of another number
  pub unserved_other : (old : EventLoop S D) (to key session : ℕ) (hosted : HostedConnection S D) → key ≡ key_of to → Some hosted ≡ get old.guests key
      → session ≡ session_of hosted.number key → session ≢ to → (one : Served H) → IsServed (floor_of state flow old) to one → ⊥
  unserved_other old to key session hosted at there is differs one served =
      let here : Some (served_of state flow hosted) ≡ Some one = ap (λ o. option_map (served_of state flow) o) there ∙ ap (λ k. seen state flow old.guests k) at ∙ served.there in
      let number : hosted.number ≡ one.number = ap (λ o. number_in o) here in
      differs (is ∙ ap (λ n. session_of n key) number ∙ ap (λ k. session_of one.number k) at ∙ served.named)

  pub is_served : (old : EventLoop S D) (to key session : ℕ) (hosted : HostedConnection S D) → key ≡ key_of to → Some hosted ≡ get old.guests key
      → session ≡ session_of hosted.number key → session ≡ to → IsServed (floor_of state flow old) to (served_of state flow hosted)
  is_served old to key session hosted at there is same = record {
    there = ap (λ k. seen state flow old.guests k) (sym at) ∙ ap (λ o. option_map (served_of state flow) o) (sym there);
    named = ap (λ k. session_of hosted.number k) (sym at) ∙ sym is ∙ same;
  }

module _ {H : Type 0} {table : ObjectTableKind H} where
  -- a connection ended as memory ran out while a letter was delivered to it
  pub ran_out : {now : ℕ} {sent : List Letter} (one failed last : Served H) (end : End) → IsUndelivered one failed → LeavesShort table now failed sent end last
      → (last.number ≡ one.number) × (last.peer ≡ one.peer)
  ran_out {now = now} {sent = sent} one failed last end lost short = (
    left_number now failed last sent end short ∙ ap (λ (x : Served H). x.number) lost.1,
    left_peer now failed last sent end short ∙ ap (λ (x : Served H). x.peer) lost.1,
  )

-- what came is news of no end
pub tells_accepted : {H : Type 0} (old new : Roster) (news : HostEvent) (floor next : Floor H) → Accepts old (Some news) new → next ≡ floor → floor.ended ≡ [] → Tells floor (Some news) next
tells_accepted old new (all_news.Connected number peer) floor next accepts e none = (e, none)
tells_accepted old new (all_news.Refused peer) floor next accepts e none = (e, none)
tells_accepted old new (all_news.Ended number peer end stats) floor next accepts e none = absurd accepts
tells_accepted old new all_news.Woken floor next accepts e none = absurd accepts

-- there was no news of an end to give
pub rests_unended : {S D H : Type 0} (state : S → State H) (flow : D → Flow) (old new : EventLoop S D) → new.guests ≡ old.guests → new.budget ≡ old.budget → new.letters ≡ old.letters → new.time ≡ old.time → old.ended.items ≡ new.ended.items
    → Rests (floor_of state flow old) (floor_of state flow new)
rests_unended state flow old new same budget letters time first =
    record { same = λ key. ap (λ guests. seen state flow guests key) same; ended = sym first; budget = budget; letters = ap (λ w. w.items) letters; due = ap (λ t. t.sweep_at) time }

-- nothing was done with any connection where the event loop is the same
pub rests_same : {S D H : Type 0} (state : S → State H) (flow : D → Flow) (old new : EventLoop S D) → new ≡ old → Rests (floor_of state flow old) (floor_of state flow new)
rests_same state flow old new e = record { same = λ key. ap (λ event_loop. seen state flow event_loop.guests key) e; ended = ap (λ event_loop. event_loop.ended.items) e; budget = ap (λ event_loop. event_loop.budget) e; letters = ap (λ event_loop. event_loop.letters.items) e; due = ap (λ event_loop. event_loop.time.sweep_at) e }

-- news of an end is of the first of those of which there was none
pub tells_ended : {S D H : Type 0} (state : S → State H) (flow : D → Flow) (old new : EventLoop S D) (ended : Ended) (news : HostEvent) → new.guests ≡ old.guests → new.budget ≡ old.budget → new.letters ≡ old.letters → new.time ≡ old.time
    → old.ended.items ≡ ended ∷ new.ended.items → news ≡ all_news.Ended ended.number ended.peer ended.end ended.stats → Tells (floor_of state flow old) (Some news) (floor_of state flow new)
tells_ended state flow old new ended news same budget letters time first is = rw is (ap (λ guests. seen state flow guests) same, first, budget, ap (λ w. w.items) letters, ap (λ t. t.sweep_at) time)

module _ {S D H : Type 0} (state : S → State H) (flow : D → Flow) where
  -- more room changes no connection
  pub kept_in_room : (guests mid : Slab (HostedConnection S D)) → mid ≡ record guests { capacity = mid.capacity } → (key : ℕ) → seen state flow mid key ≡ seen state flow guests key
  kept_in_room guests mid e key = ap (λ (s : Slab (HostedConnection S D)). seen state flow s key) e

  -- a connection more is served, once there is room
  begins_in_room : (table : ObjectTableKind H) (one : Served H) (old : EventLoop S D) (new : Floor H) (mid after : Slab (HostedConnection S D)) (key : ℕ) (hosted : HostedConnection S D)
      → mid ≡ record old.guests { capacity = mid.capacity } → get mid key ≡ None → Updates mid after key (Some hosted) → served_of state flow hosted ≡ one → new.served ≡ seen state flow after
      → new.ended ≡ old.ended.items → new.budget ≡ old.budget → new.letters ≡ old.letters.items → new.due ≡ earlier old.time.sweep_at (due_of table one.session)
      → (seat : Begins table (floor_of state flow old) one new) × (seat.key ≡ key)
  begins_in_room table one old new mid after key hosted room vacant updates is shows same as_much no_more due =
      let puts = seen_puts state flow mid after key (Some hosted) updates in (
        record {
          key = key;
          free = sym (kept_in_room old.guests mid room key) ∙ ap (λ o. option_map (served_of state flow) o) vacant;
          puts = record {
            here = ap (λ f. f key) shows ∙ puts.here ∙ ap (λ x. Some x) is;
            elsewhere = λ other differs. ap (λ f. f other) shows ∙ puts.elsewhere other differs ∙ kept_in_room old.guests mid room other;
          };
          ended = same;
          budget = as_much;
          letters = no_more;
          due = due;
        },
        refl,
      )

  -- one more is served with its objects
  pub seats_in_room : (table : ObjectTableKind H) (plan : HostConfig) (pending : PendingConnection D) (objects seated : H) (now : ℕ) (old : EventLoop S D) (new : Floor H)
      → (mid after : Slab (HostedConnection S D)) (key : ℕ) (hosted : HostedConnection S D) → mid ≡ record old.guests { capacity = mid.capacity } → get mid key ≡ None → Updates mid after key (Some hosted)
      → served_of state flow hosted ≡ new_served flow pending (new_state (options_of plan) seated now) → new.served ≡ seen state flow after → new.ended ≡ old.ended.items → new.budget ≡ old.budget
      → new.letters ≡ old.letters.items → new.due ≡ earlier old.time.sweep_at (due_of table (new_state (options_of plan) seated now))
      → table.is_in (session_of pending.number key) objects seated → now ≡ old.time.at → Seats table flow plan (Some pending) objects (floor_of state flow old) new
  seats_in_room table plan pending objects seated now old new mid after key hosted room vacant updates is shows same as_much no_more due knows at =
      let one = new_served flow pending (new_state (options_of plan) seated now) in
      let begins = begins_in_room table one old new mid after key hosted room vacant updates is shows same as_much no_more due in
      subst (λ time. SeatsAt table flow time plan pending objects (floor_of state flow old) new) at
      (seated, begins.0, subst (λ k. table.is_in (session_of pending.number k) objects seated) (sym begins.1) knows)

  -- one more is that was made from here, in a session of its own, and its peer was asked
  pub asks_in_room : (table : ObjectTableKind H) (plan : HostConfig) (pending : PendingConnection D) (number : ℕ) (objects seated : H) (session : State H) (old : EventLoop S D) (new : Floor H)
      → (mid after : Slab (HostedConnection S D)) (key : ℕ) (hosted : HostedConnection S D) → mid ≡ record old.guests { capacity = mid.capacity } → get mid key ≡ None → Updates mid after key (Some hosted)
      → served_of state flow hosted ≡ new_served flow pending session → new.served ≡ seen state flow after → new.ended ≡ old.ended.items → new.budget ≡ old.budget → new.letters ≡ old.letters.items
      → new.due ≡ earlier old.time.sweep_at (due_of table session) → number ≡ session_of pending.number key → table.is_in number objects seated
      → Did (new_state (own_options_of plan) seated old.time.at) machine.Bootstrap (Ok (values.Question 0)) session → Asks table flow plan pending number objects (floor_of state flow old) new
  asks_in_room table plan pending number objects seated session old new mid after key hosted room vacant updates is shows same as_much no_more due named knows asked =
      let begins = begins_in_room table (new_served flow pending session) old new mid after key hosted room vacant updates is shows same as_much no_more due in
      (seated, session, begins.0, named ∙ ap (λ k. session_of pending.number k) (sym begins.1), knows, asked)

-- the peer of a session that began so was asked by the question of this number
pub asked_of : {H : Type 0} (first begun new : State H) (question : ℕ) → first ≡ begun → question ≡ 0 → Did first machine.Bootstrap (Ok (values.Question question)) new
    → Did begun machine.Bootstrap (Ok (values.Question 0)) new
asked_of first begun new question is none did =
    subst (λ n. Did begun machine.Bootstrap (Ok (values.Question n)) new) none (subst (λ (s : State _). Did s machine.Bootstrap (Ok (values.Question question)) new) is did)

-- the end of a connection that kept its number and peer, and what it took and sent
pub ended_as : (ended : Ended) (number n : ℕ) (peer p : Peer) (end : End) (stats s : ConnectionStats) → ended ≡ record { number = n; peer = p; end = end; stats = s }
    → n ≡ number → p ≡ peer → s ≡ stats → ended ≡ record { number = number; peer = peer; end = end; stats = stats }
ended_as ended number n peer p end stats s e a b c = rw (← a, ← b, ← c) e
