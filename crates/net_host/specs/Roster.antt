-- What a host knows of the number of its connections, and when its program is to be told that its time has come.
use Rattle.std.specs.Prelude.{◌≡◌, ◌⊎◌, ℕ, ◌+◌, ◌≤◌, Option, Some, None}
use Rattle.net_host.specs.Limits.{HasRoom}
use Rattle.net_host.specs.Timing.{ComesBy}
use Rattle.net_sockets.specs.declared.listener.Peer.{Peer}
use Rattle.net_sockets.specs.Incoming.{most}
use Rattle.net_host.specs.declared.host.HostEvent.{HostEvent}
use Rattle.net_host.specs.declared.host.HostEvent.TheVariants as all_news
use Rattle.net_host.specs.declared.host.Look.{Look}
use Rattle.net_host.specs.declared.host.Look.TheVariants as looks
use Rattle.net_host.specs.declared.limits.WhenFull.TheVariants as crowds
use Rattle.net_host.specs.declared.config.HostConfig.{HostConfig}

-- The plan, how many are to come, how many came, how many are served, and the number and the peer of the one that waits for its objects. Then the time that the program named,
-- if it is still to be told of it.
pub record Roster : Type 0 where
  pub plan : HostConfig
  pub count : ℕ
  pub came : ℕ
  pub served : ℕ
  pub awaits : Option (ℕ × Peer)
  pub alarm : Option ℕ

-- no connection came
abbrev pub begun : HostConfig → Roster
begun plan = record { plan = plan; count = most plan.count; came = 0; served = 0; awaits = None; alarm = None }

-- None came, and none waits for its objects. No more are served.
pub record GoesOn (old new : Roster) : Type 0 where
  pub rest : new ≡ record old { served = new.served; awaits = None }
  pub no_more : new.served ≤ old.served

-- One more came, of those that are to come. It has the next number and this peer, waits for its objects, and may be served. No more are served so far.
pub record Comes (old : Roster) (number : ℕ) (peer : Peer) (new : Roster) : Type 0 where
  pub next : number ≡ old.came + 1
  pub wanted : number ≤ old.count
  pub rest : new ≡ record old { came = number; served = new.served; awaits = Some (number, peer) }
  pub has_room : HasRoom old.plan.limits new.served
  pub no_more : new.served ≤ old.served

-- no more may be served
abbrev pub IsCrowded : Roster → Type 0
IsCrowded r = HasRoom r.plan.limits r.served → ⊥

-- one more may be served, or is to be refused
abbrev pub IsOpen : Roster → Type 0
IsOpen r = HasRoom r.plan.limits r.served ⊎ (r.plan.limits.when_full ≡ crowds.Refuse)

-- no more may be served, and one more is to be refused
abbrev pub Refuses : Roster → Type 0
Refuses r = IsCrowded r × (r.plan.limits.when_full ≡ crowds.Refuse)

-- all that were to come have come and ended
abbrev pub IsOver : Roster → Type 0
IsOver r = (r.served ≡ 0) × (r.count ≤ r.came)

-- what is so once a host gave this news, or none
abbrev pub Hears : Roster → Option HostEvent → Roster → Type 0
Hears old (Some (all_news.Connected number peer)) new = Comes old number peer new
Hears old (Some (all_news.Refused peer)) new = GoesOn old new × Refuses new
Hears old (Some (all_news.Ended number peer end stats)) new = GoesOn old new
Hears old (Some all_news.Woken) new = GoesOn (record old { alarm = None }) new
Hears old None new = GoesOn old new × IsOver new

-- News that the time has come that the program named is given once it has, by now. Where it had come by the time at first, no other is given but of an end.
abbrev pub IsOnTime : Option ℕ → ℕ → ℕ → Option HostEvent → Type 0
IsOnTime alarm first now (Some all_news.Woken) = ComesBy now alarm
IsOnTime alarm first now (Some (all_news.Ended number peer end stats)) = Unit {0}
IsOnTime alarm first now other = ComesBy first alarm → ⊥

-- how many are served with the one that waited for its objects
abbrev pub with_awaited : Option (ℕ × Peer) → ℕ → ℕ
with_awaited None served = served
with_awaited (Some one) served = served + 1

-- the one that waited for its objects is served
abbrev pub Admits : Roster → Roster → Type 0
Admits old new = new ≡ record old { served = with_awaited old.awaits old.served; awaits = None }

-- what is so once the listener was asked for the next connection
abbrev pub Accepts : Roster → Option HostEvent → Roster → Type 0
Accepts old None new = new ≡ old
Accepts old (Some (all_news.Connected number peer)) new =
    (number ≡ old.came + 1) × (new ≡ record old { came = number; awaits = Some (number, peer) }) × HasRoom old.plan.limits old.served
Accepts old (Some (all_news.Refused peer)) new = (new ≡ old) × Refuses old
Accepts old (Some (all_news.Ended number peer end stats)) new = ⊥
Accepts old (Some all_news.Woken) new = ⊥

-- a round of turns, by which some may have ended
abbrev pub Rounds : Roster → Roster → Type 0
Rounds old new = (new ≡ record old { served = new.served }) × (new.served ≤ old.served)

-- what is so once a host looked for news
abbrev pub Looks : Roster → Look → Roster → Type 0
Looks old looks.Nothing new = GoesOn old new
Looks old (looks.HostEvent news) new = Hears old (Some news) new
Looks old looks.Over new = Hears old None new

abbrev pub LooksOnTime : Option ℕ → ℕ → ℕ → Look → Type 0
LooksOnTime alarm first now looks.Nothing = ComesBy first alarm → ⊥
LooksOnTime alarm first now (looks.HostEvent news) = IsOnTime alarm first now (Some news)
LooksOnTime alarm first now looks.Over = IsOnTime alarm first now None
