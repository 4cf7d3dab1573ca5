-- What is heard after a while, and when.
use Rattle.std.proofs.Common.{◌≡◌, ℕ, Option, Some, None, sym, ap, subst, arith}
use Rattle.net_sockets.specs.declared.listener.Peer.{Peer}
use Rattle.net_host.specs.declared.host.HostEvent.{HostEvent}
use Rattle.net_host.specs.declared.host.HostEvent.TheVariants as all_news
use Rattle.net_host.specs.Roster.{Accepts, Comes, GoesOn, Hears, IsOnTime, Roster}
use Rattle.net_host.specs.Timing.{ComesBy}

-- one while after another
pub goes_both : {a b c : Roster} → GoesOn a b → GoesOn b c → GoesOn a c
goes_both h k = let later = rw h.rest at k in record { rest = later.rest; no_more = omega (arith, h.no_more, k.no_more) }

-- a connection comes after a while
pub comes_after : {a b c : Roster} (number : ℕ) (peer : Peer) → GoesOn a b → Comes b number peer c → Comes a number peer c
comes_after number peer h k =
    let later = rw h.rest at k in
    record { next = later.next; wanted = later.wanted; rest = later.rest; has_room = later.has_room; no_more = omega (arith, h.no_more, k.no_more) }

pub hears_after : {a b : Roster} (news : Option HostEvent) (c : Roster) → GoesOn a b → Hears b news c → Hears a news c
hears_after None c h k = (goes_both h k.0, k.1)
hears_after (Some (all_news.Connected number peer)) c h k = comes_after number peer h k
hears_after (Some (all_news.Refused peer)) c h k = (goes_both h k.0, k.1)
hears_after (Some (all_news.Ended number peer end stats)) c h k = goes_both h k
hears_after (Some all_news.Woken) c h k = let later = rw h.rest at k in record { rest = later.rest; no_more = omega (arith, h.no_more, k.no_more) }

-- the time that the program named hadn't come at first, if no time passed until it hadn't come
pub unmet : {a b : Roster} (first began : ℕ) → GoesOn a b → (ComesBy first a.alarm → began ≡ first) → (ComesBy began b.alarm → ⊥) → ComesBy first a.alarm → ⊥
unmet {a = a} {b = b} first began h none late comes =
    late (subst (λ at. ComesBy at b.alarm) (sym (none comes)) (subst (λ alarm. ComesBy first alarm) (sym (ap (λ r. r.alarm) h.rest)) comes))

-- what is heard on time, is on time after a while in which no time passed, if that had come at first
pub on_time_after : {a b : Roster} (first began now : ℕ) (news : Option HostEvent) → GoesOn a b → (ComesBy first a.alarm → began ≡ first) → IsOnTime b.alarm began now news
    → IsOnTime a.alarm first now news
on_time_after first began now None h none k = unmet first began h none k
on_time_after first began now (Some (all_news.Connected number peer)) h none k = unmet first began h none k
on_time_after first began now (Some (all_news.Refused peer)) h none k = unmet first began h none k
on_time_after first began now (Some (all_news.Ended number peer end stats)) h none k = tt
on_time_after first began now (Some all_news.Woken) h none k = subst (λ alarm. ComesBy now alarm) (ap (λ r. r.alarm) h.rest) k

-- what came is on time where the time that the program named hadn't come
pub on_time_accepted : (old new : Roster) (news : HostEvent) (alarm : Option ℕ) (first now : ℕ) → Accepts old (Some news) new → (ComesBy first alarm → ⊥)
    → IsOnTime alarm first now (Some news)
on_time_accepted old new (all_news.Connected number peer) alarm first now accepts late = late
on_time_accepted old new (all_news.Refused peer) alarm first now accepts late = late
on_time_accepted old new (all_news.Ended number peer end stats) alarm first now accepts late = tt
on_time_accepted old new all_news.Woken alarm first now accepts late = absurd accepts
