-- What is known of the connections that come to a listener.
use Rattle.std.specs.Prelude.{◌≡◌, ℕ, ◌-◌, ◌^◌, Bool, true, Option, Some, None}
use Rattle.net_sockets.specs.declared.incoming.Incoming.{Incoming}
use Rattle.net_sockets.specs.declared.listener.Listener.{Listener}

-- how many connections are to come in all: without end, as many as can be counted
abbrev pub most : Option ℕ → ℕ
most (Some count) = count
most None = 2 ^ 64 - 1

-- how many came to be served
abbrev pub came_of : Incoming → ℕ
came_of incoming = incoming.came

-- how many are to come in all
abbrev pub count_of : Incoming → ℕ
count_of incoming = incoming.count

-- none came to be served
abbrev pub Keeps : Incoming → Incoming → Type 0
Keeps old new = (came_of new ≡ came_of old) × (count_of new ≡ count_of old)

-- its connections come by a proxy, which says by a header whose each is
abbrev pub comes_by_proxy : Listener → Bool
comes_by_proxy listener = listener.behind_proxy

-- the same, but that its connections come by a proxy
abbrev pub by_proxy : Listener → Listener
by_proxy listener = record listener { behind_proxy = true }
