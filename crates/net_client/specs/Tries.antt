-- How long is waited between tries.
use Rattle.std.specs.Prelude.{◌≡◌, ◌==◌, ◌*◌, ◌-◌, ◌^◌, min, if◌then◌else◌, ℕ, Option, Some, None}
use Rattle.net_client.specs.declared.backoff.Backoff.{Backoff}

-- the next wait, if there is one: no longer than the longest
abbrev pub next_wait : Backoff → Option ℕ
next_wait backoff = if backoff.tries == 0 then None else Some (min backoff.first backoff.most)

-- after it: the next one is twice as long, and there is one less
abbrev pub after_wait : Backoff → Backoff
after_wait backoff =
    if backoff.tries == 0 then backoff
    else record backoff { first = min (min backoff.first backoff.most * 2) (2 ^ 64 - 1); tries = backoff.tries - 1 }
