-- When a host looks at the limits of time of its sessions, and how long it may wait.
use Rattle.std.specs.Prelude.{◌≡◌, ◌≢◌, ◌≤◌, ◌-◌, ℕ, max, Option, Some, option_map}
use Rattle.cp_session.specs.Progress.{earlier}
use Rattle.net_host.specs.declared.time.Time.{Time}

-- a time comes no later than this, if there is one
abbrev pub ComesBy : ℕ → Option ℕ → Type 0
ComesBy deadline time = (first : ℕ) × (time ≡ Some first) × (first ≤ deadline)

-- limits of time are to be looked at: the time for that has come, and they weren't in this millisecond
abbrev pub IsDue : Time → Type 0
IsDue time = ComesBy time.at time.sweep_at × (time.swept_at ≢ Some time.at)

-- how many milliseconds there are until they are, or until another time, if that is earlier; and a millisecond at least
abbrev pub until : Time → Option ℕ → Option ℕ
until time other = option_map (λ first. max (first - time.at) 1) (earlier time.sweep_at other)

-- a wait is no longer than this, if this has an end
abbrev pub IsNoLonger : Option ℕ → Option ℕ → Type 0
IsNoLonger wait most = (longest : ℕ) → most ≡ Some longest → ComesBy longest wait
