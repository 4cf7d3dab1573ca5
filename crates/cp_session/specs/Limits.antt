-- What a session allows its peer.
use Rattle.std.specs.Prelude.{ℕ, ◌-◌, ◌^◌, min}
use Rattle.cp_session.specs.declared.limits.SessionLimits.{SessionLimits}

-- the limits where nothing else is asked for
abbrev pub standard : SessionLimits
standard = record { message = 30000; idle = 300000; closing = 5000; ahead = 65536; kept = 268435456 }

-- no limits, but that all is written before more is taken
abbrev pub unlimited : SessionLimits
unlimited = record { message = 2 ^ 64 - 1; idle = 2 ^ 64 - 1; closing = 2 ^ 64 - 1; ahead = 0; kept = 2 ^ 64 - 1 }

-- the shortest of its times
abbrev pub shortest : SessionLimits → ℕ
shortest limits = min (min limits.message limits.idle) limits.closing
