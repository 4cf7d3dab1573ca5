-- What a host allows.
use Rattle.std.specs.Prelude.{ℕ, ◌<◌, ◌/◌, max, None}
use Rattle.cp_frame.specs.declared.mode.Mode.TheVariants as modes
use Rattle.cp_session.specs.Limits as session
use Rattle.cp_words.specs.Limits as words
use Rattle.net_host.specs.declared.limits.WhenFull.TheVariants as crowds
use Rattle.net_host.specs.declared.limits.HostLimits.{HostLimits}
use Rattle.net_host.specs.declared.config.HostConfig.{HostConfig}

-- the limits where nothing else is asked for
abbrev pub standard : HostLimits
standard = record { connections = 1000; when_full = crowds.Refuse; messages = 64; memory = 4294967296; session = session.standard }

-- how connections are served where nothing else is asked for
abbrev pub standard_plan : HostConfig
standard_plan = record { mode = modes.Plain; messages = words.standard; limits = standard; count = None }

-- one more connection may be served beside this many
abbrev pub HasRoom : HostLimits → ℕ → Type 0
HasRoom limits connections = connections < limits.connections

-- Of the bytes for all connections half are shared out among them, and half are for what they keep beyond that.
abbrev pub share_of : HostLimits → ℕ
share_of limits = limits.memory / 2 / max limits.connections 1

abbrev pub pool_of : HostLimits → ℕ
pool_of limits = limits.memory / 2
