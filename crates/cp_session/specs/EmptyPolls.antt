-- How often polls gave nothing.
use Rattle.std.specs.Prelude.{ℕ, ◌+◌, nat_le, Bool, true, false, if◌then◌else◌}
use Rattle.cp_session.specs.declared.empty_polls.EmptyPolls.{EmptyPolls}

-- how many polls in a row may give nothing before objects that say they have more are let rest
abbrev pub most_empty : ℕ
most_empty = 1000

-- there were none
abbrev pub no_polls : EmptyPolls
no_polls = record { count = 0; is_told = false }

-- they are counted anew
abbrev pub renewed : EmptyPolls → EmptyPolls
renewed polls = record polls { count = 0 }

-- whether there were too many
abbrev pub are_many : EmptyPolls → Bool
are_many polls = nat_le most_empty polls.count

-- how many there are after a poll that gave something, or nothing: no more than are too many
abbrev pub counted : Bool → ℕ → ℕ
counted gave count = if gave then 0 else (if nat_le most_empty count then count else count + 1)

-- whether there are too many then
abbrev pub are_many_then : Bool → EmptyPolls → Bool
are_many_then gave polls = nat_le most_empty (counted gave polls.count)

-- whether the program is told of that, which it wasn't before
abbrev pub is_restless : Bool → EmptyPolls → Bool
is_restless gave polls = if polls.is_told then false else are_many_then gave polls

-- one more was counted
abbrev pub after_poll : Bool → EmptyPolls → EmptyPolls
after_poll gave polls = record { count = counted gave polls.count; is_told = if polls.is_told then true else are_many_then gave polls }
