-- What is refused for its size.
use Rattle.std.specs.Prelude.{◌≡◌, Option, Some, None}
use Rattle.cp_connection.specs.declared.excess.Excess.{Excess}
use Rattle.cp_connection.specs.Doing.{Aborts}
use Rattle.cp_connection.specs.Link.{Link}

-- where something is too much, the connection is aborted for that
abbrev pub Refuses : Option Excess → Link → Link → Type 0
Refuses (Some excess) old new = Aborts old excess new
Refuses None old new = new ≡ old
