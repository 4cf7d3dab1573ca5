-- What is read of a stream, and what is known of it.
use Rattle.std.specs.Prelude.{ℕ, ℤ, ◌≤◌, Bool, List, [], Option, take}
use Rattle.net_sockets.specs.declared.nonblocking_stream.NonblockingStream.{NonblockingStream}
use Rattle.net_sockets.specs.declared.nonblocking_stream.Got.{Got}
use Rattle.net_sockets.specs.declared.nonblocking_stream.Got.TheVariants as gots
use Rattle.net_sockets.specs.Flow.{Flow}

-- what was read fits a piece of this length
abbrev pub Fits : Got → ℕ → Type 0
Fits (gots.Bytes count) length = count ≤ length
Fits gots.Nothing length = Unit {0}
Fits gots.End length = Unit {0}

-- the bytes that a read gave
abbrev pub came_by : Got → List ℕ → List ℕ
came_by (gots.Bytes count) piece = take count piece
came_by gots.Nothing piece = []
came_by gots.End piece = []

-- how many ends it gave
abbrev pub ends_by : Got → ℕ
ends_by gots.End = 1
ends_by other = 0

module _ {D : Type 0} where
  -- it may have bytes, or its end
  abbrev pub may_read : NonblockingStream D → Bool
  may_read stream = stream.readable

  -- it may take bytes
  abbrev pub may_write : NonblockingStream D → Bool
  may_write stream = stream.writable

  -- The system's code of the error that it gave last, if it gave one and that had a code.
  abbrev pub failure_of : NonblockingStream D → Option (Option ℤ)
  failure_of stream = stream.failure

  -- what goes through its socket
  abbrev pub flow_of : (D → Flow) → NonblockingStream D → Flow
  flow_of flow stream = flow stream.socket
