-- What goes through a stream that is read while it is written.
use Rattle.std.specs.Prelude.{◌≡◌, ◌⊎◌, ℕ, Bool, true, List, [], ◌++◌, Result, Ok, Err}
use Rattle.net_sockets.specs.declared.nonblocking_stream.NonblockingStream.{NonblockingStream}
use Rattle.net_sockets.specs.declared.nonblocking_stream.Got.{Got}
use Rattle.net_sockets.specs.Flow.{Flow, Moves, Rests}
use Rattle.net_sockets.specs.Reading.{ends_by, flow_of}
use Rattle.net_client.specs.declared.duplex.Duplex.{Duplex}

-- The bytes that came and weren't given out, what goes through the socket, and whether the peer takes nothing more.
pub record Passage : Type 0 where
  pub ahead : List ℕ
  pub flow : Flow
  pub is_shut : Bool

-- These bytes were given out, and the socket took those. What came waits behind what waited before: each byte once, in order.
pub record Passes (old : Passage) (gave : List ℕ) (took : List ℕ) (new : Passage) : Type 0 where
  pub came : List ℕ
  pub ends : ℕ
  pub moves : Moves old.flow came ends took new.flow
  pub in_order : old.ahead ++ came ≡ gave ++ new.ahead

-- bytes may have come, and nothing else was done
abbrev pub Waits : Passage → Passage → Type 0
Waits old new = Passes old [] [] new

-- These bytes were taken by the socket, or the peer takes nothing more and they are lost.
abbrev pub Sends : Passage → List ℕ → Passage → Type 0
Sends old bytes new = Passes old [] bytes new ⊎ ((new.is_shut ≡ true) × Waits old new)

module _ {D : Type 0} (flow : D → Flow) where
  -- A piece of a stream was read behind bytes that came before it; or nothing was.
  abbrev pub Fills : {E : Type 0} → List ℕ → NonblockingStream D → Result Got E → List ℕ → NonblockingStream D → Type 0
  Fills old from (Ok got) new to = (came : List ℕ) × (new ≡ old ++ came) × Moves (flow_of flow from) came (ends_by got) [] (flow_of flow to)
  Fills old from (Err error) new to = (new ≡ old) × Rests (flow_of flow from) (flow_of flow to)

  -- a stream, and what waits of it
  abbrev pub passage_of : {C : Type 0} → Duplex C D → Passage
  passage_of duplex = record { ahead = duplex.ahead; flow = flow_of flow duplex.stream; is_shut = duplex.is_shut }
