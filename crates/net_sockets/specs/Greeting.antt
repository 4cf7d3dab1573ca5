-- What is read of a connection that begins with its proxy's header.
use Rattle.std.specs.Prelude.{◌≡◌, ◌≤◌, ℕ, List, [], ◌++◌, Option, Result, Ok, Err, length}
use Rattle.std.specs.declared.io.Error.{Error}
use Rattle.net_sockets.specs.declared.greeting.Greeting.{Greeting}
use Rattle.net_sockets.specs.declared.greeting.Greeted.{Greeted}
use Rattle.net_sockets.specs.declared.greeting.Greeted.TheVariants as greeteds
use Rattle.net_sockets.specs.Flow.{Flow, Moves, ends_of}
use Rattle.net_sockets.specs.ProxyHeader.{Says}

-- the header isn't whole
abbrev pub IsUnmet : Greeted → Type 0
IsUnmet (greeteds.Whole peer) = ⊥
IsUnmet greeteds.Waits = Unit {0}
IsUnmet greeteds.Broken = Unit {0}

module _ {D : Type 0} (flow : D → Flow) where
  -- These bytes came of it, and then so many reads gave none, as nothing more comes. Nothing was sent on it.
  abbrev pub Gives : Greeting D → List ℕ → ℕ → Greeting D → Type 0
  Gives old came ends new = Moves (flow old.socket) came ends [] (flow new.socket)

  -- these bytes came, and are kept behind what came before
  pub record Keeps (old : Greeting D) (came : List ℕ) (ends : ℕ) (new : Greeting D) : Type 0 where
    pub gives : Gives old came ends new
    pub kept : new.came.items ≡ old.came.items ++ came

  -- a read took no more than so many bytes
  abbrev pub TakesMore : ℕ → Greeting D → Result ℕ Error → Greeting D → Type 0
  TakesMore most old (Ok count) new = (came : List ℕ) × (count ≡ length came) × (count ≤ most) × Keeps old came (ends_of count) new
  TakesMore most old (Err error) new = Unit {0}

  -- where the header is whole, it is all that came of the connection: what follows it is still to come
  abbrev pub Greets : Greeting D → Greeted → Greeting D → Type 0
  Greets old (greeteds.Whole peer) new = (came : List ℕ) × Keeps old came 0 new × Says new.came.items peer
  Greets old greeteds.Waits new = Unit {0}
  Greets old greeteds.Broken new = Unit {0}
