-- What goes through a socket.
use Rattle.std.specs.Prelude.{◌≡◌, ◌+◌, ◌==◌, if◌then◌else◌, ℕ, ℤ, List, [], Option, Some, None}
use Rattle.std.specs.Io.KnownBytes.{Appends, Consumes}

-- Which socket it is. The bytes that reads of it will give from here on, how many reads gave none, as nothing more comes, and the bytes that it took: where these
-- are known.
pub record Flow : Type 0 where
  pub socket : ℤ
  pub to_come : Option (List ℕ)
  pub ends : Option ℕ
  pub sent : Option (List ℕ)

-- a number that is known goes up by this
abbrev pub Rises : Option ℕ → Option ℕ → ℕ → Type 0
Rises None new more = Unit {0}
Rises (Some count) None more = ⊥
Rises (Some count) (Some next) more = next ≡ count + more

-- It is the same socket. These bytes came of it, and then so many reads gave none; and it took those bytes. Nothing else was done with it.
pub record Moves (old : Flow) (came : List ℕ) (ends : ℕ) (took : List ℕ) (new : Flow) : Type 0 where
  pub same : new.socket ≡ old.socket
  pub gave : Consumes old.to_come new.to_come came
  pub ended : Rises old.ends new.ends ends
  pub taken : Appends old.sent new.sent took

-- how many reads gave none, where one gave this many bytes
abbrev pub ends_of : ℕ → ℕ
ends_of count = if count == 0 then 1 else 0

-- nothing was done with it
abbrev pub Rests : Flow → Flow → Type 0
Rests old new = Moves old [] 0 [] new
