use Rattle.std.proofs.Common.{List, ℕ}
use Rattle.net_sockets.specs.Greeting.{Keeps}
use Rattle.net_sockets.proofs.greeting.Greeting.hear.Given as goal

-- what came so far is kept, and no end came
abbrev pub invariant-loop : goal.invariant-loop
invariant-loop g l = (came : List ℕ) × Keeps g.D.Socket.flow l.fn.self came 0 l.self
