use Rattle.net_client.specs.Passing.{Waits, passage_of}
use Rattle.net_client.proofs.duplex.Duplex.write.Given as goal

-- nothing was written so far
abbrev pub invariant-loop : goal.invariant-loop
invariant-loop g l = Waits (passage_of g.D.Socket.flow l.fn.self) (passage_of g.D.Socket.flow l.self)
