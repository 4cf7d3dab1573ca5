use Rattle.std.proofs.Common.{◌≡◌, []}
use Rattle.net_client.specs.Passing.{Waits, passage_of}
use Rattle.net_client.proofs.duplex.Duplex.read.Given as goal

-- nothing was given out so far, and nothing waits to be
abbrev pub invariant-loop : goal.invariant-loop
invariant-loop g l = (l.self.ahead ≡ []) × Waits (passage_of g.D.Socket.flow l.fn.self) (passage_of g.D.Socket.flow l.self)
