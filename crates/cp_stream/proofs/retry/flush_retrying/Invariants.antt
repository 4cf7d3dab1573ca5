use Rattle.std.specs.Io.KnownBytes.{Keeps}
use Rattle.cp_stream.proofs.retry.flush_retrying.Given as goal

-- each call so far was interrupted, and what is held is kept
abbrev pub invariant-loop : goal.invariant-loop
invariant-loop g l = Keeps (g.W.Write.contents l.fn.to) (g.W.Write.contents l.to)
