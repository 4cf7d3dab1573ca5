use Rattle.std.specs.Io.KnownBytes.{Keeps}
use Rattle.cp_stream.proofs.retry.write_retrying.Given as goal

-- each call so far was interrupted, and appended nothing
abbrev pub invariant-loop : goal.invariant-loop
invariant-loop g l = Keeps (g.W.Write.contents l.fn.to) (g.W.Write.contents l.to)
