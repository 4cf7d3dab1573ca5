use Rattle.std.proofs.Common.{◌≡◌, length}
use Rattle.std.specs.Io.KnownBytes.{Keeps}
use Rattle.cp_stream.proofs.retry.read_retrying.Given as goal

-- each call so far was interrupted, and consumed nothing
abbrev pub invariant-loop : goal.invariant-loop
invariant-loop g l = (length l.buf ≡ length l.fn.buf) × Keeps (g.R.Read.remaining l.fn.from) (g.R.Read.remaining l.from)
