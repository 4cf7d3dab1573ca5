use Rattle.std.proofs.Common.{◌-◌, ◌^◌}
use Rattle.cp_frame.specs.Reader.{taken_of}
use Rattle.cp_stream.specs.Kept.{ReadsOn}
use Rattle.cp_stream.proofs.read.take_frame.Given as goal

abbrev pub invariant-reading : goal.invariant-reading
invariant-reading g l = ReadsOn l.fn.mode l.fn.limits (g.R.Read.remaining l.fn.from.inner) (g.R.Read.remaining l.from.inner) l.fn.from.failures l.from.failures l.frames

abbrev pub decreases-reading : goal.decreases-reading
decreases-reading g l = 2 ^ 36 - taken_of l.frames.state
