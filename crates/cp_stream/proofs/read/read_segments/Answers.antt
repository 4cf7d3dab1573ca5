use Rattle.cp_stream.specs.Tap.{inner_of, failures_of}
use Rattle.cp_stream.proofs.Only.{only_frame}
use Rattle.cp_stream.proofs.read.read_segments.Goals as goal

pub returns-clause-only : goal.returns-clause-only
returns-clause-only g c =
    let h = c.take_frame.ensures in
    only_frame c.args.mode c.args.limits (g.R.Read.remaining (inner_of c.args.from.now)) (g.R.Read.remaining (inner_of c.take_frame.new.from)) (failures_of c.args.from.now) (failures_of c.take_frame.new.from) c.take_frame.result h.read h.stopped
