use Rattle.cp_stream.specs.Tap.{inner_of, failures_of}
use Rattle.cp_stream.proofs.Only.{only_message}
use Rattle.cp_stream.proofs.read.read_message.Goals as goal

pub returns-clause-only : goal.returns-clause-only
returns-clause-only g c =
    let h = c.take_message.ensures in
    only_message c.args.mode c.args.limits (g.R.Read.remaining (inner_of c.args.from.now)) (g.R.Read.remaining (inner_of c.take_message.new.from)) (failures_of c.args.from.now) (failures_of c.take_message.new.from) c.take_message.result h.read h.stopped
