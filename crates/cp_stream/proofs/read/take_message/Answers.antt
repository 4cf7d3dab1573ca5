use Rattle.std.proofs.Common.{List, ℕ, Option, subst}
use Rattle.cp_stream.specs.Read.{ReadsFrame}
use Rattle.cp_stream.specs.Tap.{inner_of, failures_of}
use Rattle.cp_stream.proofs.Taking.{refused_message}
use Rattle.cp_stream.proofs.read.take_message.Goals as goal

pub returns-clause-stopped : goal.returns-clause-stopped
returns-clause-stopped g c =
    let old = g.R.Read.remaining (inner_of c.args.from.now) in
    let new = g.R.Read.remaining (inner_of c.take_frame.new.from) in
    let frame = subst (λ (o : Option (List (List ℕ))). ReadsFrame c.args.mode c.args.limits old new o) c.in-Some.is c.in_ok-segments.ensures.read in
    rw c.refused.ensures (refused_message c.args.mode c.args.limits old new (failures_of c.args.from.now) (failures_of c.take_frame.new.from) c.in-Some.segments c.in-Err.refusal frame
    c.in_ok-segments.ensures.counted c.in-Err.ensures.refused)
