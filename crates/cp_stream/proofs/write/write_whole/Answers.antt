use Rattle.cp_stream.proofs.Writing.{writes_on, writes_more}
use Rattle.cp_stream.proofs.write.write_whole.Goals as goal

pub writing-init : goal.writing-init
writing-init g c = writes_on g.W.Write.contents c.args.to.now c.args.bytes.now

pub writing-preserved : goal.writing-preserved
writing-preserved g c =
    let h = c.in-Ok.ensures in
    writes_more g.W.Write.contents c.args.to.now c.writing.to c.write.new.self c.args.bytes.now c.writing.left.now c.in-Ok.count c.writing.invariant h.bound h.bytes c.if-count-gt0.true h.counts
