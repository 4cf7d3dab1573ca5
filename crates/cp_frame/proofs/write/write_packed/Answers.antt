use Rattle.std.proofs.Common.{take, arith}
use Rattle.cp_words.specs.Segments.{words_of}
use Rattle.cp_frame.proofs.Filling.{length_lists}
use Rattle.cp_frame.proofs.Pieces.{pieces_none, pieces_more, pieces_all, pieces_grown, on_err_too}
use Rattle.cp_frame.proofs.write.write_packed.Goals as goal

pub loop-segment-preserved : goal.loop-segment-preserved
loop-segment-preserved c =
    let h = c.loop-segment.invariant in (
      h.0,
      h.1,
      pieces_more c.args.out.now.items h.0 c.args.segments.now c.loop-segment.segment-index c.segment-item.result c.deref.result.now c.loop-segment.out.items c.push_packed.new.out.items c.loop-segment-test.true c.segment-item.is c.deref.ensures.value h.2 c.in_ok-push_packed.ensures.put,
    )

pub loop-segment-init : goal.loop-segment-init
loop-segment-init c =
    let h = c.in_ok-push_packed_table.ensures.put in
    (h.0, h.1, pieces_none h.0 c.args.out.now.items c.reserve.new.self.items c.push_packed_table.new.out.items c.in_ok-reserve.ensures.items h.2)

pub returns-clause-put : goal.returns-clause-put
returns-clause-put c =
    let h = c.loop-segment.invariant in
    pieces_all c.args.out.now.items h.0 (words_of c.args.segments.now) c.loop-segment.segment-index c.loop-segment.out.items h.1 (omega (arith, length_lists c.args.segments.now, c.loop-segment-test.false)) h.2

pub returns-in_err-push_packed-clause-grown : goal.returns-in_err-push_packed-clause-grown
returns-in_err-push_packed-clause-grown c =
    let h = c.loop-segment.invariant in
    on_err_too c.from_residual-in_err-push_packed.result
    (pieces_grown c.args.out.now.items h.0 (take c.loop-segment.segment-index (words_of c.args.segments.now)) c.loop-segment.out.items c.push_packed.new.out.items h.2 c.in_err-push_packed.ensures.grown)
