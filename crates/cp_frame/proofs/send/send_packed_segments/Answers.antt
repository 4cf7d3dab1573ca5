use Rattle.std.proofs.Common.{subst, arith}
use Rattle.std.specs.Io.KnownBytes.{Appends}
use Rattle.cp_words.specs.Segments.{words_of}
use Rattle.cp_frame.proofs.Filling.{length_lists}
use Rattle.cp_frame.proofs.Sends.{sends_table, sends_piece, sends_pieces, on_ok_then}
use Rattle.cp_frame.proofs.send.send_packed_segments.Goals as goal

pub loop-segment-init : goal.loop-segment-init
loop-segment-init g c =
    let h = c.requires.table in (h.0, h.1, sends_table (g.W.Write.contents c.args.to.now) h.0 c.args.buffer.now.items h.2)

pub loop-segment-preserved : goal.loop-segment-preserved
loop-segment-preserved g c =
    let contents = g.W.Write.contents in
    let h = c.loop-segment.invariant in (
      h.0,
      h.1,
      sends_piece (contents c.args.to.now) (contents c.loop-segment.to) (contents c.send_packed_words.new.to) h.0 c.args.segments.now c.loop-segment.segment-index c.segment-item.result c.deref.result.now c.loop-segment.buffer.items c.send_packed_words.new.buffer.items
          c.loop-segment-test.true c.segment-item.is c.deref.ensures.value h.2 c.in_ok-send_packed_words.ensures,
    )

pub returns : goal.returns
returns g c =
    let contents = g.W.Write.contents in
    let h = c.loop-segment.invariant in
    on_ok_then c.write_all.result (λ a. sends_pieces (contents c.args.to.now) (contents c.loop-segment.to) (contents c.write_all.new.self) h.0 (words_of c.args.segments.now) c.loop-segment.segment-index c.loop-segment.buffer.items h.1 (omega (arith, length_lists c.args.segments.now, c.loop-segment-test.false)) h.2
    (subst (λ b. Appends (contents c.loop-segment.to) (contents c.write_all.new.self) b) c.deref-2.ensures.value a)) c.write_all.ensures.bytes
