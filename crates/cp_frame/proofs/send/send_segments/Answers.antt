use Rattle.std.proofs.Common.{◌++◌, List, ℕ, take, sym, ◌∙◌, ap, subst}
use Rattle.std.specs.List.{flat_map}
use Rattle.std.specs.Io.KnownBytes.{Appends}
use Rattle.cp_packed.specs.Words.{bytes_of}
use Rattle.cp_words.specs.Segments.{words_of}
use Rattle.cp_frame.proofs.Opened.{next_body}
use Rattle.cp_frame.proofs.Sends.{appends_both}
use Rattle.cp_frame.proofs.send.send_segments.Goals as goal

pub loop-segment-preserved : goal.loop-segment-preserved
loop-segment-preserved g c =
    let vs = c.args.segments.now in
    let l = c.loop-segment in
    let i = l.segment-index in
    let before = flat_map bytes_of (take i (words_of vs)) in
    let contents = g.W.Write.contents in
    let more = appends_both (contents c.args.to.now) (contents l.to) (contents c.send_words.new.to) before (bytes_of c.deref.result.now) l.invariant.1 c.in_ok-send_words.ensures in
    let next = ap (λ (ws : List ℕ). before ++ bytes_of ws) c.deref.ensures.value ∙ sym (next_body vs i c.segment-item.result c.loop-segment-test.true c.segment-item.is) in
    (c.send_words.auto.buffer ∙ l.invariant.0, subst (λ (b : List ℕ). Appends (contents c.args.to.now) (contents c.send_words.new.to) b) next more)
