use Rattle.std.proofs.Common.{◌++◌, ℕ, List, take, ap, sym, ◌∙◌, append_assoc}
use Rattle.std.specs.List.{flat_map}
use Rattle.cp_packed.specs.Words.{bytes_of}
use Rattle.cp_frame.specs.Frame.{padded_table}
use Rattle.cp_words.specs.Segments.{words_of}
use Rattle.cp_frame.proofs.Opened.{next_body}
use Rattle.cp_frame.proofs.write.write_plain.Goals as goal

pub loop-segment-preserved : goal.loop-segment-preserved
loop-segment-preserved c =
    let vs = c.args.segments.now in
    let i = c.loop-segment.segment-index in
    let front = c.args.out.now.items ++ padded_table (words_of vs) in
    let before = flat_map bytes_of (take i (words_of vs)) in
    c.in_ok-push_plain.ensures.put ∙ ap (λ (b : List ℕ). b ++ bytes_of c.deref.result.now) c.loop-segment.invariant ∙ append_assoc front before (bytes_of c.deref.result.now)
    ∙ ap (λ (ws : List ℕ). front ++ (before ++ bytes_of ws)) c.deref.ensures.value ∙ ap (λ (b : List ℕ). front ++ b) (sym (next_body vs i c.segment-item.result c.loop-segment-test.true c.segment-item.is))
