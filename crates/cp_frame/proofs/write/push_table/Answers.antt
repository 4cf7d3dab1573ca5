use Rattle.std.proofs.Common.{◌≡◌, ◌+◌, ◌-◌, ◌++◌, ◌∷◌, [], ℕ, List, length, take, ap, sym, ◌∙◌, append_assoc, arith}
use Rattle.std.proofs.lemmas.Grind.{flat_map-append}
use Rattle.std.specs.Int.{to_le_bytes, w32}
use Rattle.cp_frame.specs.Framed.{sizes_of, spelled}
use Rattle.cp_words.specs.Segments.{words_of}
use Rattle.cp_frame.proofs.Opened.{next_size, size_within}
use Rattle.cp_frame.proofs.write.push_table.Goals as goal

pub overflow_cast-len : goal.overflow_cast-len
overflow_cast-len c =
    let within = size_within c.args.segments.now c.loop-segment.segment-index c.segment-item.result c.loop-segment-test.true c.segment-item.is in
    omega (arith, within, c.len.ensures, c.requires.small)

pub loop-segment-preserved : goal.loop-segment-preserved
loop-segment-preserved c =
    let front = c.args.out.now.items ++ to_le_bytes w32 (length c.args.segments.now - 1) in
    let before = take c.loop-segment.segment-index (sizes_of (words_of c.args.segments.now)) in
    let size = length c.segment-item.result.items in
    let next = next_size c.args.segments.now c.loop-segment.segment-index c.segment-item.result c.loop-segment-test.true c.segment-item.is in
    let len : c.len.result ≡ size = omega (arith, c.len.ensures) in
    let more : spelled (take (c.loop-segment.segment-index + 1) (sizes_of (words_of c.args.segments.now))) ≡ spelled before ++ to_le_bytes w32 size =
    ap (λ (ns : List ℕ). spelled ns) next ∙ flat_map-append (to_le_bytes w32) before (size ∷ []) in
    let bytes : c.to_le_bytes-in-loop-segment.result ≡ to_le_bytes w32 size = c.to_le_bytes-in-loop-segment.ensures ∙ ap (λ (n : ℕ). to_le_bytes w32 n) len in
    c.in_ok-extend_from_slice-2.ensures.items ∙ ap (λ (b : List ℕ). b ++ c.to_le_bytes-in-loop-segment.result) c.loop-segment.invariant
    ∙ ap (λ (b : List ℕ). (front ++ spelled before) ++ b) bytes ∙ append_assoc front (spelled before) (to_le_bytes w32 size) ∙ ap (λ (b : List ℕ). front ++ b) (sym more)
