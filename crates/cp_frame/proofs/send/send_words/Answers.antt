use Rattle.std.proofs.Common.{◌≡◌, ◌*◌, ◌≤◌, ◌++◌, ℕ, List, length, drop, sym, ◌∙◌, ap, append_assoc, length-append, arith}
use Rattle.std.proofs.lemmas.List.{take-append-drop, length-drop, length-take-le}
use Rattle.std.proofs.lemmas.Grind.{flat_map-append}
use Rattle.std.specs.Int.{to_le_bytes, w64}
use Rattle.cp_packed.specs.Words.{bytes_of}
use Rattle.cp_frame.proofs.Sends.{appends_both}
use Rattle.cp_frame.proofs.send.send_words.Goals as goal

pub sending-preserved : goal.sending-preserved
sending-preserved g c =
    let l = c.sending in
    let h = l.invariant in
    let front = c.split_at.result.0.now in
    let back = c.split_at.result.1.now in
    let block = c.write_u64_into.new.dst in
    let fits : 8 * length front ≤ length l.buffer = omega (arith, c.split_at.ensures.front_len, c.min.ensures, h.0) in
    let bytes : block ≡ bytes_of front = c.write_u64_into.ensures in
    let whole : l.left.now ≡ front ++ back = rw (c.split_at.ensures.front, c.split_at.ensures.back) (sym (take-append-drop c.min.result l.left.now)) in
    let cut : bytes_of l.left.now ≡ block ++ bytes_of back =
    ap (λ (ws : List ℕ). bytes_of ws) whole ∙ flat_map-append (to_le_bytes w64) front back ∙ ap (λ (b : List ℕ). b ++ bytes_of back) (sym bytes) in (
      length-append block (drop (8 * length front) l.buffer) ∙ omega (arith, c.write_u64_into.auto.dst, length-take-le (8 * length front) l.buffer fits, length-drop (8 * length front) l.buffer, fits, h.0),
      h.1 ++ block,
      h.2 ∙ ap (λ (b : List ℕ). h.1 ++ b) cut ∙ sym (append_assoc h.1 block (bytes_of back)),
      appends_both (g.W.Write.contents c.args.to.now) (g.W.Write.contents l.to) (g.W.Write.contents c.write_all.new.self) h.1 block h.3 c.in_ok-write_all.ensures.bytes,
    )
