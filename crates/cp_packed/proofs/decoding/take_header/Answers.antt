use Rattle.std.proofs.Common.{◌≡◌, ◌<◌, ◌+◌, ◌-◌, ◌++◌, ℕ, length, take, get_or, replicate, refl, sym, ◌∙◌, ap, arith}
use Rattle.std.specs.Vec.{vec_len}
use Rattle.std.proofs.lemmas.List.{take-append-drop}
use Rattle.cp_packed.specs.Unpacking.{run_of}
use Rattle.cp_packed.proofs.Unpacks.{header_long, run_sparse}
use Rattle.cp_packed.proofs.Decoded.{header_missing, header_there, zeros_new, word_new, run_raw}
use Rattle.cp_packed.proofs.decoding.take_header.Goals as goal
use Rattle.cp_packed.proofs.decoding.take_header.Goals.{then-tag, else-tag}

pub returns-then-after-length-clause-none : goal.returns-then-after-length-clause-none
returns-then-after-length-clause-none c =
    let left = c.args.left.now in
    header_missing left c.split_at.result.1.now (get_or left 0 0) c.requires refl c.split_at.ensures.back (omega (arith, c.if-after-length.true, c.header-length.ensures))

pub returns-then-tag-eq0-clause-some : goal.returns-then-tag-eq0-clause-some
returns-then-tag-eq0-clause-some c =
    let left = c.args.left.now in
    let tag = get_or left 0 0 in
    let after = c.split_at.result.1.now in
    let bytes = c.split_at-2.result.0.now in
    let back = c.split_at-2.result.1.now in
    let length_of = c.split_at-2.ensures.front_len in
    let split : after ≡ bytes ++ back = rw (c.split_at-2.ensures.front, c.split_at-2.ensures.back) (sym (take-append-drop (c.header-length.result - 1) after)) in
    let same : vec_len c.args.words.now ≡ length c.args.words.now.items = omega arith in
    let n = c.len.result + get_or bytes 0 0 + 1 in
    let resized = c.in_ok-resize.ensures.items ∙ ap (λ (m : ℕ). take n c.args.words.now.items ++ replicate (n - m) 0) same in
    let zero_tag : tag ≡ 0 = omega (arith, c.if-tag-eq0.true) in
    header_there c.args.words.now.items left c.resize.new.self.items after bytes back tag 0 c.requires refl c.split_at.ensures.back split (omega (arith, length_of, c.header-length.ensures, header_long tag))
    (zeros_new c.args.words.now.items c.resize.new.self.items bytes tag (c.len.result + get_or bytes 0 0 + 1) zero_tag (omega (arith, c.len.ensures)) resized) (sym (run_sparse tag bytes (omega (arith, zero_tag))))

pub returns-clause-some : goal.returns-clause-some
returns-clause-some c =
    let left = c.args.left.now in
    let tag = get_or left 0 0 in
    let after = c.split_at.result.1.now in
    let bytes = c.split_at-2.result.0.now in
    let back = c.split_at-2.result.1.now in
    let length_of = c.split_at-2.ensures.front_len in
    let split : after ≡ bytes ++ back = rw (c.split_at-2.ensures.front, c.split_at-2.ensures.back) (sym (take-append-drop (c.header-length.result - 1) after)) in
    let some : 0 < tag = omega (arith, c.if-tag-eq0.false) in
    let run : c.if-tag.run ≡ run_of tag bytes = elim c.if-tag.branch [
      | then-tag w ↦ w.run-is ∙ run_raw bytes tag (omega (arith, w.if-tag.true))
      | else-tag w ↦ w.run-is ∙ sym (run_sparse tag bytes (omega (arith, w.if-tag.false, c.type_inv.left 0)))
    ] in
    header_there c.args.words.now.items left c.push.new.self.items after bytes back tag c.if-tag.run c.requires refl c.split_at.ensures.back split (omega (arith, length_of, c.header-length.ensures, header_long tag))
    (word_new c.args.words.now.items c.push.new.self.items bytes tag c.from_le_bytes.result some (c.from_le_bytes.ensures ∙ c.spread.ensures.word) c.in_ok-push.ensures.items) run
