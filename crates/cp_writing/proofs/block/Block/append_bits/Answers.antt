use Rattle.std.proofs.Common.{◌≡◌, ◌*◌, ◌-◌, ◌+◌, ◌/◌, ◌++◌, arith, take, drop, map, length, ap, ◌∙◌}
use Rattle.std.specs.List.{range_with_len}
use Rattle.cp_writing.specs.Packed.{value, bit_of}
use Rattle.cp_writing.proofs.Packing.{one_more_group, group_to_end, bits_group, length_bits}
use Rattle.cp_writing.proofs.block.Block.append_bits.Goals as goal

pub loop-k-preserved : goal.loop-k-preserved
loop-k-preserved c =
    let items = c.args.items.now in
    let k = c.loop-k.k in
    one_more_group 2 64 (map bit_of items) c.args.self.now c.loop-k.self _ k _ c.loop-k.invariant
    (c.bits_word.ensures ∙ ap (λ e. value 2 (map bit_of (take (e - 64 * k) (drop (64 * k) items)))) c.min-end.ensures ∙ ap (λ xs. value 2 (map bit_of xs)) (group_to_end items (64 * k) 64) ∙ ap (value 2) (bits_group items (64 * k) 64)) c.in_ok-push.ensures

pub returns : goal.returns
returns c =
    let items = c.args.items.now in
    let end : c.loop-k.k ≡ (length (map bit_of items) + 63) / 64 = omega (arith, length_bits items, c.loop-k.auto.k-end, c.loop-k-test.false) in
    c.loop-k.invariant ∙ ap (λ n. c.args.self.now ++ map (λ j. value 2 (take 64 (drop (64 * j) (map bit_of items)))) (range_with_len 0 n)) end
