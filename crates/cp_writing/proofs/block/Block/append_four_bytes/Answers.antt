use Rattle.std.proofs.Common.{◌≡◌, ◌*◌, ◌-◌, ◌+◌, ◌/◌, ◌++◌, arith, take, drop, map, length, ap, ◌∙◌}
use Rattle.std.specs.List.{range_with_len}
use Rattle.cp_writing.specs.Packed.{value}
use Rattle.cp_writing.proofs.Packing.{one_more_group, group_to_end}
use Rattle.cp_writing.proofs.block.Block.append_four_bytes.Goals as goal

pub loop-k-preserved : goal.loop-k-preserved
loop-k-preserved c =
    let items = c.args.items.now in
    let k = c.loop-k.k in
    one_more_group 4294967296 2 items c.args.self.now c.loop-k.self _ k _ c.loop-k.invariant
    (c.four_bytes_word.ensures ∙ ap (λ e. value 4294967296 (take (e - 2 * k) (drop (2 * k) items))) c.min-end.ensures ∙ ap (value 4294967296) (group_to_end items (2 * k) 2)) c.in_ok-push.ensures

pub returns : goal.returns
returns c =
    let items = c.args.items.now in
    let end : c.loop-k.k ≡ (length items + 1) / 2 = omega (arith, c.loop-k.auto.k-end, c.loop-k-test.false) in
    c.loop-k.invariant ∙ ap (λ n. c.args.self.now ++ map (λ j. value 4294967296 (take 2 (drop (2 * j) items))) (range_with_len 0 n)) end
