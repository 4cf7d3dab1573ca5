use Rattle.std.proofs.Common.{◌≡◌, ◌*◌, ◌-◌, ◌+◌, ◌/◌, ◌++◌, arith, take, drop, map, length, ap, ◌∙◌}
use Rattle.std.specs.List.{range_with_len}
use Rattle.cp_writing.specs.Packed.{value}
use Rattle.cp_writing.proofs.Packing.{one_more_group, group_to_end}
use Rattle.cp_writing.proofs.block.Block.append_two_bytes.Goals as goal

pub loop-k-preserved : goal.loop-k-preserved
loop-k-preserved c =
    let items = c.args.items.now in
    let k = c.loop-k.k in
    one_more_group 65536 4 items c.args.self.now c.loop-k.self _ k _ c.loop-k.invariant
    (c.two_bytes_word.ensures ∙ ap (λ e. value 65536 (take (e - 4 * k) (drop (4 * k) items))) c.min-end.ensures ∙ ap (value 65536) (group_to_end items (4 * k) 4)) c.in_ok-push.ensures

pub returns : goal.returns
returns c =
    let items = c.args.items.now in
    let end : c.loop-k.k ≡ (length items + 3) / 4 = omega (arith, c.loop-k.auto.k-end, c.loop-k-test.false) in
    c.loop-k.invariant ∙ ap (λ n. c.args.self.now ++ map (λ j. value 65536 (take 4 (drop (4 * j) items))) (range_with_len 0 n)) end
