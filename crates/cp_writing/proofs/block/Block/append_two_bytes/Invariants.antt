use Rattle.std.proofs.Common.{◌≡◌, ◌++◌, ◌*◌, map, take, drop}
use Rattle.std.specs.List.{range_with_len}
use Rattle.cp_writing.specs.Packed.{value}
use Rattle.cp_writing.proofs.block.Block.append_two_bytes.Given as goal

abbrev pub invariant-loop-k : goal.invariant-loop-k
invariant-loop-k l = l.self ≡ l.initial.self ++ map (λ j. value 65536 (take 4 (drop (4 * j) l.items))) (range_with_len 0 l.k)
