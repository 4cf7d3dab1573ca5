use Rattle.std.proofs.Common.{◌≡◌, ◌++◌, ◌*◌, map, take, drop}
use Rattle.std.specs.List.{range_with_len}
use Rattle.cp_writing.specs.Packed.{value, bit_of}
use Rattle.cp_writing.proofs.block.Block.append_bits.Given as goal

abbrev pub invariant-loop-k : goal.invariant-loop-k
invariant-loop-k l = l.self ≡ l.initial.self ++ map (λ j. value 2 (take 64 (drop (64 * j) (map bit_of l.items)))) (range_with_len 0 l.k)
