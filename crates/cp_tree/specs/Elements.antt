-- The elements that words hold. (Encoding specification: "Lists".)
use Rattle.std.specs.Prelude.{ℕ, ◌*◌, ◌/◌, ◌%◌, ◌^◌, ◌==◌, Bool, List, map, slice_index}
use Rattle.std.specs.List.{range_with_len}
use Rattle.cp_words.specs.declared.pointer.ElementSize.{ElementSize}
use Rattle.cp_words.specs.declared.pointer.ElementSize.TheVariants as sizes
use Rattle.cp_tree.specs.Node.{Elements, voids, bits, bytes, halves, quads, words}

-- Element k of w bits each: the elements lie one after another, the first in the lowest bits of the first word.
abbrev pub element : List ℕ → ℕ → ℕ → ℕ
element ws w k = slice_index ws (k * w / 64) / 2 ^ (k * w % 64) % 2 ^ w

-- the first n elements of w bits each
abbrev pub numbers : List ℕ → ℕ → ℕ → List ℕ
numbers ws w n = map (element ws w) (range_with_len 0 n)

-- the first n bits
abbrev pub flags : List ℕ → ℕ → List Bool
flags ws n = map (λ k. element ws 1 k == 1) (range_with_len 0 n)

-- the n elements of a size that the words of a body hold
abbrev pub elements_of : List ℕ → ElementSize → ℕ → Elements
elements_of ws sizes.Void n = voids n
elements_of ws sizes.Bit n = bits (flags ws n)
elements_of ws sizes.Byte n = bytes (numbers ws 8 n)
elements_of ws sizes.TwoBytes n = halves (numbers ws 16 n)
elements_of ws sizes.FourBytes n = quads (numbers ws 32 n)
elements_of ws other n = words (numbers ws 64 n)
