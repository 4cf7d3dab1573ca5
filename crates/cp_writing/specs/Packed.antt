-- The words that hold the elements of a list without pointers.
use Rattle.std.specs.Prelude.{ℕ, ◌+◌, ◌-◌, ◌*◌, ◌/◌, Bool, true, false, List, [], ◌∷◌, length, take, drop, map}
use Rattle.std.specs.List.{range_with_len}
use Rattle.cp_tree.specs.Node.{Elements, voids, bits, bytes, halves, quads, words}

-- the number that these digits are, the lowest first
abbrev pub value : ℕ → List ℕ → ℕ
value base [] = 0
value base (n ∷ ns) = n + base * value base ns

-- digits in groups of this many, and the number that each group is
abbrev pub groups : ℕ → ℕ → List ℕ → List ℕ
groups base per ns = map (λ k. value base (take per (drop (per * k) ns))) (range_with_len 0 ((length ns + (per - 1)) / per))

abbrev pub bit_of : Bool → ℕ
bit_of true = 1
bit_of false = 0

-- the words that hold the elements, with zero bits after the last
abbrev pub packed : Elements → List ℕ
packed (voids n) = []
packed (bits bs) = groups 2 64 (map bit_of bs)
packed (bytes ns) = groups 256 8 ns
packed (halves ns) = groups 65536 4 ns
packed (quads ns) = groups 4294967296 2 ns
packed (words ns) = ns
