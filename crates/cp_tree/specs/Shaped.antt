-- Trees that a message can hold.
use Rattle.std.specs.Prelude.{◌≡◌, ℕ, ◌+◌, ◌*◌, ◌^◌, ◌<◌, List, length, All}
use Rattle.cp_tree.specs.Node.{Elements, voids, bits, bytes, halves, quads, words, Node, null, cap, struct, list, ptrs, structs, Nodes, no_nodes, node, Bodies, no_bodies, body, count, number_of}

-- each number fits this many bits
abbrev pub AllFit : ℕ → List ℕ → Type 0
AllFit w ns = All (λ n. n < 2 ^ w) ns

-- a struct's numbers of data words and pointers fit 16 bits each
abbrev pub HasSizes : ℕ → ℕ → Type 0
HasSizes d n = (d < 2 ^ 16) × (n < 2 ^ 16)

-- A list has fewer than 2 ^ 29 elements, and each fits its bits.
abbrev pub ElementsFit : Elements → Type 0
ElementsFit (voids n) = n < 2 ^ 29
ElementsFit (bits bs) = length bs < 2 ^ 29
ElementsFit (bytes ns) = (length ns < 2 ^ 29) × AllFit 8 ns
ElementsFit (halves ns) = (length ns < 2 ^ 29) × AllFit 16 ns
ElementsFit (quads ns) = (length ns < 2 ^ 29) × AllFit 32 ns
ElementsFit (words ns) = (length ns < 2 ^ 29) × AllFit 64 ns

-- Each number fits its bits, and the elements of a composite list are all of its sizes. Such a list has fewer than
-- 2 ^ 30 elements, and they take fewer than 2 ^ 29 words together.
abbrev mutual
  pub Shaped : Node → Type 0
  Shaped null = Unit {0}
  Shaped (cap i) = i < 2 ^ 32
  Shaped (struct ws ts) = HasSizes (length ws) (count ts) × AllFit 64 ws × EachShaped ts
  Shaped (list es) = ElementsFit es
  Shaped (ptrs ts) = (count ts < 2 ^ 29) × EachShaped ts
  Shaped (structs d n bs) = HasSizes d n × (number_of bs < 2 ^ 30) × (number_of bs * (d + n) < 2 ^ 29) × EachEven d n bs

  pub EachShaped : Nodes → Type 0
  EachShaped no_nodes = Unit {0}
  EachShaped (node t ts) = Shaped t × EachShaped ts

  -- each element has d data words and n pointers
  pub EachEven : ℕ → ℕ → Bodies → Type 0
  EachEven d n no_bodies = Unit {0}
  EachEven d n (body ws ts bs) = (length ws ≡ d) × (count ts ≡ n) × AllFit 64 ws × EachShaped ts × EachEven d n bs
