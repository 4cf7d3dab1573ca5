-- What is left of a tree that a message can hold, a message can hold.
use Rattle.std.proofs.Common.{◌≡◌, ℕ, zero, suc, ◌+◌, ◌*◌, ◌^◌, ◌≤◌, ◌<◌, length, take, refl, ap, arith}
use Rattle.std.proofs.Math.Nat.{mul-le-mul_left}
use Rattle.std.proofs.lemmas.List.{length-take}
use Rattle.std.proofs.lemmas.List.Elements.{All-take}
use Rattle.cp_tree.specs.Node.{Node, null, cap, struct, list, ptrs, structs, Nodes, no_nodes, node, Bodies, no_bodies, body, count, number_of}
use Rattle.cp_tree.specs.Shaped.{Shaped, EachShaped, EachEven}
use Rattle.cp_canonical.specs.Cut.{used_words, used_ptrs, most_words, most_ptrs, take_ptrs, cut, cut_row, cut_bodies}
use Rattle.cp_canonical.proofs.Uses.{used-within, used_ptrs-within}

pub count-take : (n : ℕ) (ts : Nodes) → count (take_ptrs n ts) ≤ count ts
count-take zero ts = omega arith
count-take (suc n) no_nodes = omega arith
count-take (suc n) (node t ts) = omega (arith, count-take n ts)

pub count-take_all : (n : ℕ) (ts : Nodes) → n ≤ count ts → count (take_ptrs n ts) ≡ n
count-take_all zero ts h = refl
count-take_all (suc n) no_nodes h = absurd (omega (arith, h))
count-take_all (suc n) (node t ts) h = ap suc (count-take_all n ts (omega (arith, h)))

pub count-cut_row : (ts : Nodes) → count (cut_row ts) ≡ count ts
count-cut_row no_nodes = refl
count-cut_row (node t ts) = ap suc (count-cut_row ts)

pub number-cut : (d n : ℕ) (bs : Bodies) → number_of (cut_bodies d n bs) ≡ number_of bs
number-cut d n no_bodies = refl
number-cut d n (body ws ts bs) = ap suc (number-cut d n bs)

each_taken : (n : ℕ) (ts : Nodes) → EachShaped ts → EachShaped (take_ptrs n ts)
each_taken zero ts h = tt
each_taken (suc n) no_nodes h = tt
each_taken (suc n) (node t ts) h = (h.0, each_taken n ts h.1)

-- no element uses more than each has
pub words_within : (d n : ℕ) (bs : Bodies) → EachEven d n bs → most_words bs ≤ d
words_within d n no_bodies h = omega arith
words_within d n (body ws ts bs) h = omega (arith, used-within ws, h.0, words_within d n bs h.4)

pub ptrs_within : (d n : ℕ) (bs : Bodies) → EachEven d n bs → most_ptrs bs ≤ n
ptrs_within d n no_bodies h = omega arith
ptrs_within d n (body ws ts bs) h = omega (arith, used_ptrs-within ts, h.1, ptrs_within d n bs h.4)

mutual
  pub cut-shaped : (t : Node) → Shaped t → Shaped (cut t)
  cut-shaped null h = tt
  cut-shaped (cap i) h = h
  cut-shaped (struct ws ts) h =
      let words : length (take (used_words ws) ws) ≤ length ws = omega (arith, length-take (used_words ws) ws) in
      let row : count (take_ptrs (used_ptrs ts) (cut_row ts)) ≤ count ts = omega (arith, count-take (used_ptrs ts) (cut_row ts), count-cut_row ts) in
      ((omega (arith, words, h.0.0), omega (arith, row, h.0.1)), All-take (λ x. x < 2 ^ 64) (used_words ws) ws h.1, each_taken (used_ptrs ts) (cut_row ts) (cut_row-shaped ts h.2))
  cut-shaped (list es) h = h
  cut-shaped (ptrs ts) h = (omega (arith, count-cut_row ts, h.0), cut_row-shaped ts h.1)
  cut-shaped (structs d n bs) h =
      let words = words_within d n bs h.3 in
      let row = ptrs_within d n bs h.3 in
      let number = number-cut (most_words bs) (most_ptrs bs) bs in
      let fewer : number_of bs * (most_words bs + most_ptrs bs) ≤ number_of bs * (d + n) = mul-le-mul_left (number_of bs) (omega (arith, words, row)) in
      ((omega (arith, words, h.0.0), omega (arith, row, h.0.1)), rw number h.1, rw number (omega (arith, fewer, h.2)), cut_bodies-even d n (most_words bs) (most_ptrs bs) bs words row h.3)

  pub cut_row-shaped : (ts : Nodes) → EachShaped ts → EachShaped (cut_row ts)
  cut_row-shaped no_nodes h = tt
  cut_row-shaped (node t ts) h = (cut-shaped t h.0, cut_row-shaped ts h.1)

  cut_bodies-even : (d n d' n' : ℕ) (bs : Bodies) → d' ≤ d → n' ≤ n → EachEven d n bs → EachEven d' n' (cut_bodies d' n' bs)
  cut_bodies-even d n d' n' no_bodies a b h = tt
  cut_bodies-even d n d' n' (body ws ts bs) a b h =
      (omega (arith, length-take d' ws, h.0, a), count-take_all n' (cut_row ts) (omega (arith, count-cut_row ts, h.1, b)), All-take (λ x. x < 2 ^ 64) d' ws h.2, each_taken n' (cut_row ts) (cut_row-shaped ts h.3), cut_bodies-even d n d' n' bs a b h.4)
