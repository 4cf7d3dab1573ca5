-- What is left of a tree nests no deeper and costs no more, and has the same capabilities.
use Rattle.std.proofs.Common.{◌≡◌, ℕ, zero, suc, ◌+◌, ◌*◌, ◌≤◌, ap, arith}
use Rattle.std.proofs.Math.Nat.{mul-le-mul_left}
use Rattle.std.proofs.lemmas.List.{length-take}
use Rattle.cp_tree.specs.Node.{Node, null, cap, struct, list, ptrs, structs, Nodes, no_nodes, node, Bodies, no_bodies, body, number_of, depth, greatest_depth, deepest_body, cost, total_cost, body_cost, IsStruct}
use Rattle.cp_tree.specs.Shaped.{Shaped, EachShaped, EachEven}
use Rattle.cp_canonical.specs.Cut.{used_words, used_ptrs, most_words, most_ptrs, take_ptrs, cut, cut_row, cut_bodies}
use Rattle.cp_canonical.proofs.Shapes.{count-take, count-cut_row, number-cut, words_within, ptrs_within}

depth-take : (n : ℕ) (ts : Nodes) → greatest_depth (take_ptrs n ts) ≤ greatest_depth ts
depth-take zero ts = omega arith
depth-take (suc n) no_nodes = omega arith
depth-take (suc n) (node t ts) = omega (arith, depth-take n ts)

cost-take : (n : ℕ) (ts : Nodes) → total_cost (take_ptrs n ts) ≤ total_cost ts
cost-take zero ts = omega arith
cost-take (suc n) no_nodes = omega arith
cost-take (suc n) (node t ts) = omega (arith, cost-take n ts)

mutual
  pub depth-cut : (t : Node) → depth (cut t) ≤ depth t
  depth-cut null = omega arith
  depth-cut (cap i) = omega arith
  depth-cut (struct ws ts) = omega (arith, depth-take (used_ptrs ts) (cut_row ts), depth-cut_row ts)
  depth-cut (list es) = omega arith
  depth-cut (ptrs ts) = omega (arith, depth-cut_row ts)
  depth-cut (structs d n bs) = omega (arith, depth-cut_bodies (most_words bs) (most_ptrs bs) bs)

  depth-cut_row : (ts : Nodes) → greatest_depth (cut_row ts) ≤ greatest_depth ts
  depth-cut_row no_nodes = omega arith
  depth-cut_row (node t ts) = omega (arith, depth-cut t, depth-cut_row ts)

  depth-cut_bodies : (d n : ℕ) (bs : Bodies) → deepest_body (cut_bodies d n bs) ≤ deepest_body bs
  depth-cut_bodies d n no_bodies = omega arith
  depth-cut_bodies d n (body ws ts bs) = omega (arith, depth-take n (cut_row ts), depth-cut_row ts, depth-cut_bodies d n bs)

mutual
  pub cost-cut : (t : Node) → Shaped t → cost (cut t) ≤ cost t
  cost-cut null h = omega arith
  cost-cut (cap i) h = omega arith
  cost-cut (struct ws ts) h = omega (arith, length-take (used_words ws) ws, count-take (used_ptrs ts) (cut_row ts), count-cut_row ts, cost-take (used_ptrs ts) (cut_row ts), cost-cut_row ts h.2)
  cost-cut (list es) h = omega arith
  cost-cut (ptrs ts) h = omega (arith, count-cut_row ts, cost-cut_row ts h.1)
  cost-cut (structs d n bs) h =
      let number = number-cut (most_words bs) (most_ptrs bs) bs in
      let fewer : number_of bs * (1 + most_words bs + most_ptrs bs) ≤ number_of bs * (1 + d + n) = mul-le-mul_left (number_of bs) (omega (arith, words_within d n bs h.3, ptrs_within d n bs h.3)) in
      let same : number_of (cut_bodies (most_words bs) (most_ptrs bs) bs) * (1 + most_words bs + most_ptrs bs) ≡ number_of bs * (1 + most_words bs + most_ptrs bs) = ap (λ k. k * (1 + most_words bs + most_ptrs bs)) number in
      omega (arith, fewer, same, cost-cut_bodies d n (most_words bs) (most_ptrs bs) bs h.3)

  cost-cut_row : (ts : Nodes) → EachShaped ts → total_cost (cut_row ts) ≤ total_cost ts
  cost-cut_row no_nodes h = omega arith
  cost-cut_row (node t ts) h = omega (arith, cost-cut t h.0, cost-cut_row ts h.1)

  cost-cut_bodies : (d n d' n' : ℕ) (bs : Bodies) → EachEven d n bs → body_cost (cut_bodies d' n' bs) ≤ body_cost bs
  cost-cut_bodies d n d' n' no_bodies h = omega arith
  cost-cut_bodies d n d' n' (body ws ts bs) h = omega (arith, cost-take n' (cut_row ts), cost-cut_row ts h.3, cost-cut_bodies d n d' n' bs h.4)

pub struct-cut : (t : Node) → IsStruct t → IsStruct (cut t)
struct-cut (struct ws ts) h = tt
struct-cut null h = absurd h
struct-cut (cap i) h = absurd h
struct-cut (list es) h = absurd h
struct-cut (ptrs ts) h = absurd h
struct-cut (structs d n bs) h = absurd h
