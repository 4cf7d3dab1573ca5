-- A message can hold the parts of a tree that it can hold.
use Rattle.std.proofs.Common.{ℕ, zero, suc}
use Rattle.cp_tree.specs.Node.{Node, null, cap, struct, list, ptrs, structs, Nodes, no_nodes, node, Bodies, no_bodies, body}
use Rattle.cp_tree.specs.Seen.{node_at, body_at, part_of, pointee_of}
use Rattle.cp_tree.specs.Shaped.{HasSizes, Shaped, EachShaped, EachEven}

pub node_at-shaped : (ts : Nodes) (i : ℕ) → EachShaped ts → Shaped (node_at ts i)
node_at-shaped no_nodes i h = tt
node_at-shaped (node t ts) zero h = h.0
node_at-shaped (node t ts) (suc i) h = node_at-shaped ts i h.1

body_at-shaped : (d n : ℕ) → HasSizes d n → (bs : Bodies) (i : ℕ) → EachEven d n bs → Shaped (body_at bs i)
body_at-shaped d n sizes no_bodies i h = tt
body_at-shaped d n sizes (body ws ts bs) zero h = (rw (h.0, h.1) sizes, h.2, h.3)
body_at-shaped d n sizes (body ws ts bs) (suc i) h = body_at-shaped d n sizes bs i h.4

pub part_of-shaped : (t : Node) (i : ℕ) → Shaped t → Shaped (part_of t i)
part_of-shaped null i h = tt
part_of-shaped (cap k) i h = tt
part_of-shaped (struct ws ts) i h = node_at-shaped ts i h.2
part_of-shaped (list es) i h = tt
part_of-shaped (ptrs ts) i h = node_at-shaped ts i h.1
part_of-shaped (structs d n bs) i h = body_at-shaped d n h.0 bs i h.3

pub pointee_of-shaped : (t : Node) (i : ℕ) → Shaped t → Shaped (pointee_of t i)
pointee_of-shaped null i h = tt
pointee_of-shaped (cap k) i h = tt
pointee_of-shaped (struct ws ts) i h = node_at-shaped ts i h.2
pointee_of-shaped (list es) i h = tt
pointee_of-shaped (ptrs ts) i h = tt
pointee_of-shaped (structs d n bs) i h = tt
