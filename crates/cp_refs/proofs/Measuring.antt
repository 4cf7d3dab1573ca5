-- The memory of the trees of a row, and of what is left of one.
use Rattle.std.proofs.Common.{◌≡◌, ℕ, ◌+◌, ◌-◌, ◌^◌, ◌≤◌, ◌<◌, min, List, take, length, get_or, ap, arith}
use Rattle.std.proofs.lemmas.List.Sums.{sum_by_more}
use Rattle.cp_tree.specs.Node.{Nodes, no_nodes, node, Node, Bodies, no_bodies, body, greatest_depth, deepest_body}
use Rattle.cp_refs.specs.Memory.{bodies_memory, cap_memory, caps_memory, row_memory, struct_memory, tree_memory}
use Rattle.cp_refs.specs.declared.cap.Cap.{Cap}

-- So many bytes were counted of all these trees, and some are left, which nest no deeper.
pub record RowIsLeft (all rest : Nodes) (bytes : ℕ) : Type 0 where
  pub counted : min (bytes + row_memory rest) (2 ^ 64 - 1) ≡ min (row_memory all) (2 ^ 64 - 1)
  pub few : bytes ≤ 2 ^ 64 - 1
  pub nests : greatest_depth rest ≤ greatest_depth all

pub row_goes_on : (all here rest : Nodes) (t : Node) (bytes next below mid : ℕ) → here ≡ node t rest → below ≡ min (tree_memory t) (2 ^ 64 - 1) → mid ≡ min (bytes + 96) (2 ^ 64 - 1) → next ≡ min (mid + below) (2 ^ 64 - 1)
    → RowIsLeft all here bytes → RowIsLeft all rest next
row_goes_on all here rest t bytes next below mid e is first second kept =
    let size = ap row_memory e in
    let deep = ap greatest_depth e in
    record { counted = omega (arith, size, is, first, second, kept.counted); few = omega (arith, second); nests = omega (arith, deep, kept.nests) }

pub row_ends : (all rest : Nodes) (bytes : ℕ) → rest ≡ no_nodes → RowIsLeft all rest bytes → bytes ≡ min (row_memory all) (2 ^ 64 - 1)
row_ends all rest bytes e kept = let size = ap row_memory e in omega (arith, size, kept.counted, kept.few)

-- the same of the elements of a composite list
pub record BodiesAreLeft (all rest : Bodies) (bytes : ℕ) : Type 0 where
  pub counted : min (bytes + bodies_memory rest) (2 ^ 64 - 1) ≡ min (bodies_memory all) (2 ^ 64 - 1)
  pub few : bytes ≤ 2 ^ 64 - 1
  pub nests : deepest_body rest ≤ deepest_body all

pub bodies_go_on : (all here rest : Bodies) (ws : List ℕ) (ts : Nodes) (bytes next below mid : ℕ) → here ≡ body ws ts rest → below ≡ min (struct_memory (ws, ts)) (2 ^ 64 - 1) → mid ≡ min (bytes + 96) (2 ^ 64 - 1)
    → next ≡ min (mid + below) (2 ^ 64 - 1) → BodiesAreLeft all here bytes → BodiesAreLeft all rest next
bodies_go_on all here rest ws ts bytes next below mid e is first second kept =
    let size = ap bodies_memory e in
    let deep = ap deepest_body e in
    record { counted = omega (arith, size, is, first, second, kept.counted); few = omega (arith, second); nests = omega (arith, deep, kept.nests) }

pub bodies_end : (all rest : Bodies) (bytes : ℕ) → rest ≡ no_bodies → BodiesAreLeft all rest bytes → bytes ≡ min (bodies_memory all) (2 ^ 64 - 1)
bodies_end all rest bytes e kept = let size = ap bodies_memory e in omega (arith, size, kept.counted, kept.few)

-- the memory of one capability more
pub caps_more : (cs : List Cap) (i : ℕ) (d : Cap) → i < length cs → caps_memory (take (i + 1) cs) ≡ caps_memory (take i cs) + cap_memory (get_or cs i d)
caps_more cs i d inside = sum_by_more cap_memory cs i d inside
