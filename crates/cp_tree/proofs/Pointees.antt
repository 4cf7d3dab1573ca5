-- What the pointers of an owned struct stand for.
use Rattle.std.proofs.Common.{◌≡◌, ℕ, zero, suc, ◌<◌, ◌≤◌, List, [], ◌∷◌, length, map, get_or, refl, arith, rules}
use Rattle.cp_tree.specs.Node.{null, struct}
use Rattle.cp_tree.specs.NodeOf.{node_of, body_of, nodes_of}
use Rattle.cp_tree.specs.Seen.{node_at, pointee_of}
use Rattle.cp_tree.specs.declared.tree.Tree.{Tree}
use Rattle.cp_tree.specs.declared.tree.Body.{Body, the_lemmas}

pub pointee-body : (b : Body) (i : ℕ) → pointee_of (struct (body_of b).0 (body_of b).1) i ≡ node_at (nodes_of (map node_of b.ptrs.items)) i
pointee-body b i = search (rules, the_lemmas)

pub node_at-map : (ts : List Tree) (i : ℕ) (d : Tree) → i < length ts → node_at (nodes_of (map node_of ts)) i ≡ node_of (get_or ts i d)
node_at-map [] i d within = absurd (omega arith)
node_at-map (t ∷ ts) zero d within = refl
node_at-map (t ∷ ts) (suc i) d within = node_at-map ts i d (omega arith)

pub node_at-map-past : (ts : List Tree) (i : ℕ) → length ts ≤ i → node_at (nodes_of (map node_of ts)) i ≡ null
node_at-map-past [] i past = refl
node_at-map-past (t ∷ ts) zero past = absurd (omega arith)
node_at-map-past (t ∷ ts) (suc i) past = node_at-map-past ts i (omega arith)
