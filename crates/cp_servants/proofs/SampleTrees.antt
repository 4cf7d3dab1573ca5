-- The trees of results.
use Rattle.std.proofs.Common.{◌≡◌, ℕ, zero, suc, get_or, ◌<◌, ◌^◌, Vec, Global, [], ◌∷◌, map, arith, rules, lit<}
use Rattle.cp_tree.specs.Node.{cap, struct, node, no_nodes}
use Rattle.cp_tree.specs.NodeOf.{node_of, nodes_of}
use Rattle.cp_tree.specs.Shaped.{Shaped}
use Rattle.cp_tree.specs.declared.tree.Body.{roll-Body, the_lemmas as body_lemmas}
use Rattle.cp_tree.specs.declared.tree.Tree.{Tree, the_lemmas}
use Rattle.cp_tree.specs.declared.tree.Tree.TheVariants as trees

pub node-Struct : (ws : Vec ℕ Global) (ts : Vec Tree Global) → node_of (trees.Struct (roll-Body (record { words = ws; ptrs = ts }))) ≡ struct ws.items (nodes_of (map node_of ts.items))
node-Struct ws ts = search (rules, the_lemmas, body_lemmas)

pub shaped_word : (w : ℕ) → w < 2 ^ 64 → Shaped (struct (w ∷ []) no_nodes)
shaped_word w h = ((lit< tt, lit< tt), below, tt)
  where
    below : (k d : ℕ) → k < 1 → get_or (w ∷ []) k d < 2 ^ 64
    below zero d k = h
    below (suc n) d k = absurd (omega arith)

pub shaped_cap : Shaped (struct [] (node (cap 0) no_nodes))
shaped_cap = ((lit< tt, lit< tt), λ k d h. absurd (omega arith), (lit< tt, tt))
