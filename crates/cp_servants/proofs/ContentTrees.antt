-- The trees of structs.
use Rattle.std.proofs.Common.{◌≡◌, ℕ, Vec, Global, map, rules}
use Rattle.cp_tree.specs.Node.{struct}
use Rattle.cp_tree.specs.NodeOf.{node_of, nodes_of}
use Rattle.cp_tree.specs.declared.tree.Body.{roll-Body, the_lemmas as body_lemmas}
use Rattle.cp_tree.specs.declared.tree.Tree.{Tree, the_lemmas}
use Rattle.cp_tree.specs.declared.tree.Tree.TheVariants as trees

pub node-Struct : (ws : Vec ℕ Global) (ts : Vec Tree Global) → node_of (trees.Struct (roll-Body (record { words = ws; ptrs = ts }))) ≡ struct ws.items (nodes_of (map node_of ts.items))
node-Struct ws ts = search (rules, the_lemmas, body_lemmas)
