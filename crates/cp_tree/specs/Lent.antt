-- The trees that are lent, whether a program owns them or drafts stand for them.
use Rattle.std.specs.Prelude.{ℕ, List, map}
use Rattle.cp_tree.specs.Node.{Elements, voids, bits, bytes, halves, quads, words, Node, null, cap, struct, list, ptrs, structs, Nodes}
use Rattle.cp_tree.specs.NodeOf.{nodes_of, bodies_of, node_of, body_of}
use Rattle.cp_tree.specs.DraftOf.{draft_of, draft_body_of}
use Rattle.cp_tree.specs.declared.lent.TreeRef.{TreeRef}
use Rattle.cp_tree.specs.declared.lent.TreeRef.TheVariants as trees
use Rattle.cp_tree.specs.declared.lent.RowRef.{RowRef}
use Rattle.cp_tree.specs.declared.lent.RowRef.TheVariants as rows
use Rattle.cp_tree.specs.declared.lent.BodyRef.{BodyRef}
use Rattle.cp_tree.specs.declared.lent.BodiesRef.{BodiesRef}
use Rattle.cp_tree.specs.declared.lent.BodiesRef.TheVariants as composites
use Rattle.cp_tree.specs.declared.lent.ListRef.{ListRef}
use Rattle.cp_tree.specs.declared.lent.ListRef.TheVariants as lists
use Rattle.cp_tree.specs.declared.lent.Top.{Top}
use Rattle.cp_tree.specs.declared.lent.Top.TheVariants as tops

abbrev pub node_in : TreeRef → Node
node_in (trees.Tree t) = node_of t.now
node_in (trees.Draft d) = draft_of d.now

abbrev pub row_in : RowRef → List Node
row_in (rows.Trees ts) = map node_of ts.now
row_in (rows.Drafts ds) = map draft_of ds.now

-- the words of a struct, and its pointers
abbrev pub body_in : BodyRef → List ℕ × Nodes
body_in b = (b.words.now, nodes_of (row_in b.ptrs))

abbrev pub bodies_in : BodiesRef → List (List ℕ × Nodes)
bodies_in (composites.Bodies bs) = map body_of bs.now
bodies_in (composites.Drafts ds) = map draft_body_of ds.now

abbrev pub elements_in : ListRef → Elements
elements_in (lists.Voids n) = voids n
elements_in (lists.Bits items) = bits items.now
elements_in (lists.Bytes items) = bytes items.now
elements_in (lists.TwoBytes items) = halves items.now
elements_in (lists.FourBytes items) = quads items.now
elements_in (lists.Words items) = words items.now

-- the tree that is so at its top
abbrev pub top_node : Top → Node
top_node tops.Null = null
top_node (tops.Cap i) = cap i
top_node (tops.Struct b) = struct b.words.now (nodes_of (row_in b.ptrs))
top_node (tops.List items) = list (elements_in items)
top_node (tops.Ptrs row) = ptrs (nodes_of (row_in row))
top_node (tops.Structs s) = structs s.words s.ptrs (bodies_of (bodies_in s.items))
