-- The tree that a constant of a program stands for.
use Rattle.std.specs.Prelude.{ℕ, List}
use Rattle.cp_tree.specs.Lent.{elements_in}
use Rattle.cp_tree.specs.Node.{Node, null, struct, list, ptrs, structs, Nodes}
use Rattle.cp_tree.specs.NodeOf.{nodes_of, bodies_of}
use Rattle.cp_fields.specs.declared.constant.Constant.{Constant, fold-Constant}
use Rattle.cp_fields.specs.declared.constant.Constant.TheOpen.{Constant-F, ConstantBody-F}
use Rattle.cp_fields.specs.declared.constant.ConstantBody.{ConstantBody, fold-ConstantBody}

-- one level, with each child already seen as its node
abbrev pub constant_step : Constant-F Node (List ℕ × Nodes) → Node
constant_step Constant-F.Null = null
constant_step (Constant-F.Struct b) = struct b.0 b.1
constant_step (Constant-F.List items) = list (elements_in items)
constant_step (Constant-F.Ptrs items) = ptrs (nodes_of items.now)
constant_step (Constant-F.Structs d n items) = structs d n (bodies_of items.now)

abbrev pub constant_body_step : ConstantBody-F Node (List ℕ × Nodes) → List ℕ × Nodes
constant_body_step b = (b.words.now, nodes_of b.ptrs.now)

abbrev pub constant_of : Constant → Node
constant_of = fold-Constant Node (List ℕ × Nodes) constant_step constant_body_step

-- the words of a struct, and its pointers
abbrev pub constant_body_of : ConstantBody → List ℕ × Nodes
constant_body_of = fold-ConstantBody Node (List ℕ × Nodes) constant_step constant_body_step
