-- Lists of what pointers stand for.
use Rattle.std.specs.Prelude.{◌≡◌, List, [], ◌∷◌, ◌++◌}
use Rattle.cp_tree.specs.Node.{Node, ptrs}
use Rattle.cp_tree.specs.NodeOf.{nodes_of}

-- the list of pointers to these
abbrev pub pointers_tree : List Node → Node
pointers_tree items = ptrs (nodes_of items)

-- trees, and one more at their end of which this holds
abbrev pub AddsOne : (Node → Type 0) → List Node → List Node → Type 0
AddsOne stands old new = (t : Node) × stands t × (new ≡ old ++ t ∷ [])
