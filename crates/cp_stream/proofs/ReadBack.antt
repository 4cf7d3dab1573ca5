-- What a tree is laid into is read as that tree.
use Rattle.std.proofs.Common.{◌≡◌, ℕ, ◌≤◌, List}
use Rattle.cp_words.specs.Limits.{Bounds}
use Rattle.cp_reading.specs.Denotes.{Root}
use Rattle.cp_writing.specs.Layout.{Capacity, Layout}
use Rattle.cp_tree.specs.Node.{Node, depth, cost, IsStruct}
use Rattle.cp_tree.specs.Shaped.{Shaped}
use Rattle.cp_reading.proofs.OneTree.{denotes_one}
use Rattle.cp_stream.proofs.LayoutDenotes.{layout_denotes}

pub laid_root : (S : List (List ℕ)) (capacity : Capacity) (limits : Bounds) (t : Node) → Shaped t → IsStruct t → depth t ≤ limits.nesting → cost t ≤ limits.traversal → Layout S capacity t → Root S limits t
laid_root S capacity limits t shaped struct' deep dear l = record { denoted = layout_denotes S capacity t shaped l; is_struct = struct'; not_deeper = deep; not_dearer = dear }

pub laid_one : (S : List (List ℕ)) (capacity : Capacity) (limits : Bounds) (t u : Node) → Shaped t → Layout S capacity t → Root S limits u → u ≡ t
laid_one S capacity limits t u shaped l r = denotes_one S 0 0 u t r.denoted (layout_denotes S capacity t shaped l)
