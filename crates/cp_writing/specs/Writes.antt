-- What a tree is written as, as bytes, and why it isn't written.
use Rattle.std.specs.Prelude.{◌≡◌, ℕ, ◌<◌, ◌≤◌, List, [], ◌∷◌, length, map, sum}
use Rattle.cp_words.specs.Limits.{Bounds}
use Rattle.cp_tree.specs.Node.{Node, depth, cost}
use Rattle.cp_tree.specs.Shaped.{Shaped}
use Rattle.cp_tree.specs.declared.fault.WriteFault.{WriteFault}
use Rattle.cp_tree.specs.declared.fault.WriteFault.TheVariants as faults
use Rattle.cp_writing.specs.Blocks.{block_of}
use Rattle.cp_writing.specs.Layout.{Capacity, Layout}

-- its depth and its cost are within the limits
abbrev pub FitsIn : Bounds → Node → Type 0
FitsIn limits t = (depth t ≤ limits.nesting) × (cost t ≤ limits.traversal)

-- its depth passes the limit, or else its cost does
abbrev pub IsCostFaultOf : Bounds → Node → WriteFault → Type 0
IsCostFaultOf limits t faults.TooDeep = limits.nesting < depth t
IsCostFaultOf limits t faults.TooCostly = (depth t ≤ limits.nesting) × (limits.traversal < cost t)
IsCostFaultOf limits t other = ⊥

-- or else it has no layout that has only as many words as a frame may have; or memory ran out
abbrev pub IsWriteFaultOf : Bounds → Capacity → Node → WriteFault → Type 0
IsWriteFaultOf limits capacity t faults.TooManyWords = FitsIn limits t × ((S : List (List ℕ)) → Layout S capacity t → limits.frame_words < sum (map length S))
IsWriteFaultOf limits capacity t faults.OutOfMemory = Unit {0}
IsWriteFaultOf limits capacity t fault = IsCostFaultOf limits t fault

-- each tree within the limits that a message can hold has a layout in segments of this size and number
abbrev pub EachHasLayout : Bounds → Capacity → Type 0
EachHasLayout limits capacity = (t : Node) → Shaped t → FitsIn limits t → (S : List (List ℕ)) × Layout S capacity t

-- The bytes are those of the one segment that a tree is laid out in, after zero bytes in the place of a segment table.
pub record AreBytesOf (limits : Bounds) (t : Node) (b : List ℕ) : Type 0 where
  pub words : List ℕ
  pub bytes : b ≡ block_of words
  pub layout : Layout (words ∷ []) (record { words = limits.frame_words; segments = 1 }) t
  pub small : length words ≤ limits.frame_words
