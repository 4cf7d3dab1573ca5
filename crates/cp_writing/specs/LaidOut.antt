-- What a tree is written as, and the limits that writing it meets. No public clause names these.
use Rattle.std.specs.Prelude.{ℕ, ◌<◌, [], ◌∷◌}
use Rattle.cp_words.specs.Limits.{Bounds}
use Rattle.cp_tree.specs.Node.{Node}
use Rattle.cp_tree.specs.declared.fault.WriteFault.{WriteFault}
use Rattle.cp_tree.specs.declared.fault.WriteFault.TheVariants as faults
use Rattle.cp_writing.specs.declared.arena.Capacity.{Capacity}
use Rattle.cp_writing.specs.Sheets.{Written}
use Rattle.cp_writing.specs.Writing.{tree_by}
use Rattle.cp_writing.specs.Writes.{FitsIn, IsCostFaultOf}

-- at most this many words in a segment, this many segments, and this many words in all as a frame may have
abbrev pub capacity_for : ℕ → ℕ → Bounds → Capacity
capacity_for words segments limits = record { words = words; segments = segments; whole = limits.frame_words }

-- a tree written after a blank word, its pointer, which begins segment 0
abbrev pub laid_out : Capacity → Node → Written
laid_out capacity t = tree_by capacity 0 0 t (record { full = []; last = 0 ∷ []; words = 1 })

-- the depth or the cost of the tree passes the limit, or else the words that are counted do; or memory ran out
abbrev pub MeetsLimit : Bounds → Capacity → Node → WriteFault → Type 0
MeetsLimit limits capacity t faults.TooManyWords = FitsIn limits t × (limits.frame_words < (laid_out capacity t).words)
MeetsLimit limits capacity t faults.OutOfMemory = Unit {0}
MeetsLimit limits capacity t fault = IsCostFaultOf limits t fault
