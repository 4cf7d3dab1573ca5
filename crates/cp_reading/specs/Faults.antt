-- What a fault of reading says.
use Rattle.std.specs.Prelude.{◌≡◌, ◌⊎◌, ℕ, ◌+◌, ◌*◌, ◌≤◌, ◌<◌, ℤ, pos, ◌+ℤ◌, ◌<ℤ◌, List, length, Bool, Some, None, true, false, slice_index}
use Rattle.cp_words.specs.Limits.{Bounds}
use Rattle.cp_words.specs.Word.{pointer_of, tag_of, words_for}
use Rattle.cp_words.specs.declared.pointer.ElementSize.{ElementSize}
use Rattle.cp_words.specs.declared.pointer.ElementSize.TheVariants as sizes
use Rattle.cp_words.specs.declared.pointer.Pointer.{Pointer}
use Rattle.cp_words.specs.declared.pointer.Pointer.TheVariants as pointers
use Rattle.cp_words.specs.declared.pointer.Tag.{Tag}
use Rattle.cp_words.specs.declared.kind.BodyKind.{BodyKind}
use Rattle.cp_words.specs.declared.kind.BodyKind.TheVariants as kinds
use Rattle.cp_words.specs.declared.place.Place.{Place}
use Rattle.cp_reading.specs.declared.fault.TreeFault.{TreeFault}
use Rattle.cp_reading.specs.declared.fault.TreeFault.TheVariants as faults
use Rattle.cp_tree.specs.Node.{Node, depth, cost}
use Rattle.cp_words.specs.Targets.{segment, Holds, IsBodyPointer, IsLandingPadTag, HasTarget, HasBody}
use Rattle.cp_reading.specs.Pruned.{Pruned, IsReachable}

-- the words that a body of this kind takes, a composite list's tag included
abbrev pub kind_words : BodyKind → ℕ
kind_words (kinds.Struct d n) = d + n
kind_words (kinds.List size n) = words_for size n

-- word p of segment s is inside, and says nothing that a body has
abbrev pub IsNoBody : List (List ℕ) → ℕ → ℕ → Type 0
IsNoBody S s p = (p < length (segment S s)) × ((r : Pointer) (o : ℤ) (k : BodyKind) → pointer_of (slice_index (segment S s) p) ≡ Some r → IsBodyPointer r o k → ⊥)

-- G7: the word is a capability word with a bit that should be zero
abbrev pub HasBadCapability : List (List ℕ) → ℕ → ℕ → Type 0
HasBadCapability S s p = pointer_of (slice_index (segment S s) p) ≡ None

-- G4: the word is a far pointer to a segment that doesn't exist; or it has a landing pad of two words, which names one
abbrev pub NamesNoSegment : List (List ℕ) → ℕ → ℕ → Type 0
NamesNoSegment S s p =
    ((double : Bool) × (place : ℕ) × (other : ℕ) × Holds S s p (pointers.Far double place other) × (length S ≤ other))
    ⊎ ((place : ℕ) × (other : ℕ) × (start : ℕ) × (s' : ℕ) × (r : Pointer) × (k : BodyKind) × Holds S s p (pointers.Far true place other)
    × Holds S other place (pointers.Far false start s') × Holds S other (place + 1) r × IsLandingPadTag r k × (length S ≤ s'))

-- G5: the word is a far pointer whose landing pad is inside, and hasn't the form of one
abbrev pub HasBadPad : List (List ℕ) → ℕ → ℕ → Type 0
HasBadPad S s p =
    ((place : ℕ) × (other : ℕ) × Holds S s p (pointers.Far false place other) × IsNoBody S other place)
    ⊎ ((place : ℕ) × (other : ℕ) × Holds S s p (pointers.Far true place other) × (place + 1 < length (segment S other))
    × ((start s' : ℕ) (r : Pointer) (k : BodyKind) → pointer_of (slice_index (segment S other) place) ≡ Some (pointers.Far false start s') → pointer_of (slice_index (segment S other) (place + 1)) ≡ Some r → IsLandingPadTag r k → ⊥))

-- the word is a struct or list pointer whose body would begin before its segment
abbrev pub StartsBefore : List (List ℕ) → ℕ → ℕ → Type 0
StartsBefore S s p = (r : Pointer) × (o : ℤ) × (k : BodyKind) × Holds S s p r × IsBodyPointer r o k × ((pos (p + 1) +ℤ o) <ℤ pos 0)

-- G3: the landing pad of a far pointer isn't inside its segment, which exists; or the body begins before its segment, or
-- ends after it; or a composite list's elements take more words than it has.
abbrev pub IsOutOfBounds : List (List ℕ) → ℕ → ℕ → Type 0
IsOutOfBounds S s p =
    ((place : ℕ) × (other : ℕ) × Holds S s p (pointers.Far false place other) × (other < length S) × (length (segment S other) ≤ place))
    ⊎ (((place : ℕ) × (other : ℕ) × Holds S s p (pointers.Far true place other) × (other < length S) × (length (segment S other) ≤ place + 1))
    ⊎ ((StartsBefore S s p ⊎ ((place : ℕ) × (other : ℕ) × Holds S s p (pointers.Far false place other) × StartsBefore S other place))
    ⊎ (((k : BodyKind) × (s' : ℕ) × (start : ℕ) × HasTarget S s p k s' start × (length (segment S s') < start + kind_words k))
    ⊎ ((size : ℕ) × (s' : ℕ) × (tag : ℕ) × (g : Tag) × HasTarget S s p (kinds.List sizes.Composite size) s' tag
    × (tag_of (slice_index (segment S s') tag) ≡ Some g) × (size < g.count * (g.words + g.ptrs))))))

-- G6: the word has a composite list, wholly inside its segment, whose tag isn't laid out as a struct pointer
abbrev pub HasBadTag : List (List ℕ) → ℕ → ℕ → Type 0
HasBadTag S s p = (size : ℕ) × (s' : ℕ) × (tag : ℕ) × HasBody S s p (kinds.List sizes.Composite size) (size + 1) s' tag × (tag_of (slice_index (segment S s') tag) ≡ None)

-- A fault with a place names a reachable word that has it. One of a limit says that something is too deep, or too dear.
abbrev pub FaultBy : List (List ℕ) → Type 0 → Type 0 → TreeFault → Type 0
FaultBy S deep dear (faults.OutOfBounds at) = IsReachable S at.segment at.word × IsOutOfBounds S at.segment at.word
FaultBy S deep dear (faults.NoSegment at) = IsReachable S at.segment at.word × NamesNoSegment S at.segment at.word
FaultBy S deep dear (faults.BadPad at) = IsReachable S at.segment at.word × HasBadPad S at.segment at.word
FaultBy S deep dear (faults.BadTag at) = IsReachable S at.segment at.word × HasBadTag S at.segment at.word
FaultBy S deep dear (faults.BadCapability at) = IsReachable S at.segment at.word × HasBadCapability S at.segment at.word
FaultBy S deep dear (faults.NestingLimit at) = IsReachable S at.segment at.word × deep
FaultBy S deep dear (faults.TraversalLimit at) = IsReachable S at.segment at.word × dear
FaultBy S deep dear other = ⊥

-- the place of the root's pointer word
abbrev pub IsRootPlace : Place → Type 0
IsRootPlace at = (at.segment ≡ 0) × (at.word ≡ 0)

-- the root is none, or null
abbrev pub HasNoRoot : List (List ℕ) → Type 0
HasNoRoot S = (length (segment S 0) ≡ 0) ⊎ Holds S 0 0 pointers.Null

-- the root is a capability; or its word, or the word of its landing pad that says what the body is, is a list pointer
abbrev pub RootIsNoStruct : List (List ℕ) → Type 0
RootIsNoStruct S =
    ((i : ℕ) × Holds S 0 0 (pointers.Cap i))
    ⊎ ((o : ℤ) × (size : ElementSize) × (n : ℕ) × (Holds S 0 0 (pointers.List o size n)
    ⊎ (((place : ℕ) × (other : ℕ) × Holds S 0 0 (pointers.Far false place other) × Holds S other place (pointers.List o size n))
    ⊎ ((place : ℕ) × (other : ℕ) × (start : ℕ) × (s' : ℕ) × Holds S 0 0 (pointers.Far true place other) × Holds S other place (pointers.Far false start s') × (s' < length S)
    × Holds S other (place + 1) (pointers.List o size n) × (o ≡ pos 0)))))

-- What a fault of reading a message says: G1 and G2 of its root, whose place is named, G3 to G7 of a reachable word, G8
-- that a pruned tree is deeper than the limit, G9 that one costs more.
abbrev pub IsFaultOf : List (List ℕ) → Bounds → TreeFault → Type 0
IsFaultOf S limits (faults.NoRoot at) = IsRootPlace at × HasNoRoot S
IsFaultOf S limits (faults.RootKind at) = IsRootPlace at × RootIsNoStruct S
IsFaultOf S limits e = FaultBy S ((t : Node) × Pruned S t × (limits.nesting < depth t)) ((t : Node) × Pruned S t × (limits.traversal < cost t)) e
