-- Where a pointer word leads. (Encoding specification: "Structs", "Lists", "Inter-Segment Pointers".)
use Rattle.std.specs.Prelude.{◌≡◌, ◌⊎◌, ℕ, ◌+◌, ◌≤◌, ◌<◌, ℤ, pos, ◌+ℤ◌, List, [], length, Some, true, false, take, drop, slice_index, slice_index_or}
use Rattle.cp_words.specs.Word.{pointer_of}
use Rattle.cp_words.specs.declared.pointer.Pointer.{Pointer}
use Rattle.cp_words.specs.declared.pointer.Pointer.TheVariants as pointers
use Rattle.cp_words.specs.declared.kind.BodyKind.{BodyKind}
use Rattle.cp_words.specs.declared.kind.BodyKind.TheVariants as kinds

-- the words of a segment, or none where there is no such segment
abbrev pub segment : List (List ℕ) → ℕ → List ℕ
segment S s = slice_index_or S s []

-- this many words of a segment, from word q on
abbrev pub words_at : List (List ℕ) → ℕ → ℕ → ℕ → List ℕ
words_at S s q n = take n (drop q (segment S s))

-- the pointer at word p of segment s, which is in its segment
abbrev pub Holds : List (List ℕ) → ℕ → ℕ → Pointer → Type 0
Holds S s p r = (p < length (segment S s)) × (pointer_of (slice_index (segment S s) p) ≡ Some r)

-- A struct or list pointer: how far after the word after it its body begins, and what the body is.
abbrev pub IsBodyPointer : Pointer → ℤ → BodyKind → Type 0
IsBodyPointer (pointers.Struct offset d n) o k = (offset ≡ o) × (kinds.Struct d n ≡ k)
IsBodyPointer (pointers.List offset size n) o k = (offset ≡ o) × (kinds.List size n ≡ k)
IsBodyPointer pointers.Null o k = ⊥
IsBodyPointer (pointers.Far double place other) o k = ⊥
IsBodyPointer (pointers.Cap i) o k = ⊥

-- The second word of a landing pad: a struct or list pointer with offset zero. All zero bits are the struct of size zero.
abbrev pub IsLandingPadTag : Pointer → BodyKind → Type 0
IsLandingPadTag pointers.Null k = kinds.Struct 0 0 ≡ k
IsLandingPadTag (pointers.Struct offset d n) k = (offset ≡ pos 0) × (kinds.Struct d n ≡ k)
IsLandingPadTag (pointers.List offset size n) k = (offset ≡ pos 0) × (kinds.List size n ≡ k)
IsLandingPadTag (pointers.Far double place other) k = ⊥
IsLandingPadTag (pointers.Cap i) k = ⊥

-- directly: the word's own body, in its segment
pub record HasTargetHere (S : List (List ℕ)) (s p : ℕ) (k : BodyKind) (start : ℕ) : Type 0 where
  pub pointer : Pointer
  pub offset : ℤ
  pub stands : Holds S s p pointer
  pub says : IsBodyPointer pointer offset k
  pub begins : pos start ≡ pos (p + 1) +ℤ offset

-- by a landing pad of one word, which stands for the pointer
pub record HasTargetByLandingPad (S : List (List ℕ)) (s p : ℕ) (k : BodyKind) (s' start : ℕ) : Type 0 where
  pub place : ℕ
  pub stands : Holds S s p (pointers.Far false place s')
  pub landing_pad : HasTargetHere S s' place k start

-- by a landing pad of two words: where the body begins, and what it is
pub record HasTargetByTwoWords (S : List (List ℕ)) (s p : ℕ) (k : BodyKind) (s' start : ℕ) : Type 0 where
  pub place : ℕ
  pub other : ℕ
  pub pointer : Pointer
  pub stands : Holds S s p (pointers.Far true place other)
  pub first : Holds S other place (pointers.Far false start s')
  pub exists : s' < length S
  pub second : Holds S other (place + 1) pointer
  pub says : IsLandingPadTag pointer k

-- the word leads to a body of this kind, which begins at a word of segment s'
abbrev pub HasTarget : List (List ℕ) → ℕ → ℕ → BodyKind → ℕ → ℕ → Type 0
HasTarget S s p k s' start = (HasTargetHere S s p k start × (s' ≡ s)) ⊎ (HasTargetByLandingPad S s p k s' start ⊎ HasTargetByTwoWords S s p k s' start)

-- the word leads to a body of this many words, which lies wholly inside its segment
pub record HasBody (S : List (List ℕ)) (s p : ℕ) (k : BodyKind) (size s' start : ℕ) : Type 0 where
  pub has_target : HasTarget S s p k s' start
  pub inside : start + size ≤ length (segment S s')
