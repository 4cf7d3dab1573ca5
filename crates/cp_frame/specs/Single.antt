-- A frame of one segment that has come whole. No public clause names these.
use Rattle.std.specs.Prelude.{◌≡◌, ℕ, ◌+◌, ◌*◌, ◌^◌, ◌<◌, ◌≤◌, List, [], ◌∷◌, ◌++◌, length, take}
use Rattle.std.specs.Int.{to_le_bytes, w64}
use Rattle.cp_words.specs.Limits.{Bounds}
use Rattle.cp_frame.specs.declared.mode.Mode.TheVariants as modes
use Rattle.cp_frame.specs.declared.frame.OpenFrame.{OpenFrame}
use Rattle.cp_packed.specs.Words.{AreWords, bytes_of}
use Rattle.cp_frame.specs.Frame.{Frame}
use Rattle.cp_frame.specs.Parts.{IsOpen, NamesLittle, rest_of}
use Rattle.cp_frame.specs.Stream.{numbers}
use Rattle.cp_frame.specs.declared.rest.Rest.{Rest}
use Rattle.cp_packed.specs.Unpacking.{nothing, after, given, laid, pending_of}

-- The bytes begin with a table of one segment, of a size within the limits, and its words have come.
pub record BeginsWithOne (limits : Bounds) (bytes : List ℕ) (size : ℕ) : Type 0 where
  pub table : to_le_bytes w64 (2 ^ 32 * size) ≡ take 8 bytes
  pub one : 1 ≤ limits.segments
  pub small : size ≤ limits.frame_words
  pub fits : size < 2 ^ 32
  pub there : 8 + 8 * size ≤ length bytes

-- The bytes are a frame and what follows it.
pub record TakesWhole (limits : Bounds) (bytes : List ℕ) (taken : ℕ) (S : List (List ℕ)) (back : List ℕ) : Type 0 where
  pub front : List ℕ
  pub whole : bytes ≡ front ++ back
  pub count : taken ≡ length front
  pub frame : Frame modes.Plain limits S front
  pub shorter : length back < length bytes

-- The table is one word, of one segment with this size within the limits.
pub record IsOne (limits : Bounds) (table : List ℕ) (size : ℕ) : Type 0 where
  pub word : table ≡ 2 ^ 32 * size ∷ []
  pub one : 1 ≤ limits.segments
  pub small : size ≤ limits.frame_words
  pub fits : size < 2 ^ 32

-- Of a frame of which nothing had come packed bytes were taken, with the words that they bring.
pub record TakesTable (limits : Bounds) (left : List ℕ) (new : OpenFrame) (back : List ℕ) : Type 0 where
  pub front : List ℕ
  pub whole : left ≡ front ++ back
  pub are_words : AreWords (given nothing front)
  pub words : rest_of new ≡ bytes_of (given nothing front)
  pub open_then : after nothing front ≡ nothing
  pub no_part : new.part.items ≡ []
  pub begun : IsOpen limits new
  pub little : NamesLittle limits (numbers (rest_of new ++ []))

-- The frame is open, and its table has no fault with what is laid of it.
abbrev pub IsStillOpen : Bounds → Rest → Type 0
IsStillOpen limits r = IsOpen limits r.frame × NamesLittle limits (numbers (rest_of r.frame ++ laid (pending_of r.group)))
