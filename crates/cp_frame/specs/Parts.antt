-- What has come of a frame, in parts. No public clause names these.
use Rattle.std.specs.Prelude.{if◌then◌else◌, ◌==◌, ◌≡◌, ◌⊎◌, ℕ, ◌+◌, ◌/◌, ◌%◌, ◌^◌, ◌<◌, ◌≤◌, List, [], ◌∷◌, ◌++◌, length, sum, take, slice_index, Option, Some, None}
use Rattle.std.specs.List.{AllByRecursion, flat_map}
use Rattle.cp_words.specs.Limits.{Bounds}
use Rattle.cp_words.specs.Segments.{words_of}
use Rattle.cp_frame.specs.declared.fault.FrameFault.{FrameFault}
use Rattle.cp_frame.specs.declared.fault.FrameFault.TheVariants as faults
use Rattle.cp_frame.specs.declared.frame.OpenFrame.{OpenFrame}
use Rattle.cp_frame.specs.declared.spare.Spare.{Spare}
use Rattle.cp_frame.specs.Framed.{sizes_of}
use Rattle.cp_packed.specs.Words.{AreWords, bytes_of}
use Rattle.cp_frame.specs.Stream.{numbers, named_sizes, NamesFault}
use Rattle.std.specs.Int.{to_le_bytes, w64}

-- the halves of words, the lower of each first
abbrev pub halves : List ℕ → List ℕ
halves [] = []
halves (w ∷ ws) = w % 2 ^ 32 ∷ w / 2 ^ 32 ∷ halves ws

-- how many segments a table has
abbrev pub count_of : List ℕ → ℕ
count_of table = slice_index table 0 % 2 ^ 32 + 1

-- all segments are whole; or what has come ends inside one, of which these are the words
abbrev pub EndsInOne : {A : Type 0} → List ℕ → List A → List ℕ → Type 0
EndsInOne table segments words = (length segments ≡ count_of table) ⊎ (length words < slice_index (named_sizes (halves table)) (length segments))

-- all words of the table have come
abbrev pub IsWholeTable : List ℕ → Type 0
IsWholeTable table = count_of table / 2 < length table

-- the numbers of a table are within the limits so far
abbrev pub NamesLittle : Bounds → List ℕ → Type 0
NamesLittle limits [] = Unit {0}
NamesLittle limits (last ∷ sizes) = (last + 1 ≤ limits.segments) × (sum (take (last + 1) sizes) ≤ limits.frame_words)

-- the words of a table so far, without a fault, and the sizes that they name together
pub record IsTable (limits : Bounds) (table : List ℕ) (total : ℕ) : Type 0 where
  pub are_words : AreWords table
  pub little : NamesLittle limits (halves table)
  pub sums : total ≡ sum (named_sizes (halves table))
  pub no_longer : length table ≤ count_of table / 2 + 1
  pub few : count_of table ≤ 512
  pub fits : total < 2 ^ 32

-- The segments before it are whole, and the next has no more words than it should.
pub record Fills (sizes : List ℕ) (S : List (List ℕ)) (ws : List ℕ) : Type 0 where
  pub each : AllByRecursion AreWords S
  pub are_words : AreWords ws
  pub sized : sizes_of S ≡ take (length S) sizes
  pub some : length S ≤ length sizes
  pub fitting : length ws ≤ slice_index sizes (length S)

-- the bytes of the segments before it and of the next
abbrev pub body : List (List ℕ) → List ℕ → List ℕ
body S ws = flat_map bytes_of S ++ bytes_of ws

-- An error is an allocation failure, or a fault of the table.
abbrev pub IsFaultOf : Bounds → List ℕ → FrameFault → Type 0
IsFaultOf limits ns faults.OutOfMemory = Unit {0}
IsFaultOf limits ns fault = NamesFault limits ns fault

-- all that has come of a frame
abbrev pub rest_of : OpenFrame → List ℕ
rest_of f = (bytes_of f.table.items ++ body (words_of f.segments.items) f.words.items) ++ f.part.items

-- A part of the segment table has come.
pub record InTable (limits : Bounds) (f : OpenFrame) : Type 0 where
  pub table : IsTable limits f.table.items f.total
  pub goes_on : length f.table.items ≤ count_of f.table.items / 2
  pub no_segments : f.segments.items ≡ []
  pub no_words : f.words.items ≡ []
  pub short : length f.part.items < 8
  pub little : NamesLittle limits (halves f.table.items ++ numbers f.part.items)

-- The segment table has come, and a part of the segments.
pub record InSegments (limits : Bounds) (f : OpenFrame) : Type 0 where
  pub table : IsTable limits f.table.items f.total
  pub whole : IsWholeTable f.table.items
  pub fills : Fills (named_sizes (halves f.table.items)) (words_of f.segments.items) f.words.items
  pub goes_on : length f.words.items < slice_index (named_sizes (halves f.table.items)) (length f.segments.items)
  pub short : length f.part.items < 8

-- All segments have come.
pub record IsComplete (limits : Bounds) (f : OpenFrame) : Type 0 where
  pub table : IsTable limits f.table.items f.total
  pub whole : IsWholeTable f.table.items
  pub fills : Fills (named_sizes (halves f.table.items)) (words_of f.segments.items) f.words.items
  pub all : length f.segments.items ≡ count_of f.table.items
  pub no_part : f.part.items ≡ []

abbrev pub IsOpen : Bounds → OpenFrame → Type 0
IsOpen limits f = InTable limits f ⊎ InSegments limits f

-- Nothing has come.
pub record IsEmpty (f : OpenFrame) : Type 0 where
  pub table : f.table.items ≡ []
  pub total : f.total ≡ 0
  pub segments : f.segments.items ≡ []
  pub words : f.words.items ≡ []
  pub part : f.part.items ≡ []

-- Bytes were taken for a word: all of them, and it isn't whole; or it is, and some are left.
abbrev pub Takes : List ℕ → List ℕ → List ℕ → Option ℕ → List ℕ → Type 0
Takes old left new None back = (new ≡ old ++ left) × (length new < 8) × (back ≡ [])
Takes old left new (Some w) back = (new ≡ []) × (w < 2 ^ 64) × (old ++ left ≡ to_le_bytes w64 w ++ back)

-- A part of the frame has come, or all of it.
abbrev pub IsBegun : Bounds → OpenFrame → Type 0
IsBegun limits f = IsOpen limits f ⊎ IsComplete limits f

-- how many words a frame has at the least, by what has come of its table
abbrev pub least_words : OpenFrame → ℕ
least_words f = (if length f.table.items == 0 then 0 else count_of f.table.items / 2) + 1 + f.total

-- how many words are kept
abbrev pub kept_words : OpenFrame → ℕ
kept_words f = length f.table.items + sum (sizes_of (words_of f.segments.items)) + length f.words.items

-- the same frame, with another buffer for the next
abbrev pub with_spare : OpenFrame → Spare → OpenFrame
with_spare f spare = record { table = f.table; total = f.total; segments = f.segments; words = f.words; part = f.part; spare = spare }
