-- Segments while a tree is written into them, and how each step of writing changes them.
use Rattle.std.specs.Prelude.{◌≡◌, ℕ, ◌+◌, ◌-◌, ◌^◌, ◌<◌, ◌≤◌, pos, false, List, [], ◌∷◌, ◌++◌, length, set, slice_index_or, if◌then◌else◌, ◌==◌, nat_le, Result, Ok, Err, IfOk}
use Rattle.cp_words.specs.Word.{word_of}
use Rattle.cp_words.specs.declared.pointer.Pointer.TheVariants as pointers
use Rattle.cp_words.specs.declared.kind.BodyKind.{BodyKind}
use Rattle.cp_words.specs.declared.kind.BodyKind.TheVariants as kinds
use Rattle.cp_words.specs.declared.place.Place.{Place}
use Rattle.cp_tree.specs.declared.fault.WriteFault.{WriteFault}
use Rattle.cp_tree.specs.declared.fault.WriteFault.TheVariants as faults
use Rattle.cp_writing.specs.declared.arena.Arena.{Arena}
use Rattle.cp_writing.specs.declared.arena.Capacity.{Capacity}
use Rattle.cp_writing.specs.Strips.{words_on}
use Rattle.cp_words.specs.Segments.{words_of}
use Rattle.cp_words.specs.Targets.{segment}

-- the segments that are full, the last one, and how many words were counted
pub record Written : Type 0 where
  pub full : List (List ℕ)
  pub last : List ℕ
  pub words : ℕ

abbrev pub written : Arena → Written
written w = record { full = words_of w.full.items; last = words_on w.last; words = w.words }

abbrev pub segments_of : Written → List (List ℕ)
segments_of F = F.full ++ F.last ∷ []

-- where a segment ends
abbrev pub end_of : Written → ℕ → ℕ
end_of F s = length (segment (segments_of F) s)

-- a word is written at a place
abbrev pub put : ℕ → ℕ → ℕ → Written → Written
put s p w F =
    if s == length F.full then record { full = F.full; last = set F.last p w; words = F.words }
    else record { full = set F.full s (set (slice_index_or F.full s []) p w); last = F.last; words = F.words }

-- words are appended to the last segment
abbrev pub append : List ℕ → Written → Written
append ws F = record { full = F.full; last = F.last ++ ws; words = F.words + length ws }

-- a new segment is begun
abbrev pub begin : Written → Written
begin F = record { full = F.full ++ F.last ∷ []; last = []; words = F.words }

-- the word of a pointer to a body that begins this many words after it
abbrev pub body_word : BodyKind → ℕ → ℕ
body_word (kinds.Struct d n) o = word_of (pointers.Struct (pos o) d n)
body_word (kinds.List size n) o = word_of (pointers.List (pos o) size n)

-- a body that a pointer word can name
abbrev pub IsNamed : BodyKind → Type 0
IsNamed (kinds.Struct d n) = (d < 2 ^ 16) × (n < 2 ^ 16) × (0 < d + n)
IsNamed (kinds.List size n) = n < 2 ^ 29

-- what is written, and where a body goes
pub record Placed : Type 0 where
  pub arena : Written
  pub at : Place

-- directly, at the end of its pointer's segment
abbrev pub here : ℕ → ℕ → BodyKind → Written → Placed
here s p k F = record { arena = put s p (body_word k (end_of F s - (p + 1))) F; at = record { segment = s; word = end_of F s } }

-- after a landing pad, at the end of the last segment
abbrev pub after_landing_pad : ℕ → ℕ → BodyKind → Written → Placed
after_landing_pad s p k F =
    record { arena = append (body_word k 0 ∷ []) (put s p (word_of (pointers.Far false (length F.last) (length F.full))) F); at = record { segment = length F.full; word = length F.last + 1 } }

-- how many words a landing pad takes before a body whose pointer is in a segment
abbrev pub landing_pad_for : ℕ → Written → ℕ
landing_pad_for s F = if s == length F.full then 0 else 1

-- what doesn't fit into the last segment begins a new one, where one may be begun
abbrev pub with_segment_for : Capacity → ℕ → ℕ → Written → Written
with_segment_for capacity s size F =
    if size == 0 then F
    else (if nat_le (length F.last + landing_pad_for s F + size) capacity.words then F
    else (if nat_le capacity.segments (length F.full + 1) then F
    else begin F))

abbrev pub place_in : ℕ → ℕ → BodyKind → ℕ → Written → Placed
place_in s p k size F =
    if size == 0 then here s p k F
    else (if s == length F.full then here s p k F
    else after_landing_pad s p k F)

abbrev pub place_by : Capacity → ℕ → ℕ → BodyKind → ℕ → Written → Placed
place_by capacity s p k size F = place_in s p k size (with_segment_for capacity s size F)

-- the same on an arena, of a body whose pointer is at a place
abbrev pub place_on : Arena → Place → BodyKind → ℕ → Placed
place_on w at k size = place_by w.capacity at.segment at.word k size (written w)

-- no more than limits can allow
abbrev pub IsCapacity : Capacity → Type 0
IsCapacity capacity = (0 < capacity.whole) × (capacity.whole ≤ 67108864) × (capacity.words < 2 ^ 32) × (capacity.segments ≤ 512)

-- no more words are counted than may be written, and none that a segment has isn't counted
abbrev pub KeepsTo : Capacity → Written → Type 0
KeepsTo capacity F = IsCapacity capacity × (F.words ≤ capacity.whole) × (length F.full < 512) × ((s : ℕ) → end_of F s ≤ F.words)

-- an arena keeps to its capacity
abbrev pub IsWithin : Arena → Type 0
IsWithin w = KeepsTo w.capacity (written w)

-- the capacity of an arena and its budget stay
abbrev pub SameLimits : Arena → Arena → Type 0
SameLimits old new = (new.capacity ≡ old.capacity) × (new.budget ≡ old.budget)

-- a word was written there
abbrev pub IsPlace : Written → Place → Type 0
IsPlace F at = (at.segment ≤ length F.full) × (at.word < end_of F at.segment)

-- this many words were written from a place on
abbrev pub IsRun : Written → Place → ℕ → Type 0
IsRun F at n = (at.segment ≤ length F.full) × (at.word + n ≤ end_of F at.segment)

-- why no more is written: the words are too many, or memory ran out
abbrev pub Refuses : Capacity → WriteFault → Written → Type 0
Refuses capacity faults.TooManyWords wanted = capacity.whole < wanted.words
Refuses capacity faults.OutOfMemory wanted = Unit {0}
Refuses capacity other wanted = ⊥

-- the words were written and counted, and the limits stay; or no more is written
abbrev pub Writes : {X : Type 0} → Arena → Arena → Result X WriteFault → Written → Type 0
Writes old new (Ok x) wanted = (written new ≡ wanted) × IsWithin new × SameLimits old new
Writes old new (Err e) wanted = Refuses old.capacity e wanted

-- the same of words that are appended
abbrev pub Appends : {X : Type 0} → Arena → Arena → Result X WriteFault → List ℕ → Type 0
Appends old new result ws = Writes old new result (append ws (written old))

-- a body was placed, or its landing pad is one word too many
abbrev pub Places : Arena → Arena → Result Place WriteFault → Placed → Type 0
Places old new result wanted = Writes old new result wanted.arena × IfOk result (λ at. at ≡ wanted.at)
