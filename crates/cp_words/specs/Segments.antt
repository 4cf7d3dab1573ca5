-- The segments of a message, as lists of words.
use Rattle.std.specs.Prelude.{ℕ, List, [], ◌∷◌, map, Vec}
use Rattle.std.specs.declared.alloc.Global.{Global}
use Rattle.cp_words.specs.declared.segments.SegmentList.{SegmentList}

-- the words of segments, without where they lie in memory
abbrev pub words_of : List (Vec ℕ Global) → List (List ℕ)
words_of segments = map (λ v. v.items) segments

-- the words of the segments that are held
abbrev pub words_held : SegmentList → List (List ℕ)
words_held (SegmentList.One words) = words.items ∷ []
words_held (SegmentList.Many segments) = words_of segments.items
