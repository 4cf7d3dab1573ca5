-- The limits that reading and writing keep to.
use Rattle.std.specs.Prelude.{ℕ, ◌<◌, ◌≤◌}

-- Levels of nesting, words of traversal, segments of a frame, and words of all its segments together.
pub record Bounds : Type 0 where
  pub nesting : ℕ
  pub traversal : ℕ
  pub segments : ℕ
  pub frame_words : ℕ

-- None is zero or past the greatest that is allowed, and a frame may hold what may be gone over.
pub record IsAllowed (b : Bounds) : Type 0 where
  pub nests : 0 < b.nesting
  pub nests_little : b.nesting ≤ 256
  pub goes : 0 < b.traversal
  pub holds : b.traversal ≤ b.frame_words
  pub holds_little : b.frame_words ≤ 67108864
  pub some : 0 < b.segments
  pub few : b.segments ≤ 512

-- the limits where nothing else is asked for
abbrev pub standard : Bounds
standard = record { nesting = 64; traversal = 8388608; segments = 512; frame_words = 8388608 }
