-- The members of a message that aren't looked into.
use Rattle.std.specs.Prelude.{ℕ, ◌==◌, ◌||◌, ◌&&◌, ltb, Bool}

-- 7, 9 to 12, and past 13: obsolete, of three-party handoff, or unknown
abbrev pub is_other : ℕ → Bool
is_other n = (n == 7) || (ltb 8 n && ltb n 13) || ltb 13 n
