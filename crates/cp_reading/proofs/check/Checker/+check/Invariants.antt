use Rattle.std.proofs.Common.{◌≡◌, ℕ, ◌+◌, ◌*◌, ◌≤◌}
use Rattle.cp_words.specs.Segments.{words_of}
use Rattle.cp_reading.specs.Reading.{rows_at, bodies_by}
use Rattle.cp_reading.specs.Visited.{passed, pointers_of_row, pointers_of_bodies}
use Rattle.cp_reading.proofs.check.Checker.+check.Given as goal

abbrev pub decreases-check_body : goal.decreases-check_body
decreases-check_body g l = 8 * l.depth

abbrev pub decreases-check_any : goal.decreases-check_any
decreases-check_any g l = 8 * l.depth + 1

abbrev pub decreases-check_word : goal.decreases-check_word
decreases-check_word g l = 8 * l.depth + 2

abbrev pub decreases-check_words : goal.decreases-check_words
decreases-check_words g l = 8 * l.depth + 3

abbrev pub decreases-check_row : goal.decreases-check_row
decreases-check_row g l = 8 * l.depth + 4

abbrev pub decreases-check_ptrs : goal.decreases-check_ptrs
decreases-check_ptrs g l = 8 * l.depth + 5

abbrev pub decreases-check_elements : goal.decreases-check_elements
decreases-check_elements g l = 8 * l.depth + 6

abbrev pub decreases-check_parts : goal.decreases-check_parts
decreases-check_parts g l = 8 * l.depth + 7

-- What is left of the row, read from here on, comes to what the whole row comes to. No more words were visited than those
-- before here and what was paid for.
abbrev pub invariant-check_words-loop-i : goal.invariant-check_words-loop-i
invariant-check_words-loop-i g l =
    (n : ℕ) × (l.i + n ≡ l.count)
    × (passed pointers_of_row l.self.visits.now (rows_at l.depth (words_of l.initial.self.segments.now) l.first.segment n (l.first.word + l.i) l.self.budget) ≡ passed pointers_of_row l.initial.self.visits.now (rows_at l.depth (words_of l.initial.self.segments.now) l.first.segment l.count l.first.word l.initial.self.budget))
    × (l.self.visits.now + l.self.budget ≤ l.initial.self.visits.now + l.i + l.initial.self.budget)
    × (l.self.segments ≡ l.initial.self.segments) × (l.self.visits.ghost_name ≡ l.initial.self.visits.ghost_name)

-- The elements from here on, likewise.
abbrev pub invariant-check_elements-loop-i : goal.invariant-check_elements-loop-i
invariant-check_elements-loop-i g l =
    (n : ℕ) × (l.i + n ≡ l.count) × (l.start + n * (l.words + l.ptrs) ≡ l.first.word + l.count * (l.words + l.ptrs))
    × (passed pointers_of_bodies l.self.visits.now (bodies_by (rows_at l.depth (words_of l.initial.self.segments.now) l.first.segment) (words_of l.initial.self.segments.now) l.first.segment l.words l.ptrs n l.start l.self.budget)
    ≡ passed pointers_of_bodies l.initial.self.visits.now (bodies_by (rows_at l.depth (words_of l.initial.self.segments.now) l.first.segment) (words_of l.initial.self.segments.now) l.first.segment l.words l.ptrs l.count l.first.word l.initial.self.budget))
    × (l.self.visits.now + n * (l.words + l.ptrs) + l.self.budget ≤ l.initial.self.visits.now + l.count * (l.words + l.ptrs) + l.initial.self.budget)
    × (l.self.segments ≡ l.initial.self.segments) × (l.self.visits.ghost_name ≡ l.initial.self.visits.ghost_name)
