-- Counts that stay at the greatest u64.
use Rattle.std.specs.Prelude.{◌≡◌, ℕ, ◌+◌, ◌-◌, ◌^◌, min}

-- a count goes on from another by this many, and stays at the greatest u64
abbrev pub CountsMore : ℕ → ℕ → ℕ → Type 0
CountsMore old k new = (n : ℕ) → old ≡ min n (2 ^ 64 - 1) → new ≡ min (n + k) (2 ^ 64 - 1)
