-- Counts of bytes.
use Rattle.std.specs.Prelude.{◌≡◌, ℕ, ◌+◌, ◌-◌}
use Rattle.cp_refs.specs.Memory.{counted}

-- the count is higher, or lower, by the number that these bytes are counted for
abbrev pub RisesBy : ℕ → ℕ → ℕ → Type 0
RisesBy old bytes new = (n : ℕ) → bytes ≡ counted n → new ≡ old + n

abbrev pub FallsBy : ℕ → ℕ → ℕ → Type 0
FallsBy old bytes new = (n : ℕ) → bytes ≡ counted n → new ≡ old - n
