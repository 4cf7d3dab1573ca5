-- What is put into a buffer of the caller's.
use Rattle.std.specs.Prelude.{◌≡◌, ℕ, ◌<◌, ◌≤◌, min, List, ◌++◌, length, take, drop}

-- what fits of these at the front, and the rest as it was
abbrev pub over : {A : Type 0} → List A → List A → List A
over items buffer = take (length buffer) items ++ drop (length items) buffer

-- how many of these fit
abbrev pub fits : {A : Type 0} → List A → List A → ℕ
fits items buffer = min (length items) (length buffer)

-- What fits of the items from a place on was put into the buffer, or nothing, where the place is past their end.
pub record Copies (items : List ℕ) (from : ℕ) (old new : List ℕ) (number : ℕ) : Type 0 where
  pub inside : from ≤ length items → (new ≡ over (drop from items) old) × (number ≡ fits (drop from items) old)
  pub past : length items < from → (new ≡ old) × (number ≡ 0)
