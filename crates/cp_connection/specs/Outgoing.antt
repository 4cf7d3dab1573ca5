-- The memory that a connection keeps for what goes out. No public clause names this.
use Rattle.std.specs.Prelude.{◌≡◌, ℕ, ◌≤◌, [], length, vec_capacity}
use Rattle.std.specs.Global.{Vec}

-- the most bytes that a buffer has room for that is kept for later frames: 2 MiB
abbrev pub most_spare : ℕ
most_spare = 2097152

-- the most words that the memory has room for in which messages are laid out: as many bytes
abbrev pub most_words : ℕ
most_words = 262144

-- A front of the block was written. Once all of it was, the block is empty: what is kept for later frames is small, whatever frames went out.
pub record KeepsLittle (written : ℕ) (block : Vec ℕ) (words : Vec ℕ) : Type 0 where
  pub front : written ≤ length block.items
  pub emptied : written ≡ length block.items → block.items ≡ []
  pub spare : block.items ≡ [] → vec_capacity block ≤ most_spare
  pub memory : vec_capacity words ≤ most_words
