-- The words of a segment as bytes, after zero bytes in the place of the segment table of one segment.
use Rattle.std.specs.Prelude.{◌≡◌, ℕ, List, ◌++◌, drop, replicate}
use Rattle.cp_packed.specs.Words.{AreWords, bytes_of, words_in}

-- eight zero bytes, and the bytes of the words
abbrev pub block_of : List ℕ → List ℕ
block_of ws = replicate 8 0 ++ bytes_of ws

abbrev pub words_of_block : List ℕ → List ℕ
words_of_block b = words_in (drop 8 b)

-- the bytes are those of the words that they hold
pub record IsBlock (b : List ℕ) : Type 0 where
  pub is : b ≡ block_of (words_of_block b)
  pub words : AreWords (words_of_block b)
