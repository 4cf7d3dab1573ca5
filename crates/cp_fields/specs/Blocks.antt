-- Bytes of words, tested block by block.
use Rattle.std.specs.Prelude.{ℕ, if◌then◌else◌, nat_lt, List}
use Rattle.cp_tree.specs.Elements.{element}

-- byte k of the words, and zero from a number on
abbrev pub byte_before : List ℕ → ℕ → ℕ → ℕ
byte_before ws end k = if nat_lt k end then element ws 8 k else 0
