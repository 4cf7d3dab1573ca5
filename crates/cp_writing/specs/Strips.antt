-- The words of a segment while it is written.
use Rattle.std.specs.Prelude.{ℕ, List}
use Rattle.cp_writing.specs.declared.strip.Strip.{Strip}
use Rattle.cp_writing.specs.declared.strip.Strip.TheVariants as strips

-- the words of a strip, in either form
abbrev pub words_on : Strip → List ℕ
words_on (strips.Words v) = v.items
words_on (strips.Bytes ws) = ws
