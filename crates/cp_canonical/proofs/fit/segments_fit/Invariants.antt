use Rattle.std.proofs.Common.{All, take}
use Rattle.cp_words.specs.Segments.{words_of}
use Rattle.cp_tree.specs.Shaped.{AllFit}
use Rattle.cp_canonical.proofs.fit.segments_fit.Given as goal

abbrev pub invariant-loop-words : goal.invariant-loop-words
invariant-loop-words l = All (AllFit 64) (words_of (take l.words-index l.segments))
