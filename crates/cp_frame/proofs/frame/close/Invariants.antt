use Rattle.std.proofs.Common.{◌≡◌, ◌-◌, vec_len}
use Rattle.cp_frame.specs.Parts.{halves, Fills, body}
use Rattle.cp_words.specs.Segments.{words_of}
use Rattle.cp_frame.specs.Stream.{named_sizes}
use Rattle.cp_frame.proofs.frame.close.Given as goal

abbrev pub invariant-closing : goal.invariant-closing
invariant-closing l = record {
  fills : Fills (named_sizes (halves l.table)) (words_of l.segments.items) l.words.items;
  same : body (words_of l.segments.items) l.words.items ≡ body (words_of l.initial.segments.items) l.initial.words.items;
}

abbrev pub decreases-closing : goal.decreases-closing
decreases-closing l = l.count - vec_len l.segments
