use Rattle.std.proofs.Common.{◌<◌, ℕ, Global, Vec, length, sym}
use Rattle.std.proofs.lemmas.List.{length-map}
use Rattle.cp_words.specs.Segments.{words_of}
use Rattle.cp_reading.proofs.Small.{small_is}
use Rattle.cp_reading.proofs.check.small_root.Goals as goal

pub returns-clause-read : goal.returns-clause-read
returns-clause-read c =
    let exists : 0 < length (words_of c.args.segments.now) = rw (length-map c.args.segments.now (λ (x : Vec ℕ Global). x.items)) c.requires in
    (small_is _ _ _ c.segment_at-words.result.now exists (sym c.segment_at-words.ensures.words) c.if-words-lt4.false c.if-words-ne-ROOT_WORD.false c.if-words-ne-LEAF_WORD.false c.if-nesting-lt2.false c.if-budget-lt5.false).area

pub returns-clause-below : goal.returns-clause-below
returns-clause-below c =
    let exists : 0 < length (words_of c.args.segments.now) = rw (length-map c.args.segments.now (λ (x : Vec ℕ Global). x.items)) c.requires in
    (small_is _ _ _ c.segment_at-words.result.now exists (sym c.segment_at-words.ensures.words) c.if-words-lt4.false c.if-words-ne-ROOT_WORD.false c.if-words-ne-LEAF_WORD.false c.if-nesting-lt2.false c.if-budget-lt5.false).below
