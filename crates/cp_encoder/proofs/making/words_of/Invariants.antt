use Rattle.std.proofs.Common.{◌≡◌, drop, replicate}
use Rattle.cp_encoder.specs.Values.{with_all_stored}
use Rattle.cp_encoder.proofs.making.words_of.Given as goal

abbrev pub invariant-loop-number : goal.invariant-loop-number
invariant-loop-number l = with_all_stored l.words.items (drop l.number-index l.given) ≡ with_all_stored (replicate l.count 0) l.given
