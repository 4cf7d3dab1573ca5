-- Two vats of which the one finishes its question before the Return comes.
use Rattle.std.specs.Prelude.{refl, List, map, Some, None}
use Rattle.std.specs.FinMap.{get}
use Rattle.std.proofs.Common.{ap, ◌∙◌}
use Rattle.test_vat.specs.PairRows.{finish_before_return, EndsWithoutExport}
use Rattle.test_vat.proofs.Known.{get_is}
use Rattle.test_vat.proofs.KnownPairs.{KnownPair, new_pairs, KnownMove, move, find_moves, moves_of, plays, last_known, last_is}

abbrev two_vats : KnownPair
two_vats = new_pairs None (Some 0)

abbrev moves : List KnownMove
moves = moves_of (find_moves two_vats finish_before_return)

pub ends_without_export : EndsWithoutExport
ends_without_export = (
  map move moves,
  plays two_vats finish_before_return refl,
  ap (λ w. get w.second.vat.counts.exports 0) (last_is two_vats moves) ∙ get_is (last_known two_vats moves).second.vat.exports 0,
)
