-- The lanes that two vats make.
use Rattle.std.specs.Prelude.{refl, List, [], ◌∷◌, map, Some}
use Rattle.cp_vat_pair_laws.specs.VatPair.{at_first}
use Rattle.test_vat.specs.LaneRows.{given_reference, lane_of_three_calls, lane_without_embargo, lane_again, ThreeInOrder, LaneOfThreeCalls, LaneWithoutEmbargo, LaneAgain}
use Rattle.test_vat.proofs.KnownPairs.{KnownPair, new_pairs, KnownMove, move, find_moves, moves_of, last_known, last_is}
use Rattle.test_vat.proofs.Delivering.{is_lane}

abbrev begun : KnownPair
begun = new_pairs (Some 0) (Some 0)

abbrev three : List KnownMove
three = moves_of (find_moves begun lane_of_three_calls)

three_in_order : ThreeInOrder (map move three)
three_in_order = is_lane begun lane_of_three_calls at_first given_reference 3 (1 ∷ 2 ∷ 3 ∷ []) refl refl

pub in_order : LaneOfThreeCalls
in_order = (map move three, three_in_order)

pub without_embargo : LaneWithoutEmbargo
without_embargo = (map move (moves_of (find_moves begun lane_without_embargo)), is_lane begun lane_without_embargo at_first given_reference 3 (1 ∷ 2 ∷ 3 ∷ []) refl refl)

-- the same pair after the three calls
abbrev past_three : KnownPair
past_three = last_known begun three

pub again : LaneAgain
again = (
  map move three,
  map move (moves_of (find_moves past_three lane_again)),
  three_in_order,
  is_lane past_three lane_again at_first given_reference 4 (7 ∷ 8 ∷ 9 ∷ []) (last_is begun three) refl,
)
