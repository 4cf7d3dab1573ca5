-- Moves that two vats are to make.
use Rattle.std.specs.Prelude.{◌≡◌, true, List, [], ◌∷◌, map, Some, None}
use Rattle.std.specs.FinMap.{get}
use Rattle.cp_tree.specs.Node.{cap}
use Rattle.cp_messages.specs.declared.descriptor.Descriptor.TheVariants as descriptors
use Rattle.cp_vat_machine.specs.Run.{Moment}
use Rattle.cp_vat_machine.specs.declared.event.Event.TheVariants as events
use Rattle.cp_vat_machine.specs.declared.event.Value.TheVariants as values
use Rattle.cp_vat_pair_laws.specs.VatPair.{VatPair, Side, at_first, at_second, new_pair, Move, Moves, last_of}
use Rattle.test_vat.specs.RowWords.{comes, does, return_message, finish_message, sends, results, bootstrap_comes, bootstrap_does}

-- a move without the pair after it
abbrev pub turn_of : Move → Side × Moment
turn_of move = (move.side, move.moment)

-- moves one after another, at these sides with these answers and effects
abbrev pub Plays : VatPair → List (Side × Moment) → List Move → Type 0
Plays old turns moves = Moves old moves × (map turn_of moves ≡ turns)

-- The first vat asks for the second one's bootstrap object, and finishes the question before its Return comes. The second vat answers, and then
-- the Finish lowers what its Return named. When the Return comes nothing follows.
abbrev pub finish_before_return : List (Side × Moment)
finish_before_return =
    (at_first, bootstrap_does)
    ∷ (at_first, does (events.Finish 0) values.Nothing (sends (finish_message 0 true) ∷ []))
    ∷ (at_second, bootstrap_comes)
    ∷ (at_second, comes (finish_message 0 true) [])
    ∷ (at_first, comes (return_message 0 (results (cap 0) (descriptors.SenderHosted 0 ∷ []))) []) ∷ []

-- At the end the second vat has no export.
abbrev pub EndsWithoutExport : Type 0
EndsWithoutExport =
    (moves : List Move) × Plays (new_pair None (Some 0)) finish_before_return moves
    × (get (last_of (new_pair None (Some 0)) moves).second.vat.counts.exports 0 ≡ None)
