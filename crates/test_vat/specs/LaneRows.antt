-- Moves of two vats whose calls on a promise are delivered where it leads, in the order in which they were made.
use Rattle.std.specs.Prelude.{◌≡◌, ℕ, false, List, [], ◌∷◌, ◌++◌, map, Some}
use Rattle.cp_tree.specs.Node.{cap}
use Rattle.cp_messages.specs.declared.descriptor.Descriptor.TheVariants as descriptors
use Rattle.cp_messages.specs.declared.disembargo.DisembargoContext.TheVariants as contexts
use Rattle.cp_messages.specs.declared.message.Message.{Message}
use Rattle.cp_messages.specs.declared.target.Target.{Target}
use Rattle.cp_refs.specs.declared.cap.Cap.{Cap}
use Rattle.cp_refs.specs.declared.cap.Cap.TheVariants as caps
use Rattle.cp_refs.specs.declared.call.Origin.TheVariants as origins
use Rattle.cp_refs.specs.declared.outcome.Outcome.TheVariants as outcomes
use Rattle.cp_vat_machine.specs.Run.{Moment}
use Rattle.cp_vat_machine.specs.declared.effect.Effect.TheVariants as effects
use Rattle.cp_vat_machine.specs.declared.event.Event.TheVariants as events
use Rattle.cp_vat_machine.specs.declared.event.Value.TheVariants as values
use Rattle.cp_vat_pair_laws.specs.VatPair.{VatPair, Side, at_first, at_second, end_of, new_pair, Move, last_of, AreOpen, AreQuiet}
use Rattle.cp_vat_pair_laws.specs.Lane.{Reference, path_to, CameTo, made, Delivery, delivered_on}
use Rattle.test_vat.specs.RowWords.{comes, does, call_message, return_message, finish_message, release_message, disembargo_message, sends, on_import, on_answer, on_whole_answer, results, one_object, request, small_request, small_call, bootstrap_comes, bootstrap_does}
use Rattle.test_vat.specs.PairRows.{Plays}

-- two new vats, each with a bootstrap object
abbrev pub two_vats : VatPair
two_vats = new_pair (Some 0) (Some 0)

-- the calls of these tickets, each delivered at object k
abbrev pub delivered_at : ℕ → List ℕ → List Delivery
delivered_at k tickets = map (λ ticket. record { ticket = ticket; object = k }) tickets

-- The moves make these turns. The reference came to object k of the vat that holds it. The calls made on it bear these tickets, and were delivered at
-- that object in that order, each once. At the end neither vat is closed, and no message is on the way.
pub record IsLane (w : VatPair) (moves : List Move) (turns : List (Side × Moment)) (side : Side) (ref : Reference) (k : ℕ) (tickets : List ℕ) : Type 0 where
  pub plays : Plays w turns moves
  pub came : CameTo (end_of (last_of w moves) side).vat ref (caps.Object k)
  pub were_made : made w side ref moves ≡ tickets
  pub were_delivered : delivered_on w side ref moves ≡ delivered_at k tickets
  pub still_open : AreOpen (last_of w moves)
  pub quiet : AreQuiet (last_of w moves)

-- The first vat asks for the second one's bootstrap object and calls it with object k. What that call will give is called before it comes.
abbrev bootstrap_cap : Cap
bootstrap_cap = caps.Pipelined 0 []

abbrev given_cap : Cap
given_cap = caps.Pipelined 1 (0 ∷ [])

abbrev pub given_reference : Reference
given_reference = path_to 1 (0 ∷ [])

abbrev lends : ℕ → Target → Moment
lends k target =
    does
    (events.Call bootstrap_cap (request one_object (caps.Object k ∷ [])))
    (values.Question 1)
    (sends (call_message 1 target one_object (descriptors.SenderHosted 0 ∷ [])) ∷ [])

abbrev calls_ahead : ℕ → Moment
calls_ahead q = does (events.Call given_cap small_request) (values.Question q) (sends (small_call q (on_answer 1 0)) ∷ [])

-- The second vat hears that, and two of the calls wait for its answer.
abbrev takes_loan : Target → ℕ → Moment
takes_loan target ticket =
    comes
    (call_message 1 target one_object (descriptors.SenderHosted 0 ∷ []))
    (effects.Deliver 0 (origins.Answer 1) ticket (request one_object (caps.Import 0 ∷ [])) ∷ [])

abbrev waits_there : ℕ → Moment
waits_there q = comes (small_call q (on_answer 1 0)) []

-- It answers with what it was lent, and the calls that waited go back to the first vat.
abbrev answer_back : Message
answer_back = return_message 1 (results one_object (descriptors.ReceiverHosted 0 ∷ []))

abbrev answers_back : ℕ → ℕ → Moment
answers_back q next =
    does
    (events.Answer (origins.Answer 1) (outcomes.Results one_object (caps.Import 0 ∷ [])))
    values.Nothing
    (sends answer_back ∷ sends (small_call q (on_import 0)) ∷ sends (small_call next (on_import 0)) ∷ [])

-- The first vat hears the Returns.
abbrev bootstrap_settles : Moment
bootstrap_settles =
    comes
    (return_message 0 (results (cap 0) (descriptors.SenderHosted 0 ∷ [])))
    (effects.Settled 0 (outcomes.Results (cap 0) (caps.Import 0 ∷ [])) ∷ [])

abbrev loan_settles : ℕ → Moment
loan_settles k = comes answer_back (effects.Settled 1 (outcomes.Results one_object (caps.Object k ∷ [])) ∷ [])

-- The next call waits, and a Disembargo follows the calls that were sent.
abbrev embargo_message : Message
embargo_message = disembargo_message (on_answer 1 0) (contexts.SenderLoopback 0)

abbrev echo_message : Message
echo_message = disembargo_message (on_import 0) (contexts.ReceiverLoopback 0)

abbrev calls_after : ℕ → Moment
calls_after q = does (events.Call given_cap small_request) (values.Question q) (sends embargo_message ∷ [])

-- The calls that were sent come back and are delivered. After them comes the echo, and lets the one that waits go.
abbrev comes_back : ℕ → ℕ → ℕ → Moment
comes_back k a ticket = comes (small_call a (on_import 0)) (effects.Deliver k (origins.Answer a) ticket small_request ∷ [])

abbrev both_come_back : List (Side × Moment)
both_come_back = (at_first, comes_back 3 0 4) ∷ (at_first, comes_back 3 1 5) ∷ []

abbrev echoes : Moment
echoes = comes embargo_message (sends echo_message ∷ [])

abbrev embargo_ends : ℕ → ℕ → ℕ → Moment
embargo_ends k q ticket = comes echo_message (effects.Deliver k (origins.Own q) ticket small_request ∷ [])

-- Two calls are made before the Return.
abbrev begins : List (Side × Moment)
begins =
    (at_first, bootstrap_does)
    ∷ (at_first, lends 3 (on_whole_answer 0))
    ∷ (at_first, calls_ahead 2)
    ∷ (at_first, calls_ahead 3)
    ∷ (at_second, bootstrap_comes)
    ∷ (at_second, takes_loan (on_whole_answer 0) 0)
    ∷ (at_second, waits_there 2)
    ∷ (at_second, waits_there 3)
    ∷ (at_second, answers_back 0 1)
    ∷ (at_first, bootstrap_settles) ∷ []

-- The third is made after it, and waits until the two have come back.
abbrev pub lane_of_three_calls : List (Side × Moment)
lane_of_three_calls =
    begins
    ++ (at_first, loan_settles 3)
    ∷ (at_first, calls_after 4)
    ∷ both_come_back
    ++ (at_second, echoes)
    ∷ (at_first, embargo_ends 3 4 3) ∷ []

-- A third call that is made before the Return too goes the way of the others, without a Disembargo.
abbrev pub lane_without_embargo : List (Side × Moment)
lane_without_embargo =
    begins
    ++ (at_first, calls_ahead 4)
    ∷ (at_first, loan_settles 3)
    ∷ both_come_back
    ++ (at_second, comes (small_call 4 (on_answer 1 0)) (sends (small_call 2 (on_import 0)) ∷ []))
    ∷ (at_first, comes_back 3 2 6) ∷ []

-- After the three calls the loan is given back, and the same numbers stand for another object.
abbrev pub lane_again : List (Side × Moment)
lane_again =
    (at_first, does (events.Finish 1) values.Nothing (sends (finish_message 1 false) ∷ []))
    ∷ (at_second, comes (finish_message 1 false) [])
    ∷ (at_second, does (events.Release 0) values.Nothing (sends (release_message 0 1) ∷ []))
    ∷ (at_first, comes (release_message 0 1) [])
    ∷ (at_first, lends 4 (on_import 0))
    ∷ (at_first, calls_ahead 5)
    ∷ (at_first, calls_ahead 6)
    ∷ (at_second, takes_loan (on_import 0) 3)
    ∷ (at_second, waits_there 5)
    ∷ (at_second, waits_there 6)
    ∷ (at_second, answers_back 2 3)
    ∷ (at_first, loan_settles 4)
    ∷ (at_first, calls_after 7)
    ∷ (at_first, comes_back 4 2 10)
    ∷ (at_first, comes_back 4 3 11)
    ∷ (at_second, echoes)
    ∷ (at_first, embargo_ends 4 7 9) ∷ []

-- The three calls are delivered in order at object 3, with an embargo or without one, and three more after the first three at object 4.
abbrev pub ThreeInOrder : List Move → Type 0
ThreeInOrder moves = IsLane two_vats moves lane_of_three_calls at_first given_reference 3 (1 ∷ 2 ∷ 3 ∷ [])

abbrev pub LaneOfThreeCalls : Type 0
LaneOfThreeCalls = (moves : List Move) × ThreeInOrder moves

abbrev pub LaneWithoutEmbargo : Type 0
LaneWithoutEmbargo = (moves : List Move) × IsLane two_vats moves lane_without_embargo at_first given_reference 3 (1 ∷ 2 ∷ 3 ∷ [])

abbrev pub LaneAgain : Type 0
LaneAgain =
    (before moves : List Move) × ThreeInOrder before
    × IsLane (last_of two_vats before) moves lane_again at_first given_reference 4 (7 ∷ 8 ∷ 9 ∷ [])
