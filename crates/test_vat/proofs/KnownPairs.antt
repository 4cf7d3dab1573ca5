-- Pairs of two vats whose tables are known entry by entry, and their moves, found by computing.
use Rattle.std.specs.Prelude.{◌≡◌, refl, ℕ, List, [], ◌∷◌, ◌++◌, map, Option, Result}
use Rattle.cp_messages.specs.declared.message.Message.{Message}
use Rattle.cp_vat_machine.specs.Step.{Step}
use Rattle.cp_vat_machine.specs.Run.{Moment}
use Rattle.cp_vat_machine.specs.declared.effect.Effect.{Effect}
use Rattle.cp_vat_machine.specs.declared.event.Event.{Event}
use Rattle.cp_vat_machine.specs.declared.event.Event.TheVariants as events
use Rattle.cp_vat_machine.specs.declared.event.Value.{Value}
use Rattle.cp_vat_machine.specs.declared.fault.VatFault.{VatFault}
use Rattle.cp_vat_pair_laws.specs.VatPair.{End, VatPair, Side, at_first, at_second, Move, messages_sent, Takes, Makes, Moves, last_of}
use Rattle.test_vat.specs.PairRows.{turn_of, Plays}
use Rattle.test_vat.proofs.Known.{Known, state, new_known}
use Rattle.test_vat.proofs.Playing.{Stepped, stepped, unstepped, step_if}

-- an end by its vat's entries
pub record KnownEnd : Type 0 where
  pub vat : Known
  pub inbox : List Message

pub record KnownPair : Type 0 where
  pub first : KnownEnd
  pub second : KnownEnd

abbrev pub shown_end : KnownEnd → End
shown_end there = record { vat = state there.vat; inbox = there.inbox }

abbrev pub pair : KnownPair → VatPair
pair w = record { first = shown_end w.first; second = shown_end w.second }

abbrev pub known_end : KnownPair → Side → KnownEnd
known_end w at_first = w.first
known_end w at_second = w.second

abbrev pub new_pairs : Option ℕ → Option ℕ → KnownPair
new_pairs one other = record { first = record { vat = new_known one; inbox = [] }; second = record { vat = new_known other; inbox = [] } }

pub record KnownMove : Type 0 where
  pub side : Side
  pub moment : Moment
  pub after : KnownPair

abbrev pub move : KnownMove → Move
move m = record { side = m.side; moment = m.moment; after = pair m.after }

-- an event of an end: where one is to come, it is the front of the messages to it
pub data Taken (inbox : List Message) : Type 0 where
  taken : (event : Event) (rest : List Message) → Takes inbox event rest → Taken inbox
  untaken : Taken inbox

abbrev pub take_front : (inbox : List Message) → Taken inbox
take_front [] = untaken
take_front (m ∷ rest) = taken (events.Receive m) rest refl

abbrev pub take : (inbox : List Message) → Event → Taken inbox
take inbox (events.Receive any) = take_front inbox
take inbox events.Bootstrap = taken events.Bootstrap inbox refl
take inbox (events.Call c request) = taken (events.Call c request) inbox refl
take inbox (events.Answer origin outcome) = taken (events.Answer origin outcome) inbox refl
take inbox events.Promise = taken events.Promise inbox refl
take inbox (events.Resolve p c) = taken (events.Resolve p c) inbox refl
take inbox (events.Finish q) = taken (events.Finish q) inbox refl
take inbox (events.Release i) = taken (events.Release i) inbox refl
take inbox (events.Forget p) = taken (events.Forget p) inbox refl
take inbox events.Idle = taken events.Idle inbox refl

-- a move, if one was found
pub data Acted (w : KnownPair) : Type 0 where
  acted : (m : KnownMove) → Makes (pair w) (move m) → Acted w
  unacted : Acted w

abbrev pub mailed : KnownEnd → List Effect → KnownEnd
mailed there effects = record there { inbox = there.inbox ++ messages_sent effects }

module _ (w : KnownPair) where
  abbrev pub acts : (side : Side) (event : Event) (result : Result Value VatFault) (effects : List Effect) (new : Known) (rest : List Message)
      → Takes (known_end w side).inbox event rest → Step (state (known_end w side).vat) event result effects (state new) → Acted w
  acts at_first event result effects new rest takes step =
      acted
      (record {
        side = at_first;
        moment = record { event = event; result = result; effects = effects };
        after = record { first = record { vat = new; inbox = rest }; second = mailed w.second effects };
      })
      (record { steps = step; takes = takes; sends = refl })
  acts at_second event result effects new rest takes step =
      acted
      (record {
        side = at_second;
        moment = record { event = event; result = result; effects = effects };
        after = record { first = mailed w.first effects; second = record { vat = new; inbox = rest } };
      })
      (record { steps = step; takes = takes; sends = refl })

  abbrev pub act_by : (side : Side) (event : Event) (rest : List Message) → Takes (known_end w side).inbox event rest → Stepped (known_end w side).vat event → Acted w
  act_by side event rest takes (stepped result effects new step) = acts side event result effects new rest takes step
  act_by side event rest takes unstepped = unacted

  abbrev pub act_with : (side : Side) → Taken (known_end w side).inbox → Acted w
  act_with side (taken event rest takes) = act_by side event rest takes (step_if (known_end w side).vat event (known_end w side).vat.is_closed refl)
  act_with side untaken = unacted

  abbrev pub act : Side → Event → Acted w
  act side event = act_with side (take (known_end w side).inbox event)

-- moves one after another, as far as they were found
pub data Found (w : KnownPair) : Type 0 where
  found : (moves : List KnownMove) → Moves (pair w) (map move moves) → Found w

abbrev pub found_after : (w : KnownPair) (m : KnownMove) → Makes (pair w) (move m) → Found m.after → Found w
found_after w m makes (found more are) = found (m ∷ more) (makes, are)

abbrev pub found_from : (w : KnownPair) → Acted w → ((mid : KnownPair) → Found mid) → Found w
found_from w (acted m makes) rest = found_after w m makes (rest m.after)
found_from w unacted rest = found [] tt

abbrev pub find_moves : (w : KnownPair) → List (Side × Moment) → Found w
find_moves w [] = found [] tt
find_moves w (turn ∷ more) = found_from w (act w turn.0 turn.1.event) (λ mid. find_moves mid more)

abbrev pub moves_of : {w : KnownPair} → Found w → List KnownMove
moves_of (found moves are) = moves

are_moves : {w : KnownPair} (f : Found w) → Moves (pair w) (map move (moves_of f))
are_moves (found moves are) = are

-- The moves that these turns make are these turns, if that is what was found.
pub plays : (w : KnownPair) (turns : List (Side × Moment)) → map turn_of (map move (moves_of (find_moves w turns))) ≡ turns
    → Plays (pair w) turns (map move (moves_of (find_moves w turns)))
plays w turns e = (are_moves (find_moves w turns), e)

-- the pair after them
abbrev pub last_known : KnownPair → List KnownMove → KnownPair
last_known w [] = w
last_known w (m ∷ more) = last_known m.after more

pub last_is : (w : KnownPair) (moves : List KnownMove) → last_of (pair w) (map move moves) ≡ pair (last_known w moves)
last_is w [] = refl
last_is w (m ∷ more) = last_is m.after more
