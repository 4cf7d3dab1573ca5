-- What holds of two vats where nothing is finished, released or forgotten, and of the calls on each of their references.
use Rattle.std.specs.Prelude.{ℕ, ◌<◌, if◌then◌else◌, List, [], ◌++◌}
use Rattle.std.specs.List.{AllByRecursion}
use Rattle.cp_vat_machine.specs.Local.{Local}
use Rattle.cp_vat_pair_laws.specs.VatPair.{VatPair, Side, across, End, end_of, Move, Makes, AreOpen}
use Rattle.cp_vat_pair_laws.specs.Lives.{AreAgreed}
use Rattle.cp_vat_pair_laws.specs.Orderly.{IsOrderly}
use Rattle.cp_vat_pair_laws.specs.Naming.{AreLooped}
use Rattle.cp_vat_pair_laws.specs.Places.{AreLast}
use Rattle.cp_vat_pair_laws.specs.Lane.{Reference, made_by, is_side, Delivery, deliveries_of, delivered_among, IsStill}
use Rattle.cp_vat_pair_laws.specs.Phases.{LaneHolds, IsQuiet}
use Rattle.cp_vat_pair_laws.specs.Tickets.{TicketsHold}

-- What holds of each vat, of the messages to it and of its embargoes.
pub record EndHolds (here there : End) : Type 0 where
  pub local_ : Local here.vat
  pub orderly : IsOrderly here.vat
  pub quiet : IsQuiet here
  pub loops : AreLooped here.vat there.inbox here.inbox
  pub last : AreLast there.vat here.inbox

-- What holds of a pair in which neither vat was closed, and no application finished, released or forgot.
pub record StillHolds (w : VatPair) : Type 0 where
  pub agreed : AreAgreed w
  pub ends : (side : Side) → EndHolds (end_of w side) (end_of w (across side))

-- What holds of the calls made on one reference, and of all calls delivered there: their tickets were given before, and its lane holds.
pub record CallsHold (here there : End) (ref : Reference) (made : List ℕ) (all : List Delivery) : Type 0 where
  pub tickets : TicketsHold here.vat made
  pub given : AllByRecursion (λ delivery. delivery.ticket < here.vat.next_ticket) all
  pub lane : LaneHolds here there ref made (delivered_among made all)

-- what one move makes on the reference
abbrev pub made_in : VatPair → Side → Reference → Move → List ℕ
made_in w side ref move = if is_side move.side side then made_by (end_of w side).vat ref move.moment else []

-- Each move keeps what holds of the pair, and of the calls on each reference.
abbrev pub CallsKeep : VatPair → Move → Type 0
CallsKeep w move =
    (side : Side) (ref : Reference) (made : List ℕ) (all : List Delivery) → CallsHold (end_of w side) (end_of w (across side)) ref made all
    → CallsHold (end_of move.after side) (end_of move.after (across side)) ref (made ++ made_in w side ref move) (all ++ deliveries_of w side move)

abbrev pub MovesKeep : Type 0
MovesKeep = (w : VatPair) (move : Move) → StillHolds w → Makes w move → AreOpen move.after → IsStill move.moment.event → StillHolds move.after × CallsKeep w move
