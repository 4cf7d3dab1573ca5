-- What two vats delivered, found by computing.
use Rattle.std.specs.Prelude.{◌≡◌, refl, ℕ, Bool, false, if◌then◌else◌, List, [], ◌∷◌, ◌++◌, map, flat_map}
use Rattle.std.proofs.Common.{ap, subst, sym, ◌∙◌}
use Rattle.cp_messages.specs.declared.message.Message.{Message}
use Rattle.cp_refs.specs.declared.cap.Cap.{Cap}
use Rattle.cp_refs.specs.declared.cap.Cap.TheVariants as caps
use Rattle.cp_refs.specs.declared.call.Origin.{Origin}
use Rattle.cp_refs.specs.declared.call.Origin.TheVariants as origins
use Rattle.cp_vat_machine.specs.Calling.{came_to, reference_of}
use Rattle.cp_vat_machine.specs.Calling as calling
use Rattle.cp_vat_machine.specs.Run.{Moment}
use Rattle.cp_vat_machine.specs.declared.effect.Effect.{Effect}
use Rattle.cp_vat_machine.specs.declared.effect.Effect.TheVariants as effects
use Rattle.cp_vat_pair_laws.specs.VatPair.{VatPair, Side, at_first, at_second, across, end_of}
use Rattle.cp_vat_pair_laws.specs.Lane.{Reference, cap_of, is_side, made, own_ticket, answer_forwarded, ticket_borne, Delivery, delivery_of, deliveries_of, deliveries, delivered_among}
use Rattle.test_vat.specs.PairRows.{turn_of}
use Rattle.test_vat.specs.LaneRows.{delivered_at, IsLane}
use Rattle.test_vat.proofs.Known.{Known, state, at, get_is}
use Rattle.test_vat.proofs.Owning.{known_reference, reference_is}
use Rattle.test_vat.proofs.KnownPairs.{KnownPair, pair, known_end, KnownMove, move, find_moves, moves_of, plays, last_known, last_is}

module _ (here there : Known) where
  abbrev pub known_stand : ℕ → List ℕ
  known_stand a = flat_map (λ question. own_ticket (at here.asked question)) (answer_forwarded (at there.asked a))

  abbrev pub known_borne : Origin → ℕ → List ℕ
  known_borne (origins.Own q) ticket = ticket ∷ []
  known_borne (origins.Answer a) ticket = known_stand a

  borne_is : (origin : Origin) (ticket : ℕ) → ticket_borne (state here) (state there) origin ticket ≡ known_borne origin ticket
  borne_is (origins.Own q) ticket = refl
  borne_is (origins.Answer a) ticket = λ i. flat_map (λ question. own_ticket (get_is here.asked question i)) (answer_forwarded (get_is there.asked a i))

  abbrev pub known_delivery : Effect → List Delivery
  known_delivery (effects.Deliver object origin ticket call) = map (λ own. record { ticket = own; object = object }) (known_borne origin ticket)
  known_delivery (effects.Send m) = []
  known_delivery (effects.Settled q outcome) = []
  known_delivery (effects.Closed reason) = []

  delivery_is : (effect : Effect) → delivery_of (state here) (state there) effect ≡ known_delivery effect
  delivery_is (effects.Deliver object origin ticket call) = ap (map (λ own. record { ticket = own; object = object })) (borne_is origin ticket)
  delivery_is (effects.Send m) = refl
  delivery_is (effects.Settled q outcome) = refl
  delivery_is (effects.Closed reason) = refl

abbrev pub known_deliveries_of : KnownPair → Side → KnownMove → List Delivery
known_deliveries_of w side m = if is_side m.side side then flat_map (known_delivery (known_end w side).vat (known_end w (across side)).vat) m.moment.effects else []

deliveries_of_are : (w : KnownPair) (side : Side) (m : KnownMove) → deliveries_of (pair w) side (move m) ≡ known_deliveries_of w side m
deliveries_of_are w at_first m = λ i. if is_side m.side at_first then flat_map (λ effect. delivery_is w.first.vat w.second.vat effect i) m.moment.effects else []
deliveries_of_are w at_second m = λ i. if is_side m.side at_second then flat_map (λ effect. delivery_is w.second.vat w.first.vat effect i) m.moment.effects else []

abbrev pub known_deliveries : KnownPair → Side → List KnownMove → List Delivery
known_deliveries w side [] = []
known_deliveries w side (m ∷ more) = known_deliveries_of w side m ++ known_deliveries m.after side more

deliveries_are : (w : KnownPair) (side : Side) (moves : List KnownMove) → deliveries (pair w) side (map move moves) ≡ known_deliveries w side moves
deliveries_are w side [] = refl
deliveries_are w side (m ∷ more) = λ i. deliveries_of_are w side m i ++ deliveries_are m.after side more i

-- what a reference came to
reference_there : (w : KnownPair) (side : Side) (c : Cap) → reference_of (end_of (pair w) side).vat.values c ≡ known_reference (known_end w side).vat c
reference_there w at_first c = reference_is w.first.vat c
reference_there w at_second c = reference_is w.second.vat c

-- what is seen of moves
pub record Seen : Type 0 where
  pub turns : List (Side × Moment)
  pub value : calling.Standing
  pub made : List ℕ
  pub delivered : List Delivery
  pub are_closed : Bool × Bool
  pub first : List Message
  pub second : List Message

-- what is to be seen of a lane
abbrev pub lane_seen : List (Side × Moment) → ℕ → List ℕ → Seen
lane_seen turns k tickets =
    record {
      turns = turns;
      value = came_to (caps.Object k);
      made = tickets;
      delivered = delivered_at k tickets;
      are_closed = (false, false);
      first = [];
      second = [];
    }

module _ (w : KnownPair) (moves : List KnownMove) (side : Side) (ref : Reference) where
  abbrev pub seen : Seen
  seen =
      let last = last_known w moves in
      record {
        turns = map turn_of (map move moves);
        value = known_reference (known_end last side).vat (cap_of ref);
        made = made (pair w) side ref (map move moves);
        delivered = delivered_among (made (pair w) side ref (map move moves)) (known_deliveries w side moves);
        are_closed = (last.first.vat.is_closed, last.second.vat.is_closed);
        first = last.first.inbox;
        second = last.second.inbox;
      }

-- The moves that these turns make are a lane, if that is what is seen of them.
lane : (w : KnownPair) (turns : List (Side × Moment)) (side : Side) (ref : Reference) (k : ℕ) (tickets : List ℕ)
    → seen w (moves_of (find_moves w turns)) side ref ≡ lane_seen turns k tickets
    → IsLane (pair w) (map move (moves_of (find_moves w turns))) turns side ref k tickets
lane w turns side ref k tickets e =
    let moves = moves_of (find_moves w turns) in
    let last = last_is w moves in
    record {
      plays = plays w turns (ap (λ s. s.turns) e);
      came =
          ap (λ x. reference_of (end_of x side).vat.values (cap_of ref)) last
          ∙ reference_there (last_known w moves) side (cap_of ref)
          ∙ ap (λ s. s.value) e;
      were_made = ap (λ s. s.made) e;
      were_delivered = ap (delivered_among (made (pair w) side ref (map move moves))) (deliveries_are w side moves) ∙ ap (λ s. s.delivered) e;
      still_open =
          (ap (λ x. x.first.vat.is_closed) last ∙ ap (λ s. s.are_closed.0) e, ap (λ x. x.second.vat.is_closed) last ∙ ap (λ s. s.are_closed.1) e);
      quiet = (ap (λ x. x.first.inbox) last ∙ ap (λ s. s.first) e, ap (λ x. x.second.inbox) last ∙ ap (λ s. s.second) e);
    }

pub is_lane : {old : VatPair} (w : KnownPair) (turns : List (Side × Moment)) (side : Side) (ref : Reference) (k : ℕ) (tickets : List ℕ) → old ≡ pair w
    → seen w (moves_of (find_moves w turns)) side ref ≡ lane_seen turns k tickets
    → IsLane old (map move (moves_of (find_moves w turns))) turns side ref k tickets
is_lane w turns side ref k tickets is e =
    subst (λ x. IsLane x (map move (moves_of (find_moves w turns))) turns side ref k tickets) (sym is) (lane w turns side ref k tickets e)
