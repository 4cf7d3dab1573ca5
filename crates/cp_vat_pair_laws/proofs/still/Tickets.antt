-- Each move keeps what holds of the tickets of calls.
use Rattle.std.specs.Prelude.{◌≡◌, ◌⊎◌, ℕ, ◌<◌, if◌then◌else◌, Bool, true, false, List, [], ◌∷◌, ◌++◌, Result, Ok}
use Rattle.std.specs.List.{AllByRecursion}
use Rattle.std.proofs.Common.{inl, inr, arith, sym, ◌∙◌, append-nil, true≢false}
use Rattle.cp_refs.specs.declared.call.Origin.{Origin}
use Rattle.cp_refs.specs.declared.call.Request.{Request}
use Rattle.cp_refs.specs.declared.cap.Cap.{Cap}
use Rattle.cp_vat_machine.specs.State.{State}
use Rattle.cp_vat_machine.specs.Calling.{DoCall}
use Rattle.cp_vat_machine.specs.Local.{Local}
use Rattle.cp_vat_machine.specs.Run.{Moment}
use Rattle.cp_vat_machine.specs.Step.{Does, Step, was_closed, ran_out, refused, did, received, faulted, Follows, all_left, found_full}
use Rattle.cp_vat_machine.specs.declared.effect.Effect.{Effect}
use Rattle.cp_vat_machine.specs.declared.event.Event.{Event}
use Rattle.cp_vat_machine.specs.declared.event.Event.TheVariants as events
use Rattle.cp_vat_machine.specs.declared.event.Value.{Value}
use Rattle.cp_vat_machine.specs.declared.fault.VatFault.{VatFault}
use Rattle.cp_vat_machine.proofs.Basics.{all_both}
use Rattle.cp_vat_laws.proofs.Tables.{all_of}
use Rattle.cp_vat_laws.proofs.within.Between.{local_is_within}
use Rattle.cp_vat_laws.proofs.within.Step.{does_within}
use Rattle.cp_vat_pair_laws.specs.VatPair.{VatPair, Side, at_first, at_second, across, end_of, Move, Makes, AreOpen, messages_sent, with_mail}
use Rattle.cp_vat_pair_laws.specs.Lane.{Reference, names, called_on, ticket_if, made_by, is_side, IsStill}
use Rattle.cp_vat_pair_laws.specs.LaneKept.{StillHolds, made_in}
use Rattle.cp_vat_pair_laws.specs.Tickets.{BearsTicket, AreRising, TicketsHold}
use Rattle.cp_vat_pair_laws.proofs.still.Grows.{TicketsStay}
use Rattle.cp_vat_pair_laws.proofs.still.Go.{leave_grows}
use Rattle.cp_vat_pair_laws.proofs.still.Does.{OneMore, TicketsMove, called_tickets, call_moved}
use Rattle.cp_vat_pair_laws.proofs.still.Move.{move_moved}

-- where no ticket is new
tickets_stay : {old new : State} {made : List ℕ} → TicketsStay old new → TicketsHold old made → TicketsHold new made
tickets_stay {old = old} {new = new} {made = made} stay h =
    record {
      below = λ origin ticket is. rw (stay.next) (h.below origin ticket (stay.bears origin ticket is));
      differ = λ one other ticket is too. h.differ one other ticket (stay.bears one ticket is) (stay.bears other ticket too);
      rising = h.rising;
      made_below = rw (stay.next) h.made_below;
    }

-- where one is
module _ {old new : State} {one : Origin} (more : OneMore old new one) {made : List ℕ} (h : TicketsHold old made) where
  below_by : (origin : Origin) (ticket : ℕ) → BearsTicket old origin ticket ⊎ ((origin ≡ one) × (ticket ≡ old.next_ticket)) → ticket < new.next_ticket
  below_by origin ticket (inl was) = omega (arith, h.below origin ticket was, more.next)
  below_by origin ticket (inr is) = omega (arith, is.1, more.next)

  not_old : {A : Type 0} (origin : Origin) (ticket : ℕ) → BearsTicket old origin ticket → ticket ≡ old.next_ticket → A
  not_old origin ticket was is = absurd (omega (arith, h.below origin ticket was, is))

  differ_by : (o p : Origin) (ticket : ℕ) → BearsTicket old o ticket ⊎ ((o ≡ one) × (ticket ≡ old.next_ticket))
      → BearsTicket old p ticket ⊎ ((p ≡ one) × (ticket ≡ old.next_ticket)) → o ≡ p
  differ_by o p ticket (inl was) (inl too) = h.differ o p ticket was too
  differ_by o p ticket (inl was) (inr is) = not_old o ticket was is.1
  differ_by o p ticket (inr is) (inl was) = not_old p ticket was is.1
  differ_by o p ticket (inr is) (inr too) = is.0 ∙ sym too.0

  below_on : AllByRecursion (λ ticket. ticket < new.next_ticket) made
  below_on = all_of (λ ticket. ticket < old.next_ticket) (λ ticket. ticket < new.next_ticket) made (λ ticket is. omega (arith, is, more.next)) h.made_below

  pub tickets_more : TicketsHold new made
  tickets_more =
      record {
        below = λ origin ticket is. below_by origin ticket (more.bears origin ticket is);
        differ = λ o p ticket is too. differ_by o p ticket (more.bears o ticket is) (more.bears p ticket too);
        rising = h.rising;
        made_below = below_on;
      }

  rising_on : (tickets : List ℕ) (n : ℕ) → AreRising tickets → AllByRecursion (λ ticket. ticket < n) tickets → AreRising (tickets ++ n ∷ [])
  rising_on [] n rising below = (tt, tt)
  rising_on (ticket ∷ tickets) n rising below = (
    all_both (λ later. ticket < later) tickets (n ∷ []) rising.0 (below.0, tt),
    rising_on tickets n rising.1 below.1,
  )

  -- and it is that of a call on the reference
  pub tickets_made : TicketsHold new (made ++ old.next_ticket ∷ [])
  tickets_made =
      record {
        below = tickets_more.below;
        differ = tickets_more.differ;
        rising = rising_on made old.next_ticket h.rising h.made_below;
        made_below = all_both (λ ticket. ticket < new.next_ticket) made (old.next_ticket ∷ []) below_on (omega (arith, more.next), tt);
      }

pub tickets_moved : {old new : State} {made : List ℕ} → TicketsMove old new → TicketsHold old made → TicketsHold new made
tickets_moved (inl stay) h = tickets_stay stay h
tickets_moved (inr more) h = tickets_more more.1 h

one_stays : {old mid new : State} {one : Origin} → OneMore old mid one → TicketsStay mid new → OneMore old new one
one_stays more stay = record { next = stay.next ∙ more.next; bears = λ origin ticket is. more.bears origin ticket (stay.bears origin ticket is) }

-- The application's call has the next ticket.
closed_open : {A : Type 0} {b : Bool} → b ≡ true → b ≡ false → A
closed_open closed open_ = absurd (true≢false (sym closed ∙ open_))

pub called_more : {old mid new : State} (cap : Cap) (request : Request) (value : Value) (first rest : List Effect) → Local old → new.is_closed ≡ false
    → DoCall old cap request (Ok (value, first, mid)) → Follows mid rest new → (one : Origin) × OneMore old new one
called_more {old = old} {mid = mid} {new = new} cap request value first rest local_ open_ does (all_left leave) =
    let call = call_moved old cap request (value, first, mid) (local_is_within old local_) does in
    let within = does_within old (events.Call cap request) (value, first, mid) local_ does in
    (_, one_stays (one_stays (called_tickets old call.0 call.1) call.3.tickets) (leave_grows mid new rest within leave).tickets)
called_more cap request value first rest local_ open_ does (found_full leave all closed) = closed_open closed open_

-- what one step makes on the reference
abbrev Made : State → Reference → Event → Result Value VatFault → List ℕ
Made old ref event result = if called_on ref event then ticket_if result old.next_ticket else []

none_made : {new : State} {made : List ℕ} (b : Bool) → TicketsHold new made → TicketsHold new (made ++ (if b then [] else []))
none_made {made = made} true h = rw (append-nil made) h
none_made {made = made} false h = rw (append-nil made) h

module _ {old new : State} {made : List ℕ} (ref : Reference) (local_ : Local old) (h : TicketsHold old made) (moved : TicketsMove old new) (open_ : new.is_closed ≡ false) where
  plainly : TicketsHold new (made ++ [])
  plainly = rw (append-nil made) (tickets_moved moved h)

  call_written : (b : Bool) → ((one : Origin) × OneMore old new one) → TicketsHold new (made ++ (if b then (old.next_ticket ∷ []) else []))
  call_written true more = tickets_made more.1 h
  call_written false more = plainly

  pub did_made : (event : Event) (value : Value) (first rest : List Effect) (mid : State) → Does old event (Ok (value, first, mid)) → Follows mid rest new
      → TicketsHold new (made ++ Made old ref event (Ok value))
  did_made (events.Receive m) value first rest mid does follows = absurd does
  did_made events.Bootstrap value first rest mid does follows = plainly
  did_made (events.Call cap request) value first rest mid does follows =
      call_written (names ref cap) (called_more cap request value first rest local_ open_ does follows)
  did_made (events.Answer origin outcome) value first rest mid does follows = plainly
  did_made events.Promise value first rest mid does follows = plainly
  did_made (events.Resolve p cap) value first rest mid does follows = plainly
  did_made (events.Finish q) value first rest mid does follows = plainly
  did_made (events.Release i) value first rest mid does follows = plainly
  did_made (events.Forget p) value first rest mid does follows = plainly
  did_made events.Idle value first rest mid does follows = plainly

pub step_made : {old new : State} {made : List ℕ} {event : Event} {result : Result Value VatFault} {effects : List Effect} (ref : Reference) → Local old → TicketsHold old made
    → TicketsMove old new → new.is_closed ≡ false → Step old event result effects new → TicketsHold new (made ++ Made old ref event result)
step_made ref local_ h moved open_ (was_closed event closed) = closed_open closed open_
step_made ref local_ h moved open_ (ran_out event was closed) = closed_open closed open_
step_made ref local_ h moved open_ (refused event was does) = none_made (called_on ref event) (tickets_moved moved h)
step_made ref local_ h moved open_ (did {value = value} event first rest mid was does follows all) =
    did_made ref local_ h moved open_ event value first rest mid does follows
step_made {made = made} ref local_ h moved open_ (received m first rest mid was does follows all) = rw (append-nil made) (tickets_moved moved h)
step_made ref local_ h moved open_ (faulted m was does closed) = closed_open closed open_

-- from either side
module _ (w after : VatPair) (moment : Moment) (ref : Reference) (made : List ℕ) where
  abbrev KeptFor : Side → Side → Type 0
  KeptFor acting side =
      TicketsMove (end_of w acting).vat (end_of after acting).vat → Local (end_of w acting).vat → (end_of after acting).vat.is_closed ≡ false
      → Step (end_of w acting).vat moment.event moment.result moment.effects (end_of after acting).vat
      → end_of after (across acting) ≡ with_mail (end_of w (across acting)) (messages_sent moment.effects) → TicketsHold (end_of w side).vat made
      → TicketsHold (end_of after side).vat (made ++ (if is_side acting side then made_by (end_of w side).vat ref moment else []))

  kept_for : (acting side : Side) → KeptFor acting side
  kept_for at_first at_first moved local_ open_ steps sends h = step_made ref local_ h moved open_ steps
  kept_for at_second at_second moved local_ open_ steps sends h = step_made ref local_ h moved open_ steps
  kept_for at_first at_second moved local_ open_ steps sends h = rw (sends, append-nil made) h
  kept_for at_second at_first moved local_ open_ steps sends h = rw (sends, append-nil made) h

end_open : (side : Side) (w : VatPair) → AreOpen w → (end_of w side).vat.is_closed ≡ false
end_open at_first w open_ = open_.0
end_open at_second w open_ = open_.1

pub tickets_kept : (w : VatPair) (move : Move) → StillHolds w → Makes w move → AreOpen move.after → IsStill move.moment.event → (side : Side) (ref : Reference) (made : List ℕ)
    → TicketsHold (end_of w side).vat made → TicketsHold (end_of move.after side).vat (made ++ made_in w side ref move)
tickets_kept w move h makes open_ still side ref made tickets =
    kept_for w move.after move.moment ref made move.side side (move_moved w move h makes open_ still).moved.tickets (h.ends move.side).local_
    (end_open move.side move.after open_) makes.steps makes.sends tickets
