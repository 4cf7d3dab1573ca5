-- Each move keeps what holds of the calls on each reference, at both ends; so calls come in order.
use Rattle.std.specs.Prelude.{◌≡◌, refl, ℕ, ◌<◌, if◌then◌else◌, Bool, true, false, List, [], ◌∷◌, ◌++◌, flat_map, Result, Ok, Err}
use Rattle.std.specs.List.{AllByRecursion}
use Rattle.std.proofs.Common.{ap, sym, ◌∙◌, append-nil, true≢false}
use Rattle.std.proofs.lemmas.List.Elements.{filter-append}
use Rattle.cp_messages.specs.declared.message.Message.{Message}
use Rattle.cp_vat_machine.specs.State.{State}
use Rattle.cp_vat_machine.specs.Local.{Local}
use Rattle.cp_vat_machine.specs.Step.{Does, Receives, Step, was_closed, ran_out, refused, did, received, faulted, Follows, all_left, found_full}
use Rattle.cp_vat_machine.specs.declared.effect.Effect.{Effect}
use Rattle.cp_vat_machine.specs.declared.event.Event.{Event}
use Rattle.cp_vat_machine.specs.declared.event.Value.{Value}
use Rattle.cp_vat_machine.specs.declared.fault.VatFault.{VatFault}
use Rattle.cp_vat_pair_laws.specs.Accounts.{accounts_of}
use Rattle.cp_vat_pair_laws.specs.Lives.{Agree}
use Rattle.cp_vat_pair_laws.specs.VatPair.{VatPair, Side, at_first, at_second, across, End, end_of, Move, Makes, Takes, AreOpen, messages_sent, with_mail}
use Rattle.cp_vat_pair_laws.specs.Lane.{Reference, called_on, ticket_if, made_by, is_side, is_among, Delivery, delivery_of, delivered_among, IsStill}
use Rattle.cp_vat_pair_laws.specs.Laws.{LaneOrder}
use Rattle.cp_vat_pair_laws.specs.LaneKept.{EndHolds, StillHolds, CallsHold, MovesKeep}
use Rattle.cp_vat_pair_laws.specs.Phases.{LaneHolds}
use Rattle.cp_vat_pair_laws.specs.Tickets.{TicketsHold}
use Rattle.cp_vat_pair_laws.proofs.lane.OrderFollows.{order_follows}
use Rattle.cp_vat_pair_laws.proofs.still.Move.{own_takes, front_known, agree_at, end_open, still_kept}
use Rattle.cp_vat_pair_laws.proofs.still.Tickets.{tickets_kept}
use Rattle.cp_vat_pair_laws.proofs.still.Delivered.{given_kept}
use Rattle.cp_vat_pair_laws.proofs.lane.other.Take.{nothing_sent}
use Rattle.cp_vat_pair_laws.proofs.lane.own.Turn.{lane_delivered}
use Rattle.cp_vat_pair_laws.proofs.lane.other.Start.{starts_there}
use Rattle.cp_vat_pair_laws.proofs.lane.own.NextTicket.{among_more}
use Rattle.cp_vat_pair_laws.proofs.lane.own.Move.{made_now, did_here, heard_here}
use Rattle.cp_vat_pair_laws.proofs.lane.other.Move.{did_over, heard_over}

closed_open : {A : Type 0} {b : Bool} → b ≡ true → b ≡ false → A
closed_open closed open_ = absurd (true≢false (sym closed ∙ open_))

-- what was delivered bears no ticket that is given later
delivered_less : (made : List ℕ) (n : ℕ) (all : List Delivery) → AllByRecursion (λ d. d.ticket < n) all → delivered_among (made ++ n ∷ []) all ≡ delivered_among made all
delivered_less made n [] below = refl
delivered_less made n (d ∷ all) below = by (is_among d.ticket made) refl (among_more made n d.ticket below.0) (delivered_less made n all below.1)
  where
    by : (b : Bool) → is_among d.ticket made ≡ b → is_among d.ticket (made ++ n ∷ []) ≡ is_among d.ticket made → delivered_among (made ++ n ∷ []) all ≡ delivered_among made all
        → delivered_among (made ++ n ∷ []) (d ∷ all) ≡ delivered_among made (d ∷ all)
    by true is same more = rw (same ∙ is, is) (ap (λ ds. d ∷ ds) more)
    by false is same more = rw (same ∙ is, is) more

-- What is made in a move adds nothing to what was delivered before.
module _ (s : State) (ref : Reference) (made : List ℕ) (all : List Delivery) (below : AllByRecursion (λ d. d.ticket < s.next_ticket) all) where
  delivered_now : (event : Event) (result : Result Value VatFault) → delivered_among (made ++ made_now s ref event result) all ≡ delivered_among made all
  delivered_now event result = by (called_on ref event) result
    where
      by : (b : Bool) (result : Result Value VatFault) → delivered_among (made ++ (if b then ticket_if result s.next_ticket else [])) all ≡ delivered_among made all
      by true (Ok value) = delivered_less made s.next_ticket all below
      by true (Err fault) = ap (λ m. delivered_among m all) (append-nil made)
      by false result = ap (λ m. delivered_among m all) (append-nil made)

  delivered_then : (there : State) (event : Event) (result : Result Value VatFault) (effects : List Effect)
      → delivered_among made all ++ lane_delivered s there (made ++ made_now s ref event result) effects
      ≡ delivered_among (made ++ made_now s ref event result) (all ++ flat_map (delivery_of s there) effects)
  delivered_then there event result effects =
      let now : List ℕ = made ++ made_now s ref event result in
      ap (λ ds. ds ++ lane_delivered s there now effects) (sym (delivered_now event result))
      ∙ sym (filter-append (λ (d : Delivery). is_among d.ticket now) all (flat_map (delivery_of s there) effects))

-- A step at its own end.
none_now : {new there : End} {ref : Reference} (made : List ℕ) (delivered : List Delivery) (b : Bool) → LaneHolds new there ref made delivered
    → LaneHolds new (with_mail there []) ref (made ++ (if b then [] else [])) (delivered ++ [])
none_now {there = there} made delivered true holds = rw (append-nil made, append-nil delivered, nothing_sent there) holds
none_now {there = there} made delivered false holds = rw (append-nil made, append-nil delivered, nothing_sent there) holds

did_step : (old mid new : State) (inbox : List Message) (there : End) (ref : Reference) (made : List ℕ) (delivered : List Delivery) (event : Event) (value : Value)
    (first : List Effect) {more : List Effect} → EndHolds (record { vat = old; inbox = inbox }) there → Local there.vat
    → Agree (accounts_of old) inbox (accounts_of there.vat) there.inbox → TicketsHold old made → IsStill event → new.is_closed ≡ false
    → Does old event (Ok (value, first, mid)) → Follows mid more new → LaneHolds (record { vat = old; inbox = inbox }) there ref made delivered
    → LaneHolds (record { vat = new; inbox = inbox }) (with_mail there (messages_sent (first ++ more))) ref (made ++ made_now old ref event (Ok value))
    (delivered ++ lane_delivered old there.vat (made ++ made_now old ref event (Ok value)) (first ++ more))
did_step old mid new inbox there ref made delivered event value first {more = more} one local_there agree tickets still open_ does (all_left leave) holds =
    did_here old inbox there ref made delivered one.local_ one.quiet.questions one.orderly agree one.loops tickets local_there value first more mid new leave event still
    does holds
did_step old mid new inbox there ref made delivered event value first one local_there agree tickets still open_ does (found_full leave all closed) holds =
    closed_open closed open_

heard_step : (old mid new : State) (m : Message) (rest : List Message) (there : End) (ref : Reference) (made : List ℕ) (delivered : List Delivery) (first : List Effect)
    {more : List Effect} → EndHolds (record { vat = old; inbox = m ∷ rest }) there → EndHolds there (record { vat = old; inbox = m ∷ rest })
    → Agree (accounts_of old) (m ∷ rest) (accounts_of there.vat) there.inbox → new.is_closed ≡ false → Receives old m (Ok (first, mid)) → Follows mid more new
    → LaneHolds (record { vat = old; inbox = m ∷ rest }) there ref made delivered
    → LaneHolds (record { vat = new; inbox = rest }) (with_mail there (messages_sent (first ++ more))) ref made (delivered ++ lane_delivered old there.vat made (first ++ more))
heard_step old mid new m rest there ref made delivered first {more = more} one other agree open_ does (all_left leave) holds =
    let known = front_known (record { vat = old; inbox = m ∷ rest }) there one other agree m rest refl in
    heard_here old rest there ref made delivered one.local_ one.quiet.questions other.local_.none_over_ m first more mid new one.orderly agree known.1 known.2
    does leave holds
heard_step old mid new m rest there ref made delivered first one other agree open_ does (found_full leave all closed) holds = closed_open closed open_

step_here : {old new : State} {event : Event} {result : Result Value VatFault} {effects : List Effect} (inbox rest : List Message) (there : End) (ref : Reference)
    (made : List ℕ) (delivered : List Delivery) → EndHolds (record { vat = old; inbox = inbox }) there → EndHolds there (record { vat = old; inbox = inbox })
    → Agree (accounts_of old) inbox (accounts_of there.vat) there.inbox → TicketsHold old made → Takes inbox event rest → IsStill event → new.is_closed ≡ false
    → Step old event result effects new → LaneHolds (record { vat = old; inbox = inbox }) there ref made delivered
    → LaneHolds (record { vat = new; inbox = rest }) (with_mail there (messages_sent effects)) ref (made ++ made_now old ref event result)
    (delivered ++ lane_delivered old there.vat (made ++ made_now old ref event result) effects)
step_here inbox rest there ref made delivered one other agree tickets takes still open_ (was_closed event closed) holds = closed_open closed open_
step_here inbox rest there ref made delivered one other agree tickets takes still open_ (ran_out event was closed) holds = closed_open closed open_
step_here {old = old} inbox rest there ref made delivered one other agree tickets takes still open_ (refused {fault = fault} event was does) holds =
    let same = own_takes old event (Err fault) inbox rest does takes in
    none_now made delivered (called_on ref event) (rw (← same) holds)
step_here {old = old} {new = new} inbox rest there ref made delivered one other agree tickets takes still open_ (did {value = value} event first more mid was does follows all)
    holds =
    let same = own_takes old event (Ok (value, first, mid)) inbox rest does takes in
    rw (all, ← same) (did_step old mid new inbox there ref made delivered event value first one other.local_ agree tickets still open_ does follows holds)
step_here {old = old} {new = new} inbox rest there ref made delivered one other agree tickets takes still open_ (received m first more mid was does follows all) holds =
    rw
    (all, append-nil made)
    (heard_step old mid new m rest there ref made delivered first (rw takes at one) (rw takes at other) (rw takes at agree) open_ does follows (rw takes at holds))
step_here inbox rest there ref made delivered one other agree tickets takes still open_ (faulted m was does closed) holds = closed_open closed open_

-- A step at the other end.
module _ (here : End) (ref : Reference) (made : List ℕ) (delivered : List Delivery) where
  did_beside : (old mid new : State) (inbox rest sent : List Message) (event : Event) (value : Value) (first : List Effect) {more : List Effect} → inbox ≡ rest
      → EndHolds here (record { vat = old; inbox = inbox }) → EndHolds (record { vat = old; inbox = inbox }) here → Agree (accounts_of old) inbox (accounts_of here.vat) here.inbox
      → IsStill event → new.is_closed ≡ false → Local new → Agree (accounts_of new) rest (accounts_of here.vat) sent → Does old event (Ok (value, first, mid))
      → Follows mid more new → LaneHolds here (record { vat = old; inbox = inbox }) ref made delivered
      → LaneHolds (with_mail here (messages_sent (first ++ more))) (record { vat = new; inbox = rest }) ref made delivered
  did_beside old mid new inbox rest sent event value first {more = more} same one other agree still open_ local_new agree_new does (all_left leave) holds =
      did_over here old new inbox rest sent one.local_ one.quiet.questions other.local_ other.quiet.questions other.orderly agree
      (starts_there here (record { vat = old; inbox = inbox }) one other.local_ agree) local_new agree_new same event value first more mid still does leave ref made delivered
      holds
  did_beside old mid new inbox rest sent event value first same one other agree still open_ local_new agree_new does (found_full leave all closed) holds =
      closed_open closed open_

  heard_beside : (old mid new : State) (m : Message) (rest sent : List Message) (first : List Effect) {more : List Effect}
      → EndHolds here (record { vat = old; inbox = m ∷ rest }) → EndHolds (record { vat = old; inbox = m ∷ rest }) here
      → Agree (accounts_of old) (m ∷ rest) (accounts_of here.vat) here.inbox → new.is_closed ≡ false → Local new
      → Agree (accounts_of new) rest (accounts_of here.vat) sent → Receives old m (Ok (first, mid)) → Follows mid more new
      → LaneHolds here (record { vat = old; inbox = m ∷ rest }) ref made delivered
      → LaneHolds (with_mail here (messages_sent (first ++ more))) (record { vat = new; inbox = rest }) ref made delivered
  heard_beside old mid new m rest sent first {more = more} one other agree open_ local_new agree_new does (all_left leave) holds =
      let known = front_known (record { vat = old; inbox = m ∷ rest }) here other one agree m rest refl in
      heard_over here old new rest sent one.local_ one.quiet.questions other.local_ other.quiet.questions other.orderly local_new agree_new m first more mid agree known.1
      known.2 (starts_there here (record { vat = old; inbox = m ∷ rest }) one other.local_ agree) does leave ref made delivered holds
  heard_beside old mid new m rest sent first one other agree open_ local_new agree_new does (found_full leave all closed) holds = closed_open closed open_

  step_there : {old new : State} {event : Event} {result : Result Value VatFault} {effects : List Effect} (inbox rest sent : List Message)
      → EndHolds here (record { vat = old; inbox = inbox }) → EndHolds (record { vat = old; inbox = inbox }) here → Agree (accounts_of old) inbox (accounts_of here.vat) here.inbox
      → Takes inbox event rest → IsStill event → new.is_closed ≡ false → Local new → Agree (accounts_of new) rest (accounts_of here.vat) sent
      → Step old event result effects new → LaneHolds here (record { vat = old; inbox = inbox }) ref made delivered
      → LaneHolds (with_mail here (messages_sent effects)) (record { vat = new; inbox = rest }) ref made delivered
  step_there inbox rest sent one other agree takes still open_ local_new agree_new (was_closed event closed) holds = closed_open closed open_
  step_there inbox rest sent one other agree takes still open_ local_new agree_new (ran_out event was closed) holds = closed_open closed open_
  step_there {old = old} inbox rest sent one other agree takes still open_ local_new agree_new (refused {fault = fault} event was does) holds =
      let same = own_takes old event (Err fault) inbox rest does takes in
      rw (nothing_sent here, ← same) holds
  step_there {old = old} {new = new} inbox rest sent one other agree takes still open_ local_new agree_new (did {value = value} event first more mid was does follows all) holds =
      let same = own_takes old event (Ok (value, first, mid)) inbox rest does takes in
      rw (all) (did_beside old mid new inbox rest sent event value first same one other agree still open_ local_new agree_new does follows holds)
  step_there {old = old} {new = new} inbox rest sent one other agree takes still open_ local_new agree_new (received m first more mid was does follows all) holds =
      rw
      (all)
      (heard_beside old mid new m rest sent first (rw takes at one) (rw takes at other) (rw takes at agree) open_ local_new agree_new does follows (rw takes at holds))
  step_there inbox rest sent one other agree takes still open_ local_new agree_new (faulted m was does closed) holds = closed_open closed open_

-- So a move keeps what holds of the calls made on each reference, from either side.
module _ (w : VatPair) (move : Move) (holds : StillHolds w) (makes : Makes w move) (open_ : AreOpen move.after)
    (still : IsStill move.moment.event) (ref : Reference) (made : List ℕ) (all : List Delivery) where
  abbrev LaneThen : Side → Side → Type 0
  LaneThen acting side =
      CallsHold (end_of w side) (end_of w (across side)) ref made all
      → LaneHolds (end_of move.after side) (end_of move.after (across side)) ref (made ++ (if is_side acting side then made_by (end_of w side).vat ref move.moment else []))
      (delivered_among (made ++ (if is_side acting side then made_by (end_of w side).vat ref move.moment else []))
      (all ++ (if is_side acting side then flat_map (delivery_of (end_of w side).vat (end_of w (across side)).vat) move.moment.effects else [])))

  -- what holds after it
  after : StillHolds move.after
  after = still_kept w move holds makes open_ still

  -- at its own end
  own_lane : (acting : Side) → move.side ≡ acting → EndHolds (end_of w (across acting)) (end_of w acting)
      → CallsHold (end_of w acting) (end_of w (across acting)) ref made all
      → LaneHolds (end_of move.after acting) (end_of move.after (across acting)) ref (made ++ made_by (end_of w acting).vat ref move.moment)
      (delivered_among (made ++ made_by (end_of w acting).vat ref move.moment)
      (all ++ flat_map (delivery_of (end_of w acting).vat (end_of w (across acting)).vat) move.moment.effects))
  own_lane acting is other calls =
      let steps : Step (end_of w acting).vat move.moment.event move.moment.result move.moment.effects (end_of move.after acting).vat = rw is at makes.steps in
      let takes : Takes (end_of w acting).inbox move.moment.event (end_of move.after acting).inbox = rw is at makes.takes in
      let sends : end_of move.after (across acting) ≡ with_mail (end_of w (across acting)) (messages_sent move.moment.effects) = rw is at makes.sends in
      let moment = move.moment in
      rw
      (sends, ← delivered_then (end_of w acting).vat ref made all calls.given (end_of w (across acting)).vat moment.event moment.result moment.effects)
      (step_here (end_of w acting).inbox (end_of move.after acting).inbox (end_of w (across acting)) ref made (delivered_among made all)
      (holds.ends acting) other (agree_at acting w holds.agreed) calls.tickets takes still (end_open acting move.after open_) steps calls.lane)

  -- at the other one
  other_lane : (here there here_then there_then : End) → EndHolds here there → EndHolds there here → Agree (accounts_of there.vat) there.inbox (accounts_of here.vat) here.inbox
      → Local there_then.vat → Agree (accounts_of there_then.vat) there_then.inbox (accounts_of here_then.vat) here_then.inbox → there_then.vat.is_closed ≡ false
      → Step there.vat move.moment.event move.moment.result move.moment.effects there_then.vat → Takes there.inbox move.moment.event there_then.inbox
      → here_then ≡ with_mail here (messages_sent move.moment.effects) → CallsHold here there ref made all
      → LaneHolds here_then there_then ref (made ++ []) (delivered_among (made ++ []) (all ++ []))
  other_lane here there here_then there_then one other agree local_then agree_then open_then steps takes sends calls =
      let agree_sent : Agree (accounts_of there_then.vat) there_then.inbox (accounts_of here.vat) (here.inbox ++ messages_sent move.moment.effects) = rw sends at agree_then in
      rw
      (sends, append-nil made, append-nil all)
      (step_there here ref made (delivered_among made all) there.inbox there_then.inbox (here.inbox ++ messages_sent move.moment.effects) one other agree takes still open_then
      local_then agree_sent steps calls.lane)

  lane_then : (acting side : Side) → move.side ≡ acting → LaneThen acting side
  lane_then at_first at_first is calls = own_lane at_first is (holds.ends at_second) calls
  lane_then at_second at_second is calls = own_lane at_second is (holds.ends at_first) calls
  lane_then at_first at_second is calls =
      other_lane w.second w.first move.after.second move.after.first (holds.ends at_second) (holds.ends at_first) (agree_at at_first w holds.agreed)
      (after.ends at_first).local_ (agree_at at_first move.after after.agreed) (end_open at_first move.after open_) (rw is at makes.steps) (rw is at makes.takes)
      (rw is at makes.sends) calls
  lane_then at_second at_first is calls =
      other_lane w.first w.second move.after.first move.after.second (holds.ends at_first) (holds.ends at_second) (agree_at at_second w holds.agreed)
      (after.ends at_second).local_ (agree_at at_second move.after after.agreed) (end_open at_second move.after open_) (rw is at makes.steps) (rw is at makes.takes)
      (rw is at makes.sends) calls

moves_keep : MovesKeep
moves_keep w move holds makes open_ still = (
  still_kept w move holds makes open_ still,
  λ side ref made all calls.
      record {
        tickets = tickets_kept w move holds makes open_ still side ref made calls.tickets;
        given = given_kept w move holds makes open_ still side made all calls.tickets calls.given;
        lane = lane_then w move holds makes open_ still ref made all move.side side refl calls;
      },
)

pub lane_order : LaneOrder
lane_order = order_follows moves_keep
