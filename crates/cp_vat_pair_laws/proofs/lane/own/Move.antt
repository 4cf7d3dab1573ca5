-- What is done at a lane's own end keeps it, with the waiting calls that leave then.
use Rattle.std.specs.Prelude.{◌≡◌, refl, ℕ, not, if◌then◌else◌, Bool, true, false, List, [], ◌∷◌, ◌++◌, Result, Ok}
use Rattle.std.proofs.Common.{ap, sym, append-nil, true≢false}
use Rattle.std.proofs.lemmas.List.{append_assoc}
use Rattle.cp_messages.specs.declared.disembargo.DisembargoContext.{DisembargoContext}
use Rattle.cp_messages.specs.declared.disembargo.DisembargoContext.TheVariants as contexts
use Rattle.cp_messages.specs.declared.message.Message.{Message}
use Rattle.cp_messages.specs.declared.message.Message.TheVariants as messages
use Rattle.cp_messages.specs.declared.target.Target.{Target}
use Rattle.cp_refs.specs.declared.cap.Cap.{Cap}
use Rattle.cp_vat_machine.specs.State.{State, none_over}
use Rattle.cp_vat_machine.specs.Then.{Done, fault_if}
use Rattle.cp_vat_machine.specs.Supported.{is_supported}
use Rattle.cp_vat_machine.specs.Writing.{IsExport}
use Rattle.cp_vat_machine.specs.Go.{Leave}
use Rattle.cp_vat_machine.specs.Resolving.{OnDisembargo}
use Rattle.cp_vat_machine.specs.Capacity.{message_fits}
use Rattle.cp_vat_machine.specs.Calling.{OwnDone}
use Rattle.cp_vat_machine.specs.Local.{Local}
use Rattle.cp_vat_machine.specs.Step.{On, Does, Receives, ReceivesIf}
use Rattle.cp_vat_machine.specs.declared.effect.Effect.{Effect}
use Rattle.cp_vat_machine.specs.declared.event.Event.{Event}
use Rattle.cp_vat_machine.specs.declared.event.Event.TheVariants as events
use Rattle.cp_vat_machine.specs.declared.event.Value.{Value}
use Rattle.cp_vat_machine.specs.declared.fault.PeerFault.{PeerFault}
use Rattle.cp_vat_machine.specs.declared.fault.PeerFault.TheVariants as faults
use Rattle.cp_vat_machine.specs.declared.fault.VatFault.{VatFault}
use Rattle.cp_vat_machine.proofs.Basics.{unless_out}
use Rattle.cp_vat_laws.proofs.within.Between.{local_is_within}
use Rattle.cp_vat_pair_laws.specs.Accounts.{accounts_of}
use Rattle.cp_vat_pair_laws.specs.Lives.{Agree}
use Rattle.cp_vat_pair_laws.specs.VatPair.{End, messages_sent, with_mail}
use Rattle.cp_vat_pair_laws.specs.Lane.{Reference, called_on, ticket_if, Delivery, IsStill}
use Rattle.cp_vat_pair_laws.specs.Naming.{AreLooped}
use Rattle.cp_vat_pair_laws.specs.Orderly.{IsOrderly}
use Rattle.cp_vat_pair_laws.specs.Phases.{of_lane, LaneHolds, gives_up}
use Rattle.cp_vat_pair_laws.specs.Places.{NoneFinished}
use Rattle.cp_vat_pair_laws.specs.Tickets.{TicketsHold}
use Rattle.cp_vat_pair_laws.proofs.still.Receives.{ComesToHeld, receives_moved}
use Rattle.cp_vat_pair_laws.proofs.lane.parts.Midway.{Midway, does_midway, receives_midway}
use Rattle.cp_vat_pair_laws.proofs.lane.other.Turn.{same_mail}
use Rattle.cp_vat_pair_laws.proofs.lane.own.Turn.{lane_delivered, lane_delivered_both}
use Rattle.cp_vat_pair_laws.proofs.lane.own.Leave.{leave_lane}
use Rattle.cp_vat_pair_laws.proofs.lane.own.Does.{answers_lane, promises_lane, resolve_lane, idle_lane}
use Rattle.cp_vat_pair_laws.proofs.lane.own.Asks.{bootstrap_asks}
use Rattle.cp_vat_pair_laws.proofs.lane.own.OtherComes.{finish_lane, bootstrap_lane, loop_lane}
use Rattle.cp_vat_pair_laws.proofs.lane.own.EchoComes.{echo_lane}
use Rattle.cp_vat_pair_laws.proofs.lane.own.ResolveComes.{resolve_comes}
use Rattle.cp_vat_pair_laws.proofs.lane.own.ReturnComes.{return_comes}
use Rattle.cp_vat_pair_laws.proofs.lane.own.CallComesBack.{call_comes}
use Rattle.cp_vat_pair_laws.proofs.lane.own.Call.{call_leaves}
use Rattle.cp_vat_pair_laws.proofs.lane.own.Tickets.{SameOwns, IsNoCall, does_owns, receives_owns}

-- what one event makes on a reference
abbrev pub made_now : State → Reference → Event → Result Value VatFault → List ℕ
made_now s ref event result = if called_on ref event then ticket_if result s.next_ticket else []

-- Waiting calls leave, after an event's own part.
leave_here : (s mid last : State) (first more : List Effect) (inbox : List Message) (there : End) (ref : Reference) (made : List ℕ) (delivered : List Delivery)
    → Midway mid inbox (with_mail there (messages_sent first)) → SameOwns s mid
    → LaneHolds (record { vat = mid; inbox = inbox }) (with_mail there (messages_sent first)) ref made (delivered ++ lane_delivered s there.vat made first)
    → Leave mid more (Ok last)
    → LaneHolds (record { vat = last; inbox = inbox }) (with_mail there (messages_sent (first ++ more))) ref made (delivered ++ lane_delivered s there.vat made (first ++ more))
leave_here s mid last first more inbox there ref made delivered midway owns holds leave =
    rw (
      ← same_mail there first more (first ++ more) refl,
      lane_delivered_both s there.vat made first more,
      ← append_assoc delivered (lane_delivered s there.vat made first) (lane_delivered s there.vat made more),
    )
    (leave_lane s mid last more inbox (with_mail there (messages_sent first)) ref made (delivered ++ lane_delivered s there.vat made first) midway (λ q. ap (of_lane made) (owns q)) holds
    leave)

-- What the application does.
module _ (s : State) (inbox : List Message) (there : End) (ref : Reference) (made : List ℕ) (delivered : List Delivery) (local_ : Local s)
    (none : NoneFinished s) (orderly : IsOrderly s) (agree : Agree (accounts_of s) inbox (accounts_of there.vat) there.inbox) (loops : AreLooped s there.inbox inbox) (tickets : TicketsHold s made)
    (local_there : Local there.vat) where
  abbrev here : End
  here = record { vat = s; inbox = inbox }

  does_lane : (event : Event) (done : OwnDone) → IsStill event → IsNoCall event → Does s event (Ok done) → LaneHolds here there ref made delivered
      → LaneHolds (record { vat = done.2; inbox = inbox }) (with_mail there (messages_sent done.1)) ref made (delivered ++ lane_delivered s there.vat made done.1)
  does_lane (events.Receive m) done still not_ does holds = absurd does
  does_lane events.Bootstrap done still not_ does holds = bootstrap_asks s inbox there ref made delivered done local_ agree does holds
  does_lane (events.Call cap request) done still not_ does holds = absurd not_
  does_lane (events.Answer origin outcome) done still not_ does holds = answers_lane s inbox there ref made delivered local_ none origin outcome done does holds
  does_lane events.Promise done still not_ does holds = promises_lane s inbox there ref made delivered local_ none done does holds
  does_lane (events.Resolve p cap) done still not_ does holds = resolve_lane s inbox there ref made delivered local_ none p cap done does holds
  does_lane (events.Finish q) done still not_ does holds = absurd still
  does_lane (events.Release i) done still not_ does holds = absurd still
  does_lane (events.Forget p) done still not_ does holds = absurd still
  does_lane events.Idle done still not_ does holds = idle_lane s inbox there ref made delivered local_ none done does holds

  module _ (value : Value) (first more : List Effect) (mid last : State) (leave : Leave mid more (Ok last)) where
    abbrev DidThen : List ℕ → Type 0
    DidThen now =
        LaneHolds (record { vat = last; inbox = inbox }) (with_mail there (messages_sent (first ++ more))) ref (made ++ now)
        (delivered ++ lane_delivered s there.vat (made ++ now) (first ++ more))

    did_plainly : (event : Event) → IsStill event → IsNoCall event → Does s event (Ok (value, first, mid)) → LaneHolds here there ref made delivered → DidThen []
    did_plainly event still not_ does holds =
        rw
        (append-nil made)
        (leave_here s mid last first more inbox there ref made delivered (does_midway s inbox there event (value, first, mid) local_ none orderly agree still does)
        (does_owns s event (value, first, mid) none still not_ does) (does_lane event (value, first, mid) still not_ does holds) leave)

    pub did_here : (event : Event) → IsStill event → Does s event (Ok (value, first, mid)) → LaneHolds here there ref made delivered → DidThen (made_now s ref event (Ok value))
    did_here (events.Receive m) still does holds = absurd does
    did_here events.Bootstrap still does holds = did_plainly events.Bootstrap still tt does holds
    did_here (events.Call cap request) still does holds =
        call_leaves s inbox there ref made delivered local_ local_there none orderly agree loops tickets cap request (value, first, mid) does more last leave holds
    did_here (events.Answer origin outcome) still does holds = did_plainly (events.Answer origin outcome) still tt does holds
    did_here events.Promise still does holds = did_plainly events.Promise still tt does holds
    did_here (events.Resolve p cap) still does holds = did_plainly (events.Resolve p cap) still tt does holds
    did_here (events.Finish q) still does holds = absurd still
    did_here (events.Release i) still does holds = absurd still
    did_here (events.Forget p) still does holds = absurd still
    did_here events.Idle still does holds = did_plainly events.Idle still tt does holds

-- A message that comes.
module _ (s : State) (rest : List Message) (there : End) (ref : Reference) (made : List ℕ) (delivered : List Delivery) (local_ : Local s)
    (none : NoneFinished s) (none_there : there.vat.waiting.over ≡ none_over) where
  abbrev Before : Message → Type 0
  Before m = LaneHolds (record { vat = s; inbox = m ∷ rest }) there ref made delivered

  abbrev HeardThen : Done → Type 0
  HeardThen done = LaneHolds (record { vat = done.1; inbox = rest }) (with_mail there (messages_sent done.0)) ref made (delivered ++ lane_delivered s there.vat made done.0)

  disembargo_comes : (context : DisembargoContext) (target : Target) (done : Done) → OnDisembargo s context target (Ok done)
      → Before (messages.Disembargo (record { context = context; target = target })) → HeardThen done
  disembargo_comes (contexts.SenderLoopback n) target done does holds = loop_lane s rest there ref made delivered n target done does holds
  disembargo_comes (contexts.ReceiverLoopback n) target done does holds = echo_lane s n target rest there ref made delivered local_ done does holds
  disembargo_comes contexts.Accept target done does holds = absurd does
  disembargo_comes (contexts.Provide q) target done does holds = absurd does
  disembargo_comes (contexts.Unknown n) target done does holds = absurd does

  on_comes : (m : Message) (done : Done) → Agree (accounts_of s) (m ∷ rest) (accounts_of there.vat) there.inbox → gives_up m ≡ false → ComesToHeld s m
      → ((e : ℕ) (cap : Cap) → IsExport s e cap → IsExport done.1 e cap) → On s m (Ok done) → Before m → HeardThen done
  on_comes (messages.Unimplemented t) done agree quiet held exports does holds = absurd agree.usual.0.1
  on_comes (messages.Abort x) done agree quiet held exports does holds = absurd agree.usual.0.1
  on_comes (messages.Call c) done agree quiet held exports does holds = call_comes s c rest there ref made delivered local_ none agree done does holds
  on_comes (messages.Return r) done agree quiet held exports does holds = return_comes s r rest there ref made delivered local_ none agree none_there done does holds
  on_comes (messages.Finish f) done agree quiet held exports does holds = finish_lane s rest there ref made delivered f quiet done does holds
  on_comes (messages.Resolve r) done agree quiet held exports does holds = resolve_comes s r rest there ref made delivered local_ agree none_there done held does holds
  on_comes (messages.Release r) done agree quiet held exports does holds = absurd (true≢false quiet)
  on_comes (messages.Bootstrap b) done agree quiet held exports does holds = bootstrap_lane s rest there ref made delivered b.question_id local_ done exports does holds
  on_comes (messages.Disembargo d) done agree quiet held exports does holds = disembargo_comes d.context d.target done does holds
  on_comes (messages.Other which body) done agree quiet held exports does holds = absurd does

  receives_by : (b : Bool) (m : Message) (done : Done) → b ≡ true → Agree (accounts_of s) (m ∷ rest) (accounts_of there.vat) there.inbox → gives_up m ≡ false
      → ComesToHeld s m → ((e : ℕ) (cap : Cap) → IsExport s e cap → IsExport done.1 e cap) → ReceivesIf b s m (Ok done) → Before m → HeardThen done
  receives_by true m done is agree quiet held exports does holds =
      on_comes m done agree quiet held exports (unless_out {A = Done} {F = PeerFault} (fault_if (not (message_fits m)) faults.PayloadTooLarge) (On s m) done does) holds
  receives_by false m done is agree quiet held exports does holds = absurd (true≢false (sym is))

  pub heard_here : (m : Message) (first more : List Effect) (mid last : State) → IsOrderly s → Agree (accounts_of s) (m ∷ rest) (accounts_of there.vat) there.inbox
      → gives_up m ≡ false → ComesToHeld s m → Receives s m (Ok (first, mid)) → Leave mid more (Ok last) → Before m
      → LaneHolds (record { vat = last; inbox = rest }) (with_mail there (messages_sent (first ++ more))) ref made (delivered ++ lane_delivered s there.vat made (first ++ more))
  heard_here m first more mid last orderly agree quiet held does leave holds =
      let within = local_is_within s local_ in
      let moved = receives_moved s within local_.none_over_ none m (first, mid) agree.usual.0 quiet held does in
      leave_here s mid last first more rest there ref made delivered (receives_midway s m rest there (first, mid) local_ none orderly agree quiet held does)
      (receives_owns s within local_.none_over_ none m (first, mid) agree.usual.0 quiet held does)
      (receives_by (is_supported m) m (first, mid) agree.usual.0.0 agree quiet held moved.exports does holds) leave
